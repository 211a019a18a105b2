use Rattle.qvt_job.specs.declared.job.Job.{Job}
use Rattle.qvt_work.specs.Run.{job_read, run_of, after_job}
use Rattle.qvt_outcome.specs.Plans.{outcome_of}
use Rattle.qvt_outcome.proofs.Chained.{stopped, chained}
use Rattle.qvt_work.specs.Conforming.{AfterJobConforms, RunConforms}
use Rattle.qvt_cli.proofs.Conforming.{chained_conforms}
use Rattle.qvt_cli.proofs.run.perform_run.Goals as goal

pub returns-in-Err-clause-follows : goal.returns-in-Err-clause-follows
unfolding run_of
returns-in-Err-clause-follows g c = stopped (λ (job : Job). job) outcome_of (job_read c.args.name.now) (after_job c.args.name.now) (g.F.Files.seen c.args.files.now) (g.F.Files.seen c.read_named_job.new.files) c.in-Err.stop c.in-Err.ensures.follows

pub returns-in-Ok-clause-follows : goal.returns-in-Ok-clause-follows
unfolding run_of
returns-in-Ok-clause-follows g c = chained (λ (job : Job). job) outcome_of (job_read c.args.name.now) (after_job c.args.name.now) (g.F.Files.seen c.args.files.now) (g.F.Files.seen c.read_named_job.new.files) (g.F.Files.seen c.perform_job.new.files) c.in-Ok.job c.perform_job.result c.in-Ok.ensures.follows c.perform_job.ensures.follows

pub returns-in-Ok-clause-conform : goal.returns-in-Ok-clause-conform
unfolding RunConforms
returns-in-Ok-clause-conform g c = chained_conforms (λ (job : Job). job) (job_read c.args.name.now) (AfterJobConforms c.args.name.now) c.perform_job.result (g.F.Files.seen c.args.files.now) (g.F.Files.seen c.read_named_job.new.files) c.in-Ok.job c.in-Ok.ensures.follows c.perform_job.ensures.conform
