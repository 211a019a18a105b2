use Rattle.std.proofs.Common.{ℕ, List, subst}
use Rattle.qvt_outcome.specs.Steps.{GivesOrStops}
use Rattle.qvt_outcome.specs.Chain.{step, read_step}
use Rattle.qvt_work.specs.Run.{job_read, job_in}
use Rattle.qvt_job.specs.declared.job.Job.{Job}
use Rattle.qvt_outcome.proofs.Chained.{stopped, stepped}
use Rattle.qvt_cli_reading.proofs.job.read_named_job.Goals as goal

pub returns-in-Err-clause-follows : goal.returns-in-Err-clause-follows
unfolding job_read
returns-in-Err-clause-follows g c = stopped (λ (b : List ℕ). b) (λ (job : Job). job) (read_step c.args.name.now 65536) (λ (bytes : List ℕ). step (job_in c.args.name.now bytes)) (g.F.Files.seen c.args.files.now) (g.F.Files.seen c.fetch.new.files) c.in-Err.stop c.in-Err.ensures.follows

pub returns-in-Ok-clause-follows : goal.returns-in-Ok-clause-follows
unfolding job_read
returns-in-Ok-clause-follows g c = stepped (λ (b : List ℕ). b) (λ (job : Job). job) (read_step c.args.name.now 65536) (λ (bytes : List ℕ). job_in c.args.name.now bytes) (g.F.Files.seen c.args.files.now) (g.F.Files.seen c.fetch.new.files) c.in-Ok.bytes c.job_in.result c.in-Ok.ensures.follows (subst (λ (bytes : List ℕ). GivesOrStops (λ (job : Job). job) c.job_in.result (job_in c.args.name.now bytes)) c.as_slice.ensures c.job_in.ensures.gives) c.job_in.ensures.no_reads
