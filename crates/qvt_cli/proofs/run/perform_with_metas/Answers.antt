use Rattle.qvt_outcome.specs.Plans.{outcome_of}
use Rattle.qvt_types.specs.Program.{program_view}
use Rattle.qvt_work.specs.Run.{after_metas, text_read, performed}
use Rattle.qvt_outcome.proofs.Chained.{stopped, chained}
use Rattle.qvt_work.specs.Conforming.{AfterMetasConforms, PerformedConforms}
use Rattle.qvt_cli.proofs.Conforming.{chained_conforms}
use Rattle.qvt_cli.proofs.run.perform_with_metas.Goals as goal

pub returns-in-Err-clause-follows : goal.returns-in-Err-clause-follows
unfolding after_metas
returns-in-Err-clause-follows g c = stopped program_view outcome_of (text_read c.args.name.now c.args.job.now c.args.metas.now) (performed c.args.job.now) (g.F.Files.seen c.args.files.now) (g.F.Files.seen c.read_text.new.files) c.in-Err.stop c.in-Err.ensures.follows

pub returns-in-Ok-clause-follows : goal.returns-in-Ok-clause-follows
unfolding after_metas
returns-in-Ok-clause-follows g c = chained program_view outcome_of (text_read c.args.name.now c.args.job.now c.args.metas.now) (performed c.args.job.now) (g.F.Files.seen c.args.files.now) (g.F.Files.seen c.read_text.new.files) (g.F.Files.seen c.perform.new.files) c.in-Ok.program c.perform.result c.in-Ok.ensures.follows c.perform.ensures.follows

pub returns-in-Ok-clause-conform : goal.returns-in-Ok-clause-conform
unfolding AfterMetasConforms
returns-in-Ok-clause-conform g c = chained_conforms program_view (text_read c.args.name.now c.args.job.now c.args.metas.now) (PerformedConforms c.args.job.now) c.perform.result (g.F.Files.seen c.args.files.now) (g.F.Files.seen c.read_text.new.files) c.in-Ok.program c.in-Ok.ensures.follows c.perform.ensures.conform
