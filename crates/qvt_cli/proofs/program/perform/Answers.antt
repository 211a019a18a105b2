use Rattle.std.proofs.Common.{List, subst, Ok, Err}
use Rattle.qvt_job.specs.declared.job.JobModel.{JobModel}
use Rattle.qvt_inputs.specs.declared.loaded.Loaded.{Loaded}
use Rattle.qvt_outcome.specs.Follows.{Follows}
use Rattle.qvt_outcome.specs.Plans.{outcome_of}
use Rattle.qvt_outcome.specs.Chain.{step}
use Rattle.qvt_types_program.specs.Program.{program_view}
use Rattle.qvt_program_inputs.specs.Start.{program_inputs}
use Rattle.qvt_work.specs.Ends.{left_over}
use Rattle.qvt_work.specs.Conforming.{EndConforms, PerformedConforms}
use Rattle.qvt_work.specs.Run.{performed}
use Rattle.qvt_outcome.proofs.Chained.{stopped, stepped}
use Rattle.qvt_base.specs.Outside.{Held}
use Rattle.qvt_cli.proofs.Conforming.{chained_conforms}
use Rattle.qvt_cli.proofs.program.perform.Goals as goal

pub returns-in-Err-clause-follows : goal.returns-in-Err-clause-follows
unfolding performed
returns-in-Err-clause-follows g c = stopped (λ (l : Loaded). l) outcome_of (program_inputs (program_view c.args.program.now) c.args.job.now.inputs) (λ (l : Loaded). step (left_over c.args.job.now (program_view c.args.program.now) l.ids l.store)) (g.F.Files.seen c.args.files.now) (g.F.Files.seen c.read_program_inputs.new.files) c.in-Err.stop
    (subst (λ (inputs : List JobModel). Follows (λ (l : Loaded). l) (program_inputs (program_view c.args.program.now) inputs) (g.F.Files.seen c.args.files.now) (Err c.in-Err.stop) (g.F.Files.seen c.read_program_inputs.new.files)) c.as_slice.ensures c.in-Err.ensures.follows)

pub returns-in-Ok-clause-follows : goal.returns-in-Ok-clause-follows
unfolding performed
returns-in-Ok-clause-follows g c = stepped (λ (l : Loaded). l) outcome_of (program_inputs (program_view c.args.program.now) c.args.job.now.inputs) (λ (l : Loaded). left_over c.args.job.now (program_view c.args.program.now) l.ids l.store) (g.F.Files.seen c.args.files.now) (g.F.Files.seen c.read_program_inputs.new.files) c.in-Ok.loaded c.run_loaded.result
    (subst (λ (inputs : List JobModel). Follows (λ (l : Loaded). l) (program_inputs (program_view c.args.program.now) inputs) (g.F.Files.seen c.args.files.now) (Ok c.in-Ok.loaded) (g.F.Files.seen c.read_program_inputs.new.files)) c.as_slice.ensures c.in-Ok.ensures.follows)
    c.run_loaded.ensures.gives c.run_loaded.ensures.no_reads

pub returns-in-Ok-clause-conform : goal.returns-in-Ok-clause-conform
unfolding PerformedConforms
returns-in-Ok-clause-conform g c = chained_conforms (λ (l : Loaded). l) (program_inputs (program_view c.args.program.now) c.args.job.now.inputs) (λ (l : Loaded) (held : Held). EndConforms c.args.job.now (program_view c.args.program.now) l.store) c.run_loaded.result (g.F.Files.seen c.args.files.now) (g.F.Files.seen c.read_program_inputs.new.files) c.in-Ok.loaded
    (subst (λ (inputs : List JobModel). Follows (λ (l : Loaded). l) (program_inputs (program_view c.args.program.now) inputs) (g.F.Files.seen c.args.files.now) (Ok c.in-Ok.loaded) (g.F.Files.seen c.read_program_inputs.new.files)) c.as_slice.ensures c.in-Ok.ensures.follows)
    (λ held is. c.run_loaded.ensures.conform)
