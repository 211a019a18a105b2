use Rattle.qvt_types_program.specs.Program.{program_view}
use Rattle.qvt_cli.proofs.Ending.{ended_early, leaves_conforming, well_ended}
use Rattle.qvt_cli.proofs.ends.ended.Goals as goal

pub returns-in-Ok-clause-gives : goal.returns-in-Ok-clause-gives
returns-in-Ok-clause-gives c = λ store comes.
    well_ended c.args.job.now (program_view c.args.program.now) c.args.ids.now store c.args.run c.in-Ok.finished c.finished_left.result c.in-Ok.is comes c.finished_left.ensures.gives

pub returns-in-Err-clause-gives : goal.returns-in-Err-clause-gives
returns-in-Err-clause-gives c = λ store comes.
    ended_early c.args.job.now (program_view c.args.program.now) c.args.ids.now store c.args.run c.in-Err.why c.unfinished.result c.in-Err.is comes c.unfinished.ensures.stops

pub returns-in-Ok-clause-conform : goal.returns-in-Ok-clause-conform
returns-in-Ok-clause-conform c = λ store comes.
    leaves_conforming c.args.job.now (program_view c.args.program.now) c.args.ids.now store c.args.run c.in-Ok.finished c.finished_left.result c.in-Ok.is comes c.finished_left.ensures.conform
