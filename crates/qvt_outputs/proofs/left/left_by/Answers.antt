use Rattle.qvt_outcome.specs.Plans.{outcome_of}
use Rattle.qvt_types_program.specs.Program.{program_view}
use Rattle.qvt_meaning_report.specs.Meaning.{low_in}
use Rattle.qvt_outputs.specs.Left.{low_outcome}
use Rattle.qvt_outputs.proofs.Bounded.{low_left, within_left}
use Rattle.qvt_outputs.proofs.Conforms.{all_conform, none_low}
use Rattle.qvt_outputs.proofs.left.left_by.Goals as goal

pub returns-in-Err-clause-gives : goal.returns-in-Err-clause-gives
returns-in-Err-clause-gives c = λ f w.
    low_left c.args.job.now (program_view c.args.program.now) c.args.ids.now f c.in-Err.stop c.args.end.now.store.now w.written.store c.in-Err.ensures.gives

pub returns-in_ok-plan-in-Ok-clause-gives : goal.returns-in_ok-plan-in-Ok-clause-gives
returns-in_ok-plan-in-Ok-clause-gives c = λ f w.
    within_left c.args.job.now (program_view c.args.program.now) c.args.ids.now f c.args.end.now.store.now (outcome_of c.in_ok-plan-in-Ok.plan) w.written.store c.in-Ok.ensures.gives
    (c.in_ok-plan-in-Ok.ensures.done f w)

pub returns-in_ok-plan-in-Ok-clause-conform : goal.returns-in_ok-plan-in-Ok-clause-conform
returns-in_ok-plan-in-Ok-clause-conform c =
    all_conform c.written_conforms.ensures c.extent_is_read.ensures c.args.end.now.store.now c.is_whole.ensures c.requires (none_low (low_outcome c.args.end.now.store.now c.args.ids.now) (low_in c.args.end.now.store.now) c.in-Ok.ensures.gives)
    c.args.job.now.outputs c.in_ok-plan-in-Ok.ensures.there
