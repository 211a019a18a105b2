use Rattle.std.proofs.Common.{ap, subst}
use Rattle.qvt_types_data.specs.declared.note.Note.{Note}
use Rattle.qvt_value.specs.declared.value.Value.{Value}
use Rattle.qvt_run_data.specs.declared.late.LateWrite.{LateWrite}
use Rattle.qvt_run_rules.specs.State.{Done}
use Rattle.qvt_exec_leaves.specs.Runs.{Runs, seen}
use Rattle.qvt_exec_steps.proofs.Begun.{by_type}
use Rattle.qvt_exec_steps.proofs.posts.on_first.Goals as goal

pub returns : goal.returns
returns g c =
    subst (λ (d : Done LateWrite Value). Runs d c.on_begun.result c.on_begun.new.state)
    (by_type (c.args.x.now, g.C.UnitCalls.means c.args.units.now) c.args.first.now c.args.steps.now c.note_of.result.now.answer (seen c.args.state.now) (ap (λ (n : Note). n.answer) c.note_of.ensures)) c.on_begun.ensures
