use Rattle.std.proofs.Common.{sym, subst}
use Rattle.std.specs.Option.{option_copied}
use Rattle.qvt_value.specs.declared.value.Value.{Value}
use Rattle.qvt_run_data.specs.declared.late.LateWrite.{LateWrite}
use Rattle.qvt_run_rules.specs.State.{Does}
use Rattle.qvt_exec_leaves.specs.Runs.{Runs, seen}
use Rattle.qvt_exec_invocations.specs.Means.{Scene, expr_of}
use Rattle.qvt_exec_steps.specs.Loops.{named_alone}
use Rattle.qvt_exec_steps.proofs.Loops.{loop_by}
use Rattle.qvt_exec_steps.proofs.arrows.iterator.Goals as goal

pub returns-in_default : goal.returns-in_default
returns-in_default g c =
    let x : Scene = (c.args.x.now, g.C.UnitCalls.means c.args.units.now) in
    subst (λ (p : Does LateWrite Value). Runs (p (seen c.args.state.now)) c.iterated.result c.iterated.new.state)
    (sym (loop_by x c.args.which (named_alone (option_copied c.args.it.name)) (expr_of x c.args.body.now) c.args.it.place c.args.value c.in_default.not-Closure c.in_default.not-Iterate))
    c.iterated.ensures
