use Rattle.std.proofs.Common.{sym, subst}
use Rattle.qvt_value.specs.declared.value.Value.{Value}
use Rattle.qvt_run_data.specs.declared.late.LateWrite.{LateWrite}
use Rattle.qvt_run_rules.specs.State.{Done}
use Rattle.qvt_exec_state.specs.Runs.{Runs, seen}
use Rattle.qvt_exec_steps.specs.Means.{expr_of}
use Rattle.qvt_exec_exprs.proofs.Signs.{signs_met}
use Rattle.qvt_exec_exprs.proofs.operands.signed.Goals as goal

pub returns : goal.returns
returns g c =
    subst (λ (d : Done LateWrite Value). Runs d c.prefixed.result c.prefixed.new.state)
    (sym (signs_met (c.args.x.now, g.C.UnitCalls.means c.args.units.now) c.args.signs.now (expr_of (c.args.x.now, g.C.UnitCalls.means c.args.units.now) c.args.operand.now) (seen c.args.state.now))) c.prefixed.ensures
