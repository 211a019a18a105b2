use Rattle.std.proofs.Common.{sym, subst, arith}
use Rattle.qvt_value.specs.declared.value.Value.{Value}
use Rattle.qvt_run_data.specs.declared.late.LateWrite.{LateWrite}
use Rattle.qvt_run_rules.specs.State.{Does}
use Rattle.qvt_exec_state.specs.Runs.{Runs, seen}
use Rattle.qvt_exec_invocations.proofs.Made.{with_arguments, without_arguments}
use Rattle.qvt_exec_invocations.proofs.calls.made_without.Goals as goal

pub returns-in-empty : goal.returns-in-empty
returns-in-empty g c =
    subst (λ (p : Does LateWrite Value). Runs (p (seen c.args.state.now)) c.made_alone.result c.made_alone.new.state)
    (sym (without_arguments (c.args.x.now, g.C.UnitCalls.means c.args.units.now) c.args.class.0 c.args.extent c.args.args.now c.args.place (omega (arith, c.in-empty.len_below))))
    c.made_alone.ensures

pub returns-in-len1-up : goal.returns-in-len1-up
returns-in-len1-up g c =
    with_arguments (c.args.x.now, g.C.UnitCalls.means c.args.units.now) c.args.class.0 c.args.extent c.args.args.now c.args.place c.misfit.result c.args.state.now (omega (arith, c.in-len1-up.len_at_least)) c.misfit.ensures
