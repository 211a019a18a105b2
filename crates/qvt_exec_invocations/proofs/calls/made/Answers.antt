use Rattle.std.proofs.Common.{◌≡◌, sym, subst, length, rules}
use Rattle.qvt_exec_phrases.specs.Numbers.{constructor_of}
use Rattle.qvt_value.specs.declared.value.Value.{Value}
use Rattle.qvt_run_data.specs.declared.late.LateWrite.{LateWrite}
use Rattle.qvt_run_rules.specs.State.{Does}
use Rattle.qvt_exec_state.specs.Runs.{Runs, seen}
use Rattle.qvt_exec_invocations.proofs.Made.{made_is}
use Rattle.qvt_exec_invocations.proofs.calls.made.Goals as goal

pub returns-in-Make : goal.returns-in-Make
returns-in-Make g c =
    let by_count : c.constructor-number.result ≡ constructor_of c.in-Make.class.0 (length c.args.args.now) (g.C.UnitCalls.means c.args.units.now).program.heads.units = search rules in
    subst (λ (p : Does LateWrite Value). Runs (p (seen c.args.state.now)) c.new_with.result c.new_with.new.state)
    (sym (made_is (c.args.x.now, g.C.UnitCalls.means c.args.units.now) c.args.reading.now c.in-Make.class c.in-Make.extent c.args.args.now c.constructor-number.result c.args.place c.in-Make.is by_count))
    c.new_with.ensures
