use Rattle.std.proofs.Common.{◌≡◌, ◌∙◌, sym, subst}
use Rattle.std.specs.Option.{option_copied}
use Rattle.qvt_value.specs.declared.value.Value.{Value}
use Rattle.qvt_run_data.specs.declared.late.LateWrite.{LateWrite}
use Rattle.qvt_run_rules.specs.State.{Does}
use Rattle.qvt_exec_types.specs.Readings as by
use Rattle.qvt_exec_leaves.specs.Runs.{Runs, seen}
use Rattle.qvt_exec_invocations.specs.Means.{Scene, expr_of, head_of, setting_of}
use Rattle.qvt_exec_steps.proofs.Heads.{head_missing, head_with, head_without, iterate_with, iterate_without}
use Rattle.qvt_exec_steps.proofs.Loops.{name_here}
use Rattle.qvt_exec_steps.proofs.Misfits.{misfits}
use Rattle.qvt_exec_steps.proofs.arrows.iterate_by.Goals as goal

pub returns-in-None : goal.returns-in-None
returns-in-None g c =
    let x : Scene = (c.args.x.now, g.C.UnitCalls.means c.args.units.now) in
    misfits (by.iterate_by (setting_of x) (head_of x c.args.head.now) (expr_of x c.args.body.now) c.args.place (head_of x c.args.head.now).accumulator c.args.value) c.args.place c.misfit.result c.args.state.now
    (iterate_without x c.args.head.now (expr_of x c.args.body.now) c.args.place c.args.value (head_missing x c.args.head.now c.in-None.is)) c.misfit.ensures

pub returns-in-None-accumulator : goal.returns-in-None-accumulator
returns-in-None-accumulator g c =
    let x : Scene = (c.args.x.now, g.C.UnitCalls.means c.args.units.now) in
    misfits (by.iterate_by (setting_of x) (head_of x c.args.head.now) (expr_of x c.args.body.now) c.args.place (head_of x c.args.head.now).accumulator c.args.value) c.args.place c.misfit-in-None-accumulator.result c.args.state.now
    (iterate_without x c.args.head.now (expr_of x c.args.body.now) c.args.place c.args.value (head_without x c.args.head.now c.in-Some.head c.in-Some.is c.in-None-accumulator.is)) c.misfit-in-None-accumulator.ensures

pub returns-in-Some-accumulator : goal.returns-in-Some-accumulator
returns-in-Some-accumulator g c =
    let x : Scene = (c.args.x.now, g.C.UnitCalls.means c.args.units.now) in
    let named : (head_of x c.args.head.now).name ≡ option_copied c.name_in.result = name_here x c.args.head.now ∙ sym c.name_in.ensures in
    subst (λ (p : Does LateWrite Value). Runs (p (seen c.args.state.now)) c.accumulated.result c.accumulated.new.state)
    (sym (iterate_with x c.args.head.now (expr_of x c.args.body.now) c.args.place c.args.value c.deref.result.now.name (expr_of x c.deref-in-Some-accumulator.result.now.first) (option_copied c.name_in.result)
    (head_with x c.args.head.now c.in-Some.head c.in-Some-accumulator.accumulator c.deref.result.now c.deref-in-Some-accumulator.result.now c.in-Some.is c.in-Some-accumulator.is c.deref.ensures c.deref-in-Some-accumulator.ensures) named))
    c.accumulated.ensures
