use Rattle.std.proofs.Common.{◌∙◌, ap, Option, Some}
use Rattle.qvt_value.specs.declared.value.Value.{Value}
use Rattle.qvt_run_data.specs.declared.late.LateWrite.{LateWrite}
use Rattle.qvt_run_rules.specs.State.{Does, Done, on_outcome, pure}
use Rattle.qvt_exec_leaves.proofs.Ends.{ends}
use Rattle.qvt_exec_leaves.specs.Runs.{seen}
use Rattle.qvt_exec_invocations.specs.Means.{Scene}
use Rattle.qvt_exec_steps.proofs.BeforeLast.{given_by, without_last}
use Rattle.qvt_exec_steps.proofs.late.without_last.Goals as goal

pub returns-in_err-value : goal.returns-in_err-value
returns-in_err-value g c =
    let x : Scene = (c.args.x.now, g.C.UnitCalls.means c.args.units.now) in
    let p : Does LateWrite Value = given_by x c.args.first.now c.args.all.now c.args.place c.before_last.result.now in
    ends (p (seen c.args.state.now)) (λ v. pure (Some v)) _ c.in_err-value.field-0.0 c.from_residual.result c.post.new.state
    (ap (λ (q : Does LateWrite (Option Value)). q (seen c.args.state.now)) (without_last x c.args.first.now c.before_last.result.now c.args.all.now c.args.place c.before_last.ensures.does))
    c.in_err-value.ensures c.from_residual.ensures.1

pub returns : goal.returns
returns g c =
    let x : Scene = (c.args.x.now, g.C.UnitCalls.means c.args.units.now) in
    ap (λ (q : Does LateWrite (Option Value)). q (seen c.args.state.now)) (without_last x c.args.first.now c.before_last.result.now c.args.all.now c.args.place c.before_last.ensures.does)
    ∙ ap (λ (d : Done LateWrite Value). on_outcome d.0 d.1 (λ v. pure (Some v))) c.in_ok-value.ensures
