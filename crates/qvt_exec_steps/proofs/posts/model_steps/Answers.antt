use Rattle.std.proofs.Common.{drop, List, refl}
use Rattle.qvt_value.specs.declared.value.Value.{Value}
use Rattle.qvt_run_data.specs.declared.late.LateWrite.{LateWrite}
use Rattle.qvt_run_rules.specs.Cost.{spend_of}
use Rattle.qvt_run_rules.specs.Expressions as rule
use Rattle.qvt_run_rules.specs.State.{Does}
use Rattle.qvt_exec_types.specs.Readings as by
use Rattle.qvt_exec_leaves.proofs.Ends.{ends}
use Rattle.qvt_exec_leaves.specs.Runs.{seen}
use Rattle.qvt_exec_invocations.specs.Means.{all_steps, steps_of}
use Rattle.qvt_exec_steps.proofs.posts.model_steps.Goals as goal

pub returns-in_err-value : goal.returns-in_err-value
unfolding rule.on_first
returns-in_err-value g c =
    let p : Does LateWrite Value = by.model_first (spend_of c.args.x.now.limit) c.args.model c.args.place (all_steps c.args.all.now) in
    let fs : List (Value → Does LateWrite Value) = drop 1 (steps_of (c.args.x.now, g.C.UnitCalls.means c.args.units.now) c.args.first.now c.args.steps.now) in
    ends (p (seen c.args.state.now)) (λ v. rule.along v fs) (rule.on_first p fs (seen c.args.state.now)) c.in_err-value.field-0.0 c.from_residual.result c.model_first.new.state refl c.in_err-value.ensures c.from_residual.ensures.1
