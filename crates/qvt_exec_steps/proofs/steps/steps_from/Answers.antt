use Rattle.std.proofs.Common.{◌∙◌}
use Rattle.qvt_exec_types.specs.Post.{post_of}
use Rattle.qvt_exec_leaves.specs.Runs.{seen}
use Rattle.qvt_exec_invocations.specs.Means.{Scene}
use Rattle.qvt_exec_steps.proofs.Behind.{step_end, step_on}
use Rattle.qvt_exec_steps.proofs.steps.steps_from.Goals as goal

pub loop-index-preserved : goal.loop-index-preserved
loop-index-preserved g c =
    let x : Scene = (c.args.x.now, g.C.UnitCalls.means c.args.units.now) in (
      c.step.ensures.same ∙ c.loop-index.invariant.0,
      step_on x c.args.first.now c.args.all.now c.loop-index.index c.index-all-index.result c.loop-index.value c.in_ok-value.value (seen c.loop-index.state) (seen c.step.new.state) (post_of c.loop-index.before) _
          c.loop-index.invariant.0 c.loop-index-test.true c.index-all-index.is c.loop-index.invariant.1 c.in_ok-value.ensures.runs,
    )

pub returns-in_err-value : goal.returns-in_err-value
returns-in_err-value g c =
    let x : Scene = (c.args.x.now, g.C.UnitCalls.means c.args.units.now) in
    step_end x c.args.first.now c.args.all.now c.loop-index.index c.index-all-index.result c.loop-index.value (seen c.loop-index.state) (post_of c.loop-index.before) _ c.in_err-value.field-0.0 c.from_residual.result c.step.new.state
    c.loop-index.invariant.0 c.loop-index-test.true c.index-all-index.is c.loop-index.invariant.1 c.in_err-value.ensures.runs c.from_residual.ensures.1
