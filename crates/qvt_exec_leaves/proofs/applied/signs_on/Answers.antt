use Rattle.std.proofs.Common.{◌-◌, arith}
use Rattle.qvt_exec_state.specs.Runs.{seen}
use Rattle.qvt_exec_leaves.proofs.Signs.{signed_end, signed_on}
use Rattle.qvt_exec_leaves.proofs.applied.signs_on.Goals as goal

pub returns-in_err-value : goal.returns-in_err-value
returns-in_err-value c =
    signed_end c.args.signs.now c.loop-left.left (c.loop-left.left - 1) c.index-signs-left.result c.loop-left.value c.args.operand c.in_err-value.field-0.0 c.from_residual.result c.args.state.now
    (omega (arith, c.loop-left-test.true)) (omega (arith, c.loop-left-test.true, c.loop-left.invariant.0)) c.index-signs-left.is c.loop-left.invariant.1 c.in_err-value.ensures c.from_residual.ensures.1

pub loop-left-preserved : goal.loop-left-preserved
loop-left-preserved c = (
  omega (arith, c.loop-left.invariant.0),
  signed_on c.args.signs.now c.loop-left.left (c.loop-left.left - 1) c.index-signs-left.result c.loop-left.value c.in_ok-value.value c.args.operand (seen c.args.state.now)
      (omega (arith, c.loop-left-test.true)) (omega (arith, c.loop-left-test.true, c.loop-left.invariant.0)) c.index-signs-left.is c.loop-left.invariant.1 c.in_ok-value.ensures,
)
