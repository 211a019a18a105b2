use Rattle.std.proofs.Common.{◌≡◌, ◌≤◌, length, take}
use Rattle.qvt_exec_state.specs.Runs.{seen}
use Rattle.qvt_exec_leaves.specs.Signs.{signed_by}
use Rattle.qvt_exec_leaves.proofs.applied.signs_on.Given as goal

abbrev pub invariant-loop-left : goal.invariant-loop-left
invariant-loop-left l = (l.left ≤ length l.signs) × (signed_by l.signs l.fn.operand (seen l.state) ≡ signed_by (take l.left l.signs) l.value (seen l.state))

abbrev pub decreases-loop-left : goal.decreases-loop-left
decreases-loop-left l = l.left
