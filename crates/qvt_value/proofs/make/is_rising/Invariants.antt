-- The rest rises exactly where all do.
use Rattle.std.proofs.Common.{◌≡◌, length}
use Rattle.qvt_value.specs.Kept.{rises}
use Rattle.qvt_value.specs.Order.{order_of}
use Rattle.qvt_value.proofs.make.is_rising.Given as goal

abbrev pub invariant-loop-first : goal.invariant-loop-first
invariant-loop-first l = rises order_of l.rest ≡ rises order_of l.items

abbrev pub decreases-loop-first : goal.decreases-loop-first
decreases-loop-first l = length l.rest
