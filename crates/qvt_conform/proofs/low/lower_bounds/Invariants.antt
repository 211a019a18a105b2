use Rattle.std.proofs.Common.{◌≡◌, drop}
use Rattle.qvt_conform.specs.LowerBounds.{low_object}
use Rattle.qvt_conform.proofs.low.lower_bounds.Given as goal

abbrev pub invariant-loop-object : goal.invariant-loop-object
invariant-loop-object l = low_object l.store (drop l.object-index l.object-items) ≡ low_object l.store l.object-items
