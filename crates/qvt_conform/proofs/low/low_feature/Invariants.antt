use Rattle.std.proofs.Common.{◌≡◌, drop}
use Rattle.qvt_conform.specs.LowerBounds.{low_feature}
use Rattle.qvt_conform.proofs.low.low_feature.Given as goal

abbrev pub invariant-loop-feature : goal.invariant-loop-feature
invariant-loop-feature l = low_feature l.store l.object (drop l.feature-index l.feature-items) ≡ low_feature l.store l.object l.feature-items
