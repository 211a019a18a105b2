use Rattle.std.proofs.Common.{◌≡◌, true, take}
use Rattle.std.specs.List.{list_all}
use Rattle.qvt_meta_given.specs.Given.{is_loose}
use Rattle.qvt_meta_given.proofs.loose.has_loose_features.Given as goal

abbrev pub invariant-loop-feature : goal.invariant-loop-feature
invariant-loop-feature l = list_all is_loose (take l.feature-index l.class.features) ≡ true
