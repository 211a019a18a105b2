use Rattle.std.proofs.Common.{◌≡◌, true, take}
use Rattle.std.specs.List.{list_all}
use Rattle.qvt_meta_given.specs.Given.{has_loose_features}
use Rattle.qvt_meta_given.proofs.loose.are_loose.Given as goal

abbrev pub invariant-loop-class : goal.invariant-loop-class
invariant-loop-class l = list_all has_loose_features (take l.class-index l.classes) ≡ true
