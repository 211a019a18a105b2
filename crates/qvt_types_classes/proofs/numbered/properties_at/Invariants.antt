use Rattle.std.proofs.Common.{◌≡◌, map, take}
use Rattle.qvt_types_classes.specs.Inherited.{property_at}
use Rattle.qvt_types_classes.proofs.numbered.properties_at.Given as goal

abbrev pub invariant-loop-feature : goal.invariant-loop-feature
invariant-loop-feature l = l.properties ≡ map (property_at l.all) (take l.feature-index l.list)
