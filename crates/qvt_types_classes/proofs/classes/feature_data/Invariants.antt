use Rattle.std.proofs.Common.{◌≡◌, map, take}
use Rattle.qvt_types_classes.specs.Classes.{feature_data}
use Rattle.qvt_types_classes.proofs.classes.feature_data.Given as goal

abbrev pub invariant-loop-property : goal.invariant-loop-property
invariant-loop-property l = l.features ≡ map feature_data (take l.property-index l.properties)
