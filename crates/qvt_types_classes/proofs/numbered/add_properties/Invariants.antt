use Rattle.std.proofs.Common.{◌≡◌, ◌++◌, take}
use Rattle.qvt_types_classes.proofs.numbered.add_properties.Given as goal

abbrev pub invariant-loop-property : goal.invariant-loop-property
invariant-loop-property l = l.all ≡ l.initial.all ++ take l.property-index l.properties
