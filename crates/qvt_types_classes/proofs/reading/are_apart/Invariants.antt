use Rattle.std.proofs.Common.{◌≡◌, [], drop}
use Rattle.qvt_metamodel.specs.Names.{repeated}
use Rattle.qvt_types_classes.specs.Inherited.{names_of}
use Rattle.qvt_types_classes.proofs.reading.are_apart.Given as goal

abbrev pub invariant-loop-property : goal.invariant-loop-property
invariant-loop-property l = repeated l.earlier (names_of (drop l.property-index l.properties)) ≡ repeated [] (names_of l.properties)
