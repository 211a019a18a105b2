use Rattle.std.proofs.Common.{◌≡◌, ◌++◌, [], drop}
use Rattle.qvt_types_classes.specs.Inherited.{firsts}
use Rattle.qvt_types_classes.proofs.reading.firsts.Given as goal

abbrev pub invariant-loop-property : goal.invariant-loop-property
invariant-loop-property l = l.kept ++ firsts l.earlier (drop l.property-index l.properties) ≡ firsts [] l.properties
