use Rattle.std.proofs.Common.{◌≡◌, map, take}
use Rattle.qvt_types_groups.specs.Keys.{named_key}
use Rattle.qvt_types_groups.proofs.class_keys.named_keys.Given as goal

abbrev pub invariant-loop-unit : goal.invariant-loop-unit
invariant-loop-unit l = l.all ≡ map (named_key l.maps l.names.names) (take l.unit-index l.units)
