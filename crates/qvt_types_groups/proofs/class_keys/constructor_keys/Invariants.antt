use Rattle.std.proofs.Common.{◌≡◌, map, take}
use Rattle.qvt_types_groups.specs.Keys.{constructor_key}
use Rattle.qvt_types_groups.proofs.class_keys.constructor_keys.Given as goal

abbrev pub invariant-loop-unit : goal.invariant-loop-unit
invariant-loop-unit l = l.all ≡ map constructor_key (take l.unit-index l.units)
