use Rattle.std.proofs.Common.{◌≡◌, ◌++◌, take}
use Rattle.qvt_types_groups.specs.Units.{overrides_told}
use Rattle.qvt_types_overrides.proofs.overrides.tell_overrides.Given as goal

abbrev pub invariant-loop-unit : goal.invariant-loop-unit
invariant-loop-unit l = l.log ≡ l.initial.log ++ overrides_told l.metas l.units (take l.unit-index l.units)
