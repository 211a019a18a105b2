use Rattle.std.proofs.Common.{◌≡◌, drop}
use Rattle.qvt_types_above.specs.declared.above.Above.TheVariants.{Nothing}
use Rattle.qvt_types_above.specs.Own.{top_units}
use Rattle.qvt_types_above.proofs.own.top_units.Given as goal

abbrev pub invariant-loop-number : goal.invariant-loop-number
invariant-loop-number l = top_units l.metas l.units l.top (drop l.number-index l.group) ≡ top_units l.metas l.units Nothing l.group
