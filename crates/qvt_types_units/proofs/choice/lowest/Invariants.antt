use Rattle.std.proofs.Common.{◌≡◌, ◌++◌, drop}
use Rattle.std.specs.Prelude.{filter}
use Rattle.qvt_types_units.specs.Choice.{is_lowest}
use Rattle.qvt_types_units.proofs.choice.lowest.Given as goal

abbrev pub invariant-loop-number : goal.invariant-loop-number
invariant-loop-number l = l.numbers ++ filter (is_lowest l.metas l.units l.group) (drop l.number-index l.group) ≡ filter (is_lowest l.metas l.units l.group) l.group
