use Rattle.std.proofs.Common.{◌≡◌, ℕ, List, ◌++◌, drop}
use Rattle.qvt_types_groups.specs.Numbers.{numbers_where}
use Rattle.qvt_types_groups.specs.Lists.{numbers_under}
use Rattle.qvt_types_overrides.specs.Odd.{is_upper_unit}
use Rattle.qvt_types_overrides.proofs.odd.upper_ones.Given as goal

abbrev pub invariant-loop-number : goal.invariant-loop-number
invariant-loop-number l = (name : List ℕ) → numbers_under l.upper name ++ numbers_where (is_upper_unit l.metas l.maps name) l.number (drop l.number l.units) ≡ numbers_where (is_upper_unit l.metas l.maps name) 0 l.units
