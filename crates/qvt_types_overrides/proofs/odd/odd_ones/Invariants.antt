use Rattle.std.proofs.Common.{◌≡◌, ℕ, List, ◌++◌, drop}
use Rattle.qvt_types_groups.specs.Numbers.{numbers_where}
use Rattle.qvt_types_groups.specs.Lists.{numbers_under}
use Rattle.qvt_types_overrides.specs.Odd.{is_odd}
use Rattle.qvt_types_overrides.proofs.odd.odd_ones.Given as goal

abbrev pub invariant-loop-number : goal.invariant-loop-number
invariant-loop-number l = (name : List ℕ) → numbers_under l.odd name ++ numbers_where (is_odd l.metas l.maps l.units (numbers_under l.all name) name) l.number (drop l.number l.units)
    ≡ numbers_where (is_odd l.metas l.maps l.units (numbers_under l.all name) name) 0 l.units
