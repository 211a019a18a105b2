use Rattle.std.proofs.Common.{◌≡◌, ℕ, List, ◌++◌, drop}
use Rattle.qvt_types_units.specs.Numbers.{numbers_where}
use Rattle.qvt_types_groups.specs.Lists.{numbers_under, is_listed}
use Rattle.qvt_types_groups.proofs.unit_lists.lists_of.Given as goal

abbrev pub invariant-loop-number : goal.invariant-loop-number
invariant-loop-number l = (name : List ℕ) → numbers_under l.all name ++ numbers_where (is_listed l.maps l.with_context name) l.number (drop l.number l.units) ≡ numbers_where (is_listed l.maps l.with_context name) 0 l.units
