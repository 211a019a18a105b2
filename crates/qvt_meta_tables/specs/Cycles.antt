-- Classes that are above themselves.
use Rattle.std.specs.Prelude.{ℕ, zero, suc, Bool, List, map, length, Option, Some, None, if◌then◌else◌}
use Rattle.qvt_metamodel.specs.declared.info.ClassInfo.{ClassInfo}
use Rattle.qvt_metamodel.specs.Descends.{reaches}
use Rattle.qvt_meta_tables.specs.Tables.{of_classes}

-- the numbers of the superclasses
abbrev pub super_numbers : ClassInfo → List ℕ
super_numbers k = map (λ s. s.0) k.supers

abbrev pub is_own_ancestor : List ClassInfo → ℕ → Bool
is_own_ancestor ks c = reaches (of_classes ks) c c

abbrev pub cycle_from : List ClassInfo → ℕ → ℕ → Option ℕ
cycle_from ks c zero = None
cycle_from ks c (suc n) = if is_own_ancestor ks c then Some c else cycle_from ks (suc c) n

-- the first class that is above itself
abbrev pub first_cycle : List ClassInfo → Option ℕ
first_cycle ks = cycle_from ks 0 (length ks)
