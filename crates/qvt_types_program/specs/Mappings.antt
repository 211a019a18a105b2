-- The mappings of a transformation by their numbers, and their names in traces (QVT 1.3, 8.2.1.15).
use Rattle.std.specs.Prelude.{ℕ, ◌+◌, ◌==◌, ◌&&◌, Bool, true, false, IsTrue, List, [], ◌∷◌, map, count_by, position, Option, Some, None}
use Rattle.qvt_metamodel.specs.Metamodels.{Metamodels}
use Rattle.qvt_types_groups.specs.declared.signature.Signature.{Signature}
use Rattle.qvt_types_groups.specs.declared.signature.UnitSort.{UnitSort}
use Rattle.qvt_types_groups.specs.declared.signature.UnitSort.TheVariants as sort
use Rattle.qvt_types_groups.specs.Numbers.{unit_at, no_unit, numbers_where, is_mapping}
use Rattle.qvt_types_groups.specs.Units.{traced_name}

abbrev pub mapping_count : List Signature → ℕ
mapping_count us = count_by (λ u. is_mapping u.sort) us

abbrev pub is_mapping_of : ℕ → UnitSort → Bool
is_mapping_of k (sort.Mapping n) = n.0 == k
is_mapping_of k s = false

abbrev pub is_mapping_number : ℕ → Signature → Bool
is_mapping_number k u = is_mapping_of k u.sort

-- the unit that mapping k is
unfoldable pub mapping_unit : List Signature → ℕ → Option ℕ
mapping_unit us k = position (is_mapping_number k) us

abbrev pub signature_at : List Signature → Option ℕ → Signature
signature_at us None = no_unit
signature_at us (Some n) = unit_at us n

-- the name of a unit in a trace
abbrev pub traced : Metamodels → Signature → List ℕ
traced m u = traced_name m u.context u.name

-- the name of mapping k in a trace
abbrev pub mapping_name : Metamodels → List Signature → ℕ → List ℕ
mapping_name m us k = traced m (signature_at us (mapping_unit us k))

-- the units that are mappings, in order, and their names
abbrev pub mapping_units : List Signature → List ℕ
mapping_units us = numbers_where (λ u. is_mapping u.sort) 0 us

abbrev pub mapping_names : Metamodels → List Signature → List (List ℕ)
mapping_names m us = map (λ n. traced m (unit_at us n)) (mapping_units us)

-- a mapping that comes next has this number
abbrev pub has_number : ℕ → UnitSort → Bool
has_number n (sort.Mapping k) = k.0 == n
has_number n s = true

abbrev pub number_after : ℕ → UnitSort → ℕ
number_after n (sort.Mapping k) = n + 1
number_after n s = n

-- the mappings have the numbers from n on, in the order of the text
abbrev pub are_numbered : ℕ → List Signature → Bool
are_numbered n [] = true
are_numbered n (u ∷ us) = has_number n u.sort && are_numbered (number_after n u.sort) us

abbrev pub AreNumbered : ℕ → List Signature → Type 0
AreNumbered n us = IsTrue (are_numbered n us)
