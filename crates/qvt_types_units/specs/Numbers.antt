-- Units by their numbers and by their names.
use Rattle.std.specs.Prelude.{ℕ, ◌+◌, ◌==◌, ◌&&◌, not, Bool, true, false, List, [], ◌∷◌, length, position, Option, Some, if◌then◌else◌, slice_index_or}
use Rattle.std.specs.Str.{bytes_eq}
use Rattle.qvt_types_data.specs.declared.ty.Ty.TheVariants as ty
use Rattle.qvt_types_units.specs.declared.signature.UnitSort.{UnitSort}
use Rattle.qvt_types_units.specs.declared.signature.UnitSort.TheVariants as sort
use Rattle.qvt_types_units.specs.declared.signature.HeadClass.{HeadClass}
use Rattle.qvt_types_units.specs.declared.signature.HeadClass.TheVariants.{Missing, Unknown, Known}
use Rattle.qvt_types_units.specs.declared.signature.Signature.{Signature}

abbrev pub no_unit : Signature
no_unit = record { sort = sort.Main; name = []; context = Missing; params = []; answer = Some ty.Void; result = Missing; place = record { line = 1; column = 1; offset = 0 } }

abbrev pub unit_at : List Signature → ℕ → Signature
unit_at us n = slice_index_or us n no_unit

abbrev pub is_mapping : UnitSort → Bool
is_mapping (sort.Mapping n) = true
is_mapping _ = false

-- helpers and queries are called alike
abbrev pub is_helper : UnitSort → Bool
is_helper sort.Helper = true
is_helper sort.Query = true
is_helper _ = false

abbrev pub is_constructor : UnitSort → Bool
is_constructor sort.Constructor = true
is_constructor _ = false

abbrev pub is_main : UnitSort → Bool
is_main sort.Main = true
is_main _ = false

-- which units a call looks among: mappings, or helpers and queries
abbrev pub is_called : Bool → UnitSort → Bool
is_called true s = is_mapping s
is_called false s = is_helper s

abbrev pub has_context : HeadClass → Bool
has_context Missing = false
has_context Unknown = true
has_context (Known c) = true

-- the numbers from n on of the units that pass
abbrev pub numbers_where : (Signature → Bool) → ℕ → List Signature → List ℕ
numbers_where p n [] = []
numbers_where p n (u ∷ us) = if p u then n ∷ numbers_where p (n + 1) us else numbers_where p (n + 1) us

-- the units of a name with a context: mappings, or helpers and queries
abbrev pub is_in_group : Bool → List ℕ → Signature → Bool
is_in_group maps name u = is_called maps u.sort && (bytes_eq name u.name && has_context u.context)

unfoldable pub group : Bool → List ℕ → List Signature → List ℕ
group maps name us = numbers_where (is_in_group maps name) 0 us

-- the same without a context
abbrev pub is_free : Bool → List ℕ → Signature → Bool
is_free maps name u = is_called maps u.sort && (bytes_eq name u.name && not (has_context u.context))

-- the first unit of the name without a context
unfoldable pub free_unit : Bool → List ℕ → List Signature → Option ℕ
free_unit maps name us = position (is_free maps name) us

-- the class of a context that is known
abbrev pub is_context : HeadClass → ℕ → Bool
is_context Missing c = false
is_context Unknown c = false
is_context (Known d) c = d.0 == c

-- the mapping of exactly this context and name, of several the first
abbrev pub is_mapping_named : ℕ → List ℕ → Signature → Bool
is_mapping_named c name u = is_mapping u.sort && (bytes_eq name u.name && is_context u.context c)

unfoldable pub mapping_named : ℕ → List ℕ → List Signature → Option ℕ
mapping_named c name us = position (is_mapping_named c name) us

-- the constructor of a class with so many parameters
abbrev pub is_constructor_of : ℕ → ℕ → Signature → Bool
is_constructor_of c count u = is_constructor u.sort && (is_context u.context c && (length u.params == count))

unfoldable pub constructor_of : ℕ → ℕ → List Signature → Option ℕ
constructor_of c count us = position (is_constructor_of c count) us
