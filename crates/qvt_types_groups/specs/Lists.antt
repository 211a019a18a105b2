-- Lists of numbers by name.
use Rattle.std.specs.Prelude.{ℕ, ◌&&◌, not, Bool, true, false, List, [], ◌∷◌, position, Option, Some, None, slice_index_or}
use Rattle.std.specs.Str.{bytes_eq}
use Rattle.qvt_types_units.specs.declared.signature.HeadClass.{HeadClass}
use Rattle.qvt_types_units.specs.declared.signature.Signature.{Signature}
use Rattle.qvt_types_units.specs.Numbers.{is_called, has_context}

pub record NamedLists : Type 0 where
  pub names : List (List ℕ)
  -- the list of each name
  pub lists : List (List ℕ)

abbrev pub list_at : List (List ℕ) → Option ℕ → List ℕ
list_at lists None = []
list_at lists (Some s) = slice_index_or lists s []

-- the numbers that stand under the name
abbrev pub numbers_under : NamedLists → List ℕ → List ℕ
numbers_under t name = list_at t.lists (position (bytes_eq name) t.names)

-- units with a context are wanted, or those without
abbrev pub is_wanted : Bool → HeadClass → Bool
is_wanted true h = has_context h
is_wanted false h = not (has_context h)

-- mappings of the name, or helpers and queries, with a context or without
abbrev pub is_listed : Bool → Bool → List ℕ → Signature → Bool
is_listed maps with_context name u = is_called maps u.sort && (bytes_eq name u.name && is_wanted with_context u.context)

-- the same of any name
abbrev pub is_one : Bool → Bool → Signature → Bool
is_one maps with_context u = is_called maps u.sort && is_wanted with_context u.context

abbrev pub first_of : List ℕ → Option ℕ
first_of [] = None
first_of (n ∷ ns) = Some n
