-- Units that a class and a number tell: mappings, or helpers and queries, by their context and the number of their name, constructors
-- by their class and the number of their parameters.
use Rattle.std.specs.Prelude.{◌≡◌, ℕ, ◌==◌, ◌&&◌, Bool, false, List, length, position, Option, Some, None, if◌then◌else◌}
use Rattle.std.specs.Map.{lookup}
use Rattle.std.specs.Str.{bytes_eq}
use Rattle.qvt_types_units.specs.declared.signature.HeadClass.{HeadClass}
use Rattle.qvt_types_units.specs.declared.signature.HeadClass.TheVariants.{Missing, Unknown, Known}
use Rattle.qvt_types_units.specs.declared.signature.Signature.{Signature}
use Rattle.qvt_types_units.specs.Numbers.{is_called, is_constructor, is_context}
use Rattle.qvt_types_groups.specs.declared.class_table.ClassKey.{ClassKey}

abbrev pub same_key : ClassKey → ClassKey → Bool
same_key a b = (a.class.0 == b.class.0) && (a.number == b.number)

abbrev pub is_key : ClassKey → Option ClassKey → Bool
is_key k None = false
is_key k (Some key) = same_key k key

-- a class that is known, and a number
abbrev pub key_in : HeadClass → Option ℕ → Option ClassKey
key_in (Known c) (Some n) = Some (record { class = c; number = n })
key_in (Known c) None = None
key_in Missing o = None
key_in Unknown o = None

-- where the names have these numbers
abbrev pub named_key : Bool → List (List ℕ) → Signature → Option ClassKey
named_key maps names u = if is_called maps u.sort then key_in u.context (position (bytes_eq u.name) names) else None

abbrev pub constructor_key : Signature → Option ClassKey
constructor_key u = if is_constructor u.sort then key_in u.context (Some (length u.params)) else None

-- mappings of exactly this context and name, or helpers and queries
abbrev pub is_named : Bool → ℕ → List ℕ → Signature → Bool
is_named maps c name u = is_called maps u.sort && (bytes_eq name u.name && is_context u.context c)

-- a table in which the place of the first of each key is found
abbrev pub FindsFirst : List (ClassKey × ℕ) → List (Option ClassKey) → Type 0
FindsFirst t keys = (k : ClassKey) → lookup (same_key k) t ≡ position (is_key k) keys
