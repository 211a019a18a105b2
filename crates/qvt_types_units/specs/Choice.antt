-- The choice of a unit by the class of an object (QVT 1.3, 8.2.1.10, overriding of imperative operations): among the units of a
-- name the one whose context class is the object's or above it, and is or is below that of each other such unit.
use Rattle.std.specs.Prelude.{ℕ, ◌&&◌, ◌||◌, not, Bool, true, false, List, [], ◌∷◌, length, filter, Option, Some, None, is_some, if◌then◌else◌}
use Rattle.std.specs.List.{list_any, list_all, range_with_len}
use Rattle.qvt_metamodel.specs.Metamodels.{Metamodels, class_at}
use Rattle.qvt_metamodel.specs.Descends.{descends}
use Rattle.qvt_types_units.specs.declared.signature.HeadClass.{HeadClass}
use Rattle.qvt_types_units.specs.declared.signature.HeadClass.TheVariants.{Missing, Unknown, Known}
use Rattle.qvt_types_units.specs.declared.signature.Signature.{Signature}
use Rattle.qvt_types_units.specs.declared.choice.FoundUnit.{FoundUnit}
use Rattle.qvt_types_units.specs.declared.choice.FoundUnit.TheVariants.{NoUnit, Untyped, Unclear, Chosen}
use Rattle.qvt_types_units.specs.Numbers.{unit_at, group}

-- the unit's context class is this class or above it
abbrev pub is_context_above : Metamodels → HeadClass → ℕ → Bool
is_context_above m Missing c = false
is_context_above m Unknown c = false
is_context_above m (Known d) c = descends m c d.0

-- the context class of the first is that of the second or below it
abbrev pub is_below : Metamodels → HeadClass → HeadClass → Bool
is_below m (Known c) h = is_context_above m h c.0
is_below m Missing h = false
is_below m Unknown h = false

abbrev pub context_at : List Signature → ℕ → HeadClass
context_at us n = (unit_at us n).context

-- those of the units that an object of class c may be handed to
abbrev pub candidates : Metamodels → List Signature → List ℕ → ℕ → List ℕ
candidates m us ns c = filter (λ n. is_context_above m (context_at us n) c) ns

abbrev pub is_lowest : Metamodels → List Signature → List ℕ → ℕ → Bool
is_lowest m us ns n = list_all (λ k. is_below m (context_at us n) (context_at us k)) ns

abbrev pub lowest : Metamodels → List Signature → List ℕ → List ℕ
lowest m us ns = filter (is_lowest m us ns) ns

abbrev pub single : List ℕ → Option ℕ
single [] = None
single (n ∷ []) = Some n
single (n ∷ k ∷ more) = None

-- the one unit that is chosen among these for objects of class c
unfoldable pub chosen : Metamodels → List Signature → List ℕ → ℕ → Option ℕ
chosen m us ns c = single (lowest m us (candidates m us ns c))

abbrev pub is_concrete_below : Metamodels → ℕ → ℕ → Bool
is_concrete_below m c d = not (class_at m d).is_abstract && descends m d c

-- a class is concrete and below this one, and has no single choice
unfoldable pub lacks_choice : Metamodels → List Signature → List ℕ → ℕ → ℕ → Bool
lacks_choice m us ns c d = is_concrete_below m c d && not (is_some (chosen m us ns d))

-- the class, or a concrete class below it, has no single choice
unfoldable pub is_ambiguous : Metamodels → List Signature → List ℕ → ℕ → Bool
is_ambiguous m us ns c =
    not (is_some (chosen m us ns c))
    || list_any (lacks_choice m us ns c) (range_with_len 0 (length m.classes))

abbrev pub is_unknown : HeadClass → Bool
is_unknown Missing = false
is_unknown Unknown = true
is_unknown (Known c) = false

-- whether the context of one of these is unknown: what is called by the name then has no type
abbrev pub is_unsure : List Signature → List ℕ → Bool
is_unsure us ns = list_any (λ n. is_unknown (context_at us n)) ns

abbrev pub is_empty : List ℕ → Bool
is_empty [] = true
is_empty (n ∷ ns) = false

abbrev pub chosen_of : Bool → Option ℕ → FoundUnit
chosen_of true o = Unclear
chosen_of false None = Unclear
chosen_of false (Some n) = Chosen n

abbrev pub looked_up : Metamodels → List Signature → List ℕ → ℕ → FoundUnit
looked_up m us ns c =
    if is_unsure us ns then Untyped
    else if is_empty (candidates m us ns c) then NoUnit
    else chosen_of (is_ambiguous m us ns c) (chosen m us ns c)

-- a call of a unit with a context by its name, on a class: Unclear is Ambiguous
unfoldable pub called_on : Metamodels → List Signature → Bool → List ℕ → ℕ → FoundUnit
called_on m us maps name c = looked_up m us (group maps name us) c
