-- The choice for each class by itself, whatever is below it: that of its own units, or else what its superclasses have.
use Rattle.std.specs.Prelude.{◌≡◌, ◌<◌, ℕ, ◌&&◌, not, Bool, true, false, List, [], ◌∷◌, length, map, filter, Option, Some, None, is_some, if◌then◌else◌, slice_index_or, slice_set}
use Rattle.std.specs.List.{list_any, list_all, range_with_len}
use Rattle.qvt_base.specs.declared.numbers.ClassNo.{ClassNo}
use Rattle.qvt_metas.specs.Metamodels.{Metamodels, class_at, is_element}
use Rattle.qvt_metas.specs.Descends.{descends}
use Rattle.qvt_metas.specs.Kept.{is_marked}
use Rattle.qvt_metamodel.specs.declared.row.Row.{Row}
use Rattle.qvt_types_units.specs.declared.choice.FoundUnit.{FoundUnit}
use Rattle.qvt_types_units.specs.declared.choice.FoundUnit.TheVariants.{NoUnit, Untyped, Unclear, Chosen}
use Rattle.qvt_types_units.specs.declared.signature.HeadClass.{HeadClass}
use Rattle.qvt_types_units.specs.declared.signature.HeadClass.TheVariants.{Missing, Unknown, Known}
use Rattle.qvt_types_units.specs.declared.signature.Signature.{Signature}
use Rattle.qvt_types_units.specs.Choice.{candidates, chosen_of, context_at, is_empty, lowest, single}
use Rattle.qvt_types_units.specs.Numbers.{is_context}
use Rattle.qvt_types_choices.specs.Only.{is_rival, least}
use Rattle.qvt_types_choices.specs.Stuck.{is_stuck}
use Rattle.qvt_types_choices.specs.Sets.{IsSetOf}
use Rattle.qvt_types_choices.specs.declared.class_choices.ClassChoices.{ClassChoices}

-- the choice where these are the units that an object may be handed to
abbrev pub choice_among : Metamodels → List Signature → List ℕ → FoundUnit
choice_among m us ns = if is_empty ns then NoUnit else chosen_of false (single (lowest m us ns))

unfoldable pub choice_for : Metamodels → List Signature → List ℕ → ℕ → FoundUnit
choice_for m us ns c = choice_among m us (candidates m us ns c)

-- for each of the first n classes
abbrev pub choices : Metamodels → List Signature → List ℕ → ℕ → List FoundUnit
choices m us ns n = map (choice_for m us ns) (range_with_len 0 n)

abbrev pub choice_at : List FoundUnit → ℕ → FoundUnit
choice_at choices c = slice_index_or choices c NoUnit

abbrev pub is_unclear : FoundUnit → Bool
is_unclear Unclear = true
is_unclear NoUnit = false
is_unclear Untyped = false
is_unclear (Chosen n) = false

-- a concrete class without a single choice
abbrev pub is_stuck_by : Metamodels → ℕ → FoundUnit → Bool
is_stuck_by m c f = not (class_at m c).is_abstract && is_unclear f

-- what is found for a class with this choice: none is told where a context is unknown, nor where a class at or below it lacks one
abbrev pub settled : Bool → Bool → FoundUnit → FoundUnit
settled true lacking f = Untyped
settled false lacking (Chosen n) = if lacking then Unclear else Chosen n
settled false lacking NoUnit = NoUnit
settled false lacking Untyped = Untyped
settled false lacking Unclear = Unclear

-- one of the classes that are marked descends from this one
abbrev pub some_below : Metamodels → Row → ℕ → Bool
some_below m r c = list_any (λ d. is_marked r d && descends m d c) (range_with_len 0 (length m.classes))

-- the units of exactly this class
abbrev pub own : List Signature → List ℕ → ℕ → List ℕ
own us ns c = filter (λ n. is_context (context_at us n) c) ns

-- a class has one unit more: of several none is chosen
abbrev pub one_more : Option FoundUnit → ℕ → Option FoundUnit
one_more None n = Some (Chosen n)
one_more (Some f) n = Some Unclear

abbrev pub all_more : Option FoundUnit → List ℕ → Option FoundUnit
all_more o [] = o
all_more o (n ∷ ns) = all_more (one_more o n) ns

-- what is known of a class, in a list by the numbers of classes
abbrev pub known_at : List (Option FoundUnit) → ℕ → Option FoundUnit
known_at known c = slice_index_or known c None

-- the class of a unit has one more
abbrev pub told_more : List (Option FoundUnit) → HeadClass → ℕ → List (Option FoundUnit)
told_more known (Known c) n = slice_set known c.0 (one_more (known_at known c.0) n)
told_more known Missing n = known
told_more known Unknown n = known

-- the unit's class is the one above all
abbrev pub is_top : Metamodels → HeadClass → Bool
is_top m (Known c) = is_element m c.0
is_top m Missing = false
is_top m Unknown = false

abbrev pub tops : Metamodels → List Signature → List ℕ → List ℕ
tops m us ns = filter (λ n. is_top m (context_at us n)) ns

-- the choice for a class without superclasses and without units of its own
abbrev pub top_choice : Metamodels → List Signature → List ℕ → FoundUnit
top_choice m us ns = choice_among m us (tops m us ns)

abbrev pub is_unclear_in : Option FoundUnit → Bool
is_unclear_in None = false
is_unclear_in (Some f) = is_unclear f

-- a unit that is a rival of unit n is chosen
abbrev pub is_rival_in : Metamodels → List Signature → ℕ → Option FoundUnit → Bool
is_rival_in m us n None = false
is_rival_in m us n (Some NoUnit) = false
is_rival_in m us n (Some Untyped) = false
is_rival_in m us n (Some Unclear) = false
is_rival_in m us n (Some (Chosen k)) = is_rival m us n k

abbrev pub with_chosen : Option FoundUnit → List ℕ → List ℕ
with_chosen None ns = ns
with_chosen (Some NoUnit) ns = ns
with_chosen (Some Untyped) ns = ns
with_chosen (Some Unclear) ns = ns
with_chosen (Some (Chosen n)) ns = n ∷ ns

-- the units that are chosen for the classes
abbrev pub chosens : List (Option FoundUnit) → List ClassNo → List ℕ
chosens known [] = []
chosens known (c ∷ cs) = with_chosen (known_at known c.0) (chosens known cs)

abbrev pub are_known : List (Option FoundUnit) → List ClassNo → Bool
are_known known cs = list_all (λ c. is_some (known_at known c.0)) cs

abbrev pub some_unclear : List (Option FoundUnit) → List ClassNo → Bool
some_unclear known cs = list_any (λ c. is_unclear_in (known_at known c.0)) cs

abbrev pub some_rival : Metamodels → List Signature → List (Option FoundUnit) → List ClassNo → ℕ → Bool
some_rival m us known cs n = list_any (λ c. is_rival_in m us n (known_at known c.0)) cs

-- what classes tell of one below them all, where no other is above it, by the lowest of the units that are chosen for them
abbrev pub joined_by : Metamodels → List Signature → List (Option FoundUnit) → List ClassNo → Option ℕ → Option FoundUnit
joined_by m us known cs None = Some (if some_unclear known cs then Unclear else NoUnit)
joined_by m us known cs (Some n) =
    if some_rival m us known cs n then Some Unclear
    else if some_unclear known cs then None
    else Some (Chosen n)

abbrev pub joined : Metamodels → List Signature → List (Option FoundUnit) → List ClassNo → Option FoundUnit
joined m us known cs = if are_known known cs then joined_by m us known cs (least m us (chosens known cs)) else None

-- the choice for a class without units of its own, by its superclasses: with one it has the choice of that
abbrev pub inherited : Metamodels → List Signature → List (Option FoundUnit) → FoundUnit → List ClassNo → Option FoundUnit
inherited m us known top [] = Some top
inherited m us known top (c ∷ []) = known_at known c.0
inherited m us known top (c ∷ d ∷ cs) = joined m us known (c ∷ d ∷ cs)

-- what is known of a class is its choice; one of which nothing is known has no units of its own
pub record AreKnown (m : Metamodels) (us : List Signature) (ns : List ℕ) (known : List (Option FoundUnit)) : Type 0 where
  pub told : (c : ℕ) (f : FoundUnit) → known_at known c ≡ Some f → f ≡ choice_for m us ns c
  pub untold : (c : ℕ) → c < length known → known_at known c ≡ None → own us ns c ≡ []

pub record AreChosen (m : Metamodels) (us : List Signature) (ns : List ℕ) (t : ClassChoices) : Type 0 where
  pub each : t.each ≡ choices m us ns (length m.classes)
  pub stuck : IsSetOf m (is_stuck m us ns) t.stuck
