-- What stands before a dot, an arrow, a mapping call or a resolve (OCL 2.4, 7.5.3 and 7.6.2): the wrap of a single value, null that is
-- an empty collection, the implicit collect.
use Rattle.std.specs.Prelude.{Bool, true, false, not, if◌then◌else◌, List, [], ◌∷◌, ◌++◌, filter, Option, Some, None}
use Rattle.std.specs.List.{find}
use Rattle.qvt_base.specs.declared.numbers.Oid.{Oid}
use Rattle.qvt_base.specs.declared.numbers.Place.{Place}
use Rattle.qvt_value.specs.declared.value.Value.{Value, Null, Obj, Invalid, Coll', items-the_row-Value, Row_of-Value, end_of-Value, more_of-Value}
use Rattle.qvt_value.specs.declared.value.Value.TheViews.{Coll}
use Rattle.qvt_value.specs.declared.value.Kind.{Kind}
use Rattle.qvt_value.specs.declared.value.Kind.TheVariants.{Set, Bag, Sequence, OrderedSet}
use Rattle.qvt_value.specs.declared.value.Reason.TheVariants.{NullSource}
use Rattle.qvt_value.specs.Limits.{built}
use Rattle.qvt_value.specs.Make.{is_invalid}
use Rattle.qvt_ocl_words.specs.Collections.{is_in_order}
use Rattle.qvt_ocl_words.specs.Lists.{is_null, flattened}
use Rattle.qvt_run_rules.specs.Logic.{value_or}
use Rattle.qvt_run_rules.specs.State.{Does, ◌>>=◌, pure, misfit}

-- The arrow.

abbrev pub wrapped_if : Bool → Value → Value
wrapped_if true v = Coll Set (v ∷ [])
wrapped_if false v = v

-- what an arrow goes over, where a single value is wrapped in a Set: null is the empty collection of the kind
abbrev pub before_arrow : Bool → Kind → Value → Value
before_arrow wrap kind Null = Coll kind []
before_arrow wrap kind (Invalid r p) = Invalid r p
before_arrow wrap kind v = wrapped_if wrap v

-- the items of a collection; a single value is one, and null none
abbrev pub items_of : Value → List Value
items_of (Coll' k s r) = items-the_row-Value _ r
items_of Null = []
items_of v = v ∷ []

-- the items that are not null
abbrev pub present_items : List Value → List Value
present_items vs = filter (λ v. not (is_null v)) vs

-- the kind of what is collected from a kind
abbrev pub collected_kind : Kind → Kind
collected_kind k = if is_in_order k then Sequence else Bag

-- the kind of what is sorted, and of what a closure reaches
abbrev pub sorted_kind : Kind → Kind
sorted_kind Set = OrderedSet
sorted_kind OrderedSet = OrderedSet
sorted_kind Bag = Sequence
sorted_kind Sequence = Sequence

abbrev pub reached_kind : Kind → Kind
reached_kind k = if is_in_order k then OrderedSet else Set

-- the objects of a list; nothing else may stand in it
abbrev pub with_object : Value → Option (List Oid) → Option (List Oid)
with_object (Obj o) (Some os) = Some (o ∷ os)
with_object v rest = None

abbrev pub all_objects : List Value → Option (List Oid)
all_objects [] = Some []
all_objects (v ∷ vs) = with_object v (all_objects vs)

-- the objects that a mapping call, or a resolve, goes over: nulls are left out
unfoldable pub objects_in : Value → Option (List Oid)
objects_in v = all_objects (present_items (flattened (items_of v)))

-- the objects that a resolve looks from: an object, or the items of a collection but for nulls
unfoldable pub sources_in : Value → Option (List Oid)
sources_in v = all_objects (present_items (items_of v))

-- what a dot gives of null where a collection is: NullSource, unless an argument is invalid
abbrev pub without_source : Place → List Value → Value
without_source at ws = value_or (find is_invalid ws) (Invalid NullSource at)

module _ {E : Type 0} where
  -- what follows a value that is not invalid
  abbrev pub unless_invalid : Value → Does E Value → Does E Value
  unless_invalid (Invalid r p) q = pure (Invalid r p)
  unless_invalid v q = q

  -- what goes over the items of a collection
  abbrev pub over_items : Place → (Kind → List Value → Does E Value) → Value → Does E Value
  over_items at f (Invalid r p) = pure (Invalid r p)
  over_items at f (Coll' k s r) = f k (items-the_row-Value _ r)
  over_items at f v = misfit at

  -- The answers for the items in order, from those that are there. The first that is invalid ends it.
  abbrev pub gathered : (List Value → Does E Value) → (Value → Does E Value) → List Value → List Value → Does E Value
  gathered finish f done [] = finish done
  gathered finish f done (x ∷ xs) = f x >>= (λ w. unless_invalid w (gathered finish f (done ++ w ∷ []) xs))

  abbrev pub as_kind : Place → Kind → List Value → Does E Value
  as_kind at k vs = pure (built at k vs)

  abbrev pub as_flat : Place → Kind → List Value → Does E Value
  as_flat at k vs = pure (built at k (flattened vs))

  -- The same over phrases, one after another.
  abbrev pub in_turn : (List Value → Does E Value) → List Value → List (Does E Value) → Does E Value
  in_turn finish done [] = finish done
  in_turn finish done (p ∷ ps) = p >>= (λ w. unless_invalid w (in_turn finish (done ++ w ∷ []) ps))

  -- The implicit collect: what a dot does, for each item of a collection in order, flattened. On an item that is a collection the dot does
  -- likewise, so what it gives for a Set or a Bag within stands in the order of a Bag.
  module _ (at : Place) (f : Value → Does E Value) where
    abbrev mutual
      pub for_items : Value → Does E Value
      for_items (Coll' k s r) = in_turn (as_flat at (collected_kind k)) [] (for_row r)
      for_items v = f v

      pub for_row : {m : _} → Row_of-Value m → List (Does E Value)
      for_row end_of-Value = []
      for_row (more_of-Value v vs) = for_items v ∷ for_row vs

  -- a dot over a collection, with these arguments
  abbrev pub collecting : Place → List Value → (Value → Does E Value) → Value → Does E Value
  collecting at ws f Null = pure (without_source at ws)
  collecting at ws f (Invalid r p) = pure (Invalid r p)
  collecting at ws f (Coll' k s r) = for_items at f (Coll' k s r)
  collecting at ws f v = misfit at

  -- a dot, with or without it
  abbrev pub dotted : Bool → Place → List Value → (Value → Does E Value) → Value → Does E Value
  dotted true at ws f v = collecting at ws f v
  dotted false at ws f v = f v
