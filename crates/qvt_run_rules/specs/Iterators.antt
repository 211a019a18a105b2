-- The iterators, over what their bodies do (OCL 2.4, 7.6 and 11.9). They take the items of their source in order, and all but `exists`
-- and `forAll` end at the first body that is invalid, or null where a Boolean or a sort key is wanted.
use Rattle.std.specs.Prelude.{ℕ, zero, suc, ◌+◌, ◌==◌, Bool, true, false, not, ◌||◌, if◌then◌else◌, List, [], ◌∷◌, ◌++◌, map, Option, Some, None}
use Rattle.std.specs.List.{list_all}
use Rattle.std.specs.declared.cmp.Ordering.{Ordering}
use Rattle.qvt_base.specs.declared.numbers.Place.{Place}
use Rattle.qvt_value.specs.declared.value.Value.{Value, Null, Bool as Truth, Invalid}
use Rattle.qvt_value.specs.declared.value.Kind.{Kind}
use Rattle.qvt_value.specs.declared.value.Reason.TheVariants.{NullValue}
use Rattle.qvt_value.specs.Kept.{sorted}
use Rattle.qvt_value.specs.Limits.{built}
use Rattle.qvt_value.specs.Order.{order_of}
use Rattle.qvt_repeats.specs.Repeats.{repeats_by}
use Rattle.qvt_ocl_words.specs.Lists.{same, has, is_integer, is_string}
use Rattle.qvt_run_data.specs.declared.exit.End.TheVariants.{OutOfFuel}
use Rattle.qvt_run_data.specs.declared.keyed.Keyed.{Keyed}
use Rattle.qvt_run_rules.specs.State.{Does, ◌>>=◌, ◌>>◌, pure, stop, misfit, found}
use Rattle.qvt_run_rules.specs.Locals.{fixed, name_in, with_locals}
use Rattle.qvt_run_rules.specs.Logic.{is_true, conjunction, disjunction, if_logical}
use Rattle.qvt_run_rules.specs.Sources.{items_of, present_items, collected_kind, sorted_kind, reached_kind, unless_invalid, over_items, gathered, as_kind, as_flat}

-- no value stands in the list twice
abbrev pub all_differ : List Value → Bool
all_differ vs = not (repeats_by same vs)

-- items by their sort keys
abbrev pub key_order : Keyed → Keyed → Ordering
key_order a b = order_of a.key b.key

-- all keys are Integers, or all Strings
abbrev pub are_keys : List Keyed → Bool
are_keys ks = list_all (λ (k : Keyed). is_integer k.key) ks || list_all (λ (k : Keyed). is_string k.key) ks

abbrev pub items_sorted : List Keyed → List Value
items_sorted ks = map (λ (k : Keyed). k.item) (sorted key_order ks)

-- the items by their keys, those with equal keys in their order
abbrev pub by_keys : Place → Kind → List Keyed → Option Value
by_keys at k ks = if are_keys ks then Some (built at (sorted_kind k) (items_sorted ks)) else None

-- what is still to be visited, from the first item that was not
abbrev pub unvisited : List Value → List Value → List Value
unvisited done [] = []
unvisited done (v ∷ vs) = if has done v then unvisited done vs else v ∷ vs

module _ {E : Type 0} where
  -- a body for an item
  unfoldable pub for_item : Option (List ℕ) → Does E Value → Value → Does E Value
  for_item name body x = λ s. with_locals (fixed (name_in s.locals name) x ∷ []) body s

  -- what follows a condition; null is NullValue at the step
  abbrev pub judged : Place → (Bool → Does E Value) → Value → Does E Value
  judged at f (Truth b) = f b
  judged at f Null = pure (Invalid NullValue at)
  judged at f (Invalid r p) = pure (Invalid r p)
  judged at f v = misfit at

  module _ (at : Place) (f : Value → Does E Value) where
    abbrev pub kept_if : Bool → Value → List Value → List Value
    kept_if true x done = done ++ x ∷ []
    kept_if false x done = done

    -- the items for which the condition is true, or those for which it is false
    abbrev pub select_from : Bool → Kind → List Value → List Value → Does E Value
    select_from true k done [] = pure (built at k done)
    select_from false k done [] = pure (built at k done)
    select_from true k done (x ∷ xs) = f x >>= judged at (λ b. select_from true k (kept_if b x done) xs)
    select_from false k done (x ∷ xs) = f x >>= judged at (λ b. select_from false k (kept_if (not b) x done) xs)

    -- true as soon as one is: joined by `or`
    abbrev pub exists_from : Value → List Value → Does E Value
    exists_from v [] = pure v
    exists_from v (x ∷ xs) = f x >>= (λ w. found (if_logical w (disjunction v w)) at
        >>= (λ u. if is_true u then pure u else exists_from u xs))

    -- false as soon as one is: joined by `and`
    abbrev pub is_falsity : Value → Bool
    is_falsity (Truth b) = not b
    is_falsity v = false

    abbrev pub for_all_from : Value → List Value → Does E Value
    for_all_from v [] = pure v
    for_all_from v (x ∷ xs) = f x >>= (λ w. found (if_logical w (conjunction v w)) at
        >>= (λ u. if is_falsity u then pure u else for_all_from u xs))

    -- the first item for which the condition is true, or null
    abbrev pub any_from : List Value → Does E Value
    any_from [] = pure Null
    any_from (x ∷ xs) = f x >>= judged at (λ b. if b then pure x else any_from xs)

    -- whether it is true for exactly one: n so far
    abbrev pub one_from : ℕ → List Value → Does E Value
    one_from n [] = pure (Truth (n == 1))
    one_from n (x ∷ xs) = f x >>= judged at (λ b. one_from (if b then n + 1 else n) xs)

    -- a sort key; null is NullValue at the step
    abbrev pub keyed : (Value → Does E Value) → Value → Does E Value
    keyed g Null = pure (Invalid NullValue at)
    keyed g (Invalid r p) = pure (Invalid r p)
    keyed g v = g v

    abbrev pub sort_from : Kind → List Keyed → List Value → Does E Value
    sort_from k done [] = found (by_keys at k done) at
    sort_from k done (x ∷ xs) = f x >>= keyed (λ v. sort_from k (done ++ record { key = v; item = x } ∷ []) xs)

    -- An item that is in the list already is passed over. Else it comes at the end of the list, and the objects of its body are visited
    -- before the next item is. At most so many bodies are evaluated.
    abbrev pub closure_from : ℕ → Kind → List Value → List Value → Does E Value
    closure_from zero k done vs = stop OutOfFuel
    closure_from (suc n) k done [] = pure (built at (reached_kind k) done)
    closure_from (suc n) k done (v ∷ vs) =
        f v >>= (λ w. unless_invalid w (closure_from n k (done ++ v ∷ []) (unvisited (done ++ v ∷ []) (present_items (items_of w) ++ vs))))

  -- two variables are in scope in the body of `iterate`: the item and what there is so far
  abbrev pub iterate_from : Option (List ℕ) → List ℕ → Does E Value → Value → List Value → Does E Value
  iterate_from name acc body a [] = pure a
  iterate_from name acc body a (x ∷ xs) =
      (λ s. with_locals (fixed (name_in s.locals name) x ∷ fixed acc a ∷ []) body s) >>= (λ w. unless_invalid w (iterate_from name acc body w xs))

module _ {E : Type 0} (spend : ℕ → Does E (Unit {0})) (at : Place) (name : Option (List ℕ)) (body : Does E Value) where
  -- an iterator: its step costs one
  abbrev pub iterated : (Kind → List Value → Does E Value) → Value → Does E Value
  iterated f v = spend 1 >> over_items at f v

  unfoldable pub select : Value → Does E Value
  select v = iterated (λ k xs. select_from at (for_item name body) true k [] xs) v

  unfoldable pub reject : Value → Does E Value
  reject v = iterated (λ k xs. select_from at (for_item name body) false k [] xs) v

  unfoldable pub collect_nested : Value → Does E Value
  collect_nested v = iterated (λ k xs. gathered (as_kind at (collected_kind k)) (for_item name body) [] xs) v

  unfoldable pub collect : Value → Does E Value
  collect v = iterated (λ k xs. gathered (as_flat at (collected_kind k)) (for_item name body) [] xs) v

  unfoldable pub exists_ : Value → Does E Value
  exists_ v = iterated (λ k xs. exists_from at (for_item name body) (Truth false) xs) v

  unfoldable pub for_all : Value → Does E Value
  for_all v = iterated (λ k xs. for_all_from at (for_item name body) (Truth true) xs) v

  unfoldable pub any : Value → Does E Value
  any v = iterated (λ k xs. any_from at (for_item name body) xs) v

  unfoldable pub one : Value → Does E Value
  one v = iterated (λ k xs. one_from at (for_item name body) 0 xs) v

  -- every body is evaluated
  unfoldable pub is_unique : Value → Does E Value
  is_unique v = iterated (λ k xs. gathered (λ ws. pure (Truth (all_differ ws))) (for_item name body) [] xs) v

  unfoldable pub sorted_by : Value → Does E Value
  sorted_by v = iterated (λ k xs. sort_from at (for_item name body) k [] xs) v

  -- with at most so many bodies
  unfoldable pub closure : ℕ → Value → Does E Value
  closure turns v = iterated (λ k xs. closure_from at (for_item name body) (suc turns) k [] (unvisited [] xs)) v

  -- the accumulator and its first value, which is evaluated whatever the source is
  unfoldable pub iterate : List ℕ → Does E Value → Value → Does E Value
  iterate acc first v = spend 1 >> (first >>= (λ a. over_items at (λ k xs. unless_invalid a (iterate_from name acc body a xs)) v))
