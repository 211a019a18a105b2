-- The iterators, under a closed relation.
use Rattle.std.proofs.Common.{ℕ, ◌+◌, Bool, true, false, not, if◌then◌else◌, List, [], ◌∷◌, ◌++◌, Option}
use Rattle.qvt_base.specs.declared.numbers.Place.{Place}
use Rattle.qvt_value.specs.declared.value.Value.{Value, Null, Bool as Truth, Invalid}
use Rattle.qvt_value.specs.declared.value.Kind.{Kind}
use Rattle.qvt_value.specs.Limits.{built}
use Rattle.qvt_run_data.specs.declared.keyed.Keyed.{Keyed}
use Rattle.qvt_run_rules.specs.State.{Does, pure}
use Rattle.qvt_run_rules.specs.Locals.{fixed, name_in}
use Rattle.qvt_run_rules.specs.Logic.{is_true, conjunction, disjunction, if_logical}
use Rattle.qvt_run_rules.specs.Sources.{collected_kind}
use Rattle.qvt_run_rules.specs.Iterators as each
use Rattle.qvt_meaning.specs.Readings.{Setting}
use Rattle.qvt_meaning_laws.proofs.Closed.{Relation, Repeated, Closed}
use Rattle.qvt_meaning_laws.proofs.Parts.{on, ticks, picks, misfits, finds, unless_invalids, over, gathers, flats}

module _ {E F : Type 0} {R : Relation E F} {T : Repeated E F} {x : Setting E} {y : Setting F} (c : Closed E F R T x y) where
  for_item : (name : Option (List ℕ)) {p : Does E Value} {q : Does F Value} (v : Value) → R Value p q → R Value (each.for_item name p v) (each.for_item name q v)
  unfolding each.for_item
  for_item name {p} {q} v e = c.withs Value (λ vs. fixed (name_in vs name) v ∷ []) p q e

  judged : (at : Place) {f : Bool → Does E Value} {g : Bool → Does F Value} (v : Value) → ((b : Bool) → R Value (f b) (g b)) → R Value (each.judged at f v) (each.judged at g v)
  judged at (Truth b) e = e b
  judged at Null e = c.gives Value _
  judged at (Invalid r p) e = c.gives Value _
  judged at v e = misfits c Value at

  module _ (at : Place) (f : Value → Does E Value) (g : Value → Does F Value) (e : (v : Value) → R Value (f v) (g v)) where
    kept : (wanted b : Bool) (k : Kind) (v : Value) (done xs : List Value) → ((done : List Value) → R Value (each.select_from at f wanted k done xs) (each.select_from at g wanted k done xs)) →
        R Value (each.select_from at f wanted k (each.kept_if at f b v done) xs) (each.select_from at g wanted k (each.kept_if at g b v done) xs)
    kept wanted true k v done xs h = h (done ++ v ∷ [])
    kept wanted false k v done xs h = h done

    selects : (wanted : Bool) (k : Kind) (done xs : List Value) → R Value (each.select_from at f wanted k done xs) (each.select_from at g wanted k done xs)
    selects true k done [] = c.gives Value _
    selects false k done [] = c.gives Value _
    selects true k done (v ∷ xs) = on c (e v) (λ w. judged at w (λ b. kept true b k v done xs (λ more. selects true k more xs)))
    selects false k done (v ∷ xs) = on c (e v) (λ w. judged at w (λ b. kept false (not b) k v done xs (λ more. selects false k more xs)))

    finds_one : (v : Value) (xs : List Value) → R Value (each.exists_from at f v xs) (each.exists_from at g v xs)
    finds_one v [] = c.gives Value v
    finds_one v (u ∷ xs) = on c (e u) (λ w. on c (finds c Value (if_logical w (disjunction v w)) at) (λ z. picks c (is_true z) (c.gives Value z) (finds_one z xs)))

    goes_on : (u : Value) (xs : List Value) → R Value (each.for_all_from at f u xs) (each.for_all_from at g u xs) →
        R Value (if each.is_falsity at f u then pure u else each.for_all_from at f u xs) (if each.is_falsity at g u then pure u else each.for_all_from at g u xs)
    goes_on (Truth true) xs h = h
    goes_on (Truth false) xs h = c.gives Value _
    goes_on u xs h = h

    finds_all : (v : Value) (xs : List Value) → R Value (each.for_all_from at f v xs) (each.for_all_from at g v xs)
    finds_all v [] = c.gives Value v
    finds_all v (u ∷ xs) = on c (e u) (λ w. on c (finds c Value (if_logical w (conjunction v w)) at) (λ z. goes_on z xs (finds_all z xs)))

    finds_any : (xs : List Value) → R Value (each.any_from at f xs) (each.any_from at g xs)
    finds_any [] = c.gives Value _
    finds_any (v ∷ xs) = on c (e v) (λ w. judged at w (λ b. picks c b (c.gives Value v) (finds_any xs)))

    counts : (n : ℕ) (xs : List Value) → R Value (each.one_from at f n xs) (each.one_from at g n xs)
    counts n [] = c.gives Value _
    counts n (v ∷ xs) = on c (e v) (λ w. judged at w (λ b. counts (if b then n + 1 else n) xs))

    keyed : {h : Value → Does E Value} {j : Value → Does F Value} (v : Value) → ((w : Value) → R Value (h w) (j w)) → R Value (each.keyed at f h v) (each.keyed at g j v)
    keyed Null k = c.gives Value _
    keyed (Invalid r p) k = c.gives Value _
    keyed v k = k v

    sorts : (k : Kind) (done : List Keyed) (xs : List Value) → R Value (each.sort_from at f k done xs) (each.sort_from at g k done xs)
    sorts k done [] = finds c Value _ at
    sorts k done (v ∷ xs) = on c (e v) (λ w. keyed w (λ u. sorts k (done ++ record { key = u; item = v } ∷ []) xs))

  iterates : (name : Option (List ℕ)) (acc : List ℕ) {p : Does E Value} {q : Does F Value} (a : Value) (xs : List Value) → R Value p q → R Value (each.iterate_from name acc p a xs) (each.iterate_from name acc q a xs)
  iterates name acc a [] e = c.gives Value a
  iterates name acc {p} {q} a (v ∷ xs) e = on c (c.withs Value (λ vs. fixed (name_in vs name) v ∷ fixed acc a ∷ []) p q e) (λ w. unless_invalids c w (iterates name acc w xs e))

  module _ (at : Place) (name : Option (List ℕ)) {p : Does E Value} {q : Does F Value} (e : R Value p q) where
    items : (v : Value) → R Value (each.for_item name p v) (each.for_item name q v)
    items v = for_item name v e

    iterated : {f : Kind → List Value → Does E Value} {g : Kind → List Value → Does F Value} (v : Value) → ((k : Kind) (xs : List Value) → R Value (f k xs) (g k xs)) →
        R Value (each.iterated x.spend at name p f v) (each.iterated y.spend at name q g v)
    iterated v k = ticks c (over c at v k)

    pub select : (v : Value) → R Value (each.select x.spend at name p v) (each.select y.spend at name q v)
    unfolding each.select
    select v = iterated v (λ k xs. selects at _ _ items true k [] xs)

    pub reject : (v : Value) → R Value (each.reject x.spend at name p v) (each.reject y.spend at name q v)
    unfolding each.reject
    reject v = iterated v (λ k xs. selects at _ _ items false k [] xs)

    pub collect_nested : (v : Value) → R Value (each.collect_nested x.spend at name p v) (each.collect_nested y.spend at name q v)
    unfolding each.collect_nested
    collect_nested v = iterated v (λ k xs. gathers c [] xs (λ vs. c.gives Value (built at (collected_kind k) vs)) items)

    pub collect : (v : Value) → R Value (each.collect x.spend at name p v) (each.collect y.spend at name q v)
    unfolding each.collect
    collect v = iterated v (λ k xs. gathers c [] xs (flats c at (collected_kind k)) items)

    pub exists_ : (v : Value) → R Value (each.exists_ x.spend at name p v) (each.exists_ y.spend at name q v)
    unfolding each.exists_
    exists_ v = iterated v (λ k xs. finds_one at _ _ items (Truth false) xs)

    pub for_all : (v : Value) → R Value (each.for_all x.spend at name p v) (each.for_all y.spend at name q v)
    unfolding each.for_all
    for_all v = iterated v (λ k xs. finds_all at _ _ items (Truth true) xs)

    pub any : (v : Value) → R Value (each.any x.spend at name p v) (each.any y.spend at name q v)
    unfolding each.any
    any v = iterated v (λ k xs. finds_any at _ _ items xs)

    pub one : (v : Value) → R Value (each.one x.spend at name p v) (each.one y.spend at name q v)
    unfolding each.one
    one v = iterated v (λ k xs. counts at _ _ items 0 xs)

    pub is_unique : (v : Value) → R Value (each.is_unique x.spend at name p v) (each.is_unique y.spend at name q v)
    unfolding each.is_unique
    is_unique v = iterated v (λ k xs. gathers c [] xs (λ ws. c.gives Value (Truth (each.all_differ ws))) items)

    pub sorted_by : (v : Value) → R Value (each.sorted_by x.spend at name p v) (each.sorted_by y.spend at name q v)
    unfolding each.sorted_by
    sorted_by v = iterated v (λ k xs. sorts at _ _ items k [] xs)

    pub closure : (v : Value) → T p q → R Value (each.closure x.spend at name p x.turns v) (each.closure y.spend at name q y.turns v)
    unfolding each.closure
    closure v d = iterated v (λ k xs. c.closures at name p q k [] (each.unvisited [] xs) d e)

    pub iterate : (acc : List ℕ) {h : Does E Value} {j : Does F Value} (v : Value) → R Value h j → R Value (each.iterate x.spend at name p acc h v) (each.iterate y.spend at name q acc j v)
    unfolding each.iterate
    iterate acc v k = ticks c (on c k (λ a. over c at v (λ m xs. unless_invalids c a (iterates name acc a xs e))))
