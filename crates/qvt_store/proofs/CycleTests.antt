-- The tests for cycles, as the code makes them.
use Rattle.std.proofs.Common.{◌≡◌, ℕ, zero, suc, ◌+◌, ◌<◌, true, false, ◌==◌, inl, inr, ◌↔◌, refl, sym, subst, List, [], ◌∷◌, take, length, get_or}
use Rattle.std.specs.Prelude.{slice_get, slice_index_or, Some, None}
use Rattle.std.proofs.lemmas.Bool.Decides.{Decides-eqb}
use Rattle.qvt_base.specs.declared.numbers.Oid.{Oid}
use Rattle.qvt_metamodel.specs.Metamodels.{Metamodels, is_containment}
use Rattle.qvt_relation.proofs.Bools.{or_cases, or_left, clash}
use Rattle.qvt_slots.specs.Slots.{Slots}
use Rattle.qvt_slots.specs.Change.{Change, among_objects, is_container}
use Rattle.qvt_slots.specs.Walk.{IsOver, SomeOver, IsOverSome, ClosesCycle, by_items, by_end}
use Rattle.qvt_slots.proofs.Holds.{in_among}
use Rattle.qvt_store.proofs.Plans.{more_cases}

pub only_one : (o : Oid) (n : ℕ) → among_objects (o ∷ []) n ≡ true → o.0 ≡ n
only_one o n h = elim (or_cases (o.0 == n) false h) [ inl a ↦ (Decides-eqb o.0 n).0 a | inr b ↦ clash false b refl ]

pub some_one : (m : Metamodels) (s : Slots) (o : Oid) (y : ℕ) → SomeOver m s (o ∷ []) y ↔ IsOver m s o.0 y
some_one m s o y = (λ some. subst (λ n. IsOver m s n y) (sym (only_one o some.object some.listed)) some.over, λ over. record { object = o.0; listed = or_left _ _ ((Decides-eqb o.0 o.0).1 refl); over = over })

pub over_more : (m : Metamodels) (s : Slots) (o : ℕ) (os : List Oid) (i : ℕ) (d : Oid) → i < length os → (IsOverSome m s o (take i os) → ⊥) → (IsOver m s o (get_or os i d).0 → ⊥) → IsOverSome m s o (take (i + 1) os) → ⊥
over_more m s o os i d h none last some = elim (more_cases os i d some.object h some.listed) [
  | inl a ↦ none (record { object = some.object; listed = a; under = some.under })
  | inr a ↦ last (subst (λ n. IsOver m s o n) a some.under)
]

pub over_found : (m : Metamodels) (s : Slots) (o : ℕ) (os : List Oid) (i : ℕ) (d : Oid) → i < length os → IsOver m s o (get_or os i d).0 → IsOverSome m s o os
over_found m s o os i d h over = record { object = (get_or os i d).0; listed = in_among os i d h; under = over }

-- which of the two forms of a cycle a feature admits
pub items_only : (c : Change) → is_container c.metas c.feature ≡ false → is_containment c.metas c.feature ≡ true → ClosesCycle c ↔ SomeOver c.metas c.slots c.added c.object
items_only c other cont = (from, by_items cont)
  where
    from : ClosesCycle c → SomeOver c.metas c.slots c.added c.object
    from (by_items k some) = some
    from (by_end k some) = clash _ k other

pub end_only : (c : Change) → is_containment c.metas c.feature ≡ false → is_container c.metas c.feature ≡ true → ClosesCycle c ↔ IsOverSome c.metas c.slots c.object c.added
end_only c plain cont = (from, by_end cont)
  where
    from : ClosesCycle c → IsOverSome c.metas c.slots c.object c.added
    from (by_items k some) = clash _ k plain
    from (by_end k some) = some

pub closes_none : (c : Change) → is_containment c.metas c.feature ≡ false → is_container c.metas c.feature ≡ false → ClosesCycle c → ⊥
closes_none c a b (by_items k some) = clash _ k a
closes_none c a b (by_end k some) = clash _ k b

pub none_at : {X : Type 0} (xs : List X) (i : ℕ) (d : X) → None ≡ slice_get xs i → slice_index_or xs i d ≡ d
none_at [] i d e = refl
none_at (x ∷ xs) zero d e = cc
none_at (x ∷ xs) (suc i) d e = none_at xs i d e

pub some_at : {X : Type 0} (xs : List X) (i : ℕ) (x d : X) → Some x ≡ slice_get xs i → slice_index_or xs i d ≡ x
some_at [] i x d e = cc
some_at (y ∷ xs) zero x d e = cc
some_at (y ∷ xs) (suc i) x d e = some_at xs i x d e
