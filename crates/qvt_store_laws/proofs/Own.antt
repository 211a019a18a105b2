-- The slots of a model hold objects of its own extent alone: after a change, after a slot is placed, and with one more object.
use Rattle.std.proofs.Common.{◌≡◌, ℕ, Bool, true, false, ◌==◌, ◌||◌, ◌&&◌, not, inl, inr, refl, sym, ap, ◌∙◌, subst, List, [], ◌∷◌, ◌++◌}
use Rattle.std.specs.Prelude.{Option, Some, None}
use Rattle.std.specs.List.{list_any}
use Rattle.std.proofs.lemmas.Bool.Decides.{Decides-eqb}
use Rattle.qvt_base.specs.declared.numbers.FeatureNo.{FeatureNo}
use Rattle.qvt_value.specs.declared.value.Value.{Value}
use Rattle.qvt_metamodel.specs.Metamodels.{Metamodels, opposite, is_feature_number, is_opposite, is_containment}
use Rattle.qvt_relation.proofs.Bools.{and_left, and_right, and_both, or_left, or_right, or_none, or_cases, or_false, not_true, not_of_false, either, clash}
use Rattle.qvt_slots.specs.Slots.{object_in, passes, is_object, has}
use Rattle.qvt_slots.specs.Change.{Change, is_some_feature, is_linked, slot_after}
use Rattle.qvt_slots.specs.Contents.{Contents, Instance, HoldOwn, extent_of, is_live, is_model, slot_of, with_new}
use Rattle.qvt_slots.specs.Types.{AreTyped}
use Rattle.qvt_slots.specs.Assign.{is_elsewhere, crosses, change_to}
use Rattle.qvt_store_laws.specs.Law.{HasDifferences}
use Rattle.qvt_slots.proofs.Objects.{not_any}
use Rattle.qvt_slots.proofs.Instances as objects
use Rattle.qvt_store_laws.proofs.Held.{given, kept, gained, held_after, added_new}
use Rattle.qvt_store_laws.proofs.Opposites.{here}
use Rattle.qvt_store_laws.proofs.After.{holder_slot, item_object}

-- a list that does not cross holds objects of the extent alone
pub same_extent : (s : Contents) (o : ℕ) (ws : List Value) → crosses s o ws ≡ false → (a : ℕ) → is_model s (extent_of s o) ≡ true → has ws a ≡ true → extent_of s a ≡ extent_of s o
same_extent s o ws stays a model new = elim (either (extent_of s a == extent_of s o)) [
  | inl same ↦ (Decides-eqb (extent_of s a) (extent_of s o)).0 same
  | inr other ↦ clash _ (not_of_false _ other) (not_any (λ b. not (extent_of s b == extent_of s o)) ws a (elim (either (list_any (is_elsewhere s o) ws)) [
    | inl some ↦ clash _ (and_both _ _ model some) stays
    | inr no' ↦ no'
  ]) new)
]

-- and the other way round
pub nowhere : (s : Contents) (o : ℕ) (l : List Value) → ((y : ℕ) → has l y ≡ true → extent_of s y ≡ extent_of s o) → list_any (is_elsewhere s o) l ≡ false
nowhere s o [] h = refl
nowhere s o (v ∷ l) h = or_none _ _ (at (object_in v) (λ y t. h y (or_left (is_object y v) (has l y) t))) (nowhere s o l (λ y t. h y (or_right (is_object y v) (has l y) t)))
  where
    at : (q : Option ℕ) → ((y : ℕ) → passes (λ x. x == y) q ≡ true → extent_of s y ≡ extent_of s o) → passes (λ a. not (extent_of s a == extent_of s o)) q ≡ false
    at None h = refl
    at (Some x) h = ap not ((Decides-eqb (extent_of s x) (extent_of s o)).1 (h x ((Decides-eqb x x).1 refl)))

pub any-push : (t : Value → Bool) (vs : List Value) (v : Value) → list_any t (vs ++ v ∷ []) ≡ (list_any t vs || t v)
any-push t [] v = or_false (t v)
any-push t (w ∷ vs) v = elim (t w) as (λ b. (b || list_any t (vs ++ v ∷ [])) ≡ ((b || list_any t vs) || t v)) [ true ↦ refl | false ↦ any-push t vs v ]

pub any-append : (t : Value → Bool) (vs us : List Value) → list_any t (vs ++ us) ≡ (list_any t vs || list_any t us)
any-append t [] us = refl
any-append t (w ∷ vs) us = elim (t w) as (λ b. (b || list_any t (vs ++ us)) ≡ ((b || list_any t vs) || list_any t us)) [ true ↦ refl | false ↦ any-append t vs us ]

-- of a list with values last only these are looked at
pub crosses-more : (s : Contents) (o p : ℕ) (us : List Value) → HoldOwn s → crosses s o (slot_of s o p ++ us) ≡ crosses s o us
crosses-more s o p us own = go (is_model s (extent_of s o)) refl
  where
    go : (b : Bool) → is_model s (extent_of s o) ≡ b → (b && list_any (is_elsewhere s o) (slot_of s o p ++ us)) ≡ (b && list_any (is_elsewhere s o) us)
    go false e = refl
    go true e = any-append (is_elsewhere s o) (slot_of s o p) us ∙ ap (λ b. b || list_any (is_elsewhere s o) us) (nowhere s o (slot_of s o p) (λ y h. own.own o p y e h))

-- of a list with a value last only the value is looked at
pub crosses-last : (s : Contents) (o p : ℕ) (v : Value) → HoldOwn s → crosses s o (slot_of s o p ++ v ∷ []) ≡ (is_model s (extent_of s o) && is_elsewhere s o v)
crosses-last s o p v own = go (is_model s (extent_of s o)) refl
  where
    go : (b : Bool) → is_model s (extent_of s o) ≡ b → (b && list_any (is_elsewhere s o) (slot_of s o p ++ v ∷ [])) ≡ (b && is_elsewhere s o v)
    go false e = refl
    go true e = any-push (is_elsewhere s o) (slot_of s o p) v ∙ ap (λ b. b || is_elsewhere s o v) (nowhere s o (slot_of s o p) (λ y h. own.own o p y e h))

pub linked_by : (m : Metamodels) (p f : ℕ) → is_opposite m p f ≡ true → is_linked m p ≡ true
linked_by m p f opp = or_right (is_containment m p) (is_some_feature (opposite m p)) (go (opposite m p) opp)
  where
    go : (q : Option FeatureNo) → is_feature_number q f ≡ true → is_some_feature q ≡ true
    go None h = clash false h refl
    go (Some q) h = refl

-- after a change of an object that is in a model, or of a slot whose changes touch no other
module _ (s : Contents) (o p : ℕ) (ws : List Value) where
  abbrev c : Change
  c = change_to s o p ws

  made : HasDifferences c
  made = record { adds = refl; removes = refl }

  pub own_after : HoldOwn s → crosses s o ws ≡ false → ((f : ℕ) → is_opposite s.metas p f ≡ true → is_model s (extent_of s o) ≡ true) →
      (x f y : ℕ) → is_model s (extent_of s x) ≡ true → has (slot_after c x f) y ≡ true → extent_of s y ≡ extent_of s x
  own_after old stays own_model x f y model h = elim (held_after c x f y h) [
    | given at new ↦
        let x_is : x ≡ o = (here c x f at).0 in
        subst (λ k. extent_of s y ≡ extent_of s k) (sym x_is) (same_extent s o ws stays y (subst (λ k. is_model s (extent_of s k) ≡ true) x_is model) new)
    | kept n was rest ↦ old.own x f y model was
    | gained n g at ↦
        let new : has ws x ≡ true = added_new c made x (and_right (is_opposite s.metas p f) _ g) in
        subst (λ k. extent_of s k ≡ extent_of s x) at (sym (same_extent s o ws stays x (own_model f (and_left _ _ g)) new))
  ]

  pub in_model : (is_model s (extent_of s o) || not (is_linked s.metas p)) ≡ true → (f : ℕ) → is_opposite s.metas p f ≡ true → is_model s (extent_of s o) ≡ true
  in_model r f opp = elim (or_cases (is_model s (extent_of s o)) (not (is_linked s.metas p)) r) [
    | inl model ↦ model
    | inr alone ↦ clash (is_linked s.metas p) (linked_by s.metas p f opp) (not_true _ alone)
  ]

-- with one more object
pub own_grown : (s : Contents) (c e : ℕ) → AreTyped s → HoldOwn s → HoldOwn (with_new s c e)
own_grown s c e typed old = record {
  own = λ x f y model h.
      let h' : has (slot_of s x f) y ≡ true = ap (λ (l : List Value). has l y) (sym (objects.slot-new s c e x f)) ∙ h in
      let live_x : is_live s x ≡ true = and_left _ _ (holder_slot s x f y h') in
      let live_y : is_live s y ≡ true = and_left _ _ (item_object s f (slot_of s x f) y (typed.types x f) h') in
      same y live_y ∙ old.own x f y (subst (λ n. is_model s n ≡ true) (same x live_x) model) h' ∙ sym (same x live_x);
}
  where
    same : (x : ℕ) → is_live s x ≡ true → extent_of (with_new s c e) x ≡ extent_of s x
    same x live = ap (λ (i : Instance). i.extent) (objects.object-new s c e x live)
