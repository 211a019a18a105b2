-- Which objects a slot holds after a change.
use Rattle.std.proofs.Common.{◌≡◌, ℕ, Bool, true, false, inl, inr, ◌==◌, ◌||◌, ◌&&◌, not, cond, List, [], ◌∷◌, ◌++◌, refl, sym, ap, ◌∙◌, subst}
use Rattle.std.specs.Prelude.{filter}
use Rattle.std.proofs.lemmas.Bool.Decides.{Decides-eqb}
use Rattle.qvt_value.specs.declared.value.Value.{Value}
use Rattle.qvt_metamodel.specs.Metamodels.{is_single}
use Rattle.qvt_relation.proofs.Bools.{and_left, and_right, and_both, or_cases, or_left, or_right, none_left, none_right, not_true, not_of_false, either, or_false, clash, refuted}
use Rattle.qvt_slots.specs.Slots.{has}
use Rattle.qvt_slots.specs.Change.{Change, object_value, among_objects, is_here, is_added, is_removed, gains, is_taken, is_replaced, is_moved_in, is_moved, leaves, loses, keeps, with_object, slot_elsewhere, slot_after}
use Rattle.qvt_store_laws.specs.Law.{HasDifferences}
use Rattle.qvt_slots.proofs.Objects.{has-filter, has-push, beyond-is}

module _ (c : Change) (made : HasDifferences c) where
  pub added-is : (y : ℕ) → is_added c y ≡ (has c.items y && not (has (c.slots c.object c.feature) y))
  added-is y = ap (λ os. among_objects os y) made.adds ∙ beyond-is (c.slots c.object c.feature) c.items y

  pub removed-is : (y : ℕ) → is_removed c y ≡ (has (c.slots c.object c.feature) y && not (has c.items y))
  removed-is y = ap (λ os. among_objects os y) made.removes ∙ beyond-is c.items (c.slots c.object c.feature) y

  pub added_new : (y : ℕ) → is_added c y ≡ true → has c.items y ≡ true
  added_new y h = and_left _ _ (sym (added-is y) ∙ h)

  pub added_free : (y : ℕ) → is_added c y ≡ true → has (c.slots c.object c.feature) y ≡ false
  added_free y h = not_true _ (and_right (has c.items y) _ (sym (added-is y) ∙ h))

  pub adds : (y : ℕ) → has c.items y ≡ true → has (c.slots c.object c.feature) y ≡ false → is_added c y ≡ true
  adds y h n = added-is y ∙ and_both _ _ h (not_of_false _ n)

  pub not_added : (y : ℕ) → has (c.slots c.object c.feature) y ≡ true → is_added c y ≡ false
  not_added y was = refuted _ (λ h. clash _ was (added_free y h))

  pub removes : (y : ℕ) → has (c.slots c.object c.feature) y ≡ true → has c.items y ≡ false → is_removed c y ≡ true
  removes y h n = removed-is y ∙ and_both _ _ h (not_of_false _ n)

  pub removed_old : (y : ℕ) → is_removed c y ≡ true → has (c.slots c.object c.feature) y ≡ true
  removed_old y h = and_left _ _ (sym (removed-is y) ∙ h)

  pub not_removed : (y : ℕ) → has c.items y ≡ true → is_removed c y ≡ false
  not_removed y h = refuted _ (λ r. clash _ h (not_true _ (and_right (has (c.slots c.object c.feature) y) _ (sym (removed-is y) ∙ r))))

pub data HeldAfter (c : Change) (x f y : ℕ) : Type 0 where
  given : is_here c x f ≡ true → has c.items y ≡ true → HeldAfter c x f y
  kept : is_here c x f ≡ false → has (c.slots x f) y ≡ true → loses c x f y ≡ false → HeldAfter c x f y
  gained : is_here c x f ≡ false → gains c x f ≡ true → c.object ≡ y → HeldAfter c x f y

pub has-with_object : (o : ℕ) (vs : List Value) (y : ℕ) → has (with_object o vs) y ≡ (has vs y || (o == y))
has-with_object o vs y = go (has vs o) refl
  where
    go : (b : Bool) → has vs o ≡ b → has (cond b vs (vs ++ object_value o ∷ [])) y ≡ (has vs y || (o == y))
    go false e = has-push vs (object_value o) y
    go true e = elim (either (o == y)) [
      | inl same ↦ (let at : o ≡ y = (Decides-eqb o y).0 same in subst (λ n. has vs n ≡ true) at e) ∙ sym (or_right (has vs y) (o == y) same)
      | inr other ↦ sym (ap (λ b. has vs y || b) other ∙ or_false (has vs y))
    ]

abbrev staying : Change → ℕ → ℕ → List Value
staying c x f = filter (keeps c x f) (c.slots x f)

pub held_after : (c : Change) (x f y : ℕ) → has (slot_after c x f) y ≡ true → HeldAfter c x f y
held_after c x f y = go (is_here c x f) refl (gains c x f) refl (is_single c.metas f)
  where
    rest : has (staying c x f) y ≡ true → is_here c x f ≡ false → HeldAfter c x f y
    rest h n = let both : (has (c.slots x f) y && not (loses c x f y)) ≡ true = sym (has-filter (loses c x f) (c.slots x f) y) ∙ h in
        kept n (and_left _ _ both) (not_true _ (and_right (has (c.slots x f) y) _ both))

    go : (b : Bool) → is_here c x f ≡ b → (g : Bool) → gains c x f ≡ g → (s : Bool) →
        has (cond b c.items (cond g (cond s (object_value c.object ∷ []) (with_object c.object (staying c x f))) (staying c x f))) y ≡ true → HeldAfter c x f y
    go true e g k s h = given e h
    go false e true k true h = gained e k ((Decides-eqb c.object y).0 (sym (or_false (c.object == y)) ∙ h))
    go false e true k false h = elim (or_cases _ _ (sym (has-with_object c.object (staying c x f) y) ∙ h)) [
      | inl old ↦ rest old e
      | inr new ↦ gained e k ((Decides-eqb c.object y).0 new)
    ]
    go false e false k s h = rest h e

-- what is not replaced in a single opposite slot is the changed object
unreplaced : (g s e : Bool) → g ≡ true → s ≡ true → (g && s && not e) ≡ false → e ≡ true
unreplaced g s true a b h = refl
unreplaced g s false a b h = clash _ (and_both _ _ (and_both _ _ a b) refl) h

pub after_held : (c : Change) (x f y : ℕ) → HeldAfter c x f y → has (slot_after c x f) y ≡ true
after_held c x f y (given e h) = go (is_here c x f) e
  where
    go : (b : Bool) → b ≡ true → has (cond b c.items (slot_elsewhere c x f)) y ≡ true
    go true e = h
    go false e = cc
after_held c x f y (kept e h l) = go (is_here c x f) e (gains c x f) refl (is_single c.metas f) refl
  where
    stays : has (staying c x f) y ≡ true
    stays = has-filter (loses c x f) (c.slots x f) y ∙ and_both _ _ h (not_of_false _ l)

    in_place : is_replaced c x f y ≡ false
    in_place = none_right (is_taken c x f y) _ (none_left _ (is_moved_in c x f y) (none_left _ (is_moved c x f y) (none_left (leaves c x f y) _ l)))

    go : (b : Bool) → b ≡ false → (g : Bool) → gains c x f ≡ g → (s : Bool) → is_single c.metas f ≡ s →
        has (cond b c.items (cond g (cond s (object_value c.object ∷ []) (with_object c.object (staying c x f))) (staying c x f))) y ≡ true
    go true e g k s t = cc
    go false e true k true t =
        let same : c.object ≡ y = sym ((Decides-eqb y c.object).0 (unreplaced (gains c x f) (is_single c.metas f) (y == c.object) k t in_place)) in
        or_left _ _ ((Decides-eqb c.object y).1 same)
    go false e true k false t = has-with_object c.object (staying c x f) y ∙ or_left _ _ stays
    go false e false k s t = stays
after_held c x f y (gained e k at) = go (is_here c x f) e (gains c x f) k (is_single c.metas f)
  where
    go : (b : Bool) → b ≡ false → (g : Bool) → g ≡ true → (s : Bool) →
        has (cond b c.items (cond g (cond s (object_value c.object ∷ []) (with_object c.object (staying c x f))) (staying c x f))) y ≡ true
    go true e g k s = cc
    go false e true k true = or_left _ _ ((Decides-eqb c.object y).1 at)
    go false e true k false = has-with_object c.object (staying c x f) y ∙ or_right (has (staying c x f) y) _ ((Decides-eqb c.object y).1 at)
    go false e false k s = cc
