-- A change keeps that an object stands in one containment slot at most.
use Rattle.std.proofs.Common.{◌≡◌, ℕ, ◌≤◌, true, false, inl, inr, sym, ◌∙◌, subst, length}
use Rattle.std.proofs.lemmas.Bool.Decides.{Decides-eqb}
use Rattle.qvt_metamodel.specs.Metamodels.{opposite, is_opposite, is_containment}
use Rattle.qvt_metamodel.specs.WellFormed.{IsWellFormed}
use Rattle.qvt_relation.proofs.Bools.{and_left, and_right, and_both, or_left, not_of_false, either, clash, third_of_4, fourth_of_4}
use Rattle.qvt_slots.specs.Slots.{has, OneContainer}
use Rattle.qvt_slots.specs.Change.{Change, is_here, is_container, gains, is_taken, is_replaced, is_moved_in, is_moved, leaves, loses, slot_after}
use Rattle.qvt_store_laws.specs.Law.{HasDifferences, FitsSingle}
use Rattle.qvt_slots.proofs.Objects.{one_object, some_among}
use Rattle.qvt_store_laws.proofs.Held.{given, kept, gained, held_after, added_new, adds}
use Rattle.qvt_store_laws.proofs.Opposites.{same_number, container-of, here}

module _ (c : Change) (made : HasDifferences c) (well : IsWellFormed c.metas) (fits : FitsSingle c) (old : OneContainer c.metas c.slots) where
  abbrev Same : ℕ → ℕ → ℕ → ℕ → Type 0
  Same x f x' f' = (x ≡ x') × (f ≡ f')

  same_sym : (x f x' f' : ℕ) → Same x f x' f' → Same x' f' x f
  same_sym x f x' f' s = (sym s.0, sym s.1)

  -- the new list of a containment, and a slot that kept an item
  given_kept : (x f x' f' y : ℕ) → is_containment c.metas f ≡ true → is_containment c.metas f' ≡ true →
      is_here c x f ≡ true → has c.items y ≡ true → is_here c x' f' ≡ false → has (c.slots x' f') y ≡ true → loses c x' f' y ≡ false → Same x f x' f'
  given_kept x f x' f' y k k' at new n was stays =
      let x_is : x ≡ c.object = (here c x f at).0 in
      let f_is : f ≡ c.feature = (here c x f at).1 in
      let kp : is_containment c.metas c.feature ≡ true = subst (λ g. is_containment c.metas g ≡ true) f_is k in
      elim (either (has (c.slots c.object c.feature) y)) [
        | inl held ↦
            let s : (c.object ≡ x') × (c.feature ≡ f') = old.one c.object c.feature x' f' y kp k' held was in
            (x_is ∙ s.0, f_is ∙ s.1)
        | inr free ↦ clash (loses c x' f' y) (or_left (leaves c x' f' y) _ (third_of_4 (is_taken c x' f' y) (is_replaced c x' f' y) (is_moved_in c x' f' y) (is_moved c x' f' y)
            (and_both _ _ (and_both _ _ (and_both _ _ kp k') (adds c made y new free)) (not_of_false _ n)))) stays
      ]

  gains_container : (x f : ℕ) → is_containment c.metas f ≡ true → gains c x f ≡ true → is_container c.metas c.feature ≡ true
  gains_container x f k g = container-of c.metas (opposite c.metas c.feature) f (and_left _ _ g) ∙ k

  one_item : (x f : ℕ) → is_containment c.metas f ≡ true → gains c x f ≡ true → length c.items ≤ 1
  one_item x f k g = fits.single (well.one_container f c.feature (well.mutual_opposites c.feature f (and_left _ _ g)) k)

  gained_new : (x f : ℕ) → gains c x f ≡ true → has c.items x ≡ true
  gained_new x f g = added_new c made x (and_right (is_opposite c.metas c.feature f) _ g)

  both_gain : (x f x' f' : ℕ) → is_containment c.metas f ≡ true → gains c x f ≡ true → gains c x' f' ≡ true → Same x f x' f'
  both_gain x f x' f' k g g' = (one_object c.items x x' (one_item x f k g) (gained_new x f g) (gained_new x' f' g'), same_number (opposite c.metas c.feature) f f' (and_left _ _ g) (and_left _ _ g'))

  given_gained : (x f x' f' : ℕ) → is_containment c.metas f ≡ true → is_containment c.metas f' ≡ true → is_here c x f ≡ true → gains c x' f' ≡ true → Same x f x' f'
  given_gained x f x' f' k k' at g = clash (is_containment c.metas f') k' (well.one_containment c.feature f' (and_left _ _ g) (subst (λ n. is_containment c.metas n ≡ true) (here c x f at).1 k))

  kept_gained : (x f x' f' y : ℕ) → is_containment c.metas f ≡ true → is_containment c.metas f' ≡ true → loses c x f y ≡ false → gains c x' f' ≡ true → c.object ≡ y → Same x f x' f'
  kept_gained x f x' f' y k k' stays g at = elim (either (gains c x f)) [
    | inl g' ↦ both_gain x f x' f' k g' g
    | inr n ↦ clash (loses c x f y) (or_left (leaves c x f y) _ (fourth_of_4 (is_taken c x f y) (is_replaced c x f y) (is_moved_in c x f y) (is_moved c x f y)
        (and_both _ _ (and_both _ _ (and_both _ _ (and_both _ _ (gains_container x' f' k' g) (some_among c.added x' (and_right (is_opposite c.metas c.feature f') _ g))) k)
        ((Decides-eqb y c.object).1 (sym at))) (not_of_false _ n)))) stays
  ]

  pub keeps_one_container : OneContainer c.metas (slot_after c)
  keeps_one_container = record {
    one = λ x f x' f' y k k' h h'. elim (held_after c x f y h) [
      | given at new ↦ elim (held_after c x' f' y h') [
        | given at' new' ↦ ((here c x f at).0 ∙ sym (here c x' f' at').0, (here c x f at).1 ∙ sym (here c x' f' at').1)
        | kept n' was' stays' ↦ given_kept x f x' f' y k k' at new n' was' stays'
        | gained n' g' at' ↦ given_gained x f x' f' k k' at g'
      ]
      | kept n was stays ↦ elim (held_after c x' f' y h') [
        | given at' new' ↦ same_sym x' f' x f (given_kept x' f' x f y k' k at' new' n was stays)
        | kept n' was' stays' ↦ old.one x f x' f' y k k' was was'
        | gained n' g' at' ↦ kept_gained x f x' f' y k k' stays g' at'
      ]
      | gained n g at ↦ elim (held_after c x' f' y h') [
        | given at' new' ↦ same_sym x' f' x f (given_gained x' f' x f k' k at' g)
        | kept n' was' stays' ↦ same_sym x' f' x f (kept_gained x' f' x f y k' k stays' g at)
        | gained n' g' at' ↦ both_gain x f x' f' k g g'
      ]
    ];
  }
