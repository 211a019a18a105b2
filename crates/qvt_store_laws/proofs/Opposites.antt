-- A change keeps that opposite slots agree.
use Rattle.std.proofs.Common.{◌≡◌, ℕ, ◌≤◌, true, false, ◌&&◌, ◌==◌, inl, inr, refl, sym, ap, ◌∙◌, subst, length}
use Rattle.std.specs.Prelude.{Option, Some, None}
use Rattle.std.proofs.lemmas.Bool.Decides.{Decides-eqb}
use Rattle.qvt_base.specs.declared.numbers.FeatureNo.{FeatureNo}
use Rattle.qvt_metamodel.specs.Metamodels.{Metamodels, opposite, is_opposite, is_feature_number, is_containment}
use Rattle.qvt_metamodel.specs.WellFormed.{IsWellFormed}
use Rattle.qvt_relation.proofs.Bools.{and_left, and_right, and_both, and_false, and_false_left, or_none, none_left, none_right, not_of_true, either, refuted, clash, none_of, first_of_4}
use Rattle.qvt_slots.specs.Slots.{has, OppositesAgree}
use Rattle.qvt_slots.specs.Change.{Change, is_some_object, is_here, is_added, names_containment, is_container, gains, is_taken, is_replaced, is_moved_in, is_moved, leaves, is_left, loses, slot_after}
use Rattle.qvt_store_laws.specs.Law.{HasDifferences, FitsSingle}
use Rattle.qvt_slots.proofs.Objects.{none_beyond}
use Rattle.qvt_store_laws.proofs.Held.{HeldAfter, given, kept, gained, held_after, after_held, added_new, adds, not_added, removes, not_removed}

-- a feature has one opposite
pub same_number : (q : Option FeatureNo) (g h : ℕ) → is_feature_number q g ≡ true → is_feature_number q h ≡ true → g ≡ h
same_number None g h a b = cc
same_number (Some q) g h a b = sym ((Decides-eqb q.0 g).0 a) ∙ (Decides-eqb q.0 h).0 b

-- what the mirror of a loss is, where the opposite is known
pub left-of : (c : Change) (q : Option FeatureNo) (x y g : ℕ) → is_feature_number q g ≡ true → is_left c q x y ≡ (has (c.slots y g) x && leaves c y g x)
left-of c None x y g e = cc
left-of c (Some q) x y g e = ap (λ n. has (c.slots y n) x && leaves c y n x) ((Decides-eqb q.0 g).0 e)

pub container-of : (m : Metamodels) (q : Option FeatureNo) (g : ℕ) → is_feature_number q g ≡ true → names_containment m q ≡ is_containment m g
container-of m None g e = cc
container-of m (Some q) g e = ap (is_containment m) ((Decides-eqb q.0 g).0 e)

pub here : (c : Change) (x f : ℕ) → is_here c x f ≡ true → (x ≡ c.object) × (f ≡ c.feature)
here c x f h = ((Decides-eqb x c.object).0 (and_left _ _ h), (Decides-eqb f c.feature).0 (and_right (x == c.object) _ h))

pub here_again : (c : Change) → is_here c c.object c.feature ≡ true
here_again c = and_both _ _ ((Decides-eqb c.object c.object).1 refl) ((Decides-eqb c.feature c.feature).1 refl)

module _ (c : Change) (made : HasDifferences c) (well : IsWellFormed c.metas) (fits : FitsSingle c) (old : OppositesAgree c.metas c.slots) where
  not_itself : (g : ℕ) → is_opposite c.metas c.feature g ≡ true → g ≡ c.feature → ⊥
  not_itself g e same = clash _ e (subst (λ k. is_opposite c.metas c.feature k ≡ false) (sym same) (well.other_feature c.feature))

  not_here : (y g : ℕ) → is_opposite c.metas c.feature g ≡ true → is_here c y g ≡ false
  not_here y g e = refuted _ (λ h. not_itself g e (here c y g h).1)

  -- an old item that stays: the opposite slot does not lose the changed object
  old_stays : (y g : ℕ) → is_opposite c.metas c.feature g ≡ true → has c.items y ≡ true → has (c.slots c.object c.feature) y ≡ true → loses c y g c.object ≡ false
  old_stays y g e new was = or_none _ _ direct (left-of c (opposite c.metas g) y c.object c.feature back ∙ and_false _ _ (λ _. mirrored))
    where
      back : is_opposite c.metas g c.feature ≡ true
      back = well.mutual_opposites c.feature g e

      no_gain : gains c y g ≡ false
      no_gain = and_false (is_opposite c.metas c.feature g) _ (λ _. not_added c made y was)

      one_item : is_container c.metas c.feature ≡ true → length c.items ≤ 1
      one_item k = fits.single (well.one_container g c.feature back (sym (container-of c.metas (opposite c.metas c.feature) g e) ∙ k))

      none_added : is_container c.metas c.feature ≡ true → is_some_object c.added ≡ false
      none_added k = ap is_some_object made.adds ∙ none_beyond (c.slots c.object c.feature) c.items y (one_item k) new was

      direct : leaves c y g c.object ≡ false
      direct = none_of (is_taken c y g c.object) (is_replaced c y g c.object) (is_moved_in c y g c.object) (is_moved c y g c.object)
          (and_false_left _ _ (not_here y g e))
          (and_false_left _ _ (and_false_left _ _ no_gain))
          (and_false_left _ _ (and_false_left _ _ (and_false (is_containment c.metas c.feature) _ (λ k. well.one_containment c.feature g e k))))
          (and_false_left _ _ (and_false_left _ _ (and_false_left _ _ (and_false (is_container c.metas c.feature) _ (λ k. none_added k)))))

      mirrored : leaves c c.object c.feature y ≡ false
      mirrored = none_of (is_taken c c.object c.feature y) (is_replaced c c.object c.feature y) (is_moved_in c c.object c.feature y) (is_moved c c.object c.feature y)
          (and_false (is_here c c.object c.feature) _ (λ _. not_removed c made y new))
          (and_false_left _ _ (and_false_left _ _ (and_false_left _ _ (well.other_feature c.feature))))
          (and_false (is_containment c.metas c.feature && is_containment c.metas c.feature && is_added c y) _ (λ _. not_of_true _ (here_again c)))
          (and_false_left _ _ (and_false_left _ _ (and_false (is_container c.metas c.feature && is_some_object c.added) _ (λ k.
          well.one_containment g c.feature back (sym (container-of c.metas (opposite c.metas c.feature) g e) ∙ and_left _ _ k)))))

  from_given : (x f y g : ℕ) → x ≡ c.object → f ≡ c.feature → is_opposite c.metas f g ≡ true → has c.items y ≡ true → HeldAfter c y g x
  from_given x f y g at of e new =
      let e' : is_opposite c.metas c.feature g ≡ true = subst (λ k. is_opposite c.metas k g ≡ true) of e in
      elim (either (has (c.slots c.object c.feature) y)) [
        | inl was ↦ subst (λ k. HeldAfter c y g k) (sym at) (kept (not_here y g e') (old.agree c.object c.feature y g e' was) (old_stays y g e' new was))
        | inr was ↦ gained (not_here y g e') (and_both _ _ e' (adds c made y new was)) (sym at)
      ]

  from_kept : (x f y g : ℕ) → is_opposite c.metas f g ≡ true → has (c.slots x f) y ≡ true → loses c x f y ≡ false → HeldAfter c y g x
  from_kept x f y g e was stays =
      elim (either (is_here c y g)) [
        | inl h ↦ given h (elim (either (has c.items x)) [
          | inl new ↦ new
          | inr gone ↦
              let y_is : y ≡ c.object = (here c y g h).0 in
              let g_is : g ≡ c.feature = (here c y g h).1 in
              let was' : has (c.slots c.object c.feature) x ≡ true = subst (λ k. has (c.slots k c.feature) x ≡ true) y_is (subst (λ k. has (c.slots y k) x ≡ true) g_is back_held) in
              clash (leaves c y g x) (first_of_4 (is_taken c y g x) (is_replaced c y g x) (is_moved_in c y g x) (is_moved c y g x) (and_both _ _ h (removes c made x was' gone))) mirror_stays
        ])
        | inr h ↦ kept h back_held (or_none _ _ mirror_stays (left-of c (opposite c.metas g) y x f (well.mutual_opposites f g e) ∙ and_false (has (c.slots x f) y) _ (λ _. none_left (leaves c x f y) (is_left c (opposite c.metas f) x y) stays)))
      ]
    where
      back_held : has (c.slots y g) x ≡ true
      back_held = old.agree x f y g e was

      mirror_stays : leaves c y g x ≡ false
      mirror_stays = elim (either (leaves c y g x)) [
        | inl l ↦ clash _ (left-of c (opposite c.metas f) x y g e ∙ and_both _ _ back_held l) (none_right (leaves c x f y) _ stays)
        | inr l ↦ l
      ]

  from_gained : (x f y g : ℕ) → is_opposite c.metas f g ≡ true → gains c x f ≡ true → c.object ≡ y → HeldAfter c y g x
  from_gained x f y g e k at =
      let of : is_opposite c.metas c.feature f ≡ true = and_left _ _ k in
      let g_is : c.feature ≡ g = same_number (opposite c.metas f) c.feature g (well.mutual_opposites c.feature f of) e in
      subst (λ n. HeldAfter c y n x) g_is (subst (λ n. HeldAfter c n c.feature x) at (given (here_again c) (added_new c made x (and_right (is_opposite c.metas c.feature f) _ k))))

  pub keeps_opposites : OppositesAgree c.metas (slot_after c)
  keeps_opposites = record {
    agree = λ x f y g e h. after_held c y g x (elim (held_after c x f y h) [
      | given at new ↦ from_given x f y g (here c x f at).0 (here c x f at).1 e new
      | kept n was stays ↦ from_kept x f y g e was stays
      | gained n k at ↦ from_gained x f y g e k at
    ]);
  }
