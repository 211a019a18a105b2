-- A slot that no rule names has the list that it had.
use Rattle.std.proofs.Common.{◌≡◌, ℕ, Bool, true, false, ◌||◌, ◌&&◌, ◌==◌, not, cond, inl, inr, refl, ap, ◌∙◌, subst, List, [], ◌∷◌}
use Rattle.std.specs.Prelude.{Option, Some, None, filter}
use Rattle.std.specs.List.{list_any}
use Rattle.std.proofs.lemmas.Bool.Decides.{Decides-eqb}
use Rattle.qvt_base.specs.declared.numbers.FeatureNo.{FeatureNo}
use Rattle.qvt_value.specs.declared.value.Value.{Value}
use Rattle.qvt_metamodel.specs.Metamodels.{opposite, is_opposite, is_feature_number, is_containment}
use Rattle.qvt_metamodel.specs.WellFormed.{IsWellFormed}
use Rattle.qvt_relation.proofs.Bools.{and_left, and_right, and_false, and_false_left, or_left, or_right, or_cases, or_none, none_left, none_right, none_of, refuted, clash}
use Rattle.qvt_slots.specs.Slots.{object_in, passes, is_object, has}
use Rattle.qvt_slots.specs.Change.{Change, is_some_object, among_objects, is_here, is_added, is_removed, names_containment, is_container, gains, is_taken, is_replaced, is_moved_in, is_moved, leaves, is_left, loses, keeps, with_end, slot_elsewhere}
use Rattle.qvt_store_laws.proofs.Opposites.{same_number, here}

-- the ways in which slot (x, f) may get another list
pub data Touched (c : Change) (x f : ℕ) : Type 0 where
  touched_itself : is_here c x f ≡ true → Touched c x f
  opposite_old : is_opposite c.metas c.feature f ≡ true → is_removed c x ≡ true → Touched c x f
  opposite_new : is_opposite c.metas c.feature f ≡ true → is_added c x ≡ true → Touched c x f
  other_owner : (a q : ℕ) → is_opposite c.metas c.feature q ≡ true → is_added c a ≡ true → has (c.slots a q) x ≡ true → f ≡ c.feature → Touched c x f
  old_container : (a : ℕ) → is_containment c.metas c.feature ≡ true → is_added c a ≡ true → is_containment c.metas f ≡ true → has (c.slots x f) a ≡ true → Touched c x f
  old_container_end : (y g : ℕ) → is_containment c.metas c.feature ≡ true → is_added c x ≡ true → is_containment c.metas g ≡ true → has (c.slots y g) x ≡ true → is_opposite c.metas g f ≡ true → Touched c x f
  own_container : is_container c.metas c.feature ≡ true → is_containment c.metas f ≡ true → has (c.slots x f) c.object ≡ true → Touched c x f
  own_container_end : (y g : ℕ) → is_container c.metas c.feature ≡ true → x ≡ c.object → is_containment c.metas g ≡ true → has (c.slots y g) x ≡ true → is_opposite c.metas g f ≡ true → Touched c x f

filter_all : (keep : Value → Bool) (vs : List Value) → list_any (λ v. not (keep v)) vs ≡ false → filter keep vs ≡ vs
filter_all keep [] h = refl
filter_all keep (v ∷ vs) h = go (keep v) (none_left (not (keep v)) _ h) (filter_all keep vs (none_right (not (keep v)) _ h))
  where
    go : (b : Bool) → not b ≡ false → filter keep vs ≡ vs → cond b (v ∷ filter keep vs) (filter keep vs) ≡ v ∷ vs
    go true e ih = ap (λ t. v ∷ t) ih
    go false e ih = cc

module _ (c : Change) (well : IsWellFormed c.metas) where
  loses_touched : (x f y : ℕ) → has (c.slots x f) y ≡ true → loses c x f y ≡ true → Touched c x f
  loses_touched x f y h l = elim (or_cases (leaves c x f y) (is_left c (opposite c.metas f) x y) l) [
    | inl out ↦ elim (or_cases (is_taken c x f y || is_replaced c x f y || is_moved_in c x f y) (is_moved c x f y) out) [
      | inl a ↦ elim (or_cases (is_taken c x f y || is_replaced c x f y) (is_moved_in c x f y) a) [
        | inl b ↦ elim (or_cases (is_taken c x f y) (is_replaced c x f y) b) [
          | inl d ↦ touched_itself (and_left _ _ d)
          | inr d ↦ let g : gains c x f ≡ true = and_left _ _ (and_left _ _ d) in opposite_new (and_left _ _ g) (and_right (is_opposite c.metas c.feature f) _ g)
        ]
        | inr b ↦
            let d : (is_containment c.metas c.feature && is_containment c.metas f && is_added c y) ≡ true = and_left _ _ b in
            let e : (is_containment c.metas c.feature && is_containment c.metas f) ≡ true = and_left _ _ d in
            old_container y (and_left _ _ e) (and_right (is_containment c.metas c.feature && is_containment c.metas f) _ d) (and_right (is_containment c.metas c.feature) _ e) h
      ]
      | inr a ↦
          let b : (is_container c.metas c.feature && is_some_object c.added && is_containment c.metas f && (y == c.object)) ≡ true = and_left _ _ a in
          let d : (is_container c.metas c.feature && is_some_object c.added && is_containment c.metas f) ≡ true = and_left _ _ b in
          own_container (and_left _ _ (and_left _ _ d)) (and_right (is_container c.metas c.feature && is_some_object c.added) _ d)
          (subst (λ n. has (c.slots x f) n ≡ true) ((Decides-eqb y c.object).0 (and_right (is_container c.metas c.feature && is_some_object c.added && is_containment c.metas f) _ b)) h)
    ]
    | inr away ↦ mirrored (opposite c.metas f) refl away
  ]
    where
      mirrored : (q : Option FeatureNo) → opposite c.metas f ≡ q → is_left c q x y ≡ true → Touched c x f
      mirrored None e away = cc
      mirrored (Some g) e away =
          let opp : is_opposite c.metas f g.0 ≡ true = ap (λ r. is_feature_number r g.0) e ∙ (Decides-eqb g.0 g.0).1 refl in
          let back : is_opposite c.metas g.0 f ≡ true = well.mutual_opposites f g.0 opp in
          let held : has (c.slots y g.0) x ≡ true = and_left _ _ away in
          let out : leaves c y g.0 x ≡ true = and_right (has (c.slots y g.0) x) _ away in
          elim (or_cases (is_taken c y g.0 x || is_replaced c y g.0 x || is_moved_in c y g.0 x) (is_moved c y g.0 x) out) [
            | inl a ↦ elim (or_cases (is_taken c y g.0 x || is_replaced c y g.0 x) (is_moved_in c y g.0 x) a) [
              | inl b ↦ elim (or_cases (is_taken c y g.0 x) (is_replaced c y g.0 x) b) [
                | inl d ↦
                    let at : is_here c y g.0 ≡ true = and_left _ _ d in
                    opposite_old (subst (λ n. is_opposite c.metas n f ≡ true) (here c y g.0 at).1 back) (and_right (is_here c y g.0) _ d)
                | inr d ↦
                    let k : gains c y g.0 ≡ true = and_left _ _ (and_left _ _ d) in
                    let opp' : is_opposite c.metas c.feature g.0 ≡ true = and_left _ _ k in
                    other_owner y g.0 opp' (and_right (is_opposite c.metas c.feature g.0) _ k) held (same_number (opposite c.metas g.0) f c.feature back (well.mutual_opposites c.feature g.0 opp'))
              ]
              | inr b ↦
                  let d : (is_containment c.metas c.feature && is_containment c.metas g.0 && is_added c x) ≡ true = and_left _ _ b in
                  let k : (is_containment c.metas c.feature && is_containment c.metas g.0) ≡ true = and_left _ _ d in
                  old_container_end y g.0 (and_left _ _ k) (and_right (is_containment c.metas c.feature && is_containment c.metas g.0) _ d) (and_right (is_containment c.metas c.feature) _ k) held back
            ]
            | inr a ↦
                let b : (is_container c.metas c.feature && is_some_object c.added && is_containment c.metas g.0 && (x == c.object)) ≡ true = and_left _ _ a in
                let d : (is_container c.metas c.feature && is_some_object c.added && is_containment c.metas g.0) ≡ true = and_left _ _ b in
                own_container_end y g.0 (and_left _ _ (and_left _ _ d)) ((Decides-eqb x c.object).0 (and_right (is_container c.metas c.feature && is_some_object c.added && is_containment c.metas g.0) _ b))
                (and_right (is_container c.metas c.feature && is_some_object c.added) _ d) held back
          ]

  none_lost : (x f : ℕ) (vs : List Value) → ((y : ℕ) → has vs y ≡ true → loses c x f y ≡ true → ⊥) → list_any (λ v. not (keeps c x f v)) vs ≡ false
  none_lost x f [] h = refl
  none_lost x f (v ∷ vs) h = or_none _ _ (at (object_in v) (λ y e. or_left _ _ (ap (λ o. passes (λ x. x == y) o) e ∙ (Decides-eqb y y).1 refl))) (none_lost x f vs (λ y k l. h y (or_right (is_object y v) _ k) l))
    where
      twice : (b : Bool) → b ≡ false → not (not b) ≡ false
      twice true e = e
      twice false e = e

      at : (o : Option ℕ) → ((y : ℕ) → o ≡ Some y → has (v ∷ vs) y ≡ true) → not (not (passes (loses c x f) o)) ≡ false
      at None k = refl
      at (Some y) k = twice (loses c x f y) (refuted _ (λ l. h y (k y refl) l))

  pub untouched : (x f : ℕ) → (Touched c x f → ⊥) → slot_elsewhere c x f ≡ c.slots x f
  untouched x f free = go (gains c x f) refl
    where
      same : filter (keeps c x f) (c.slots x f) ≡ c.slots x f
      same = filter_all (keeps c x f) (c.slots x f) (none_lost x f (c.slots x f) (λ y h l. free (loses_touched x f y h l)))

      go : (g : Bool) → gains c x f ≡ g → cond g (with_end c f (filter (keeps c x f) (c.slots x f))) (filter (keeps c x f) (c.slots x f)) ≡ c.slots x f
      go true k = absurd (free (opposite_new (and_left _ _ k) (and_right (is_opposite c.metas c.feature f) _ k)))
      go false k = same

-- a change by which no slot gains or loses leaves all other slots
module _ (c : Change) (well : IsWellFormed c.metas) (no_gain : (x f : ℕ) → gains c x f ≡ false) (no_leave : (x f y : ℕ) → leaves c x f y ≡ false) where
  no_left : (q : Option FeatureNo) (x y : ℕ) → is_left c q x y ≡ false
  no_left None x y = refl
  no_left (Some g) x y = and_false (has (c.slots y g.0) x) _ (λ _. no_leave y g.0 x)

  quiet_stay : (x f : ℕ) → slot_elsewhere c x f ≡ c.slots x f
  quiet_stay x f = go (gains c x f) (no_gain x f)
    where
      same : filter (keeps c x f) (c.slots x f) ≡ c.slots x f
      same = filter_all (keeps c x f) (c.slots x f) (none_lost c well x f (c.slots x f) (λ y h l. clash _ l (or_none _ _ (no_leave x f y) (no_left (opposite c.metas f) x y))))

      go : (g : Bool) → g ≡ false → cond g (with_end c f (filter (keeps c x f) (c.slots x f))) (filter (keeps c x f) (c.slots x f)) ≡ c.slots x f
      go true e = cc
      go false e = same

-- a change that adds and removes no object leaves all other slots
module _ (c : Change) (well : IsWellFormed c.metas) (none : c.added ≡ []) (gone : c.removed ≡ []) where
  no_added : (y : ℕ) → is_added c y ≡ false
  no_added y = ap (λ os. among_objects os y) none

  no_removed : (y : ℕ) → is_removed c y ≡ false
  no_removed y = ap (λ os. among_objects os y) gone

  no_gain : (x f : ℕ) → gains c x f ≡ false
  no_gain x f = and_false (is_opposite c.metas c.feature f) _ (λ _. no_added x)

  no_leave : (x f y : ℕ) → leaves c x f y ≡ false
  no_leave x f y = none_of (is_taken c x f y) (is_replaced c x f y) (is_moved_in c x f y) (is_moved c x f y)
      (and_false (is_here c x f) _ (λ _. no_removed y))
      (and_false_left _ _ (and_false_left _ _ (no_gain x f)))
      (and_false_left _ _ (and_false (is_containment c.metas c.feature && is_containment c.metas f) _ (λ _. no_added y)))
      (and_false_left _ _ (and_false_left _ _ (and_false_left _ _ (and_false (is_container c.metas c.feature) _ (λ _. ap is_some_object none)))))

  pub all_stay : (x f : ℕ) → slot_elsewhere c x f ≡ c.slots x f
  all_stay = quiet_stay c well no_gain no_leave

-- so does one of a slot that is no containment and has no opposite, where no object is removed
module _ (c : Change) (well : IsWellFormed c.metas) (alone : opposite c.metas c.feature ≡ None) (plain : is_containment c.metas c.feature ≡ false) (gone : c.removed ≡ []) where
  never_gain : (x f : ℕ) → gains c x f ≡ false
  never_gain x f = and_false_left (is_opposite c.metas c.feature f) _ (ap (λ q. is_feature_number q f) alone)

  never_leave : (x f y : ℕ) → leaves c x f y ≡ false
  never_leave x f y = none_of (is_taken c x f y) (is_replaced c x f y) (is_moved_in c x f y) (is_moved c x f y)
      (and_false (is_here c x f) _ (λ _. ap (λ os. among_objects os y) gone))
      (and_false_left _ _ (and_false_left _ _ (never_gain x f)))
      (and_false_left _ _ (and_false_left _ _ (and_false_left _ _ plain)))
      (and_false_left _ _ (and_false_left _ _ (and_false_left _ _ (and_false_left _ _ (ap (names_containment c.metas) alone)))))

  pub alone_stay : (x f : ℕ) → slot_elsewhere c x f ≡ c.slots x f
  alone_stay = quiet_stay c well never_gain never_leave
