-- Writes planned one after another.
use Rattle.std.proofs.Common.{◌≡◌, ℕ, ◌<◌, ◌+◌, Bool, true, false, ◌||◌, ◌==◌, ◌⊎◌, inl, inr, refl, sym, ap, ◌∙◌, subst, List, [], ◌∷◌, ◌++◌, length, take, get_or}
use Rattle.std.specs.Prelude.{Option, Some, None}
use Rattle.std.proofs.lemmas.List.Elements.{All-push}
use Rattle.std.proofs.lemmas.Bool.Decides.{Decides-eqb}
use Rattle.qvt_base.specs.declared.numbers.FeatureNo.{FeatureNo}
use Rattle.qvt_base.specs.declared.numbers.Oid.{Oid}
use Rattle.qvt_value.specs.declared.value.Value.{Value}
use Rattle.qvt_metamodel.specs.Metamodels.{Metamodels, opposite, is_opposite, is_containment, is_feature_number}
use Rattle.qvt_relation.proofs.Bools.{and_both, or_cases, or_left, or_right, or_false, clash}
use Rattle.qvt_slots.specs.declared.cell.Holder.{Holder}
use Rattle.qvt_slots.specs.declared.commit.Write.{Write}
use Rattle.qvt_slots.specs.Slots.{has}
use Rattle.qvt_slots.specs.Change.{Change, among_objects, is_here, is_container}
use Rattle.qvt_slots.specs.Contents.{Contents, is_slot, slot_of}
use Rattle.qvt_slots.specs.Cells.{holder_in}
use Rattle.qvt_store.specs.Plan.{is_write_of, listed, IsRight, Extends, Plans, IsSlotOf, IsSlotOfSome, IsHeldSlot, IsOppositeSlot, IsOwnerSlot, IsAround, holding, opposed, IsAroundSome, IsOpposed, before, after, owner, IsRehoused, items, itself}
use Rattle.qvt_slots.proofs.Holds.{among-more, has-more}

pub listed-push : (ws : List Write) (w : Write) (x f : ℕ) → listed (ws ++ w ∷ []) x f ≡ (listed ws x f || is_write_of x f w)
listed-push [] w x f = or_false (is_write_of x f w)
listed-push (v ∷ ws) w x f = go (is_write_of x f v) (listed-push ws w x f)
  where
    go : (b : Bool) → listed (ws ++ w ∷ []) x f ≡ (listed ws x f || is_write_of x f w) → (b || listed (ws ++ w ∷ []) x f) ≡ ((b || listed ws x f) || is_write_of x f w)
    go true ih = refl
    go false ih = ih

pub more_cases : (os : List Oid) (i : ℕ) (d : Oid) (x : ℕ) → i < length os → among_objects (take (i + 1) os) x ≡ true → (among_objects (take i os) x ≡ true) ⊎ (x ≡ (get_or os i d).0)
more_cases os i d x h k = elim (or_cases (among_objects (take i os) x) ((get_or os i d).0 == x) (sym (among-more os i d x h) ∙ k)) [
  | inl l ↦ inl l
  | inr l ↦ inr (sym ((Decides-eqb (get_or os i d).0 x).0 l))
]

module _ (s : Contents) (c : Change) where
  pub extends_none : (ws : List Write) → Extends s c ws ws
  extends_none ws = record { right = λ h. h; keeps = λ x f h. h }

  pub extends_both : (a b d : List Write) → Extends s c a b → Extends s c b d → Extends s c a d
  extends_both a b d p q = record { right = λ h. q.right (p.right h); keeps = λ x f h. q.keeps x f (p.keeps x f h) }

  pub plans_none : (ws : List Write) (P : ℕ → ℕ → Type 0) → ((x f : ℕ) → P x f → is_slot s x f ≡ true → is_here c x f ≡ false → listed ws x f ≡ true) → Plans s c ws ws P
  plans_none ws P known = record { extends = extends_none ws; there = λ x f p slot away. known x f p slot away }

  pub plans_push : (ws : List Write) (w : Write) → IsRight s c w → Plans s c ws (ws ++ w ∷ []) (IsSlotOf w.object.0 w.feature.0)
  plans_push ws w is = record {
    extends = record {
      right = λ h. All-push (IsRight s c) ws w h is;
      keeps = λ x f h. listed-push ws w x f ∙ or_left _ _ h;
    };
    there = λ x f p slot away. listed-push ws w x f ∙ or_right (listed ws x f) _ (and_both _ _ ((Decides-eqb x w.object.0).1 p.object) ((Decides-eqb f w.feature.0).1 p.feature));
  }

  pub plans_both : (a b d : List Write) (P Q R : ℕ → ℕ → Type 0) → ((x f : ℕ) → R x f → P x f ⊎ Q x f) → Plans s c a b P → Plans s c b d Q → Plans s c a d R
  plans_both a b d P Q R split p q = record {
    extends = extends_both a b d p.extends q.extends;
    there = λ x f r slot away. elim (split x f r) [
      | inl l ↦ q.extends.keeps x f (p.there x f l slot away)
      | inr l ↦ q.there x f l slot away
    ];
  }

  pub plans_less : (a b : List Write) (P Q : ℕ → ℕ → Type 0) → ((x f : ℕ) → Q x f → P x f) → Plans s c a b P → Plans s c a b Q
  plans_less a b P Q less p = record { extends = p.extends; there = λ x f q slot away. p.there x f (less x f q) slot away }

  pub none_yet : (ws : List Write) (P : ℕ → ℕ → Type 0) → ((x f : ℕ) → P x f → ⊥) → Plans s c ws ws P
  none_yet ws P never = plans_none ws P (λ x f p slot away. absurd (never x f p))

  -- a slot that is none, or the changed one, or planned already
  pub no_need : (ws : List Write) (o p : ℕ) → ((is_slot s o p ≡ true) → (is_here c o p ≡ false) → listed ws o p ≡ true) → Plans s c ws ws (IsSlotOf o p)
  no_need ws o p known = plans_none ws (IsSlotOf o p) (λ x f q slot away.
      subst (λ n. listed ws n f ≡ true) (sym q.object) (subst (λ n. listed ws o n ≡ true) (sym q.feature)
      (known (subst (λ n. is_slot s n p ≡ true) q.object (subst (λ n. is_slot s x n ≡ true) q.feature slot))
      (subst (λ n. is_here c n p ≡ false) q.object (subst (λ n. is_here c x n ≡ false) q.feature away)))))

  pub each_more : (a b d : List Write) (os : List Oid) (i p : ℕ) (d0 : Oid) → i < length os →
      Plans s c a b (IsSlotOfSome (take i os) p) → Plans s c b d (IsSlotOf (get_or os i d0).0 p) → Plans s c a d (IsSlotOfSome (take (i + 1) os) p)
  each_more a b d os i p d0 h so step = plans_both a b d (IsSlotOfSome (take i os) p) (IsSlotOf (get_or os i d0).0 p) (IsSlotOfSome (take (i + 1) os) p)
      (λ x f r. elim (more_cases os i d0 x h r.object) [
        | inl l ↦ inl (record { object = l; feature = r.feature })
        | inr l ↦ inr (record { object = l; feature = r.feature })
      ]) so step

  pub values_more : (a b d : List Write) (vs : List Value) (i p : ℕ) (v : Value) → i < length vs → v ≡ get_or vs i v →
      Plans s c a b (IsHeldSlot (take i vs) p) → Plans s c b d (IsHeldSlot (v ∷ []) p) → Plans s c a d (IsHeldSlot (take (i + 1) vs) p)
  values_more a b d vs i p v h e so step = plans_both a b d (IsHeldSlot (take i vs) p) (IsHeldSlot (v ∷ []) p) (IsHeldSlot (take (i + 1) vs) p)
      (λ x f r. elim (or_cases (has (take i vs) x) (has (get_or vs i v ∷ []) x) (sym (has-more vs i v x h) ∙ r.object)) [
        | inl l ↦ inl (record { object = l; feature = r.feature })
        | inr l ↦ inr (record { object = subst (λ u. has (u ∷ []) x ≡ true) (sym e) l; feature = r.feature })
      ]) so step

  pub owners_more : (a b d : List Write) (os : List Oid) (i q p : ℕ) (d0 : Oid) → i < length os →
      Plans s c a b (IsOwnerSlot s (take i os) q p) → Plans s c b d (IsHeldSlot (slot_of s (get_or os i d0).0 q) p) → Plans s c a d (IsOwnerSlot s (take (i + 1) os) q p)
  owners_more a b d os i q p d0 h so step = plans_both a b d (IsOwnerSlot s (take i os) q p) (IsHeldSlot (slot_of s (get_or os i d0).0 q) p) (IsOwnerSlot s (take (i + 1) os) q p)
      (λ x f r. elim (more_cases os i d0 r.owner h r.is_listed) [
        | inl l ↦ inl (record { feature = r.feature; owner = r.owner; is_listed = l; held = r.held })
        | inr l ↦ inr (record { object = subst (λ n. has (slot_of s n q) x ≡ true) l r.held; feature = r.feature })
      ]) so step

  pub around_more : (a b d : List Write) (os : List Oid) (i : ℕ) (d0 : Oid) → i < length os →
      Plans s c a b (IsAroundSome s (take i os)) → Plans s c b d (IsAround s (get_or os i d0).0) → Plans s c a d (IsAroundSome s (take (i + 1) os))
  around_more a b d os i d0 h so step = plans_both a b d (IsAroundSome s (take i os)) (IsAround s (get_or os i d0).0) (IsAroundSome s (take (i + 1) os))
      (λ x f r. elim (more_cases os i d0 r.object h r.is_listed) [
        | inl l ↦ inl (record { object = r.object; is_listed = l; around = r.around })
        | inr l ↦ inr (subst (λ n. IsAround s n x f) l r.around)
      ]) so step

  abbrev pub IsOnly : Option Holder → ℕ → Type 0
  IsOnly o y = (x f : ℕ) → is_containment s.metas f ≡ true → has (slot_of s x f) y ≡ true → o ≡ Some (holder_in x f)

  pub around_none : (ws : List Write) (a : ℕ) → IsOnly None a → Plans s c ws ws (IsAround s a)
  around_none ws a only = none_yet ws (IsAround s a) never
    where
      never : (x f : ℕ) → IsAround s a x f → ⊥
      never x f (holding k h) = let e : ◌≡◌ {A = Option Holder} None (Some (holder_in x f)) = only x f k h in cc
      never x f (opposed y g at k h o) = let e : ◌≡◌ {A = Option Holder} None (Some (holder_in y g)) = only y g k h in cc

  same_holder : (x f : ℕ) (h : Holder) → ◌≡◌ {A = Option Holder} (Some h) (Some (holder_in x f)) → (x ≡ h.object.0) × (f ≡ h.feature.0)
  same_holder x f h e = let k : ◌≡◌ {A = Holder} h (holder_in x f) = cc in (sym (ap (λ (g : Holder). g.object.0) k), sym (ap (λ (g : Holder). g.feature.0) k))

  pub around_both : (a b d : List Write) (y : ℕ) (h : Holder) → IsOnly (Some h) y →
      Plans s c a b (IsSlotOf h.object.0 h.feature.0) → Plans s c b d (IsOppositeSlot s y h.feature.0) → Plans s c a d (IsAround s y)
  around_both a b d y h only p r = plans_both a b d (IsSlotOf h.object.0 h.feature.0) (IsOppositeSlot s y h.feature.0) (IsAround s y) split p r
    where
      split : (x f : ℕ) → IsAround s y x f → IsSlotOf h.object.0 h.feature.0 x f ⊎ IsOppositeSlot s y h.feature.0 x f
      split x f (holding k e) = let at : (x ≡ h.object.0) × (f ≡ h.feature.0) = same_holder x f h (only x f k e) in inl (record { object = at.0; feature = at.1 })
      split x f (opposed z g at k e o) = inr (record { object = at; opposite = subst (λ n. is_opposite s.metas n f ≡ true) (same_holder z g h (only z g k e)).1 o })

  pub opposite_one : (a b : List Write) (o g q : ℕ) → ((f : ℕ) → is_opposite s.metas g f ≡ true → f ≡ q) → Plans s c a b (IsSlotOf o q) → Plans s c a b (IsOppositeSlot s o g)
  opposite_one a b o g q one p = plans_less a b (IsSlotOf o q) (IsOppositeSlot s o g) (λ x f r. record { object = r.object; feature = one f r.opposite }) p

  pub rehoused_items : (a b : List Write) → (is_containment c.metas c.feature ≡ true → is_container c.metas c.feature ≡ false) → is_containment c.metas c.feature ≡ true → Plans s c a b (IsAroundSome s c.added) → Plans s c a b (IsRehoused s c)
  rehoused_items a b other cont p = plans_less a b (IsAroundSome s c.added) (IsRehoused s c) less p
    where
      less : (x f : ℕ) → IsRehoused s c x f → IsAroundSome s c.added x f
      less x f (items k r) = r
      less x f (itself k r) = clash _ k (other cont)

  pub rehoused_itself : (a b : List Write) → is_containment c.metas c.feature ≡ false → Plans s c a b (IsAround s c.object) → Plans s c a b (IsRehoused s c)
  rehoused_itself a b plain p = plans_less a b (IsAround s c.object) (IsRehoused s c) less p
    where
      less : (x f : ℕ) → IsRehoused s c x f → IsAround s c.object x f
      less x f (items k r) = clash _ k plain
      less x f (itself k r) = r

  pub rehoused_none : (ws : List Write) → is_containment c.metas c.feature ≡ false → is_container c.metas c.feature ≡ false → Plans s c ws ws (IsRehoused s c)
  rehoused_none ws plain none = none_yet ws (IsRehoused s c) never
    where
      never : (x f : ℕ) → IsRehoused s c x f → ⊥
      never x f (items k r) = clash _ k plain
      never x f (itself k r) = clash _ k none

  pub opposed_all : (a b d e : List Write) (q : ℕ) → ((f : ℕ) → is_opposite c.metas c.feature f ≡ true → f ≡ q) →
      Plans s c a b (IsSlotOfSome c.removed q) → Plans s c b d (IsSlotOfSome c.added q) → Plans s c d e (IsOwnerSlot s c.added q c.feature) → Plans s c a e (IsOpposed s c)
  opposed_all a b d e q one p1 p2 p3 = plans_both a d e Two (IsOwnerSlot s c.added q c.feature) (IsOpposed s c) split
      (plans_both a b d (IsSlotOfSome c.removed q) (IsSlotOfSome c.added q) Two (λ x f t. t) p1 p2) p3
    where
      Two : ℕ → ℕ → Type 0
      Two x f = IsSlotOfSome c.removed q x f ⊎ IsSlotOfSome c.added q x f

      split : (x f : ℕ) → IsOpposed s c x f → Two x f ⊎ IsOwnerSlot s c.added q c.feature x f
      split x f (before k h) = inl (inl (record { object = h; feature = one f k }))
      split x f (after k h) = inl (inr (record { object = h; feature = one f k }))
      split x f (owner r k o) = inr (subst (λ n. IsOwnerSlot s c.added n c.feature x f) (one r k) o)

  pub opposed_none : (ws : List Write) → opposite c.metas c.feature ≡ None → Plans s c ws ws (IsOpposed s c)
  opposed_none ws e = none_yet ws (IsOpposed s c) never
    where
      no' : (f : ℕ) → is_opposite c.metas c.feature f ≡ true → ⊥
      no' f o = clash _ o (ap (λ r. is_feature_number r f) e)

      never : (x f : ℕ) → IsOpposed s c x f → ⊥
      never x f (before k h) = no' f k
      never x f (after k h) = no' f k
      never x f (owner q k o) = no' q k

-- what a known opposite is
pub one_opposite : (m : Metamodels) (g : ℕ) (q : FeatureNo) → opposite m g ≡ Some q → (f : ℕ) → is_opposite m g f ≡ true → f ≡ q.0
one_opposite m g q e f o = sym ((Decides-eqb q.0 f).0 (sym (ap (λ r. is_feature_number r f) e) ∙ o))
