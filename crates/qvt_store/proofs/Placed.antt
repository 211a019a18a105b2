-- A slot that is loaded keeps the store whole.
use Rattle.std.proofs.Common.{◌≡◌, ℕ, ◌<◌, ◌≤◌, Bool, true, false, ◌==◌, ◌&&◌, not, cond, inl, inr, refl, sym, ap, ◌∙◌, subst, List, [], ◌∷◌, length}
use Rattle.std.specs.Prelude.{Option, Some, None, slice_set, slice_index_or}
use Rattle.std.specs.List.{list_all}
use Rattle.std.proofs.lemmas.Bool.Decides.{Decides-eqb}
use Rattle.std.proofs.lemmas.Bool.{ltb-true}
use Rattle.qvt_base.specs.declared.numbers.Oid.{Oid}
use Rattle.qvt_value.specs.declared.value.Value.{Value}
use Rattle.qvt_metamodel.specs.Metamodels.{Metamodels, features_of, has_feature, is_containment, shape_of}
use Rattle.qvt_relation.proofs.Bools.{and_left, and_right, and_both, not_true, either, clash, refuted}
use Rattle.qvt_slots.specs.declared.cell.Holder.{Holder}
use Rattle.qvt_slots.specs.declared.cell.Cell.{Cell}
use Rattle.qvt_slots.specs.declared.cell.Marks.{Marks}
use Rattle.qvt_slots.specs.declared.commit.Write.{Write}
use Rattle.qvt_slots.specs.declared.extent.Extent.{Extent}
use Rattle.qvt_slots.specs.Slots.{Slots, has, Contains, Inside, directly, through}
use Rattle.qvt_slots.specs.Contents.{Contents, Instance, HoldOwn, no_instance, extent_of, is_model, is_live, slot_in, slot_of, set_slot, with_slot}
use Rattle.qvt_slots.specs.Limits.{most_objects}
use Rattle.qvt_slots.specs.Types.{is_of_type}
use Rattle.qvt_slots.specs.Repeats.{repeats, AreUnique}
use Rattle.qvt_slots.specs.Cells.{instances, instance_in, contents_of, holder_at, holder_in, AreWhole, IsStoreKept, SameObjects, IsPut, with_list}
use Rattle.qvt_slots.specs.Writes.{AllLive, or_else, held_by, AreHeldBy}
use Rattle.qvt_store_laws.specs.Place.{IsPlaceable}
use Rattle.qvt_store_laws.proofs.Attributes.{stays_live, listed_same, each_put}
use Rattle.qvt_slots.proofs.Typed.{all_kept}
use Rattle.qvt_store_laws.proofs.After.{item_object}
use Rattle.qvt_slots.specs.Assign.{crosses}
use Rattle.qvt_store_laws.proofs.Own.{same_extent}
use Rattle.qvt_slots.proofs.Cells.{length-instances}
use Rattle.qvt_slots.proofs.Holds.{same_count}

module _ (m : Metamodels) (extents : List Extent) (old mid new : List Cell) (w : Write)
    (can : IsPlaceable (contents_of m extents old) w.object.0 w.feature.0 w.items) (held : AreHeldBy m old mid (w ∷ [])) (put : IsPut m mid new w.object.0 w.feature.0 w.items) where
  abbrev s : Contents
  s = contents_of m extents old

  abbrev o : ℕ
  o = w.object.0

  abbrev p : ℕ
  p = w.feature.0

  abbrev vs : List Value
  vs = w.items

  slots_are : (x f : ℕ) → slot_in m (instances new) x f ≡ with_list (slot_of s) o p vs x f
  slots_are x f = put.slots x f ∙ ap (λ (l : List Instance). with_list (slot_in m l) o p vs x f) held.objects

  same : SameObjects m old new
  same = record {
    same_length = put.objects.same_length ∙ same_count old mid held.objects;
    classes = λ x. put.objects.classes x ∙ ap (λ (l : List Instance). (slice_index_or l x no_instance).class) held.objects;
    extents = λ x. put.objects.extents x ∙ ap (λ (l : List Instance). (slice_index_or l x no_instance).extent) held.objects;
    have_slots = put.objects.have_slots;
  }

  new_holder : (z : ℕ) → holder_at new z ≡ or_else (held_by m w z) (holder_at old z)
  new_holder z = put.holders z ∙ held.holders z ∙ ap (λ h. or_else h (holder_at old z)) (nothing (held_by m w z))
    where
      nothing : (h : Option Holder) → or_else None h ≡ h
      nothing h = refl

  gives : (z : ℕ) → is_containment m p ≡ true → has vs z ≡ true → holder_at new z ≡ Some (holder_in o p)
  gives z k h = new_holder z ∙ ap (λ b. or_else (cond b (Some (holder_in o p)) None) (holder_at old z)) (and_both _ _ k h)

  leaves : (z : ℕ) → (is_containment m p && has vs z) ≡ false → holder_at new z ≡ holder_at old z
  leaves z n = new_holder z ∙ ap (λ b. or_else (cond b (Some (holder_in o p)) None) (holder_at old z)) n

  here_list : (x f : ℕ) → ((x == o) && (f == p)) ≡ true → with_list (slot_of s) o p vs x f ≡ vs
  here_list x f e = ap (λ b. cond b vs (slot_of s x f)) e

  other_list : (x f : ℕ) → ((x == o) && (f == p)) ≡ false → with_list (slot_of s) o p vs x f ≡ slot_of s x f
  other_list x f e = ap (λ b. cond b vs (slot_of s x f)) e

  at_here : (x f : ℕ) → ((x == o) && (f == p)) ≡ true → (x ≡ o) × (f ≡ p)
  at_here x f e = ((Decides-eqb x o).0 (and_left _ _ e), (Decides-eqb f p).0 (and_right (x == o) _ e))

  module _ (store : AreWhole m old) where
    held_new : (x f y : ℕ) → is_containment m f ≡ true → has (slot_in m (instances new) x f) y ≡ true → holder_at new y ≡ Some (holder_in x f)
    held_new x f y k h = go ((x == o) && (f == p)) refl
      where
        h' : has (with_list (slot_of s) o p vs x f) y ≡ true
        h' = ap (λ l. has l y) (sym (slots_are x f)) ∙ h

        go : (b : Bool) → ((x == o) && (f == p)) ≡ b → holder_at new y ≡ Some (holder_in x f)
        go true e =
            let at : (x ≡ o) × (f ≡ p) = at_here x f e in
            gives y (subst (λ n. is_containment m n ≡ true) at.1 k) (ap (λ l. has l y) (sym (here_list x f e)) ∙ h')
            ∙ (λ i. Some (holder_in (sym at.0 i) (sym at.1 i)))
        go false e =
            let was : has (slot_of s x f) y ≡ true = ap (λ l. has l y) (sym (other_list x f e)) ∙ h' in
            leaves y (refuted _ (λ t. clash _ was (can.free (and_left _ _ t) x f y k (and_right (is_containment m p) _ t)))) ∙ store.holders.held x f y k was

    held_back : (h : Holder) (y : ℕ) → holder_at new y ≡ Some h → (is_containment m h.feature.0 ≡ true) × (has (slot_in m (instances new) h.object.0 h.feature.0) y ≡ true)
    held_back h y e = go (is_containment m p && has vs y) refl
      where
        go : (b : Bool) → (is_containment m p && has vs y) ≡ b → (is_containment m h.feature.0 ≡ true) × (has (slot_in m (instances new) h.object.0 h.feature.0) y ≡ true)
        go true t =
            let q : ◌≡◌ {A = Option Holder} (Some (holder_in o p)) (Some h) = sym (gives y (and_left _ _ t) (and_right (is_containment m p) _ t)) ∙ e in
            let same' : ◌≡◌ {A = Holder} (holder_in o p) h = cc in (
              ap (λ (g : Holder). is_containment m g.feature.0) (sym same') ∙ and_left _ _ t,
              ap (λ (g : Holder). has (slot_in m (instances new) g.object.0 g.feature.0) y) (sym same') ∙ ap (λ l. has l y) (slots_are o p ∙ here_list o p (and_both _ _ ((Decides-eqb o o).1 refl) ((Decides-eqb p p).1 refl))) ∙ and_right (is_containment m p) _ t,
            )
        go false t =
            let r : (is_containment m h.feature.0 ≡ true) × (has (slot_of s h.object.0 h.feature.0) y ≡ true) = store.holders.contains h y (sym (leaves y t) ∙ e) in
            (r.0, ap (λ l. has l y) (slots_are h.object.0 h.feature.0) ∙ stays ((h.object.0 == o) && (h.feature.0 == p)) refl r.1)
          where
            stays : (b : Bool) → ((h.object.0 == o) && (h.feature.0 == p)) ≡ b → has (slot_of s h.object.0 h.feature.0) y ≡ true → has (with_list (slot_of s) o p vs h.object.0 h.feature.0) y ≡ true
            stays true q was =
                let at : (h.object.0 ≡ o) × (h.feature.0 ≡ p) = at_here h.object.0 h.feature.0 q in
                clash false (sym (ap (λ l. has l y) can.empty) ∙ subst (λ n. has (slot_of s o n) y ≡ true) at.1 (subst (λ n. has (slot_of s n h.feature.0) y ≡ true) at.0 was)) refl
            stays false q was = ap (λ l. has l y) (other_list h.object.0 h.feature.0 q) ∙ was

    plain_contains : is_containment m p ≡ false → (x y : ℕ) → Contains m (slot_in m (instances new)) x y → Contains m (slot_of s) x y
    plain_contains plain x y k = record {
      feature = k.feature;
      containment = k.containment;
      held =
          ap (λ l. has l y) (sym (slots_are x k.feature ∙ other_list x k.feature (refuted _ (λ e. clash _ k.containment (subst (λ n. is_containment m n ≡ false) (sym (at_here x k.feature e).1) plain))))) ∙ k.held;
    }

    plain_inside : is_containment m p ≡ false → {x y : ℕ} → Inside m (slot_in m (instances new)) x y → Inside m (slot_of s) x y
    plain_inside plain (directly {x} {y} k) = directly (plain_contains plain x y k)
    plain_inside plain (through {x} {y} {z} k i) = through (plain_contains plain x y k) (plain_inside plain i)

    acyclic_new : (x : ℕ) → Inside m (slot_in m (instances new)) x x → ⊥
    acyclic_new x i = elim (either (is_containment m p)) [
      | inl cont ↦ can.acyclic cont x (subst (λ (t : Slots). Inside m t x x) (λ j y f. slots_are y f j) i)
      | inr plain ↦ store.acyclic x (plain_inside plain i)
    ]

    whole_new : AreWhole m new
    whole_new = record {
      well_formed = store.well_formed;
      few = subst (λ n. n ≤ most_objects) (sym same.same_length) store.few;
      have_slots = same.have_slots;
      holders = record { held = held_new; contains = held_back };
      acyclic = acyclic_new;
    }

    own_new : HoldOwn s → crosses s o vs ≡ false → HoldOwn (contents_of m extents new)
    own_new before stays = record {
      own = λ x f y model h. same.extents y
          ∙ each_put (λ x f l. (y : ℕ) → is_model s (extent_of s x) ≡ true → has l y ≡ true → extent_of s y ≡ extent_of s x) (slot_of s) o p vs
          (same_extent s o vs stays) (λ x f y. before.own x f y) x f y (subst (λ n. is_model s n ≡ true) (same.extents x) model) (subst (λ l. has l y ≡ true) (slots_are x f) h)
          ∙ sym (same.extents x);
    }

    pub placed_kept : (members : List (List Oid)) (marks marks' : Marks) → IsStoreKept m extents old members marks →
        (marks'.distinct ≡ true → (marks.distinct ≡ true) × ((shape_of m p).unique ≡ true → repeats vs ≡ false)) →
        (marks'.own ≡ true → (marks.own ≡ true) × (crosses s o vs ≡ false)) → IsStoreKept m extents new members marks'
    placed_kept members marks marks' kept' only stay = record {
      whole = whole_new;
      typed = record {
        types = λ x f. all_kept s (contents_of m extents new) refl (stays_live m extents old new same) f (slot_in m (instances new) x f)
            (subst (λ (l : List Value). list_all (is_of_type s f) l ≡ true) (sym (slots_are x f))
            (each_put (λ _ g l. list_all (is_of_type s g) l ≡ true) (slot_of s) o p vs can.assignable.types kept'.typed.types x f));
      };
      named = kept'.named;
      listed = listed_same m extents old new members same kept'.listed;
      unique = λ d. let r : (marks.distinct ≡ true) × ((shape_of m p).unique ≡ true → repeats vs ≡ false) = only d in let u : AreUnique s = kept'.unique r.0 in
          record { unique = λ x f t. ap repeats (slots_are x f) ∙ each_put (λ _ g l. (shape_of m g).unique ≡ true → repeats l ≡ false) (slot_of s) o p vs r.1 u.unique x f t };
      own = λ d. let r : (marks.own ≡ true) × (crosses s o vs ≡ false) = stay d in own_new (kept'.own r.0) r.1;
    }

  pub gives_placed : contents_of m extents new ≡ with_slot s o p vs
  gives_placed = ap (λ (l : List Instance). record { metas = m; extents = extents; objects = l })
      (put.whole ∙ ap (λ (l : List Instance). slice_set l o (set_slot (features_of m (slice_index_or l o no_instance).class) (slice_index_or l o no_instance) p vs)) held.objects)

-- what the calls require
pub items_there : (m : Metamodels) (extents : List Extent) (old : List Cell) (o p : ℕ) (vs : List Value) → IsPlaceable (contents_of m extents old) o p vs → AllLive old (has vs)
items_there m extents old o p vs can = record { live = λ y h. below y (and_left _ _ (item_object (contents_of m extents old) p vs y can.assignable.types h)) }
  where
    below : (y : ℕ) → is_live (contents_of m extents old) y ≡ true → y < length old
    below y live = subst (λ k. y < k) (length-instances old) (ltb-true y (length (instances old)) live)

pub still_distinct : (m : Metamodels) (p : ℕ) (vs : List Value) (distinct distinct' : Bool) → distinct' ≡ (distinct && not ((shape_of m p).unique && repeats vs)) →
    distinct' ≡ true → (distinct ≡ true) × ((shape_of m p).unique ≡ true → repeats vs ≡ false)
still_distinct m p vs distinct distinct' e t =
    let h : (distinct && not ((shape_of m p).unique && repeats vs)) ≡ true = sym e ∙ t in
    (and_left _ _ h, λ u. refuted _ (λ r. clash _ (and_both _ _ u r) (not_true _ (and_right distinct _ h))))

pub still_own : (own own' crossing : Bool) → own' ≡ (own && not crossing) → own' ≡ true → (own ≡ true) × (crossing ≡ false)
still_own own own' crossing e t = let h : (own && not crossing) ≡ true = sym e ∙ t in (and_left _ _ h, not_true _ (and_right own _ h))

pub mid_live : (m : Metamodels) (extents : List Extent) (old mid : List Cell) (o p : ℕ) (vs : List Value) → IsPlaceable (contents_of m extents old) o p vs → instances mid ≡ instances old → o < length mid
mid_live m extents old mid o p items can e = subst (λ n. o < n) (sym (same_count old mid e)) (subst (λ n. o < n) (length-instances old) (ltb-true o (length (instances old)) can.assignable.live))

pub mid_there : (m : Metamodels) (extents : List Extent) (old mid : List Cell) (o p : ℕ) (vs : List Value) → IsPlaceable (contents_of m extents old) o p vs → instances mid ≡ instances old → has_feature m (instance_in mid o).class p ≡ true
mid_there m extents old mid o p items can e = subst (λ (l : List Instance). has_feature m (slice_index_or l o no_instance).class p ≡ true) (sym e) can.assignable.feature
