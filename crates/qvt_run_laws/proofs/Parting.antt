-- What keeps the objects of one extent from the writes to another: each is of a class of its extent's metamodel, and a model's slots hold
-- its own objects alone. It is what a sound store has of extents; that values are plain is no part of it, which not every program keeps.
use Rattle.std.proofs.Common.{◌≡◌, ℕ, Bool, true, false, not, cond, inl, inr, refl, sym, ap, ◌∙◌, subst, List, [], ◌∷◌, ◌++◌, length}
use Rattle.std.specs.Prelude.{None, Ok, slice_index_or}
use Rattle.std.specs.List.{list_all}
use Rattle.qvt_value.specs.declared.value.Value.{Value}
use Rattle.qvt_metamodel.specs.Metamodels.{Metamodels, features_of, class_at, is_containment, is_opposite}
use Rattle.qvt_metamodel.specs.Named.{metamodel_at}
use Rattle.qvt_metamodel.specs.WellFormed.{IsWellFormed}
use Rattle.qvt_metamodel.proofs.Regular.{regular_of}
use Rattle.qvt_relation.proofs.Bools.{and_left, and_right, either, clash, same_test}
use Rattle.qvt_slots.specs.declared.op.SetOp.{SetOp}
use Rattle.qvt_slots.specs.declared.op.SetOp.TheVariants.{Put, Add}
use Rattle.qvt_slots.specs.Slots.{has}
use Rattle.qvt_slots.specs.Change.{Change, is_here, is_added, slot_elsewhere, slot_after}
use Rattle.qvt_slots.specs.Contents.{Contents, AreNamed, HoldOwn, Instance, no_extent, object_at, class_of, extent_of, extent_at, is_live, is_model, is_named, is_slot, is_writable, list_of, slot_of, with_new}
use Rattle.qvt_slots.specs.Types.{is_of_type, AreTyped, IsAssignable}
use Rattle.qvt_slots.specs.Repeats.{new_list}
use Rattle.qvt_slots.specs.Assign.{crosses, change_to, change_of, is_too_many, is_cyclic, is_read_only, refusal_of, store_after, assign, write}
use Rattle.qvt_slots.proofs.Lists.{length-map}
use Rattle.qvt_slots.proofs.Typed.{all_kept}
use Rattle.qvt_slots.proofs.Instances as objects
use Rattle.qvt_store_laws.specs.Law.{HasDifferences, IsFit}
use Rattle.qvt_store_laws.specs.Sound.{IsClassFor, Sound}
use Rattle.qvt_store_laws.specs.Stay.{StaysIn, IsStore, InputsStay}
use Rattle.qvt_store_laws.proofs.Held.{added_new, removed_old}
use Rattle.qvt_store_laws.proofs.Opposites.{here}
use Rattle.qvt_store_laws.proofs.Own.{same_extent, own_after, own_grown}
use Rattle.qvt_store_laws.proofs.After.{fit_of, holder_slot, dead_empty, same_instance, slot-after, live-after, class-after, extent-after, lists-after}
use Rattle.qvt_store_laws.proofs.Told.{lists_told}
use Rattle.qvt_store_laws.proofs.Touched.{Touched, touched_itself, opposite_old, opposite_new, other_owner, old_container, old_container_end, own_container, own_container_end, untouched}
use Rattle.qvt_store_laws.proofs.Stays.{stays_is_reflexive, stays_is_transitive, add_stays, stays_after}
use Rattle.qvt_store_laws.proofs.SoundKept.{no_refusal, accepted, all-append, types_after}
use Rattle.qvt_store_laws.proofs.ReadOnly.{inputs_stay_is_reflexive, inputs_stay_is_transitive, add_leaves_inputs}

pub record Apart (s : Contents) : Type 0 where
  pub well_formed : IsWellFormed s.metas
  pub named : AreNamed s.metas s.extents
  pub classes : (x : ℕ) → is_live s x ≡ true → IsClassFor s (class_of s x) (extent_of s x)
  pub lists : (x : ℕ) → is_live s x ≡ true → length (object_at s x).slots ≡ length (features_of s.metas (class_of s x))
  pub typed : AreTyped s
  pub own : HoldOwn s

pub sound_apart : (s : Contents) → IsStore s → Sound s → Apart s
sound_apart s store sound = record {
  well_formed = store.well_formed;
  named = store.named;
  classes = sound.parts.classes;
  lists = sound.parts.lists;
  typed = sound.parts.typed;
  own = record { own = sound.parts.own_objects };
}

-- Containments and opposites are of models.

module _ (s : Contents) (apart : Apart s) where
  no_name : (n : List ℕ) → is_named n ≡ false → n ≡ []
  no_name [] h = refl
  no_name (b ∷ bs) h = cc

  -- an extent that is no model's has objects of a metamodel without a name
  nameless : (x : ℕ) → is_live s x ≡ true → is_model s (extent_of s x) ≡ false → (metamodel_at s.metas (class_at s.metas (class_of s x)).metamodel).name ≡ []
  nameless x live no' =
      let own : IsClassFor s (class_of s x) (extent_of s x) = apart.classes x live in
      no_name (metamodel_at s.metas (class_at s.metas (class_of s x)).metamodel).name
      (ap (λ n. is_named (metamodel_at s.metas n).name) own.metamodel ∙ sym (apart.named.named (extent_of s x) own.extent) ∙ no')

  holds_model : (x f : ℕ) → is_slot s x f ≡ true → is_containment s.metas f ≡ true → is_model s (extent_of s x) ≡ true
  holds_model x f slot k = elim (either (is_model s (extent_of s x))) [
    | inl yes' ↦ yes'
    | inr no' ↦ clash _ k ((regular_of s.metas apart.well_formed).unnamed_empty (class_of s x) f (and_right (is_live s x) _ slot) (nameless x (and_left _ _ slot) no'))
  ]

  opposite_model : (o p f : ℕ) → is_slot s o p ≡ true → is_opposite s.metas p f ≡ true → is_model s (extent_of s o) ≡ true
  opposite_model o p f slot opp = elim (either (is_model s (extent_of s o))) [
    | inl yes' ↦ yes'
    | inr no' ↦ clash _ opp (apart.well_formed.unnamed_alone p f (class_of s o) (and_right (is_live s o) _ slot) (nameless o (and_left _ _ slot) no'))
  ]

-- A change touches slots of the changed object's extent alone.

module _ (s : Contents) (o p : ℕ) (ws : List Value) (fit : IsFit s o p ws) (apart : Apart s) (stays : crosses s o ws ≡ false) where
  abbrev c : Change
  c = change_to s o p ws

  abbrev s' : Contents
  s' = store_after s c

  abbrev well : IsWellFormed s.metas
  well = apart.well_formed

  made : HasDifferences c
  made = record { adds = refl; removes = refl }

  added_here : is_model s (extent_of s o) ≡ true → (y : ℕ) → is_added c y ≡ true → extent_of s y ≡ extent_of s o
  added_here model y h = same_extent s o ws stays y model (added_new c made y h)

  touched_here : (x f : ℕ) → Touched c x f → extent_of s x ≡ extent_of s o
  touched_here x f (touched_itself at) = ap (extent_of s) (here c x f at).0
  touched_here x f (opposite_old opp h) = apart.own.own o p x (opposite_model s apart o p f fit.slot opp) (removed_old c made x h)
  touched_here x f (opposite_new opp h) = added_here (opposite_model s apart o p f fit.slot opp) x h
  touched_here x f (other_owner a q opp h held at) =
      let model : is_model s (extent_of s o) ≡ true = opposite_model s apart o p q fit.slot opp in
      let same : extent_of s a ≡ extent_of s o = added_here model a h in
      apart.own.own a q x (subst (λ e. is_model s e ≡ true) (sym same) model) held ∙ same
  touched_here x f (old_container a k h k' held) =
      sym (apart.own.own x f a (holds_model s apart x f (holder_slot s x f a held) k') held) ∙ added_here (holds_model s apart o p fit.slot k) a h
  touched_here x f (old_container_end y g k h k' held opp) = added_here (holds_model s apart o p fit.slot k) x h
  touched_here x f (own_container k k' held) = sym (apart.own.own x f o (holds_model s apart x f (holder_slot s x f o held) k') held)
  touched_here x f (own_container_end y g k at k' held opp) = ap (extent_of s) at

  slot_stays : (x f : ℕ) → (extent_of s x ≡ extent_of s o → ⊥) → slot_of s x f ≡ slot_after c x f
  slot_stays x f other = go (is_here c x f) refl
    where
      go : (b : Bool) → is_here c x f ≡ b → slot_of s x f ≡ cond b ws (slot_elsewhere c x f)
      go true at = absurd (other (ap (extent_of s) (here c x f at).0))
      go false at = sym (untouched c well x f (λ t. other (touched_here x f t)))

  object_stays : (x : ℕ) → is_live s x ≡ true → (extent_of s x ≡ extent_of s o → ⊥) → object_at s' x ≡ object_at s x
  object_stays x live other =
      let same : (object_at s x).slots ≡ _ = lists_told s.metas well (class_of s x) (object_at s x).slots (slot_after c x) (apart.lists x live) (λ f is. slot_stays x f other) in
      same_instance s o p ws well fit x live ∙ sym (λ i. record { class = class_of s x; extent = extent_of s x; slots = same i })

  apart_after : Apart s'
  apart_after = record {
    well_formed = well;
    named = apart.named;
    classes = λ x live. let old : IsClassFor s (class_of s x) (extent_of s x) = apart.classes x (sym (live-after s o p ws well fit x) ∙ live) in
        let same : IsClassFor s' (class_of s x) (extent_of s x) = record { extent = old.extent; live = old.live; metamodel = old.metamodel; concrete = old.concrete } in
        subst (λ n. IsClassFor s' n (extent_of s' x)) (sym (class-after s o p ws well fit x)) (subst (λ e. IsClassFor s' (class_of s x) e) (sym (extent-after s o p ws well fit x)) same);
    lists = λ x live. lists-after s o p ws well fit x (sym (live-after s o p ws well fit x) ∙ live);
    typed = record {
      types = λ x f. subst (λ (l : List Value). list_all (is_of_type s' f) l ≡ true) (sym (slot-after s o p ws well fit x f))
          (all_kept s s' refl (λ y live. (live-after s o p ws well fit y ∙ live, sym (class-after s o p ws well fit y))) f (slot_after c x f) (types_after s o p ws well fit apart.typed x f));
    };
    own = record {
      own = λ x f y model h.
          extent-after s o p ws well fit y
          ∙ own_after s o p ws apart.own stays (λ g opp. opposite_model s apart o p g fit.slot opp) x f y
          (subst (λ n. is_model s n ≡ true) (extent-after s o p ws well fit x) model) (subst (λ (l : List Value). has l y ≡ true) (slot-after s o p ws well fit x f) h)
          ∙ sym (extent-after s o p ws well fit x);
    };
  }

-- From a store to a later one: extents stay apart, what was there stays, and of the inputs all stays; objects of inputs that are new have
-- no items.
pub record Leaves (s t : Contents) : Type 0 where
  pub apart : Apart t
  pub stays : StaysIn s t
  pub inputs : InputsStay s t
  pub empty : (x f : ℕ) → is_live s x ≡ false → is_writable t x ≡ false → slot_of t x f ≡ []

pub leaves_itself : (s : Contents) → Apart s → Leaves s s
leaves_itself s apart = record { apart = apart; stays = stays_is_reflexive s; inputs = inputs_stay_is_reflexive s; empty = λ x f dead locked. dead_empty s x f dead }

module _ (s t : Contents) (h : Leaves s t) (x : ℕ) (live : is_live s x ≡ true) where
  same_writable : is_writable t x ≡ is_writable s x
  same_writable = λ i. (slice_index_or (h.stays.extents i) (h.stays.extent x live i) no_extent).writable

  same_slot : is_writable s x ≡ false → (f : ℕ) → slot_of t x f ≡ slot_of s x f
  same_slot locked f = λ i. list_of (features_of (h.stays.metas i) (h.inputs.objects x live locked i).class) (h.inputs.objects x live locked i).slots f

pub leaves_on : (s t u : Contents) → Leaves s t → Leaves t u → Leaves s u
leaves_on s t u h k = record {
  apart = k.apart;
  stays = stays_is_transitive s t u h.stays k.stays;
  inputs = inputs_stay_is_transitive s t u h.inputs k.inputs;
  empty = λ x f dead locked. elim (either (is_live t x)) [
    | inl live ↦ let was : is_writable t x ≡ false = sym (same_writable t u k x live) ∙ locked in same_slot t u k x live was f ∙ h.empty x f dead was
    | inr still ↦ k.empty x f still locked
  ];
}

-- One more object.

module _ (s : Contents) (c e : ℕ) (own : IsClassFor s c e) (apart : Apart s) where
  abbrev grown : Contents
  grown = with_new s c e

  abbrev IsPlaced : Instance → Type 0
  IsPlaced i = IsClassFor grown i.class i.extent × (length i.slots ≡ length (features_of s.metas i.class))

  class_for : (d k : ℕ) → IsClassFor s d k → IsClassFor grown d k
  class_for d k old = record { extent = old.extent; live = old.live; metamodel = old.metamodel; concrete = old.concrete }

  placed : (x : ℕ) → is_live grown x ≡ true → IsPlaced (object_at grown x)
  placed = objects.each_object s c e (λ x. IsPlaced (object_at grown x))
      (λ x live. subst IsPlaced (sym (objects.object-new s c e x live)) (class_for (class_of s x) (extent_of s x) (apart.classes x live), apart.lists x live))
      (subst IsPlaced (sym (objects.object-last s c e)) (class_for c e own, length-map (λ _. []) (features_of s.metas c)))

  apart_grown : Apart grown
  apart_grown = record {
    well_formed = apart.well_formed;
    named = apart.named;
    classes = λ x live. (placed x live).0;
    lists = λ x live. (placed x live).1;
    typed = record {
      types = λ x f. subst (λ (l : List Value). list_all (is_of_type grown f) l ≡ true) (sym (objects.slot-new s c e x f))
          (all_kept s grown refl (λ y live. (objects.live-new s c e y live, sym (ap (λ (i : Instance). i.class) (objects.object-new s c e y live)))) f (slot_of s x f) (apart.typed.types x f));
    };
    own = own_grown s c e apart.typed apart.own;
  }

  pub leaves_new : Leaves s grown
  leaves_new = record {
    apart = apart_grown;
    stays = add_stays s c e;
    inputs = add_leaves_inputs s c e;
    empty = λ x f dead locked. objects.slot-new s c e x f ∙ dead_empty s x f dead;
  }

-- A write.

unlocked : (b : Bool) → not b ≡ false → b ≡ true
unlocked true h = refl
unlocked false h = cc

leaves_change : (s : Contents) (o p : ℕ) (ws : List Value) → IsFit s o p ws → Apart s → is_read_only s o ≡ false → crosses s o ws ≡ false → Leaves s (store_after s (change_to s o p ws))
leaves_change s o p ws fit apart writes stays = record {
  apart = apart_after s o p ws fit apart stays;
  stays = stays_after s (change_to s o p ws);
  inputs = record {
    extents = refl;
    live = λ x live. live-after s o p ws apart.well_formed fit x ∙ live;
    objects = λ x live locked. object_stays s o p ws fit apart stays x live
        (λ same. clash _ (ap (λ n. (extent_at s n).writable) same ∙ unlocked (extent_at s (extent_of s o)).writable writes) locked);
  };
  empty = λ x f dead locked. dead_empty (store_after s (change_to s o p ws)) x f (live-after s o p ws apart.well_formed fit x ∙ dead);
}

leaves_assigned : (s t : Contents) (o p : ℕ) (vs : List Value) → IsAssignable s o p vs → assign s o p vs ≡ Ok t → Apart s → Leaves s t
leaves_assigned s t o p vs can e apart =
    let ws : List Value = new_list s.metas p vs in
    let c : Change = change_of s o p vs in
    let r : (refusal_of s c ≡ None) × (store_after s c ≡ t) = accepted (refusal_of s c) (store_after s c) t e in
    let causes : (is_too_many c ≡ false) × (is_cyclic s.metas (slot_after c) (length s.objects) ≡ false) × (is_read_only s o ≡ false) × (crosses s o ws ≡ false) =
    no_refusal (is_too_many c) (is_cyclic s.metas (slot_after c) (length s.objects)) (is_read_only s o) (crosses s o ws) r.0 in
    subst (Leaves s) r.1 (leaves_change s o p ws (fit_of s o p vs can) apart causes.2 causes.3)

pub leaves_written : (s t : Contents) (o p : ℕ) (op : SetOp) (vs : List Value) → IsAssignable s o p vs → write s o p op vs ≡ Ok t → Apart s → Leaves s t
leaves_written s t o p Put vs can e apart = leaves_assigned s t o p vs can e apart
leaves_written s t o p Add vs can e apart = leaves_assigned s t o p (slot_of s o p ++ vs)
    (record { live = can.live; feature = can.feature; types = all-append (is_of_type s p) (slot_of s o p) vs (apart.typed.types o p) can.types }) e apart

-- The container of an object of an input.

module _ (s t : Contents) (apart : Apart s) (h : Leaves s t) (x y f : ℕ) (live : is_live s x ≡ true) (locked : is_writable s x ≡ false) (k : is_containment s.metas f ≡ true) where
  contained_before : has (slot_of t y f) x ≡ true → has (slot_of s y f) x ≡ true
  contained_before held =
      let model : is_model t (extent_of t y) ≡ true = holds_model t h.apart y f (holder_slot t y f x held) (ap (λ (m : Metamodels). is_containment m f) h.stays.metas ∙ k) in
      let same : extent_of t x ≡ extent_of t y = h.apart.own.own y f x model held in
      let shut : is_writable t y ≡ false = ap (λ e. (extent_at t e).writable) (sym same) ∙ same_writable s t h x live ∙ locked in
      elim (either (is_live s y)) [
        | inl was ↦ ap (λ (l : List Value). has l x) (sym (same_slot s t h y was (sym (same_writable s t h y was) ∙ shut) f)) ∙ held
        | inr new ↦ clash false (sym (ap (λ (l : List Value). has l x) (h.empty y f new shut)) ∙ held) refl
      ]

  contained_after : has (slot_of s y f) x ≡ true → has (slot_of t y f) x ≡ true
  contained_after held =
      let slot : is_slot s y f ≡ true = holder_slot s y f x held in
      let same : extent_of s x ≡ extent_of s y = apart.own.own y f x (holds_model s apart y f slot k) held in
      ap (λ (l : List Value). has l x) (same_slot s t h y (and_left _ _ slot) (ap (λ e. (extent_at s e).writable) (sym same) ∙ locked) f) ∙ held

  pub same_container : has (slot_of t y f) x ≡ has (slot_of s y f) x
  same_container = same_test _ _ contained_before contained_after
