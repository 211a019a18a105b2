-- A change leaves the objects of the extents that are not writable.
use Rattle.std.proofs.Common.{◌≡◌, ℕ, ◌≤◌, Bool, true, false, not, cond, inl, inr, refl, sym, ap, ◌∙◌, subst, List, [], ◌∷◌, ◌++◌, map, length, get_or}
use Rattle.std.specs.Prelude.{None, Ok}
use Rattle.std.proofs.lemmas.Bool.{ltb-true, ltb-false}
use Rattle.qvt_value.specs.declared.value.Value.{Value}
use Rattle.qvt_metamodel.specs.Metamodels.{features_of, class_at, is_containment, is_opposite}
use Rattle.qvt_metamodel.specs.Named.{metamodel_at}
use Rattle.qvt_metamodel.specs.WellFormed.{IsWellFormed}
use Rattle.qvt_metamodel.proofs.Regular.{regular_of}
use Rattle.qvt_relation.proofs.Bools.{and_left, and_right, either, clash}
use Rattle.qvt_slots.specs.declared.op.SetOp.TheVariants.{Put, Add}
use Rattle.qvt_slots.specs.Change.{Change, is_here, is_added, slot_elsewhere, slot_after}
use Rattle.qvt_slots.specs.Contents.{Contents, AreNamed, Instance, no_instance, no_extent, object_at, class_of, extent_of, extent_at, is_live, is_model, is_named, is_slot, is_writable, slot_of}
use Rattle.qvt_slots.specs.Types.{is_of_type, IsAssignable}
use Rattle.qvt_slots.specs.Repeats.{new_list}
use Rattle.qvt_slots.specs.Assign.{crosses, change_to, change_of, instances_after, is_too_many, is_cyclic, is_read_only, refusal_of, store_after, assign}
use Rattle.qvt_slots.proofs.Lists.{past_end}
use Rattle.qvt_store_laws.specs.Law.{HasDifferences}
use Rattle.qvt_store_laws.specs.Law.{IsFit}
use Rattle.qvt_store_laws.specs.Sound.{IsClassFor, Sound}
use Rattle.qvt_store_laws.specs.Stay.{StaysIn, IsStore, ReadOnlyStays, InputsStay, InputsStayIsReflexive, InputsStayIsTransitive, AddLeavesInputs, WriteLeavesInputs}
use Rattle.qvt_store_laws.proofs.Held.{added_new, removed_old}
use Rattle.qvt_store_laws.proofs.Opposites.{here}
use Rattle.qvt_store_laws.proofs.Own.{same_extent}
use Rattle.qvt_store_laws.proofs.After.{fit_of, holder_slot, length-after, same_instance}
use Rattle.qvt_store_laws.proofs.Told.{lists_told}
use Rattle.qvt_store_laws.proofs.Touched.{Touched, touched_itself, opposite_old, opposite_new, other_owner, old_container, old_container_end, own_container, own_container_end, untouched}
use Rattle.qvt_store_laws.proofs.Stays.{get-left, stays_more, write_stays}
use Rattle.qvt_store_laws.proofs.SoundKept.{no_refusal, accepted, all-append}

module _ (s : Contents) (o p : ℕ) (ws : List Value) (well : IsWellFormed s.metas) (named : AreNamed s.metas s.extents) (fit : IsFit s o p ws) (sound : Sound s) (stays : crosses s o ws ≡ false) where
  abbrev c : Change
  c = change_to s o p ws

  made : HasDifferences c
  made = record { adds = refl; removes = refl }

  -- an extent that is no model's has objects of a metamodel without a name
  nameless : (x : ℕ) → is_live s x ≡ true → is_model s (extent_of s x) ≡ false → (metamodel_at s.metas (class_at s.metas (class_of s x)).metamodel).name ≡ []
  nameless x live no' = no_name (metamodel_at s.metas (class_at s.metas (class_of s x)).metamodel).name
      (ap (λ n. is_named (metamodel_at s.metas n).name) own.metamodel ∙ sym (named.named (extent_of s x) own.extent) ∙ no')
    where
      own : IsClassFor s (class_of s x) (extent_of s x)
      own = sound.parts.classes x live

      no_name : (n : List ℕ) → is_named n ≡ false → n ≡ []
      no_name [] h = refl
      no_name (b ∷ bs) h = cc

  holds_model : (x f : ℕ) → is_slot s x f ≡ true → is_containment s.metas f ≡ true → is_model s (extent_of s x) ≡ true
  holds_model x f slot k = elim (either (is_model s (extent_of s x))) [
    | inl yes' ↦ yes'
    | inr no' ↦ clash _ k ((regular_of s.metas well).unnamed_empty (class_of s x) f (and_right (is_live s x) _ slot) (nameless x (and_left _ _ slot) no'))
  ]

  opposite_model : (f : ℕ) → is_opposite s.metas p f ≡ true → is_model s (extent_of s o) ≡ true
  opposite_model f opp = elim (either (is_model s (extent_of s o))) [
    | inl yes' ↦ yes'
    | inr no' ↦ clash _ opp (well.unnamed_alone p f (class_of s o) (and_right (is_live s o) _ fit.slot) (nameless o (and_left _ _ fit.slot) no'))
  ]

  added_here : is_model s (extent_of s o) ≡ true → (y : ℕ) → is_added c y ≡ true → extent_of s y ≡ extent_of s o
  added_here model y h = same_extent s o ws stays y model (added_new c made y h)

  -- only slots of the changed object's extent are touched
  touched_here : (x f : ℕ) → Touched c x f → extent_of s x ≡ extent_of s o
  touched_here x f (touched_itself at) = ap (extent_of s) (here c x f at).0
  touched_here x f (opposite_old opp h) = sound.parts.own_objects o p x (opposite_model f opp) (removed_old c made x h)
  touched_here x f (opposite_new opp h) = added_here (opposite_model f opp) x h
  touched_here x f (other_owner a q opp h held at) =
      let model : is_model s (extent_of s o) ≡ true = opposite_model q opp in
      let same : extent_of s a ≡ extent_of s o = added_here model a h in
      sound.parts.own_objects a q x (subst (λ e. is_model s e ≡ true) (sym same) model) held ∙ same
  touched_here x f (old_container a k h k' held) =
      sym (sound.parts.own_objects x f a (holds_model x f (holder_slot s x f a held) k') held) ∙ added_here (holds_model o p fit.slot k) a h
  touched_here x f (old_container_end y g k h k' held opp) = added_here (holds_model o p fit.slot k) x h
  touched_here x f (own_container k k' held) = sym (sound.parts.own_objects x f o (holds_model x f (holder_slot s x f o held) k') held)
  touched_here x f (own_container_end y g k at k' held opp) = ap (extent_of s) at

  slot_stays : (x f : ℕ) → (extent_of s x ≡ extent_of s o → ⊥) → slot_of s x f ≡ slot_after c x f
  slot_stays x f other = go (is_here c x f) refl
    where
      go : (b : Bool) → is_here c x f ≡ b → slot_of s x f ≡ cond b ws (slot_elsewhere c x f)
      go true at = absurd (other (ap (extent_of s) (here c x f at).0))
      go false at = sym (untouched c well x f (λ t. other (touched_here x f t)))

  pub object_stays : (x : ℕ) → (extent_of s x ≡ extent_of s o → ⊥) → object_at (store_after s c) x ≡ object_at s x
  object_stays x other = elim (either (is_live s x)) [
    | inl live ↦
        let same : (object_at s x).slots ≡ _ = lists_told s.metas well (class_of s x) (object_at s x).slots (slot_after c x) (sound.parts.lists x live) (λ f is. slot_stays x f other) in
        same_instance s o p ws well fit x live ∙ sym (λ i. record { class = class_of s x; extent = extent_of s x; slots = same i })
    | inr dead ↦ past_end (instances_after c 0 s.objects) x no_instance (subst (λ n. n ≤ x) (sym (length-after c 0 s.objects)) (ltb-false x (length s.objects) dead))
        ∙ sym (past_end s.objects x no_instance (ltb-false x (length s.objects) dead))
  ]

assign_leaves : (s s' : Contents) (o p : ℕ) (vs : List Value) → IsStore s → Sound s → IsAssignable s o p vs → assign s o p vs ≡ Ok s' → (x : ℕ) → is_writable s x ≡ false → object_at s' x ≡ object_at s x
assign_leaves s s' o p vs store sound can e x locked =
    let ws : List Value = new_list s.metas p vs in
    let c : Change = change_of s o p vs in
    let r : (refusal_of s c ≡ None) × (store_after s c ≡ s') = accepted (refusal_of s c) (store_after s c) s' e in
    let causes : (is_too_many c ≡ false) × (is_cyclic s.metas (slot_after c) (length s.objects) ≡ false) × (is_read_only s o ≡ false) × (crosses s o ws ≡ false) =
    no_refusal (is_too_many c) (is_cyclic s.metas (slot_after c) (length s.objects)) (is_read_only s o) (crosses s o ws) r.0 in
    subst (λ (t : Contents). object_at t x ≡ object_at s x) r.1
    (object_stays s o p ws store.well_formed store.named (fit_of s o p vs can) sound causes.3 x
    (λ same. clash _ (ap (λ n. (extent_at s n).writable) same ∙ unlocked (extent_at s (extent_of s o)).writable causes.2) locked))
  where
    unlocked : (b : Bool) → not b ≡ false → b ≡ true
    unlocked true h = refl
    unlocked false h = cc

pub read_only_stays : ReadOnlyStays
read_only_stays s s' o p Put vs store sound can e x locked = assign_leaves s s' o p vs store sound can e x locked
read_only_stays s s' o p Add vs store sound can e x locked = assign_leaves s s' o p (slot_of s o p ++ vs) store sound
    (record { live = can.live; feature = can.feature; types = all-append (is_of_type s p) (slot_of s o p) vs (store.typed.types o p) can.types }) e x locked

pub inputs_stay_is_reflexive : InputsStayIsReflexive
inputs_stay_is_reflexive s = record { extents = refl; live = λ x l. l; objects = λ x l locked. refl }

pub inputs_stay_is_transitive : InputsStayIsTransitive
inputs_stay_is_transitive s s' s'' a b = record {
  extents = b.extents ∙ a.extents;
  live = λ x l. b.live x (a.live x l);
  objects = λ x l locked. b.objects x (a.live x l) (still x l locked) ∙ a.objects x l locked;
}
  where
    still : (x : ℕ) → is_live s x ≡ true → is_writable s x ≡ false → is_writable s' x ≡ false
    still x l locked = (λ i. (get_or (a.extents i) (a.objects x l locked i).extent no_extent).writable) ∙ locked

-- with more objects
pub more_leaves_inputs : (s : Contents) (obs : List Instance) → InputsStay s (record s { objects = s.objects ++ obs })
more_leaves_inputs s obs = record {
  extents = refl;
  live = (stays_more s obs).live;
  objects = λ x l locked. get-left s.objects obs x no_instance (ltb-true x (length s.objects) l);
}

pub add_leaves_inputs : AddLeavesInputs
add_leaves_inputs s c e = more_leaves_inputs s (record { class = c; extent = e; slots = map (λ _. []) (features_of s.metas c) } ∷ [])

pub write_leaves_inputs : WriteLeavesInputs
write_leaves_inputs s s' o p op vs store sound can e =
    let stays : StaysIn s s' = write_stays s s' o p op vs e in
    record { extents = stays.extents; live = stays.live; objects = λ x l locked. read_only_stays s s' o p op vs store sound can e x locked }
