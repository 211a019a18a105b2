-- Values put last in a slot whose changes touch no other.
use Rattle.std.proofs.Common.{◌≡◌, ℕ, Bool, true, false, ◌&&◌, not, cond, refl, sym, ap, ◌∙◌, List, [], ◌∷◌, ◌++◌, length}
use Rattle.std.specs.Prelude.{Ok, Err, Option, Some, None}
use Rattle.std.specs.List.{list_any}
use Rattle.qvt_base.specs.declared.numbers.FeatureNo.{FeatureNo}
use Rattle.qvt_base.specs.declared.numbers.Oid.{Oid}
use Rattle.qvt_value.specs.declared.value.Value.{Value}
use Rattle.qvt_metamodel.specs.Metamodels.{Metamodels, shape_of, opposite, is_containment}
use Rattle.qvt_relation.proofs.Bools.{or_left, or_right, or_none, none_left, none_right, not_of_false, clash}
use Rattle.qvt_slots.specs.declared.cell.Cell.{Cell}
use Rattle.qvt_slots.specs.declared.cell.Marks.{Marks}
use Rattle.qvt_slots.specs.declared.draft.Draft.{Draft}
use Rattle.qvt_slots.specs.declared.extent.Extent.{Extent}
use Rattle.qvt_slots.specs.declared.fault.StoreFault.TheVariants.{TooMany, ReadOnly, CrossModel}
use Rattle.qvt_slots.specs.Change.{objects_beyond, among_objects, is_some_feature, is_linked, names_containment}
use Rattle.qvt_slots.specs.Contents.{Contents, extent_of, is_model, is_writable, slot_in, slot_of}
use Rattle.qvt_slots.specs.Types.{IsAssignable}
use Rattle.qvt_slots.specs.Repeats.{new_list}
use Rattle.qvt_slots.specs.Assign.{exceeds_bound, crosses, change_to, store_after, assign}
use Rattle.qvt_slots.specs.Cells.{instances, contents_of, holder_at, holder_in, AreWhole, IsStoreKept, IsPut}
use Rattle.qvt_slots.specs.Walk.{ClosesCycle, by_items, by_end}
use Rattle.qvt_slots.specs.Writes.{or_else, IsSettled}
use Rattle.qvt_store.specs.Draft.{drafted, overfills_elsewhere, is_overfilling, IsAllowed}
use Rattle.qvt_store.specs.Plan.{IsPlan, IsRight}
use Rattle.qvt_store.specs.Ready.{IsKnown, IsLone, Ready}
use Rattle.std.proofs.lemmas.List.Elements.{All-nil}
use Rattle.qvt_store.proofs.Appending.{list_assignable, removes_none}
use Rattle.qvt_store.proofs.Assigning.{early, cross, done, ready}
use Rattle.qvt_store.proofs.Done.{kept_whole, gives_store}
use Rattle.qvt_store_laws.proofs.Touched.{alone_stay}

pub no_opposite : (m : Metamodels) (p : ℕ) → is_linked m p ≡ false → opposite m p ≡ None
no_opposite m p alone = go (opposite m p) refl
  where
    go : (q : Option FeatureNo) → opposite m p ≡ q → opposite m p ≡ None
    go None e = e
    go (Some q) e = clash _ (ap is_some_feature e) (none_right (is_containment m p) (is_some_feature (opposite m p)) alone)

pub no_containment : (m : Metamodels) (p : ℕ) → is_linked m p ≡ false → is_containment m p ≡ false
no_containment m p alone = none_left (is_containment m p) (is_some_feature (opposite m p)) alone

module _ (s : Contents) (o : Oid) (p : FeatureNo) (given fresh : List Value) (known : IsKnown s) (can : IsAssignable s o.0 p.0 given) (alone : is_linked s.metas p.0 ≡ false)
    (last : new_list s.metas p.0 (slot_of s o.0 p.0 ++ given) ≡ slot_of s o.0 p.0 ++ fresh) where
  abbrev items : List Value
  items = slot_of s o.0 p.0 ++ fresh

  abbrev whole : List Value
  whole = slot_of s o.0 p.0 ++ given

  abbrev pub lone : Draft
  lone = record { object = o; feature = p; added = objects_beyond (slot_of s o.0 p.0) items; removed = objects_beyond items (slot_of s o.0 p.0) }

  none_over : (os : List Oid) (q : Option FeatureNo) → q ≡ None → list_any (overfills_elsewhere (drafted s lone) q) os ≡ false
  none_over os q e = ap (λ r. list_any (overfills_elsewhere (drafted s lone) r) os) e ∙ go os
    where
      go : (os : List Oid) → list_any (overfills_elsewhere (drafted s lone) None) os ≡ false
      go [] = refl
      go (a ∷ os) = go os

  acyclic : ClosesCycle (drafted s lone) → ⊥
  acyclic (by_items c some) = clash _ c (no_containment s.metas p.0 alone)
  acyclic (by_end c some) = clash false (sym (ap (names_containment s.metas) (no_opposite s.metas p.0 alone)) ∙ c) refl

  few_of : (n : ℕ) → exceeds_bound n (shape_of s.metas p.0).upper ≡ false → is_overfilling (drafted s lone) n ≡ false
  few_of n few = or_none _ _ few (none_over lone.added (opposite s.metas p.0) (no_opposite s.metas p.0 alone))

  allowed : (n : ℕ) → exceeds_bound n (shape_of s.metas p.0).upper ≡ false → is_writable s o.0 ≡ true → IsAllowed s (drafted s lone) n
  allowed n few writable = record { few = few_of n few; acyclic = acyclic; writable = ap not writable }

  all : IsAssignable s o.0 p.0 whole
  all = list_assignable s o.0 p.0 given known can

  pub too_many : (n : ℕ) → n ≡ length items → exceeds_bound n (shape_of s.metas p.0).upper ≡ true → assign s o.0 p.0 whole ≡ Err TooMany
  too_many n e h = early s o p whole items lone.added lone.removed known all (sym last) refl refl TooMany n e (or_left _ _ h) (λ q. cc)

  pub read_only : (n : ℕ) → n ≡ length items → exceeds_bound n (shape_of s.metas p.0).upper ≡ false → is_writable s o.0 ≡ false → assign s o.0 p.0 whole ≡ Err ReadOnly
  read_only n e few h = early s o p whole items lone.added lone.removed known all (sym last) refl refl ReadOnly n e (record { few = few_of n few; acyclic = acyclic; read_only = not_of_false _ h }) (λ q. cc)

  pub crossing : (n : ℕ) → n ≡ length items → exceeds_bound n (shape_of s.metas p.0).upper ≡ false → is_writable s o.0 ≡ true → crosses s o.0 items ≡ true → assign s o.0 p.0 whole ≡ Err CrossModel
  crossing n e few writable h = cross s o p whole items lone.added lone.removed known all (sym last) refl refl n e (allowed n few writable) h

  pub appended : (n : ℕ) → n ≡ length items → exceeds_bound n (shape_of s.metas p.0).upper ≡ false → is_writable s o.0 ≡ true → crosses s o.0 items ≡ false →
      assign s o.0 p.0 whole ≡ Ok (store_after s (change_to s o.0 p.0 items))
  appended n e few writable own = done s o p whole items lone.added lone.removed known all (sym last) refl refl n e (allowed n few writable) own

  plan : IsPlan s (drafted s lone) []
  plan = record {
    right = All-nil (IsRight s (drafted s lone));
    others = λ x f slot away listed. alone_stay (drafted s lone) known.well_formed (no_opposite s.metas p.0 alone) (no_containment s.metas p.0 alone) (sym (removes_none (slot_of s o.0 p.0) fresh)) x f;
  }

  none_released : (b : Bool) → b ≡ false → ◌≡◌ {A = List Oid} [] (cond b lone.removed [] ++ [])
  none_released b e = ap (λ c. cond c lone.removed [] ++ []) (sym e)

  pub ready_alone : exceeds_bound (length items) (shape_of s.metas p.0).upper ≡ false → is_writable s o.0 ≡ true → crosses s o.0 items ≡ false → Ready s lone items [] []
  ready_alone few writable own = ready s o p whole items lone.added lone.removed known all (sym last) refl refl (length items) refl (allowed (length items) few writable) own [] [] plan
      (none_released (is_containment s.metas p.0) (no_containment s.metas p.0 alone))

-- a slot that is put alone settles
pub settled : (m : Metamodels) (d : Draft) (old mid : List Cell) (o p : ℕ) (vs : List Value) → is_containment m d.feature.0 ≡ false → IsPut m old mid o p vs → IsSettled m d mid mid [] []
settled m d old mid o p vs plain put = record {
  objects = record { same_length = refl; classes = λ x. refl; extents = λ x. refl; have_slots = put.objects.have_slots };
  slots = λ x f. refl;
  holders = λ z. sym (ap (λ b. or_else (cond (b && among_objects d.added z) (Some (holder_in d.object.0 d.feature.0)) None) (holder_at mid z)) plain);
}

-- the cells with the values put last are a store, which is the one after the change
module _ (m : Metamodels) (extents : List Extent) (old mid : List Cell) (o : Oid) (p : FeatureNo) (fresh : List Value) (store : AreWhole m old)
    (is : IsLone (contents_of m extents old) o.0 p.0 fresh) (put : IsPut m old mid o.0 p.0 (slot_in m (instances old) o.0 p.0 ++ fresh)) where
  abbrev s : Contents
  s = contents_of m extents old

  abbrev list : List Value
  list = slot_of s o.0 p.0 ++ fresh

  abbrev d : Draft
  d = lone s o p is.given fresh is.known is.can is.alone is.last

  is_ready : Ready s d list [] []
  is_ready = ready_alone s o p is.given fresh is.known is.can is.alone is.last is.few is.writable is.own

  is_done : IsSettled m d mid mid [] []
  is_done = settled m d old mid o.0 p.0 list (no_containment m p.0 is.alone) put

  pub lone_kept : (members : List (List Oid)) (marks : Marks) → IsStoreKept m extents old members marks → IsStoreKept m extents mid members marks
  lone_kept members marks kept' = kept_whole m extents old d list [] [] store is_ready mid mid put is_done members marks marks kept' refl
      (λ t. (t, or_right (is_model s (extent_of s o.0)) _ (not_of_false _ is.alone)))

  pub lone_store : contents_of m extents mid ≡ store_after s (change_to s o.0 p.0 list)
  lone_store = gives_store m extents old d list [] [] store is_ready mid mid put is_done
