-- A store with no objects, and a cell with empty slots put last.
use Rattle.std.proofs.Common.{◌≡◌, ℕ, zero, suc, ◌+◌, ◌<◌, ◌≤◌, true, false, inl, inr, refl, sym, ap, ◌∙◌, subst, List, [], ◌∷◌, ◌++◌, map, take, length, get_or, set, arith}
use Rattle.std.specs.Prelude.{slice_index_or, Option, Some, None}
use Rattle.std.specs.List.{list_all}
use Rattle.std.proofs.lemmas.Bool.{cases_order, ltb-true, lt-ltb}
use Rattle.std.proofs.lemmas.List.{take_more}
use Rattle.qvt_base.specs.declared.numbers.FeatureNo.{FeatureNo}
use Rattle.qvt_base.specs.declared.numbers.Oid.{Oid}
use Rattle.qvt_value.specs.declared.value.Value.{Value}
use Rattle.qvt_metas.specs.Metamodels.{Metamodels, features_of}
use Rattle.qvt_metas.specs.WellFormed.{IsWellFormed}
use Rattle.qvt_relation.proofs.Bools.{clash}
use Rattle.qvt_slots.specs.declared.cell.Holder.{Holder}
use Rattle.qvt_slots.specs.declared.cell.Cell.{Cell}
use Rattle.qvt_slots.specs.declared.cell.Marks.{Marks}
use Rattle.qvt_slots.specs.declared.extent.Extent.{Extent}
use Rattle.qvt_slots.specs.Slots.{Slots, has, Contains, Inside, directly, through}
use Rattle.qvt_slots.specs.Contents.{Instance, AreNamed, HoldOwn, no_instance, is_live, class_of, slot_in, with_new}
use Rattle.qvt_slots.specs.Limits.{most_objects}
use Rattle.qvt_slots.specs.Types.{is_of_type}
use Rattle.qvt_slots.specs.Repeats.{repeats, AreUnique}
use Rattle.qvt_slots.specs.Cells.{instance_of, instances, contents_of, holder_at, AreWhole, IsStoreKept}
use Rattle.qvt_slots.specs.Members.{AreEmpty}
use Rattle.qvt_slots.proofs.Lists.{length-push, below_end, at_end, length-map}
use Rattle.qvt_slots.proofs.Places.{list_of-nil}
use Rattle.qvt_slots.proofs.Instances.{slot-push}
use Rattle.qvt_slots.proofs.Cells.{length-instances}
use Rattle.qvt_slots.proofs.Members.{members_added, no_members}
use Rattle.qvt_slots.proofs.Typed.{all_kept}

pub first_contained : (m : Metamodels) (s : Slots) {x y : ℕ} → Inside m s x y → (z : ℕ) × Contains m s x z
first_contained m s (directly {x} {y} k) = (y, k)
first_contained m s (through {x} {y} {z} k i) = (y, k)

pub instances-push : (cells : List Cell) (k : Cell) → instances (cells ++ k ∷ []) ≡ instances cells ++ instance_of k ∷ []
instances-push [] k = refl
instances-push (cell ∷ cells) k = ap (λ l. instance_of cell ∷ l) (instances-push cells k)

-- the view of one more cell
pub cells_new : (m : Metamodels) (extents : List Extent) (cells : List Cell) (k : Cell) → k.slots.items ≡ map (λ _. []) (features_of m k.class.0) → contents_of m extents (cells ++ k ∷ []) ≡ with_new (contents_of m extents cells) k.class.0 k.extent
cells_new m extents cells k e = ap (λ (l : List Instance). record { metas = m; extents = extents; objects = l })
    (instances-push cells k ∙ ap (λ (t : List (List Value)). instances cells ++ record { class = k.class.0; extent = k.extent; slots = t } ∷ []) e)

holder-push : (cells : List Cell) (k : Cell) (y : ℕ) → k.holder ≡ None → holder_at (cells ++ k ∷ []) y ≡ holder_at cells y
holder-push [] k zero e = e
holder-push [] k (suc y) e = refl
holder-push (cell ∷ cells) k zero e = refl
holder-push (cell ∷ cells) k (suc y) e = holder-push cells k y e

module _ (m : Metamodels) (cells : List Cell) (k : Cell) (kept : AreWhole m cells) (room : length cells < most_objects) (no_holder : k.holder ≡ None)
    (no_slots : k.slots.items ≡ map (λ _. []) (features_of m k.class.0)) where
  pub same_slots : (x f : ℕ) → slot_in m (instances (cells ++ k ∷ [])) x f ≡ slot_in m (instances cells) x f
  same_slots x f = ap (λ (l : List Instance). slot_in m l x f) (instances-push cells k) ∙ slot-push m (instances cells) (instance_of k) no_slots x f

  full : (x : ℕ) → x < suc (length cells) → length (slice_index_or (instances cells ++ instance_of k ∷ []) x no_instance).slots ≡ length (features_of m (slice_index_or (instances cells ++ instance_of k ∷ []) x no_instance).class)
  full x h = elim (cases_order x (length (instances cells))) [
    | inl e ↦ subst (λ n. length (slice_index_or (instances cells ++ instance_of k ∷ []) n no_instance).slots ≡ length (features_of m (slice_index_or (instances cells ++ instance_of k ∷ []) n no_instance).class)) (sym e)
        (ap (λ (ob : Instance). length ob.slots) (at_end (instances cells) (instance_of k) no_instance) ∙ ap length no_slots ∙ length-map (λ (g : FeatureNo). let l : List Value = [] in l) (features_of m k.class.0)
        ∙ sym (ap (λ (ob : Instance). length (features_of m ob.class)) (at_end (instances cells) (instance_of k) no_instance)))
    | inr (inl l) ↦ ap (λ (ob : Instance). length ob.slots) (below_end (instances cells) (instance_of k) x no_instance l)
        ∙ kept.have_slots.slots x (subst (λ n. x < n) (length-instances cells) l)
        ∙ sym (ap (λ (ob : Instance). length (features_of m ob.class)) (below_end (instances cells) (instance_of k) x no_instance l))
    | inr (inr l) ↦ let e : length (instances cells) ≡ length cells = length-instances cells in absurd (omega arith)
  ]

  added_whole : AreWhole m (cells ++ k ∷ [])
  added_whole = record {
    well_formed = kept.well_formed;
    few = subst (λ n. n ≤ most_objects) (sym (length-push cells k)) (omega arith);
    have_slots = record {
      slots = λ x h. ap (λ (l : List Instance). length (slice_index_or l x no_instance).slots) (instances-push cells k)
          ∙ full x (subst (λ n. x < n) (length-push cells k) h)
          ∙ sym (ap (λ (l : List Instance). length (features_of m (slice_index_or l x no_instance).class)) (instances-push cells k));
    };
    holders = record {
      held = λ x f y c h. holder-push cells k y no_holder ∙ kept.holders.held x f y c (ap (λ l. has l y) (sym (same_slots x f)) ∙ h);
      contains = λ h y e. let r = kept.holders.contains h y (sym (holder-push cells k y no_holder) ∙ e) in (r.0, ap (λ l. has l y) (same_slots h.object.0 h.feature.0) ∙ r.1);
    };
    acyclic = λ x i. kept.acyclic x (subst (λ (t : Slots). Inside m t x x) (λ j y f. same_slots y f j) i);
  }

  module _ (extents : List Extent) where
    stays : (y : ℕ) → is_live (contents_of m extents cells) y ≡ true → (is_live (contents_of m extents (cells ++ k ∷ [])) y ≡ true) × (class_of (contents_of m extents cells) y ≡ class_of (contents_of m extents (cells ++ k ∷ [])) y)
    stays y live =
        let h : y < length (instances cells) = ltb-true y (length (instances cells)) live in (
          lt-ltb y (length (instances (cells ++ k ∷ []))) (subst (λ n. y < n) (sym (ap length (instances-push cells k) ∙ length-push (instances cells) (instance_of k))) (omega arith)),
          sym (ap (λ (l : List Instance). (slice_index_or l y no_instance).class) (instances-push cells k) ∙ ap (λ (ob : Instance). ob.class) (below_end (instances cells) (instance_of k) y no_instance h)),
        )

    pub added_kept : (members lists : List (List Oid)) (marks : Marks) → IsStoreKept m extents cells members marks → k.extent < length members →
        lists ≡ set members k.extent (slice_index_or members k.extent [] ++ record { 0 = length cells } ∷ []) →
        (HoldOwn (contents_of m extents cells) → HoldOwn (contents_of m extents (cells ++ k ∷ []))) → IsStoreKept m extents (cells ++ k ∷ []) lists marks
    added_kept members lists marks store live is own = record {
      whole = added_whole;
      typed = record {
        types = λ x f. subst (λ (l : List Value). list_all (is_of_type (contents_of m extents (cells ++ k ∷ [])) f) l ≡ true) (sym (same_slots x f))
            (all_kept (contents_of m extents cells) (contents_of m extents (cells ++ k ∷ [])) refl stays f (slot_in m (instances cells) x f) (store.typed.types x f));
      };
      named = store.named;
      listed = members_added extents cells (cells ++ k ∷ []) k members lists (length cells) (length-instances cells) (instances-push cells k) live is store.listed;
      unique = λ d. let u : AreUnique (contents_of m extents cells) = store.unique d in record { unique = λ x f t. ap repeats (same_slots x f) ∙ u.unique x f t };
      own = λ t. own (store.own t);
    }

pub empties_more : (gs : List FeatureNo) (i : ℕ) (d : FeatureNo) → i < length gs → ◌≡◌ {A = List (List Value)} (map (λ (g : FeatureNo). []) (take (i + 1) gs)) (map (λ (g : FeatureNo). []) (take i gs) ++ [] ∷ [])
empties_more gs i d h = ap (λ (l : List FeatureNo). map (λ (g : FeatureNo). let e : List Value = [] in e) l) (take_more gs i d h) ∙ pushed (take i gs) (get_or gs i d)
  where
    pushed : (l : List FeatureNo) (g : FeatureNo) → ◌≡◌ {A = List (List Value)} (map (λ (g : FeatureNo). []) (l ++ g ∷ [])) (map (λ (g : FeatureNo). []) l ++ [] ∷ [])
    pushed [] g = refl
    pushed (x ∷ l) g = ap (λ (t : List (List Value)). [] ∷ t) (pushed l g)

-- no object, so no slot holds a value
pub no_slots : (m : Metamodels) (x f : ℕ) → slot_in m [] x f ≡ []
no_slots m x f = list_of-nil (features_of m 0) f

pub empty_kept : (m : Metamodels) (extents : List Extent) (lists : List (List Oid)) → IsWellFormed m → AreNamed m extents → AreEmpty (length extents) lists → IsStoreKept m extents [] lists (record { distinct = true; own = true })
empty_kept m extents lists well named are = record {
  whole = record {
    well_formed = well;
    few = omega arith;
    have_slots = record { slots = λ x h. absurd (omega arith) };
    holders = record {
      held = λ x f y k h. absurd (none x f y h);
      contains = λ h y e. let n : ◌≡◌ {A = Option Holder} None (Some h) = e in cc;
    };
    acyclic = λ x i. let r : (z : ℕ) × Contains m (slot_in m []) x z = first_contained m (slot_in m []) i in
        let k : Contains m (slot_in m []) x r.0 = r.1 in none x k.feature r.0 k.held;
  };
  typed = record { types = λ x f. ap (list_all (is_of_type (contents_of m extents []) f)) (no_slots m x f) };
  named = named;
  listed = no_members extents lists are;
  unique = λ d. record { unique = λ x f t. ap repeats (no_slots m x f) };
  own = λ d. record { own = λ x f y model h. absurd (none x f y h) };
}
  where
    none : (x f y : ℕ) → has (slot_in m [] x f) y ≡ true → ⊥
    none x f y h = clash false (ap (λ (l : List Value). has l y) (sym (no_slots m x f)) ∙ h) refl
