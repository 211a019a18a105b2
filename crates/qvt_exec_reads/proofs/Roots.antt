-- The objects that stand in no containment slot.
use Rattle.std.proofs.Common.{◌≡◌, ℕ, ◌<◌, true, false, inl, inr, ap, length}
use Rattle.std.proofs.lemmas.Bool.{ltb-true}
use Rattle.qvt_base.specs.declared.numbers.Oid.{Oid}
use Rattle.qvt_relation.proofs.Bools.{and_left, clash, either, not_of_false, not_of_true, refuted}
use Rattle.qvt_relation.proofs.Closures.{any_below-at, any_below-some}
use Rattle.qvt_store.specs.Slots.{Contains, has}
use Rattle.qvt_store.specs.Contents.{Contents, is_live, slot_of}
use Rattle.qvt_store.specs.Types.{AreTyped}
use Rattle.qvt_store.specs.Assign.{is_in}
use Rattle.qvt_slots.proofs.Cyclic.{contains-is_in, is_in-contains}
use Rattle.qvt_store_laws.proofs.After.{dead_empty, item_object}
use Rattle.qvt_run_rules.specs.Store.{is_root}

-- an object that none contains
pub root_alone : (s : Contents) (o : Oid) → ((x : ℕ) → Contains s.metas (slot_of s) x o.0 → ⊥) → is_root s o ≡ true
root_alone s o alone = not_of_false _ (refuted _ (λ h.
    let r : (x : ℕ) × (x < length s.objects) × (is_in s.metas (slot_of s) x o.0 ≡ true) = any_below-some (length s.objects) (λ x. is_in s.metas (slot_of s) x o.0) h in
    alone r.0 (is_in-contains s.metas (slot_of s) r.0 o.0 r.2)))

-- an object that one contains
pub root_held : (s : Contents) (o : Oid) (x : ℕ) → Contains s.metas (slot_of s) x o.0 → is_root s o ≡ false
root_held s o x k = not_of_true _ (any_below-at (length s.objects) (λ y. is_in s.metas (slot_of s) y o.0) x live (contains-is_in s.metas (slot_of s) x o.0 k))
  where
    live : x < length s.objects
    live = elim (either (is_live s x)) [
      | inl h ↦ ltb-true x (length s.objects) h
      | inr h ↦ clash _ k.held (ap (λ l. has l o.0) (dead_empty s x k.feature h))
    ]

-- an object that is not there stands in no slot
pub root_dead : (s : Contents) (o : Oid) → AreTyped s → is_live s o.0 ≡ false → is_root s o ≡ true
root_dead s o typed dead = root_alone s o (λ x k. clash _ (and_left (is_live s o.0) _ (item_object s k.feature (slot_of s x k.feature) o.0 (typed.types x k.feature) k.held)) dead)
