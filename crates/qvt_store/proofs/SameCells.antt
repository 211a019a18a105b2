-- Cells that stand for the same keep the store.
use Rattle.std.proofs.Common.{◌≡◌, ◌≤◌, sym, ap, ◌∙◌, subst, List}
use Rattle.qvt_base.specs.declared.numbers.Oid.{Oid}
use Rattle.qvt_metamodel.specs.Metamodels.{Metamodels}
use Rattle.qvt_slots.specs.declared.cell.Cell.{Cell}
use Rattle.qvt_slots.specs.declared.cell.Marks.{Marks}
use Rattle.qvt_slots.specs.declared.extent.Extent.{Extent}
use Rattle.qvt_slots.specs.Slots.{has, Inside}
use Rattle.qvt_slots.specs.Contents.{Instance, HoldOwn, slot_in, members_from}
use Rattle.qvt_slots.specs.Limits.{most_objects}
use Rattle.qvt_slots.specs.Types.{AreTyped}
use Rattle.qvt_slots.specs.Repeats.{AreUnique}
use Rattle.qvt_slots.specs.Cells.{contents_of, IsStoreKept, IsSameCells}
use Rattle.qvt_slots.proofs.Holds.{same_count, have_same}

pub same_kept : (m : Metamodels) (extents : List Extent) (old new : List Cell) (members : List (List Oid)) (marks : Marks) → IsSameCells old new → IsStoreKept m extents old members marks → IsStoreKept m extents new members marks
same_kept m extents old new members marks same kept' = record {
  whole = record {
    well_formed = kept'.whole.well_formed;
    few = subst (λ n. n ≤ most_objects) (sym (same_count old new same.objects)) kept'.whole.few;
    have_slots = have_same m old new same.objects kept'.whole.have_slots;
    holders = record {
      held = λ x f y k h. same.holders y ∙ kept'.whole.holders.held x f y k (ap (λ (l : List Instance). has (slot_in m l x f) y) (sym same.objects) ∙ h);
      contains = λ h y e. let r = kept'.whole.holders.contains h y (sym (same.holders y) ∙ e) in (r.0, ap (λ (l : List Instance). has (slot_in m l h.object.0 h.feature.0) y) same.objects ∙ r.1);
    };
    acyclic = λ x i. kept'.whole.acyclic x (subst (λ (l : List Instance). Inside m (slot_in m l) x x) same.objects i);
  };
  typed = subst (λ (l : List Instance). AreTyped (record { metas = m; extents = extents; objects = l })) (sym same.objects) kept'.typed;
  named = kept'.named;
  listed = record { count = kept'.listed.count; lists = λ e h. kept'.listed.lists e h ∙ ap (λ (l : List Instance). members_from 0 l e) (sym same.objects) };
  unique = λ t. subst (λ (l : List Instance). AreUnique (record { metas = m; extents = extents; objects = l })) (sym same.objects) (kept'.unique t);
  own = λ t. subst (λ (l : List Instance). HoldOwn (record { metas = m; extents = extents; objects = l })) (sym same.objects) (kept'.own t);
}

pub same_view : (m : Metamodels) (extents : List Extent) (old new : List Cell) → IsSameCells old new → contents_of m extents new ≡ contents_of m extents old
same_view m extents old new same = ap (λ (l : List Instance). record { metas = m; extents = extents; objects = l }) same.objects
