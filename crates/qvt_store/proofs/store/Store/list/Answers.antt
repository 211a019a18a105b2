use Rattle.std.proofs.Common.{◌≡◌, ◌<◌, ◌∙◌, sym, subst, length, List, [], arith}
use Rattle.std.specs.Prelude.{slice_index_or}
use Rattle.qvt_value.specs.declared.value.Value.{Value}
use Rattle.qvt_metamodel.specs.Metamodels.{features_of}
use Rattle.qvt_slots.specs.Cells.{IsPlaceOf}
use Rattle.qvt_slots.specs.Contents.{Contents, slot_of}
use Rattle.qvt_slots.proofs.Cells.{cell-slots, slot-cell, empty_slot, dead_slot}
use Rattle.qvt_store.proofs.store.Store.list.Goals as goal
use Rattle.qvt_store.proofs.store.Store.list.Goals.{then-at-len+in_default, else-at-len}

pub index-requires : goal.index-requires
index-requires c =
    let live : c.args.object.0 < length c.self.inside.cells.items = omega arith in
    let n : length c.index-cell.result.now.slots.items ≡ length (features_of c.self.inside.metas c.index-cell.result.now.class.0) =
    cell-slots c.self.inside.metas c.self.inside.cells.items c.args.object.0 c.index-cell.result.now live c.index-cell.ensures c.self.invariant.whole.have_slots in
    let at : IsPlaceOf (features_of c.self.inside.metas c.index-cell.result.now.class.0) c.args.feature.0 c.in-Some.place = c.in-Some.ensures.some in
    let w : c.in-Some.place < length (features_of c.self.inside.metas c.index-cell.result.now.class.0) = at.within in
    omega arith

pub returns-in-Some : goal.returns-in-Some
returns-in-Some c = subst (λ (s : Contents). c.as_slice.result.now ≡ slot_of s c.args.object.0 c.args.feature.0) c.self.view_is
    (slot-cell c.self.inside.metas c.self.inside.cells.items c.args.object.0 c.args.feature.0 c.index-cell.result.now c.in-Some.place c.as_slice.result.now
    (omega arith)
    c.index-cell.ensures c.self.invariant.whole.have_slots
    c.in-Some.ensures.some
    (c.as_slice.ensures ∙ subst (λ (l : List Value). c.index.result.now ≡ slice_index_or c.index-cell.result.now.slots.items c.in-Some.place l) (sym c.as_slice.ensures) c.index.ensures))

pub returns : goal.returns
returns c = subst (λ (s : Contents). [] ≡ slot_of s c.args.object.0 c.args.feature.0) c.self.view_is (sym (elim c.if-at-len.branch [
  | then-at-len+in_default w ↦ empty_slot c.self.inside.metas c.self.inside.cells.items c.args.object.0 c.args.feature.0 w.index-cell.result.now
      (omega arith) w.index-cell.ensures w.in_default.ensures.none
  | else-at-len w ↦ dead_slot c.self.inside.metas c.self.inside.cells.items c.args.object.0 c.args.feature.0 (omega arith)
]))
