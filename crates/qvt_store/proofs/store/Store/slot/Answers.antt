use Rattle.std.proofs.Common.{◌≡◌, ◌∙◌, sym, subst, List}
use Rattle.std.specs.Prelude.{slice_index_or}
use Rattle.qvt_value.specs.declared.value.Value.{Value}
use Rattle.qvt_slots.specs.Contents.{Contents, slot_of}
use Rattle.qvt_slots.proofs.Cells.{slot-cell, live_cell}
use Rattle.qvt_store.proofs.store.Store.slot.Goals as goal

pub returns : goal.returns
returns c = subst (λ (s : Contents). c.as_slice.result.now ≡ slot_of s c.args.object.0 c.args.feature.0) c.self.view_is
    (slot-cell c.self.inside.metas c.self.inside.cells.items c.args.object.0 c.args.feature.0 c.index-cell.result.now c.place_of-place.result c.as_slice.result.now
    (live_cell c.args.self.now c.self.inside.metas c.self.inside.extents c.self.inside.cells.items c.args.object.0 c.self.view_is c.requires.live)
    c.index-cell.ensures c.self.invariant.whole.have_slots
    c.place_of-place.ensures
    (c.as_slice.ensures ∙ subst (λ (l : List Value). c.index.result.now ≡ slice_index_or c.index-cell.result.now.slots.items c.place_of-place.result l) (sym c.as_slice.ensures) c.index.ensures))
