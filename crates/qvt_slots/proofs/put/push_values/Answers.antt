use Rattle.std.proofs.Common.{◌∙◌, ◌++◌, refl, sym, ap, List}
use Rattle.std.specs.Prelude.{slice_index_or}
use Rattle.qvt_value.specs.declared.value.Value.{Value}
use Rattle.qvt_slots.proofs.Cells.{put_is, slot-cell}
use Rattle.qvt_slots.proofs.Pushed.{same_cells, on_err, put_same}
use Rattle.qvt_slots.proofs.put.push_values.Goals as goal

pub returns-in_err-join-clause-err : goal.returns-in_err-join-clause-err
returns-in_err-join-clause-err c = on_err c.from_residual.result (same_cells c.args.cells.now.items c.args.object.0 c.place_of-place.result c.join.new.list c.index_mut-cell.result.now _ c.requires.live c.index_mut-cell.ensures.value
    (c.in_err-join.ensures.err ∙ c.index_mut-list.ensures.value ∙ ap (λ (l : List Value). slice_index_or c.index_mut-cell.result.now.slots.items c.place_of-place.result l) (sym c.in_err-join.ensures.err)) refl refl refl refl)

pub returns-clause-ok : goal.returns-clause-ok
returns-clause-ok c =
    let at = c.place_of-place.ensures in
    put_same _ _ _ _ _ c.join.new.list _
    (put_is c.args.metas.now c.args.cells.now.items c.args.object.0 c.args.feature.0 c.place_of-place.result c.join.new.list c.index_mut-cell.result.now _
    c.requires.live c.index_mut-cell.ensures.value c.requires.have_slots at refl refl refl refl)
    (c.in_ok-join.ensures.ok ∙ ap (λ (l : List Value). l ++ c.args.values)
    (slot-cell c.args.metas.now c.args.cells.now.items c.args.object.0 c.args.feature.0 c.index_mut-cell.result.now c.place_of-place.result c.index_mut-list.result.now c.requires.live c.index_mut-cell.ensures.value c.requires.have_slots at c.index_mut-list.ensures.value))
