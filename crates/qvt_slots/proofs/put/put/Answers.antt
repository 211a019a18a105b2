use Rattle.std.proofs.Common.{refl}
use Rattle.qvt_slots.proofs.Cells.{put_is}
use Rattle.qvt_slots.proofs.put.put.Goals as goal

pub returns : goal.returns
returns c = put_is c.args.metas.now c.args.cells.now.items c.args.object.0 c.args.feature.0 c.place_of-place.result c.args.items c.index_mut-cell.result.now _
    c.requires.live c.index_mut-cell.ensures.value c.requires.have_slots
    c.place_of-place.ensures refl refl refl refl
