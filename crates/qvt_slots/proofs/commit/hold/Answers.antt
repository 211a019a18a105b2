use Rattle.std.proofs.Common.{refl}
use Rattle.qvt_slots.proofs.Holds.{hold_is}
use Rattle.qvt_slots.proofs.commit.hold.Goals as goal

pub returns : goal.returns
returns c = hold_is c.args.cells.now.items c.args.child.0 c.index_mut-cell.result.now _ c.requires c.index_mut-cell.ensures.value refl
