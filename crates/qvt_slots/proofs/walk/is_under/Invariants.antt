use Rattle.std.proofs.Common.{length}
use Rattle.qvt_slots.specs.Contents.{slot_in}
use Rattle.qvt_slots.specs.Cells.{instances}
use Rattle.qvt_slots.specs.Walk.{depth}
use Rattle.qvt_slots.proofs.Walks.{Walked}
use Rattle.qvt_slots.proofs.walk.is_under.Given as goal

abbrev pub invariant-loop-at : goal.invariant-loop-at
invariant-loop-at l = Walked l.metas l.cells.items l.objects l.fn.start.0 l.at.0

abbrev pub decreases-loop-at : goal.decreases-loop-at
decreases-loop-at l = depth l.metas (slot_in l.metas (instances l.cells.items)) (length l.cells.items) l.at.0
