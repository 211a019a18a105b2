use Rattle.qvt_conform.proofs.Tables.{HasFrom}
use Rattle.qvt_conform.proofs.slots.SlotTable.of.Given as goal

abbrev pub invariant-loop-left : goal.invariant-loop-left
invariant-loop-left l = HasFrom l.table l.slots l.left

abbrev pub decreases-loop-left : goal.decreases-loop-left
decreases-loop-left l = l.left
