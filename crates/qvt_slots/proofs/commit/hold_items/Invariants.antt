use Rattle.std.proofs.Common.{take}
use Rattle.qvt_slots.specs.Slots.{has}
use Rattle.qvt_slots.specs.Writes.{AreHeld}
use Rattle.qvt_slots.proofs.commit.hold_items.Given as goal

abbrev pub invariant-loop-value : goal.invariant-loop-value
invariant-loop-value l = AreHeld l.fn.cells.items l.cells.items (has (take l.value-index l.values)) l.holder
