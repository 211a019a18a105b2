use Rattle.std.proofs.Common.{take}
use Rattle.qvt_slots.specs.Change.{among_objects}
use Rattle.qvt_slots.specs.Writes.{AreHeld}
use Rattle.qvt_slots.proofs.commit.hold_each.Given as goal

abbrev pub invariant-loop-object : goal.invariant-loop-object
invariant-loop-object l = AreHeld l.fn.cells.items l.cells.items (among_objects (take l.object-index l.objects)) l.holder
