use Rattle.std.proofs.Common.{take}
use Rattle.qvt_slots.specs.Writes.{AreHeldBy}
use Rattle.qvt_slots.proofs.commit.hold_all.Given as goal

abbrev pub invariant-loop-write : goal.invariant-loop-write
invariant-loop-write l = AreHeldBy l.metas l.fn.cells.items l.cells.items (take l.write-index l.writes)
