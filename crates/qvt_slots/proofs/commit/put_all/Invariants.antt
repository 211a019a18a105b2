use Rattle.qvt_slots.specs.Writes.{AreWritten}
use Rattle.qvt_slots.proofs.commit.put_all.Given as goal

abbrev pub invariant-loop-write : goal.invariant-loop-write
invariant-loop-write l = AreWritten l.metas l.fn.cells.items l.cells.items l.yielded
