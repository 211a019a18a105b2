use Rattle.std.proofs.Common.{◌≡◌, take}
use Rattle.qvt_slots.specs.Contents.{slot_of}
use Rattle.qvt_slots.specs.Writes.{released_of}
use Rattle.qvt_store.proofs.store.Store.released.Given as goal

abbrev pub invariant-loop-write : goal.invariant-loop-write
invariant-loop-write l = l.list ≡ released_of l.self.metas (slot_of l.self) l.draft (take l.write-index l.writes)
