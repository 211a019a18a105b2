use Rattle.std.proofs.Common.{◌≡◌, ◌++◌, drop}
use Rattle.qvt_conform.specs.Containment.{contents_of_slots}
use Rattle.qvt_conform.proofs.contents.contents_of_object.Given as goal

abbrev pub invariant-loop-slot : goal.invariant-loop-slot
invariant-loop-slot l = l.contents ++ contents_of_slots l.metas (drop l.slot-index l.slots) ≡ contents_of_slots l.metas l.slots
