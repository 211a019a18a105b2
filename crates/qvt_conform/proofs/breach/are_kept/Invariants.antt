use Rattle.std.proofs.Common.{◌≡◌, drop}
use Rattle.qvt_conform.specs.Breaches.{are_kept}
use Rattle.qvt_conform.proofs.breach.are_kept.Given as goal

abbrev pub invariant-loop-slot : goal.invariant-loop-slot
invariant-loop-slot l = are_kept l.metas l.links l.place (drop l.slot-index l.slots) ≡ are_kept l.metas l.links l.place l.slots
