use Rattle.std.proofs.Common.{List, drop}
use Rattle.qvt_conform.specs.declared.links.ObjectLink.{ObjectLink}
use Rattle.qvt_conform.specs.Joined.{Joined}
use Rattle.qvt_conform.specs.Links.{links_of_slots}
use Rattle.qvt_conform.proofs.links.Links.add_slots.Given as goal

abbrev pub invariant-loop-slot : goal.invariant-loop-slot
invariant-loop-slot l = (end : List ObjectLink) → Joined l.self (links_of_slots l.metas l.object (drop l.slot-index l.slots)) end → Joined l.initial.self (links_of_slots l.metas l.object l.slots) end
