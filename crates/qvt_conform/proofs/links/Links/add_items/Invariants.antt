use Rattle.std.proofs.Common.{List, drop}
use Rattle.qvt_conform.specs.declared.links.ObjectLink.{ObjectLink}
use Rattle.qvt_conform.specs.Joined.{Joined}
use Rattle.qvt_conform.specs.Links.{links_of_items}
use Rattle.qvt_conform.proofs.links.Links.add_items.Given as goal

abbrev pub invariant-loop-item : goal.invariant-loop-item
invariant-loop-item l = (end : List ObjectLink) → Joined l.self (links_of_items l.object l.feature.0 (drop l.item-index l.items)) end → Joined l.initial.self (links_of_items l.object l.feature.0 l.items) end
