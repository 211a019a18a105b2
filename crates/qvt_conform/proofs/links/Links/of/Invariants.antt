use Rattle.std.proofs.Common.{List, [], drop}
use Rattle.qvt_conform.specs.declared.links.ObjectLink.{ObjectLink}
use Rattle.qvt_conform.specs.Joined.{Joined}
use Rattle.qvt_conform.specs.Links.{links_from}
use Rattle.qvt_conform.proofs.links.Links.of.Given as goal

abbrev pub invariant-loop-i : goal.invariant-loop-i
invariant-loop-i l = (end : List ObjectLink) → Joined l.links (links_from l.metas l.i (drop l.i l.objects)) end → Joined [] (links_from l.metas 0 l.objects) end
