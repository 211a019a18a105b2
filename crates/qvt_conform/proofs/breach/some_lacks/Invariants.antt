use Rattle.std.proofs.Common.{◌≡◌, drop}
use Rattle.std.specs.List.{list_any}
use Rattle.qvt_conform.specs.Breaches.{lacks_link}
use Rattle.qvt_conform.proofs.breach.some_lacks.Given as goal

abbrev pub invariant-loop-item : goal.invariant-loop-item
invariant-loop-item l = list_any (lacks_link l.links l.feature.0 l.place) (drop l.item-index l.items) ≡ list_any (lacks_link l.links l.feature.0 l.place) l.items
