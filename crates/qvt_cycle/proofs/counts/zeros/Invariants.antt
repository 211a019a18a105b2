use Rattle.std.proofs.Common.{◌≡◌, map, take}
use Rattle.qvt_cycle.proofs.counts.zeros.Given as goal

abbrev pub invariant-loop-item : goal.invariant-loop-item
invariant-loop-item g l = l.counts ≡ map (λ x. 0) (take l._item-index l.items)
