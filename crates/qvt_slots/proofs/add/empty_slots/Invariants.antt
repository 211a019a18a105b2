use Rattle.std.proofs.Common.{◌≡◌, take, map, []}
use Rattle.qvt_slots.proofs.add.empty_slots.Given as goal

abbrev pub invariant-loop-feature : goal.invariant-loop-feature
invariant-loop-feature l = l.slots ≡ map (λ _. []) (take l._feature-index l.features)
