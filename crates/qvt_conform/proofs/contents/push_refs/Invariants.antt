use Rattle.std.proofs.Common.{◌≡◌, ◌++◌, drop}
use Rattle.qvt_conform.specs.Containment.{refs}
use Rattle.qvt_conform.proofs.contents.push_refs.Given as goal

abbrev pub invariant-loop-item : goal.invariant-loop-item
invariant-loop-item l = l.contents ++ refs (drop l.item-index l.items) ≡ l.initial.contents ++ refs l.items
