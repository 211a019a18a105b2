use Rattle.std.proofs.Common.{◌≡◌, drop}
use Rattle.qvt_tree.specs.Same.{same_signs}
use Rattle.qvt_tree.proofs.leaf.same_signs.Given as goal

abbrev pub invariant-loop-i : goal.invariant-loop-i
invariant-loop-i l = same_signs l.xs l.ys ≡ same_signs (drop l.i l.xs) (drop l.i l.ys)
