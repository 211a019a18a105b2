use Rattle.std.proofs.Common.{◌≡◌, drop}
use Rattle.qvt_tree.specs.SameModule.{same_paths}
use Rattle.qvt_tree.proofs.shape.same_paths.Given as goal

abbrev pub invariant-loop-i : goal.invariant-loop-i
invariant-loop-i l = same_paths l.a l.b ≡ same_paths (drop l.i l.a) (drop l.i l.b)
