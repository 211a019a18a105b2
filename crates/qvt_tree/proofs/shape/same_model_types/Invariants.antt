use Rattle.std.proofs.Common.{◌≡◌, drop}
use Rattle.qvt_tree.specs.SameModule.{same_model_types}
use Rattle.qvt_tree.proofs.shape.same_model_types.Given as goal

abbrev pub invariant-loop-i : goal.invariant-loop-i
invariant-loop-i l = same_model_types l.a l.b ≡ same_model_types (drop l.i l.a) (drop l.i l.b)
