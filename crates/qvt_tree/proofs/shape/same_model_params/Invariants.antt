use Rattle.std.proofs.Common.{◌≡◌, drop}
use Rattle.qvt_tree.specs.SameModule.{same_model_params}
use Rattle.qvt_tree.proofs.shape.same_model_params.Given as goal

abbrev pub invariant-loop-i : goal.invariant-loop-i
invariant-loop-i l = same_model_params l.a l.b ≡ same_model_params (drop l.i l.a) (drop l.i l.b)
