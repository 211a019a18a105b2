use Rattle.std.proofs.Common.{◌≡◌, drop}
use Rattle.qvt_types_above.specs.Shapes.{all_same}
use Rattle.qvt_types_above.proofs.shapes.same_types.Given as goal

abbrev pub invariant-loop-place : goal.invariant-loop-place
invariant-loop-place l = all_same (drop l.place l.some) (drop l.place l.others) ≡ all_same l.some l.others
