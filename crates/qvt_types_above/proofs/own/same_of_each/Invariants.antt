use Rattle.std.proofs.Common.{◌≡◌, replicate}
use Rattle.qvt_types_above.proofs.own.same_of_each.Given as goal

abbrev pub invariant-loop-class : goal.invariant-loop-class
invariant-loop-class l = l.row ≡ replicate l.class l.above
