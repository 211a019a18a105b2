use Rattle.std.proofs.Common.{◌≡◌, replicate}
use Rattle.qvt_metamodel.proofs.lists.empty_fronts.Given as goal

abbrev pub invariant-loop-at : goal.invariant-loop-at
invariant-loop-at l = l.fronts ≡ replicate l.at (record { line = 0; count = 0 })
