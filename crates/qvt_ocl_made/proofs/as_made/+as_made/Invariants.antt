-- All so far are as made.
use Rattle.std.proofs.Common.{All, take}
use Rattle.qvt_ocl_made.specs.AsMade.{IsAsMade}
use Rattle.qvt_ocl_made.proofs.as_made.+as_made.Given as goal

abbrev pub invariant-are_as_made-loop-value : goal.invariant-are_as_made-loop-value
invariant-are_as_made-loop-value l = All IsAsMade (take l.value-index l.values)
