-- The answer so far is as made.
use Rattle.std.proofs.Common.{All}
use Rattle.qvt_ocl_made.specs.AsMade.{IsAsMade}
use Rattle.qvt_speed.proofs.operations.onto_made.Given as goal

abbrev pub invariant-loop-time : goal.invariant-loop-time
invariant-loop-time g l = IsAsMade l.answer × All IsAsMade l.args
