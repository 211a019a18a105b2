use Rattle.qvt_program_exprs.specs.Listing.{listing}
use Rattle.qvt_program_exprs.proofs.Places.{AreFirst}
use Rattle.qvt_program_exprs.proofs.index.first_places.Given as goal

abbrev pub invariant-loop-place : goal.invariant-loop-place
invariant-loop-place l = AreFirst (listing l.all) l.places l.place
