use Rattle.std.proofs.Common.{◌≡◌, ℕ, ◌+◌, ◌-◌, length}
use Rattle.qvt_program_exprs.specs.Index.{place_under}
use Rattle.qvt_program_exprs.proofs.index.grow.Given as goal

abbrev pub invariant-loop-places : goal.invariant-loop-places
invariant-loop-places l = (n : ℕ) → place_under l.places n ≡ place_under l.initial.places n

abbrev pub decreases-loop-places : goal.decreases-loop-places
decreases-loop-places l = l.number + 1 - length l.places
