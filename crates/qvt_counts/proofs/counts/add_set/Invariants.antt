use Rattle.qvt_counts.specs.Counts.{no_counter}
use Rattle.qvt_counts.proofs.Changed.{ChangedBefore}
use Rattle.qvt_counts.proofs.Counted.{OneMore}
use Rattle.qvt_counts.proofs.counts.add_set.Given as goal

abbrev pub invariant-loop-place : goal.invariant-loop-place
invariant-loop-place l = ChangedBefore no_counter (OneMore l.set) l.fn.counts l.counts l.place
