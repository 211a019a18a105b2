use Rattle.qvt_counts.proofs.Changed.{ChangedBefore}
use Rattle.qvt_counts.proofs.Counted.{PutMore}
use Rattle.qvt_counts.proofs.counts.put_counted.Given as goal

abbrev pub invariant-loop-place : goal.invariant-loop-place
invariant-loop-place l = ChangedBefore 0 (PutMore l.set l.counts l.count) l.fn.words l.words l.place
