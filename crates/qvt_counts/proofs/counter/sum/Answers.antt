use Rattle.qvt_counts.proofs.Counting.{sum_is}
use Rattle.qvt_counts.proofs.counter.sum.Goals as goal

pub returns : goal.returns
returns c = λ k. sum_is c.args.digit c.args.carry k
