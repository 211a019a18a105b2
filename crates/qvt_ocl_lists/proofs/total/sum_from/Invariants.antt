use Rattle.std.proofs.Common.{◌≡◌, drop, pos}
use Rattle.qvt_ocl_words.specs.Lists.{sum_from}
use Rattle.qvt_ocl_lists.proofs.total.sum_from.Given as goal

abbrev pub invariant-loop-value : goal.invariant-loop-value
invariant-loop-value l = sum_from l.place l.sum (drop l.value-index l.values) ≡ sum_from l.place (pos 0) l.values
