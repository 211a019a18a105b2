use Rattle.std.proofs.Common.{◌≡◌, drop}
use Rattle.std.specs.List.{fold}
use Rattle.qvt_ocl_words.specs.Lists.{lesser}
use Rattle.qvt_ocl_lists.proofs.best.least.Given as goal

abbrev pub invariant-loop-value : goal.invariant-loop-value
invariant-loop-value l = fold lesser l.best (drop l.value-index l.rest) ≡ fold lesser l.first l.rest
