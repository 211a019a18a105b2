use Rattle.std.proofs.Common.{◌≡◌, drop}
use Rattle.std.specs.List.{fold}
use Rattle.qvt_ocl_words.specs.Lists.{greater}
use Rattle.qvt_ocl_lists.proofs.best.greatest.Given as goal

abbrev pub invariant-loop-value : goal.invariant-loop-value
invariant-loop-value l = fold greater l.best (drop l.value-index l.rest) ≡ fold greater l.first l.rest
