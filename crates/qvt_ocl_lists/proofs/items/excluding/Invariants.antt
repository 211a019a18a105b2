use Rattle.std.proofs.Common.{◌≡◌, take}
use Rattle.qvt_ocl_words.specs.Lists.{excluding}
use Rattle.qvt_ocl_lists.proofs.items.excluding.Given as goal

abbrev pub invariant-loop-other : goal.invariant-loop-other
invariant-loop-other l = l.kept ≡ excluding l.item (take l.other-index l.items)
