use Rattle.std.proofs.Common.{◌≡◌, take}
use Rattle.qvt_ocl_words.specs.Lists.{lacking}
use Rattle.qvt_ocl_lists.proofs.lookup.without.Given as goal

abbrev pub invariant-loop-item : goal.invariant-loop-item
invariant-loop-item l = l.kept ≡ lacking l.known (take l.item-index l.items)
