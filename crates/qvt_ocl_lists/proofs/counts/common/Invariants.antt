-- What is kept, and what is to be kept of the rest, is what is in common; and what is left of the others is what was not taken.
use Rattle.std.proofs.Common.{◌≡◌, ◌++◌, ◌-◌, take, drop}
use Rattle.qvt_value.specs.declared.value.Value.{Value}
use Rattle.qvt_ocl_words.specs.Lists.{count, common, common_after}
use Rattle.qvt_ocl_lists.specs.Counts.{left}
use Rattle.qvt_ocl_lists.proofs.counts.common.Given as goal

abbrev pub invariant-loop-item : goal.invariant-loop-item
invariant-loop-item l = (l.kept ++ common_after (take l.item-index l.items) (drop l.item-index l.items) l.others ≡ common l.items l.others) × ((x : Value) → left l.counts x ≡ count x l.others - count x (take l.item-index l.items))
