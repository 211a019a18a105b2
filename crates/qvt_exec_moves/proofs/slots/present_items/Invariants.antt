use Rattle.std.proofs.Common.{◌≡◌, filter, not, take}
use Rattle.qvt_ocl_words.specs.Lists.{is_null}
use Rattle.qvt_exec_moves.proofs.slots.present_items.Given as goal

abbrev pub invariant-loop-value : goal.invariant-loop-value
invariant-loop-value l = l.kept ≡ filter (λ v. not (is_null v)) (take l.value-index l.values)
