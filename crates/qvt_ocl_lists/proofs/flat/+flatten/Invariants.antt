use Rattle.std.proofs.Common.{◌≡◌, ◌++◌, drop}
use Rattle.qvt_ocl_words.specs.Lists.{flattened}
use Rattle.qvt_ocl_lists.proofs.flat.+flatten.Given as goal

abbrev pub invariant-push_flattened-loop-value : goal.invariant-push_flattened-loop-value
invariant-push_flattened-loop-value l = l.out ++ flattened (drop l.value-index l.values) ≡ l.initial.out ++ flattened l.values
