use Rattle.std.proofs.Common.{◌≡◌, ◌++◌, take}
use Rattle.qvt_ocl_lists.proofs.items.extend.Given as goal

abbrev pub invariant-loop-value : goal.invariant-loop-value
invariant-loop-value l = l.all ≡ l.fn.items ++ take l.value-index l.values
