-- How often each value is left is how often it stood so far.
use Rattle.std.proofs.Common.{◌≡◌, take}
use Rattle.qvt_value.specs.declared.value.Value.{Value}
use Rattle.qvt_ocl_words.specs.Lists.{count}
use Rattle.qvt_ocl_lists.specs.Counts.{left}
use Rattle.qvt_ocl_lists.proofs.counts.Counts.in_list.Given as goal

abbrev pub invariant-loop-value : goal.invariant-loop-value
invariant-loop-value l = (x : Value) → left l.all x ≡ count x (take l.value-index l.values)
