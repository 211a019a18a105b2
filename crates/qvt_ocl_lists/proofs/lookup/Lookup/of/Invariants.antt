use Rattle.std.proofs.Common.{◌≡◌, take}
use Rattle.qvt_value.specs.declared.value.Value.{Value}
use Rattle.qvt_ocl_words.specs.Lists.{has}
use Rattle.qvt_ocl_lists.proofs.lookup.Lookup.of.Given as goal

abbrev pub invariant-loop-value : goal.invariant-loop-value
invariant-loop-value l = (x : Value) → has l.all x ≡ has (take l.value-index l.values) x
