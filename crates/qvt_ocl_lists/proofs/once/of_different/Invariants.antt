-- The items so far are known, and none of them equals an earlier one.
use Rattle.std.proofs.Common.{◌≡◌, false, take}
use Rattle.qvt_value.specs.declared.value.Value.{Value}
use Rattle.qvt_ocl_words.specs.Lists.{same, has}
use Rattle.qvt_repeats.specs.Repeats.{repeats_by}
use Rattle.qvt_ocl_lists.proofs.once.of_different.Given as goal

abbrev pub invariant-loop-item : goal.invariant-loop-item
invariant-loop-item l = record {
  seen : (x : Value) → has l.all x ≡ has (take l.item-index l.items) x;
  different : repeats_by same (take l.item-index l.items) ≡ false;
}
