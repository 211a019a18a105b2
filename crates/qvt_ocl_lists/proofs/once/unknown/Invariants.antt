-- Known is what was known and the values so far; of these those join that were not known, each where it first stands.
use Rattle.std.proofs.Common.{◌≡◌, ◌||◌, take}
use Rattle.qvt_value.specs.declared.value.Value.{Value}
use Rattle.qvt_value.specs.Kept.{firsts}
use Rattle.qvt_value.specs.Order.{order_of}
use Rattle.qvt_ocl_words.specs.Lists.{has, lacking}
use Rattle.qvt_ocl_lists.proofs.once.unknown.Given as goal

abbrev pub invariant-loop-value : goal.invariant-loop-value
invariant-loop-value l = record {
  known : (x : Value) → has l.known x ≡ (has l.initial.known x || has (take l.value-index l.values) x);
  fresh : l.fresh ≡ lacking l.initial.known (firsts order_of (take l.value-index l.values));
}
