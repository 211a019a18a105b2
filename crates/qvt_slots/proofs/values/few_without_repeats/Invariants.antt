use Rattle.std.proofs.Common.{◌≡◌, take}
use Rattle.std.specs.Prelude.{All}
use Rattle.qvt_slots.specs.Types.{HasCodeType}
use Rattle.qvt_value.specs.Kept.{firsts}
use Rattle.qvt_value.specs.Order.{order_of}
use Rattle.qvt_slots.proofs.values.few_without_repeats.Given as goal

abbrev pub invariant-loop-value : goal.invariant-loop-value
invariant-loop-value l = record {
  kept : l.list ≡ firsts order_of (take l.value-index l.values);
  plain : All HasCodeType l.list;
}
