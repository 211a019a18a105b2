-- The items so far were seen, and none of them stands twice.
use Rattle.std.proofs.Common.{◌≡◌, false, take}
use Rattle.qvt_repeats.specs.Repeats.{repeats_by}
use Rattle.qvt_conform.specs.Items.{same_item}
use Rattle.qvt_conform.proofs.items.repeats.Given as goal

abbrev pub invariant-loop-item : goal.invariant-loop-item
invariant-loop-item l = record {
  seen : l.seen ≡ take l.item-index l.items;
  once : repeats_by same_item (take l.item-index l.items) ≡ false;
}
