use Rattle.std.proofs.Common.{◌∙◌, ap, take}
use Rattle.std.specs.Prelude.{nat_lt}
use Rattle.qvt_ocl_words.specs.Lists.{count, common}
use Rattle.qvt_ocl_lists.proofs.CountTables.{less_left, left_more}
use Rattle.qvt_ocl_lists.proofs.ItemLists.{common_more}
use Rattle.qvt_ocl_lists.proofs.counts.common.Goals as goal

pub loop-item-preserved : goal.loop-item-preserved
loop-item-preserved c = (
  common_more c.args.others.now c.args.items.now c.loop-item.kept c.in_ok-kept.kept (common c.args.items.now c.args.others.now) c.loop-item.item-index c.item-item.result c.in_ok-stays.stays
      c.loop-item-test.true c.item-item.is
      (c.in_ok-stays.ensures.was ∙ ap (nat_lt 0) (c.loop-item.invariant.1 c.item-item.result) ∙ less_left (count c.item-item.result c.args.others.now) (count c.item-item.result (take c.loop-item.item-index c.args.items.now)))
      c.loop-item.invariant.0 c.in_ok-kept.ensures,
  left_more c.args.others.now c.args.items.now c.loop-item.item-index c.item-item.result c.loop-item.counts c.take.new.self
      c.loop-item-test.true c.item-item.is c.loop-item.invariant.1 c.in_ok-stays.ensures.less,
)
