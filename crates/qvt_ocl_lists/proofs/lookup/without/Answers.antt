use Rattle.std.proofs.Common.{ap, not}
use Rattle.qvt_ocl_lists.proofs.ItemLists.{lacking_more}
use Rattle.qvt_ocl_lists.proofs.lookup.without.Goals as goal

pub loop-item-preserved : goal.loop-item-preserved
loop-item-preserved c =
    lacking_more c.args.known.now c.args.items.now c.loop-item.kept c.in_ok-kept.kept c.loop-item.item-index c.item-item.result (not c.has-stays.result)
    c.loop-item-test.true c.item-item.is (ap not c.has-stays.ensures) c.loop-item.invariant c.in_ok-kept.ensures
