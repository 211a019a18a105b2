use Rattle.std.proofs.Common.{◌∙◌, sym}
use Rattle.qvt_ocl_lists.proofs.Joined.{repeated, repeats_more, none_repeated, seen_more, seen_all, not_true, not_false}
use Rattle.qvt_ocl_lists.proofs.once.of_different.Goals as goal

pub returns-then-not-is_new : goal.returns-then-not-is_new
returns-then-not-is_new c =
    repeated c.args.items.now c.loop-item.item-index c.item-item.result c.loop-item-test.true c.item-item.is
    (sym (c.loop-item.invariant.seen c.item-item.result) ∙ not_false _ (sym c.if-not-is_new.true ∙ c.in_ok-is_new.ensures.fresh)) c.loop-item.invariant.different

pub loop-item-preserved : goal.loop-item-preserved
loop-item-preserved c = record {
  seen = seen_more c.loop-item.all c.note.new.self c.args.items.now c.loop-item.item-index c.item-item.result
      c.loop-item-test.true c.item-item.is c.loop-item.invariant.seen c.in_ok-is_new.ensures.more;
  different = repeats_more c.args.items.now c.loop-item.item-index c.item-item.result c.loop-item-test.true c.item-item.is
      (sym (c.loop-item.invariant.seen c.item-item.result) ∙ not_true _ (sym c.if-not-is_new.false ∙ c.in_ok-is_new.ensures.fresh)) c.loop-item.invariant.different;
}

pub returns : goal.returns
returns c = (
  none_repeated c.args.items.now c.loop-item.item-index c.loop-item-test.false c.loop-item.invariant.different,
  seen_all c.loop-item.all c.args.items.now c.loop-item.item-index c.loop-item-test.false c.loop-item.invariant.seen,
)
