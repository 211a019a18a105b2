use Rattle.std.proofs.Common.{◌∙◌, ap, not}
use Rattle.qvt_ocl_lists.proofs.Joined.{known_more, joining_more}
use Rattle.qvt_ocl_lists.proofs.once.unknown.Goals as goal

pub loop-value-preserved : goal.loop-value-preserved
loop-value-preserved c = record {
  known = known_more c.args.known.now c.loop-value.known c.note.new.self c.args.values.now c.loop-value.value-index c.value-item.result
      c.loop-value-test.true c.value-item.is c.loop-value.invariant.known c.in_ok-is_new.ensures.more;
  fresh = joining_more c.args.known.now c.args.values.now c.loop-value.fresh c.in_ok-fresh.fresh c.loop-value.value-index c.value-item.result c.in_ok-is_new.is_new
      c.loop-value-test.true c.value-item.is (c.in_ok-is_new.ensures.fresh ∙ ap not (c.loop-value.invariant.known c.value-item.result)) c.loop-value.invariant.fresh c.in_ok-fresh.ensures;
}
