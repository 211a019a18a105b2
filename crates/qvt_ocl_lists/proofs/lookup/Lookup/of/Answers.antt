use Rattle.qvt_ocl_lists.proofs.Joined.{seen_more, seen_all}
use Rattle.qvt_ocl_lists.proofs.lookup.Lookup.of.Goals as goal

pub loop-value-preserved : goal.loop-value-preserved
loop-value-preserved c =
    seen_more c.loop-value.all c.note.new.self c.args.values.now c.loop-value.value-index c.value-item.result
    c.loop-value-test.true c.value-item.is c.loop-value.invariant c.in_ok-note.ensures.more

pub returns : goal.returns
returns c = seen_all c.loop-value.all c.args.values.now c.loop-value.value-index c.loop-value-test.false c.loop-value.invariant
