use Rattle.std.proofs.Common.{◌∙◌}
use Rattle.qvt_live_store.specs.Held.{contents_of}
use Rattle.qvt_exec_finish.proofs.Writing.{one_fits, others_fit, one_less}
use Rattle.qvt_exec_finish.proofs.patches.patch_all.Goals as goal

pub patch-requires : goal.patch-requires
patch-requires c = one_fits (contents_of c.loop-entry.store) c.args.entries.now c.loop-entry.entry-index c.entry-item.result c.loop-entry-test.true c.entry-item.is c.loop-entry.invariant.fit

pub loop-entry-preserved : goal.loop-entry-preserved
loop-entry-preserved c =
    let at = contents_of c.loop-entry.store in
    let after = contents_of c.patch.new.store in
    record {
      fit = others_fit at c.args.entries.now c.loop-entry.entry-index c.entry-item.result c.loop-entry-test.true c.entry-item.is after c.in_ok-patch.ensures c.loop-entry.invariant.fit;
      left = c.loop-entry.invariant.left ∙ one_less at c.args.entries.now c.loop-entry.entry-index c.entry-item.result c.loop-entry-test.true c.entry-item.is after c.in_ok-patch.ensures;
    }
