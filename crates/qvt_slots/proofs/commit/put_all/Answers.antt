use Rattle.qvt_slots.proofs.Holds.{written_more}
use Rattle.qvt_slots.proofs.commit.put_all.Goals as goal

pub loop-write-preserved : goal.loop-write-preserved
loop-write-preserved c = written_more c.args.metas.now c.args.cells.now.items c.loop-write.cells.items c.put.new.cells.items c.loop-write.yielded c.in-Some.write c.loop-write.invariant c.put.ensures
