use Rattle.qvt_outcome.proofs.Written.{one_more, stopped_next}
use Rattle.qvt_outcome.proofs.plan.write_all.Goals as goal

pub returns-in-Failed-clause-stopped : goal.returns-in-Failed-clause-stopped
returns-in-Failed-clause-stopped g c = stopped_next (g.F.Files.seen c.args.files.now) (g.F.Files.seen c.loop-i.files) (g.F.Files.seen c.write.new.self)
    c.args.outputs.now c.loop-i.i c.index-outputs-i.result c.as_str.result.now c.as_slice.result.now c.loop-i-test.true c.index-outputs-i.is c.as_str.ensures c.loop-i.invariant c.in-Failed.ensures

pub loop-i-preserved : goal.loop-i-preserved
loop-i-preserved g c = one_more (g.F.Files.seen c.args.files.now) (g.F.Files.seen c.loop-i.files) (g.F.Files.seen c.write.new.self)
    c.args.outputs.now c.loop-i.i c.index-outputs-i.result c.as_str.result.now c.as_slice.result.now c.loop-i-test.true c.index-outputs-i.is c.as_str.ensures c.as_slice.ensures c.loop-i.invariant c.in-Written.ensures
