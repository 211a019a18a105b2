use Rattle.std.proofs.Common.{[]}
use Rattle.qvt_exec_resolves.specs.Candidates.{oids}
use Rattle.qvt_exec_resolves.proofs.Ends.{within_more}
use Rattle.qvt_exec_resolves.proofs.candidates.Sieve.all.Goals as goal

pub loop-call-preserved : goal.loop-call-preserved
loop-call-preserved c =
    within_more c.args.self.now.store.now c.args.self.now.request.now [] c.args.records.now c.loop-call.call-index c.call-item.result (oids c.loop-call.found) (oids c.take.new.found)
    c.loop-call-test.true c.call-item.is c.loop-call.invariant c.in_ok-take.ensures
