use Rattle.std.proofs.lemmas.List.{get_or_default}
use Rattle.qvt_exec_resolves.specs.Candidates.{oids}
use Rattle.qvt_exec_resolves.proofs.Ends.{source_more}
use Rattle.qvt_exec_resolves.proofs.candidates.Sieve.from_each.Goals as goal

pub loop-source-preserved : goal.loop-source-preserved
loop-source-preserved c =
    source_more c.args.self.now.store.now c.args.self.now.request.now c.args.trace.now c.args.sources.now c.loop-source.source-index _ (oids c.loop-source.found) (oids c.take_from.new.found)
    c.loop-source-test.true (get_or_default c.args.sources.now c.loop-source.source-index _ _ c.loop-source-test.true) c.loop-source.invariant c.in_ok-take_from.ensures
