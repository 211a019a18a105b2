use Rattle.std.proofs.Common.{◌≡◌, [], take}
use Rattle.qvt_exec_resolves.specs.Candidates.{ends_of, oids}
use Rattle.qvt_exec_resolves.proofs.Ends.{from_all}
use Rattle.qvt_exec_resolves.proofs.candidates.Sieve.from_each.Given as goal

abbrev pub invariant-loop-source : goal.invariant-loop-source
invariant-loop-source l = oids l.found ≡ ends_of l.self.store.now l.self.request.now [] (from_all l.self.store.now l.self.request.now l.trace (take l.source-index l.sources))
