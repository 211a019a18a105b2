use Rattle.std.proofs.Common.{◌≡◌, [], take}
use Rattle.qvt_exec_resolves.specs.Candidates.{ends_within, oids}
use Rattle.qvt_exec_resolves.proofs.candidates.Sieve.all.Given as goal

abbrev pub invariant-loop-call : goal.invariant-loop-call
invariant-loop-call l = oids l.found ≡ ends_within l.self.store.now l.self.request.now [] (take l.call-index l.records)
