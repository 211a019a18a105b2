use Rattle.std.proofs.Common.{◌≡◌, filter_map, slice_get, take}
use Rattle.qvt_exec_resolves.specs.Candidates.{ends_within, oids}
use Rattle.qvt_exec_resolves.proofs.candidates.Sieve.take_numbered.Given as goal

abbrev pub invariant-loop-number : goal.invariant-loop-number
invariant-loop-number l = oids l.found ≡ ends_within l.self.store.now l.self.request.now (oids l.initial.found) (filter_map (slice_get l.trace) (take l.number-index l.numbers))
