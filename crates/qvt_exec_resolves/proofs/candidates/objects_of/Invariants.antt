use Rattle.std.proofs.Common.{◌≡◌, take}
use Rattle.qvt_exec_resolves.specs.Candidates.{oids}
use Rattle.qvt_exec_resolves.proofs.candidates.objects_of.Given as goal

abbrev pub invariant-loop-number : goal.invariant-loop-number
invariant-loop-number l = l.objects ≡ oids (take l.number-index l.numbers)
