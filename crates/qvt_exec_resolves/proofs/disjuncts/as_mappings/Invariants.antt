use Rattle.std.proofs.Common.{◌≡◌, take}
use Rattle.qvt_meaning.specs.Program.{as_mappings}
use Rattle.qvt_exec_resolves.proofs.disjuncts.as_mappings.Given as goal

abbrev pub invariant-loop-number : goal.invariant-loop-number
invariant-loop-number l = l.mappings ≡ as_mappings (take l.number-index l.numbers)
