use Rattle.std.proofs.Common.{◌≡◌, ◌++◌, take}
use Rattle.qvt_meaning.specs.Program.{numbers}
use Rattle.qvt_exec_resolves.proofs.units.push_numbers.Given as goal

abbrev pub invariant-loop-mapping : goal.invariant-loop-mapping
invariant-loop-mapping l = l.all ≡ l.initial.all ++ numbers (take l.mapping-index l.mappings)
