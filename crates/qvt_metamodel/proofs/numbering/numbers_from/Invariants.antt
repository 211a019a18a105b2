use Rattle.std.proofs.Common.{◌≡◌, ◌-◌, ◌++◌}
use Rattle.qvt_metamodel.specs.Added.{numbers_from}
use Rattle.qvt_metamodel.proofs.numbering.numbers_from.Given as goal

abbrev pub invariant-loop-number : goal.invariant-loop-number
invariant-loop-number l = l.numbers ++ numbers_from l.number (l.last - l.number) ≡ numbers_from l.initial.number (l.last - l.initial.number)
