use Rattle.std.proofs.Common.{◌≡◌, ◌++◌, drop}
use Rattle.qvt_types_choices.specs.ByClass.{tops}
use Rattle.qvt_types_choices.proofs.class_choices.tops.Given as goal

abbrev pub invariant-loop-number : goal.invariant-loop-number
invariant-loop-number l = l.numbers ++ tops l.metas l.units (drop l.number-index l.group) ≡ tops l.metas l.units l.group
