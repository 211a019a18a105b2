use Rattle.std.proofs.Common.{◌≡◌, ◌++◌, drop}
use Rattle.qvt_types_choices.specs.Least.{those_below}
use Rattle.qvt_types_choices.proofs.candidates.those_below.Given as goal

abbrev pub invariant-loop-other : goal.invariant-loop-other
invariant-loop-other l = l.numbers ++ those_below l.metas l.units l.number (drop l.other-index l.group) ≡ those_below l.metas l.units l.number l.group
