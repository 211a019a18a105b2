use Rattle.std.proofs.Common.{◌≡◌, drop}
use Rattle.qvt_types_choices.specs.Least.{least_of}
use Rattle.qvt_types_choices.proofs.candidates.least.Given as goal

abbrev pub invariant-loop-other : goal.invariant-loop-other
invariant-loop-other l = least_of l.metas l.units l.least (drop l.other-index l.others) ≡ least_of l.metas l.units l.first l.others
