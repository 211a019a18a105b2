use Rattle.std.proofs.Common.{◌≡◌, drop}
use Rattle.qvt_types_laws.specs.Join.{join_sign}
use Rattle.qvt_types_laws.specs.JoinModule.{join_all}
use Rattle.qvt_types_leaves.proofs.Lists.{after}
use Rattle.qvt_types_leaves.proofs.leaves.signs.Given as goal

abbrev pub invariant-loop-each : goal.invariant-loop-each
invariant-loop-each l = join_all join_sign l.of l.initial.notes ≡ after l.done (join_all join_sign (drop l.each-index l.of) l.notes)
