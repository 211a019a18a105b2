use Rattle.std.proofs.Common.{◌≡◌, drop}
use Rattle.qvt_types_laws.specs.JoinModule.{join_all, join_model_type}
use Rattle.qvt_types_leaves.proofs.Lists.{after}
use Rattle.qvt_types_leaves.proofs.heads.model_types.Given as goal

abbrev pub invariant-loop-each : goal.invariant-loop-each
invariant-loop-each l = join_all join_model_type l.of l.initial.notes ≡ after l.done (join_all join_model_type (drop l.each-index l.of) l.notes)
