use Rattle.std.proofs.Common.{◌≡◌, drop}
use Rattle.qvt_types_laws.specs.JoinModule.{join_all, join_model_param}
use Rattle.qvt_types_leaves.proofs.Lists.{after}
use Rattle.qvt_types_leaves.proofs.heads.model_params.Given as goal

abbrev pub invariant-loop-each : goal.invariant-loop-each
invariant-loop-each l = join_all join_model_param l.of l.initial.notes ≡ after l.done (join_all join_model_param (drop l.each-index l.of) l.notes)
