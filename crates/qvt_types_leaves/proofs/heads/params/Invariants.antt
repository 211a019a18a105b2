use Rattle.std.proofs.Common.{◌≡◌, drop, map}
use Rattle.qvt_tree_types.specs.Module.{param_view}
use Rattle.qvt_types_nodes.specs.Module.{typed_param_view}
use Rattle.qvt_types_laws.specs.JoinModule.{join_all, join_member}
use Rattle.qvt_types_leaves.proofs.Lists.{after}
use Rattle.qvt_types_leaves.proofs.heads.params.Given as goal

abbrev pub invariant-loop-each : goal.invariant-loop-each
invariant-loop-each l = join_all join_member (map param_view l.of) l.initial.notes ≡ after (map typed_param_view l.done) (join_all join_member (map param_view (drop l.each-index l.of)) l.notes)
