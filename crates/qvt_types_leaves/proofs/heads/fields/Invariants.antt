use Rattle.std.proofs.Common.{◌≡◌, drop, map}
use Rattle.qvt_tree_types.specs.Module.{field_view}
use Rattle.qvt_types_nodes.specs.Module.{typed_field_view}
use Rattle.qvt_types_laws.specs.JoinModule.{join_all, join_member}
use Rattle.qvt_types_leaves.proofs.Lists.{after}
use Rattle.qvt_types_leaves.proofs.heads.fields.Given as goal

abbrev pub invariant-loop-each : goal.invariant-loop-each
invariant-loop-each l = join_all join_member (map field_view l.of) l.initial.notes ≡ after (map typed_field_view l.done) (join_all join_member (map field_view (drop l.each-index l.of)) l.notes)
