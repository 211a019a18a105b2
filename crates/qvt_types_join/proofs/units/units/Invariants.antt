use Rattle.std.proofs.Common.{◌≡◌, drop, map}
use Rattle.qvt_tree_types.specs.Module.{unit_view}
use Rattle.qvt_types_nodes.specs.Module.{typed_unit_view}
use Rattle.qvt_types_laws.specs.JoinModule.{join_all, join_unit}
use Rattle.qvt_types_leaves.proofs.Lists.{after}
use Rattle.qvt_types_join.proofs.units.units.Given as goal

abbrev pub invariant-loop-each : goal.invariant-loop-each
invariant-loop-each l = join_all join_unit (map unit_view l.of) l.initial.notes ≡ after (map typed_unit_view l.done) (join_all join_unit (map unit_view (drop l.each-index l.of)) l.notes)
