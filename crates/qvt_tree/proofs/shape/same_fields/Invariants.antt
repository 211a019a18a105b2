use Rattle.std.proofs.Common.{◌≡◌, drop, map}
use Rattle.qvt_tree_types.specs.Module.{field_view}
use Rattle.qvt_tree.specs.SameModule.{same_typed_names}
use Rattle.qvt_tree.proofs.shape.same_fields.Given as goal

abbrev pub invariant-loop-i : goal.invariant-loop-i
invariant-loop-i l = same_typed_names (map field_view l.a) (map field_view l.b) ≡ same_typed_names (map field_view (drop l.i l.a)) (map field_view (drop l.i l.b))
