use Rattle.std.proofs.Common.{◌≡◌, drop, map}
use Rattle.qvt_tree_types.specs.Module.{unit_view}
use Rattle.qvt_tree.specs.SameModule.{same_units}
use Rattle.qvt_tree.proofs.shape.same_units.Given as goal

abbrev pub invariant-loop-i : goal.invariant-loop-i
invariant-loop-i l = same_units (map unit_view l.a) (map unit_view l.b) ≡ same_units (map unit_view (drop l.i l.a)) (map unit_view (drop l.i l.b))
