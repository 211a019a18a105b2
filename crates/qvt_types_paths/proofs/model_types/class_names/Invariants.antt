use Rattle.std.proofs.Common.{◌≡◌, ◌++◌, map, drop}
use Rattle.qvt_tree_types.specs.Module.{unit_view}
use Rattle.qvt_types_paths.specs.ModelTypes.{class_names}
use Rattle.qvt_types_paths.proofs.model_types.class_names.Given as goal

abbrev pub invariant-loop-unit : goal.invariant-loop-unit
invariant-loop-unit l = l.names ++ class_names (map unit_view (drop l.unit-index l.units)) ≡ class_names (map unit_view l.units)
