use Rattle.std.proofs.Common.{◌≡◌, map, take}
use Rattle.qvt_tree_types.specs.declared.module.ModelType.{ModelType}
use Rattle.qvt_types_paths.proofs.model_types.model_type_names.Given as goal

abbrev pub invariant-loop-of : goal.invariant-loop-of
invariant-loop-of l = l.names ≡ map (λ (t : ModelType). t.name) (take l.of-index l.model_types)
