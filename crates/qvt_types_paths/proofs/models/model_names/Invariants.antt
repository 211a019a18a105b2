use Rattle.std.proofs.Common.{◌≡◌, map, take}
use Rattle.qvt_tree_types.specs.declared.module.ModelParam.{ModelParam}
use Rattle.qvt_types_paths.proofs.models.model_names.Given as goal

abbrev pub invariant-loop-param : goal.invariant-loop-param
invariant-loop-param l = l.names ≡ map (λ (p : ModelParam). p.name) (take l.param-index l.params)
