use Rattle.std.proofs.Common.{◌≡◌, ◌++◌, [], drop}
use Rattle.qvt_types_paths.specs.ModelTypes.{model_types_told}
use Rattle.qvt_types_paths.proofs.model_types.tell_model_types.Given as goal

abbrev pub invariant-loop-of : goal.invariant-loop-of
invariant-loop-of l = l.log ++ model_types_told l.metas l.earlier (drop l.of-index l.model_types) ≡ l.initial.log ++ model_types_told l.metas [] l.model_types
