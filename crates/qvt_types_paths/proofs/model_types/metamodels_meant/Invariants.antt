use Rattle.std.proofs.Common.{◌≡◌, map, take}
use Rattle.qvt_types_paths.specs.ModelTypes.{meant}
use Rattle.qvt_types_paths.proofs.model_types.metamodels_meant.Given as goal

abbrev pub invariant-loop-of : goal.invariant-loop-of
invariant-loop-of l = l.metamodels ≡ map (meant l.metas) (take l.of-index l.model_types)
