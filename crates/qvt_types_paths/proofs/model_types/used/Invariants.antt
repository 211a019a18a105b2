use Rattle.std.proofs.Common.{◌≡◌, [], drop}
use Rattle.qvt_types_paths.specs.ModelTypes.{used_from}
use Rattle.qvt_types_paths.proofs.model_types.used.Given as goal

abbrev pub invariant-loop-metamodel : goal.invariant-loop-metamodel
invariant-loop-metamodel l = used_from l.used (drop l.metamodel-index l.metamodels) ≡ used_from [] l.metamodels
