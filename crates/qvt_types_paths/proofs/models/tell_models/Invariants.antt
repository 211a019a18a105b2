use Rattle.std.proofs.Common.{◌≡◌, ◌++◌, [], drop}
use Rattle.qvt_types_paths.specs.Models.{models_told}
use Rattle.qvt_types_paths.proofs.models.tell_models.Given as goal

abbrev pub invariant-loop-param : goal.invariant-loop-param
invariant-loop-param l = l.log ++ models_told l.types l.earlier (drop l.param-index l.params) ≡ l.initial.log ++ models_told l.types [] l.params
