use Rattle.std.proofs.Common.{◌≡◌, map, take}
use Rattle.qvt_types_paths.specs.Models.{model_row}
use Rattle.qvt_types_paths.proofs.models.model_rows.Given as goal

abbrev pub invariant-loop-param : goal.invariant-loop-param
invariant-loop-param l = l.rows ≡ map (model_row l.types) (take l.param-index l.params)
