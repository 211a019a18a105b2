use Rattle.std.proofs.Common.{◌≡◌, ◌++◌, map, take}
use Rattle.qvt_tree_types.specs.Module.{param_view}
use Rattle.qvt_types_units.specs.Units.{params_told}
use Rattle.qvt_types_units.proofs.telling.tell_params.Given as goal

abbrev pub invariant-loop-param : goal.invariant-loop-param
invariant-loop-param l = l.log ≡ l.initial.log ++ params_told l.heads.given.now l.heads.names.now (map param_view (take l.param-index l.params))
