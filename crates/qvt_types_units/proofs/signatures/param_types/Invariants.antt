use Rattle.std.proofs.Common.{◌≡◌, map, take}
use Rattle.qvt_tree_types.specs.Module.{param_view}
use Rattle.qvt_types_units.specs.Signatures.{param_types}
use Rattle.qvt_types_units.proofs.signatures.param_types.Given as goal

abbrev pub invariant-loop-param : goal.invariant-loop-param
invariant-loop-param l = l.types ≡ param_types l.metas l.names (map param_view (take l.param-index l.params))
