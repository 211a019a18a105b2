use Rattle.std.proofs.Common.{◌≡◌, ◌++◌, map, drop}
use Rattle.qvt_tree_types.specs.Module.{unit_view}
use Rattle.qvt_types_classes.specs.Written.{all_declared}
use Rattle.qvt_types_classes.proofs.declared.all_declared.Given as goal

abbrev pub invariant-loop-unit : goal.invariant-loop-unit
invariant-loop-unit l = l.classes ++ all_declared l.metas l.names (map unit_view (drop l.unit-index l.units)) ≡ all_declared l.metas l.names (map unit_view l.units)
