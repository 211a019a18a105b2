use Rattle.std.proofs.Common.{◌≡◌, ◌++◌, [], map, drop}
use Rattle.qvt_tree_types.specs.Module.{unit_view}
use Rattle.qvt_types_classes.specs.Written.{classes_told}
use Rattle.qvt_types_classes.proofs.telling.tell_classes.Given as goal

abbrev pub invariant-loop-unit : goal.invariant-loop-unit
invariant-loop-unit l = l.log ++ classes_told l.metas l.names l.earlier (map unit_view (drop l.unit-index l.units)) ≡ l.initial.log ++ classes_told l.metas l.names [] (map unit_view l.units)
