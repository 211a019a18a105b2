use Rattle.std.proofs.Common.{◌≡◌, ◌++◌, take}
use Rattle.std.specs.List.{flat_map}
use Rattle.qvt_types_classes.specs.Written.{super_told}
use Rattle.qvt_types_classes.proofs.telling.tell_supers.Given as goal

abbrev pub invariant-loop-path : goal.invariant-loop-path
invariant-loop-path l = l.log ≡ l.initial.log ++ flat_map (super_told l.metas l.names) (take l.path-index l.paths)
