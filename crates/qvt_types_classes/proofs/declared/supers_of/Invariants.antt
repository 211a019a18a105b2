use Rattle.std.proofs.Common.{◌≡◌, take}
use Rattle.std.specs.List.{flat_map}
use Rattle.qvt_tree_types.specs.declared.types.PathTree.{PathTree}
use Rattle.qvt_types_classes.specs.Written.{list_of, super_place}
use Rattle.qvt_types_classes.proofs.declared.supers_of.Given as goal

abbrev pub invariant-loop-path : goal.invariant-loop-path
invariant-loop-path l = l.supers ≡ flat_map (λ (path : PathTree). list_of (super_place l.metas l.names path)) (take l.path-index l.paths)
