use Rattle.std.proofs.Common.{◌≡◌, ◌++◌, take}
use Rattle.std.specs.List.{flat_map}
use Rattle.qvt_tree_types.specs.declared.types.PathTree.{PathTree}
use Rattle.qvt_types_groups.specs.Reuse.{numbers_of, listed}
use Rattle.qvt_types_lists.proofs.reuses.add_listed.Given as goal

abbrev pub invariant-loop-path : goal.invariant-loop-path
invariant-loop-path l = l.numbers ≡ l.initial.numbers ++ flat_map (λ (path : PathTree). numbers_of (listed l.metas l.names l.units path.names)) (take l.path-index l.paths)
