use Rattle.std.proofs.Common.{◌≡◌, map, take}
use Rattle.qvt_tree_types.specs.Module.{unit_view}
use Rattle.qvt_types_groups.specs.Reuse.{unit_reuses}
use Rattle.qvt_types_lists.proofs.reuses.reuse_lists.Given as goal

abbrev pub invariant-loop-unit : goal.invariant-loop-unit
invariant-loop-unit l = l.lists ≡ map (unit_reuses l.metas l.names l.units) (map unit_view (take l.unit-index l.written))
