use Rattle.std.proofs.Common.{◌≡◌, ◌++◌, map, take}
use Rattle.std.specs.List.{flat_map}
use Rattle.qvt_tree_types.specs.Module.{unit_view}
use Rattle.qvt_types_lists.specs.Units.{head_told}
use Rattle.qvt_types_heads.proofs.telling.tell_each.Given as goal

abbrev pub invariant-loop-unit : goal.invariant-loop-unit
invariant-loop-unit l =
    l.log ≡ l.initial.log ++ flat_map (head_told l.heads.given.now l.heads.metas.now l.heads.names.now l.heads.models.now) (map unit_view (take l.unit-index l.units))
