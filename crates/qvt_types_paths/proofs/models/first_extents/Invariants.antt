use Rattle.std.proofs.Common.{◌≡◌, map}
use Rattle.std.specs.List.{range_with_len}
use Rattle.qvt_types_paths.specs.Models.{first_extent}
use Rattle.qvt_types_paths.proofs.models.first_extents.Given as goal

abbrev pub invariant-loop-metamodel : goal.invariant-loop-metamodel
invariant-loop-metamodel l = l.firsts ≡ map (first_extent l.rows) (range_with_len 0 l.metamodel)
