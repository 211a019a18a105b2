use Rattle.std.proofs.Common.{◌∙◌, ◌++◌, ◌∷◌, []}
use Rattle.qvt_types_paths.specs.Models.{first_extent}
use Rattle.qvt_types_paths.proofs.Places.{map_range_more}
use Rattle.qvt_types_paths.proofs.models.first_extents.Goals as goal

pub loop-metamodel-preserved : goal.loop-metamodel-preserved
loop-metamodel-preserved c =
    c.in_ok-push.ensures.ok
    ∙ (λ t. c.loop-metamodel.invariant t ++ c.in_ok-first_extent.ensures t ∷ [])
    ∙ map_range_more (first_extent c.args.rows.now) c.loop-metamodel.metamodel
