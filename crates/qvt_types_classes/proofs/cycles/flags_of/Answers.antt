use Rattle.std.proofs.Common.{◌∙◌, ◌++◌, ◌∷◌, []}
use Rattle.qvt_cycle.specs.Successors.{is_on_cycle}
use Rattle.qvt_types_paths.proofs.Places.{map_range_more}
use Rattle.qvt_types_classes.proofs.cycles.flags_of.Goals as goal

pub loop-number-preserved : goal.loop-number-preserved
loop-number-preserved c =
    c.in_ok-push.ensures.ok
    ∙ (λ t. c.loop-number.invariant t ++ c.in_ok-is_on_cycle.ensures t ∷ [])
    ∙ map_range_more (is_on_cycle c.args.lists.now) c.loop-number.number
