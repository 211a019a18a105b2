use Rattle.std.proofs.Common.{◌∙◌}
use Rattle.qvt_types_choices.proofs.Below.{below_set}
use Rattle.qvt_types_choices.proofs.Marked.{empty_set}
use Rattle.qvt_types_choices.proofs.class_sets.class_sets.Goals as goal

pub returns : goal.returns
returns c = record {
  each = c.in_ok-rows_below.ensures.each ∙ c.class_count.ensures.count;
  below = below_set c.args.metas.now c.class_infos.result.now _ c.class_count.result c.class_infos.ensures c.class_count.ensures.count c.in_ok-rows_below.ensures.within c.in_ok-rows_below.ensures.below;
  all = c.in_ok-all_classes.ensures;
  abstracts = c.in_ok-abstract_classes.ensures;
  none = empty_set c.args.metas.now c.empty_row.result c.empty_row.ensures;
}
