use Rattle.std.proofs.Common.{◌∙◌, true, refl}
use Rattle.qvt_counts.specs.Counts.{bits}
use Rattle.qvt_types_choices.proofs.Sets.{marks_next}
use Rattle.qvt_types_choices.proofs.class_sets.all_classes.Goals as goal

pub loop-class-preserved : goal.loop-class-preserved
loop-class-preserved c = record {
  each = c.mark_if.ensures.each ∙ c.loop-class.invariant.each;
  marks = marks_next (λ d. true) c.loop-class.class (bits c.loop-class.words) (bits c.mark_if.new.words) _ c.loop-class.invariant.marks refl c.mark_if.ensures.marks;
}
