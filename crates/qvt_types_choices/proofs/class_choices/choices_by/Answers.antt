use Rattle.std.proofs.Common.{◌≡◌, ◌∙◌, ◌++◌, ◌∷◌, ◌&&◌, [], length, ap, refl, sym, subst, arith}
use Rattle.std.specs.Prelude.{nat_lt}
use Rattle.qvt_types_paths.proofs.Places.{map_range_more}
use Rattle.qvt_types_choices.specs.Sets.{IsSetOf}
use Rattle.qvt_counts.specs.Counts.{bits}
use Rattle.qvt_types_choices.specs.Stuck.{is_stuck}
use Rattle.qvt_types_choices.specs.ByClass.{choice_for, choices, is_stuck_by}
use Rattle.qvt_types_choices.proofs.Marked.{word_few}
use Rattle.qvt_types_choices.proofs.Chosen.{stuck_by}
use Rattle.qvt_types_choices.proofs.Sets.{marks_next}
use Rattle.qvt_types_choices.proofs.class_choices.choices_by.Goals as goal

pub loop-class-preserved : goal.loop-class-preserved
loop-class-preserved c = record {
  each =
      c.in_ok-push.ensures.ok
      ∙ (λ t. c.loop-class.invariant.each t ++ c.choice_by-choice.ensures t ∷ [])
      ∙ map_range_more (choice_for c.args.metas.now c.args.units.now c.args.group.now) c.loop-class.class;
  words = c.mark_if.ensures.each ∙ c.loop-class.invariant.words;
  marks = marks_next (is_stuck c.args.metas.now c.args.units.now c.args.group.now) c.loop-class.class (bits c.loop-class.stuck) (bits c.mark_if.new.words) c.is_stuck.result c.loop-class.invariant.marks
      (c.is_stuck.ensures ∙ ap (is_stuck_by c.args.metas.now c.loop-class.class) c.choice_by-choice.ensures ∙ stuck_by c.args.metas.now c.args.units.now c.args.group.now c.loop-class.class)
      c.mark_if.ensures.marks;
}

pub returns : goal.returns
returns c =
    let m = c.args.metas.now in
    let us = c.args.units.now in
    let ns = c.args.group.now in
    let all : c.loop-class.class ≡ length m.classes = omega (arith, c.loop-class-test.false, c.loop-class.auto.class-end, c.class_count-count.ensures.count) in
    record {
      each = c.loop-class.invariant.each ∙ ap (choices m us ns) all;
      stuck = c.emptied.ensures (is_stuck m us ns) (subst (IsSetOf m (is_stuck m us ns)) (sym c.row_of.ensures) (record {
        within = record { start = refl; words = omega (arith, c.loop-class.invariant.words, word_few c.class_count-count.result, c.class_count-count.ensures.count) };
        marks = λ d. c.loop-class.invariant.marks d ∙ ap (λ k. nat_lt d k && is_stuck m us ns d) all;
      }));
    }
