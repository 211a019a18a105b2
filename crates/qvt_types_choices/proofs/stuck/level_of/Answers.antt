use Rattle.std.proofs.Common.{◌≡◌, ◌∙◌, ◌+◌, get_or, ap, arith}
use Rattle.qvt_counts.specs.Counts.{one}
use Rattle.qvt_counts.proofs.Counting.{one_few}
use Rattle.qvt_types_units.specs.Choice.{context_at}
use Rattle.qvt_types_units.specs.Overrides.{is_strictly_below}
use Rattle.qvt_types_choices.proofs.HowMany.{how_many_more, how_many_all, few_taken}
use Rattle.qvt_types_choices.proofs.stuck.level_of.Goals as goal

pub overflow_add-level : goal.overflow_add-level
overflow_add-level c =
    let few = few_taken (λ k. is_strictly_below c.args.metas.now (context_at c.args.units.now c.args.number) (context_at c.args.units.now k)) c.args.group.now c.loop-other.other-index in
    omega (arith, c.loop-other.invariant, few, c.requires.few, c.one_if-level.ensures, one_few c.is_strictly_below.result)

pub loop-other-preserved : goal.loop-other-preserved
loop-other-preserved c =
    let m = c.args.metas.now in
    let us = c.args.units.now in
    let more = how_many_more (λ k. is_strictly_below m (context_at us c.args.number) (context_at us k)) c.args.group.now c.loop-other.other-index c.loop-other-test.true in
    let here : c.one_if-level.result ≡ one (is_strictly_below m (context_at us c.args.number) (context_at us (get_or c.args.group.now c.loop-other.other-index 0))) =
    c.one_if-level.ensures ∙ ap one (c.is_strictly_below.ensures ∙ (λ i. is_strictly_below m (c.context_at-context.ensures i) (c.context_at.ensures i))) in
    omega (arith, more, here, c.loop-other.invariant)

pub returns : goal.returns
returns c =
    c.loop-other.invariant
    ∙ ap (λ n. n + 1) (how_many_all (λ k. is_strictly_below c.args.metas.now (context_at c.args.units.now c.args.number) (context_at c.args.units.now k)) c.args.group.now c.loop-other.other-index (omega (arith, c.loop-other-test.false)))
