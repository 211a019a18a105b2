use Rattle.std.proofs.Common.{◌∙◌, ◌&&◌, not, length, ap, sym, subst}
use Rattle.std.specs.Prelude.{nat_lt}
use Rattle.qvt_metas.specs.Kept.{is_marked}
use Rattle.qvt_counts.specs.Counts.{bits, count_at}
use Rattle.qvt_metas.specs.Tables.{EndsWithin}
use Rattle.qvt_types_choices.specs.Sets.{IsSetOf}
use Rattle.qvt_types_choices.specs.Stuck.{is_stuck}
use Rattle.qvt_types_choices.proofs.Contested.{none_stuck}
use Rattle.qvt_types_choices.proofs.CountedSets.{others_are, stuck_are}
use Rattle.qvt_types_choices.proofs.Sets.{set_of_none}
use Rattle.qvt_types_choices.proofs.stuck.set_of_stuck.Goals as goal

pub returns-then-are_apart : goal.returns-then-are_apart
returns-then-are_apart c =
    subst (IsSetOf c.args.metas.now (is_stuck c.args.metas.now c.args.units.now c.args.group.now)) (sym c.empty_row.ensures)
    (set_of_none c.args.metas.now (is_stuck c.args.metas.now c.args.units.now c.args.group.now)
    (none_stuck c.args.metas.now c.args.units.now c.args.group.now (c.are_apart.ensures c.if-are_apart.true) c.are_well_formed.ensures.regular.transitive c.are_well_formed.ensures.regular.antisymmetric c.requires.distinct))

pub returns : goal.returns
returns c =
    let m = c.args.metas.now in
    let us = c.args.units.now in
    let ns = c.args.group.now in
    c.emptied.ensures (is_stuck m us ns)
    (stuck_are m us c.are_well_formed.ensures.regular.antisymmetric ns c.requires.distinct c.in_ok-others.others c.args.sets.now.abstracts c.in_ok-stuck.stuck
    (others_are m us ns c.in_ok-counts.counts c.in_ok-counts.ensures.each c.in_ok-counts.ensures.counts c.in_ok-singles.singles c.in_ok-others.others c.in_ok-singles.ensures.marks
    (c.in_ok-others.ensures.each ∙ ap length c.as_slice-2.ensures) c.in_ok-others.ensures.start
    (λ d. c.in_ok-others.ensures.marks d ∙ (λ i. nat_lt 0 (count_at (c.as_slice-2.ensures i) d) && not (is_marked (bits (c.as_slice-3.ensures i)) d))))
    c.requires.sets.abstracts (subst (λ n. EndsWithin n c.in_ok-stuck.stuck) c.class_count.ensures.count c.in_ok-stuck.ensures.within) c.in_ok-stuck.ensures.marks)
