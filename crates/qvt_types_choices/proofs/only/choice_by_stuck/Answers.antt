use Rattle.std.proofs.Common.{◌≡◌, ◌∙◌, ◌&&◌, false, ap, sym}
use Rattle.std.proofs.lemmas.Bool.{lt-ltb}
use Rattle.qvt_types_choices.specs.Stuck.{is_stuck}
use Rattle.qvt_types_choices.proofs.Chosen.{told_single}
use Rattle.qvt_types_choices.proofs.Singly.{none_above, only_choice, no_choice}
use Rattle.qvt_types_choices.proofs.only.choice_by_stuck.Goals as goal

pub returns-in-None : goal.returns-in-None
returns-in-None c =
    none_above c.args.metas.now c.args.units.now c.are_well_formed.ensures.regular.antisymmetric c.args.group.now c.args.class.0 (sym c.least_above.ensures ∙ c.in-None.is)

pub returns-then-is_told_single : goal.returns-then-is_told_single
returns-then-is_told_single c =
    let single : is_stuck c.args.metas.now c.args.units.now c.args.group.now c.args.class.0 ≡ false =
    ap (λ b. b && is_stuck c.args.metas.now c.args.units.now c.args.group.now c.args.class.0) (sym (lt-ltb _ _ (c.is_told_single.ensures.there c.if-is_told_single.true)))
    ∙ sym (c.requires.stuck.marks c.args.class.0) ∙ c.is_told_single.ensures.unmarked c.if-is_told_single.true in
    told_single c.args.metas.now c.args.units.now c.are_well_formed.ensures.regular.antisymmetric c.are_well_formed.ensures.regular.transitive c.args.group.now c.requires.distinct c.args.class.0
    c.in-Some.number (sym c.least_above.ensures ∙ c.in-Some.is) (c.is_told_single.ensures.concrete c.if-is_told_single.true) single

pub returns-then-is_only : goal.returns-then-is_only
returns-then-is_only c =
    only_choice c.args.metas.now c.args.units.now c.are_well_formed.ensures.regular.antisymmetric c.args.group.now c.args.class.0 c.are_well_formed.ensures.regular.transitive c.requires.distinct
    c.in-Some.number (sym c.least_above.ensures ∙ c.in-Some.is) (sym c.is_only.ensures ∙ c.if-is_only.true)

pub returns-else-is_only : goal.returns-else-is_only
returns-else-is_only c =
    no_choice c.args.metas.now c.args.units.now c.are_well_formed.ensures.regular.antisymmetric c.args.group.now c.args.class.0 c.are_well_formed.ensures.regular.transitive
    c.in-Some.number (sym c.least_above.ensures ∙ c.in-Some.is) (sym c.is_only.ensures ∙ c.if-is_only.false)
