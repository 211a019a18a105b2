use Rattle.std.proofs.Common.{◌∙◌, sym}
use Rattle.qvt_types_choices.proofs.Singly.{none_above, only_choice, no_choice}
use Rattle.qvt_types_choices.proofs.only.choice_of.Goals as goal

pub returns-in-None : goal.returns-in-None
returns-in-None c =
    none_above c.args.metas.now c.args.units.now c.are_well_formed.ensures.regular.antisymmetric c.args.group.now c.args.class.0 (sym c.least_above.ensures ∙ c.in-None.is)

pub returns-then-is_only : goal.returns-then-is_only
returns-then-is_only c =
    only_choice c.args.metas.now c.args.units.now c.are_well_formed.ensures.regular.antisymmetric c.args.group.now c.args.class.0 c.are_well_formed.ensures.regular.transitive c.requires
    c.in-Some.number (sym c.least_above.ensures ∙ c.in-Some.is) (sym c.is_only.ensures ∙ c.if-is_only.true)

pub returns-else-is_only : goal.returns-else-is_only
returns-else-is_only c =
    no_choice c.args.metas.now c.args.units.now c.are_well_formed.ensures.regular.antisymmetric c.args.group.now c.args.class.0 c.are_well_formed.ensures.regular.transitive
    c.in-Some.number (sym c.least_above.ensures ∙ c.in-Some.is) (sym c.is_only.ensures ∙ c.if-is_only.false)
