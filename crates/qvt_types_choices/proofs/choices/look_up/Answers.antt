use Rattle.qvt_types_choices.proofs.Chosen.{settled_so}
use Rattle.qvt_types_choices.proofs.choices.look_up.Goals as goal

pub returns : goal.returns
returns c =
    settled_so c.args.metas.now c.args.units.now c.are_well_formed.ensures.regular.transitive c.args.group.now c.in_ok-stuck.field-0.stuck c.args.class.0
    c.is_unsure-is_unsure.result c.choice_of-choice.result c.found.result c.is_unsure-is_unsure.ensures
    c.in_ok-stuck.ensures.stuck c.choice_of-choice.ensures c.found.ensures
