use Rattle.std.proofs.Common.{◌∙◌, sym}
use Rattle.qvt_types_choices.proofs.Joined.{inherited_is}
use Rattle.qvt_types_choices.proofs.class_choices.choice_by.Goals as goal

pub returns-in-Some-inherited : goal.returns-in-Some-inherited
returns-in-Some-inherited c =
    inherited_is c.args.metas.now c.args.units.now c.are_well_formed.ensures.regular.transitive c.are_well_formed.ensures.regular.antisymmetric c.ancestors_are_least.ensures c.args.group.now
    c.requires.distinct c.args.known.now c.args.top c.args.class c.in-Some-inherited.choice c.requires.known c.requires.top
    (c.requires.known.untold c.args.class c.requires.there (sym c.known_at.ensures ∙ c.in_default.is))
    (sym c.inherited.ensures ∙ c.in-Some-inherited.is)
