use Rattle.std.proofs.Common.{◌∙◌, ◌<◌, length, ap, subst, sym}
use Rattle.qvt_types_units.specs.Numbers.{unit_at, is_mapping}
use Rattle.qvt_types_groups.specs.Choices.{TablesTell, ChosenUnits, group_of}
use Rattle.qvt_types_groups.proofs.Tables.{called_alone}
use Rattle.qvt_types_groups.proofs.units.Units.found_among.Goals as goal

pub find_among-requires-clause-group : goal.find_among-requires-clause-group
find_among-requires-clause-group c = c.requires.group ∙ ap (λ (t : ChosenUnits). group_of t.units c.args.first) (sym c.self.view_is)

pub unreachable-requires : goal.unreachable-requires
unreachable-requires c =
    called_alone c.self.inside.names (is_mapping (unit_at c.self.inside.names c.args.first).sort) (unit_at c.self.inside.names c.args.first).name
    (subst (TablesTell c.self.inside.metas c.self.inside.names) c.in_default.is c.self.invariant)
    (subst (λ g. 1 < length g) (c.requires.group ∙ ap (λ (t : ChosenUnits). group_of t.units c.args.first) (sym c.self.view_is)) c.requires.several)
