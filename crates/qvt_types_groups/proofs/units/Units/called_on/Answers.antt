use Rattle.std.proofs.Common.{◌∙◌, get_or, ap, sym, arith}
use Rattle.qvt_types_units.specs.Choice.{called_on, looked_up}
use Rattle.qvt_types_units.specs.Numbers.{group}
use Rattle.qvt_types_groups.specs.Choices.{ChosenUnits, group_of}
use Rattle.qvt_types_groups.specs.Lists.{first_of}
use Rattle.qvt_types_groups.proofs.Firsts.{first_is, none_is}
use Rattle.qvt_types_groups.proofs.Tables.{same_group}
use Rattle.qvt_types_groups.proofs.units.Units.called_on.Goals as goal

pub returns-in-empty : goal.returns-in-empty
unfolding called_on
returns-in-empty c =
    ap (λ g. looked_up c.self.inside.metas c.self.inside.names g c.args.class.0) (sym (none_is c.group-group.result.now c.in-empty.len_below) ∙ c.group-group.ensures)
    ∙ ap (λ (t : ChosenUnits). looked_up t.metas t.units (group c.args.maps c.args.name.now t.units) c.args.class.0) c.self.view_is

pub found_among-requires-clause-group : goal.found_among-requires-clause-group
found_among-requires-clause-group c =
    c.group-group.ensures
    ∙ sym (same_group c.self.inside.names c.args.maps c.args.name.now (get_or c.group-group.result.now 0 0)
    (ap first_of (sym c.group-group.ensures) ∙ first_is c.group-group.result.now (omega (arith, c.in-len1-up.len_at_least))))
    ∙ ap (λ (t : ChosenUnits). group_of t.units (get_or c.group-group.result.now 0 0)) c.self.view_is
