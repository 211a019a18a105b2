use Rattle.std.proofs.Common.{◌∙◌, ap, sym}
use Rattle.qvt_types_units.specs.Numbers.{free_unit, is_free}
use Rattle.qvt_types_groups.specs.Lists.{first_of}
use Rattle.qvt_types_groups.proofs.Firsts.{first_where, first_is, none_is}
use Rattle.qvt_types_groups.proofs.unit_names.UnitNames.free_unit.Goals as goal

pub returns-in-empty : goal.returns-in-empty
unfolding free_unit
returns-in-empty c =
    ap first_of (sym (none_is c.find.result.now c.in-empty.len_below) ∙ c.find.ensures ∙ c.called.ensures.free c.args.name.now)
    ∙ first_where (is_free c.args.maps c.args.name.now) c.args.self.now

pub returns-in-len1-up : goal.returns-in-len1-up
unfolding free_unit
returns-in-len1-up c =
    sym (first_is c.find.result.now c.in-len1-up.len_at_least)
    ∙ ap first_of (c.find.ensures ∙ c.called.ensures.free c.args.name.now)
    ∙ first_where (is_free c.args.maps c.args.name.now) c.args.self.now
