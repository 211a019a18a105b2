use Rattle.std.proofs.Common.{◌∙◌, ap, position}
use Rattle.qvt_types_units.specs.Numbers.{constructor_of, is_constructor_of}
use Rattle.qvt_types_groups.proofs.Keys.{constructor_at}
use Rattle.qvt_types_groups.proofs.unit_names.UnitNames.constructor_of.Goals as goal

pub returns : goal.returns
unfolding constructor_of
returns c =
    c.find.ensures ∙ c.self.invariant.constructors _ ∙ constructor_at c.args.class.0 c.args.count c.self.inside.units
    ∙ ap (position (is_constructor_of c.args.class.0 c.args.count)) c.self.view_is
