use Rattle.std.proofs.Common.{◌∙◌, ap, position}
use Rattle.qvt_types_groups.specs.Numbers.{constructor_of, is_constructor_of}
use Rattle.qvt_types_lists.proofs.SameUnits.{missing_constructor, unknown_constructor, constructor_same}
use Rattle.qvt_types_lists.proofs.same.first_constructor.Goals as goal

pub returns-in-Missing : goal.returns-in-Missing
returns-in-Missing c = missing_constructor c.args.units.now c.args.unit.now c.in-Missing.is

pub returns-in-Unknown : goal.returns-in-Unknown
returns-in-Unknown c = unknown_constructor c.args.units.now c.args.unit.now c.in-Unknown.is

pub returns-in-Known : goal.returns-in-Known
unfolding constructor_of
returns-in-Known c = c.constructor_of.ensures ∙ ap (λ n. position (is_constructor_of c.in-Known.class.0 n) c.args.units.now) c.len.ensures ∙ constructor_same c.args.units.now c.args.unit.now c.in-Known.class.0 c.in-Known.is
