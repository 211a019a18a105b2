use Rattle.std.proofs.Common.{◌∙◌, ap, position}
use Rattle.qvt_types_groups.specs.Numbers.{free_unit, is_free}
use Rattle.qvt_types_groups.specs.Keys.{is_named}
use Rattle.qvt_types_lists.proofs.SameUnits.{free_same, unknown_same, named_same}
use Rattle.qvt_types_lists.proofs.same.first_called.Goals as goal

pub returns-in-Missing : goal.returns-in-Missing
unfolding free_unit
returns-in-Missing c = c.free_unit.ensures ∙ ap (λ x. position (is_free c.args.maps x) c.args.units.now) c.as_str-name.ensures ∙ free_same c.args.units.now c.args.unit.now c.args.maps c.in-Missing.is

pub returns-in-Unknown : goal.returns-in-Unknown
returns-in-Unknown c = unknown_same c.args.units.now c.args.unit.now c.args.maps c.in-Unknown.is

pub returns-in-Known : goal.returns-in-Known
returns-in-Known c = c.named.ensures ∙ ap (λ x. position (is_named c.args.maps c.in-Known.class.0 x) c.args.units.now) c.as_str-name.ensures ∙ named_same c.args.units.now c.args.unit.now c.args.maps c.in-Known.class.0 c.in-Known.is
