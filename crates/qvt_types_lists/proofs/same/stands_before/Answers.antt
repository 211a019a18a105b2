use Rattle.std.proofs.Common.{◌∙◌, ap, sym}
use Rattle.qvt_types_groups.specs.Units.{are_same}
use Rattle.qvt_types_lists.specs.Same.{is_before}
use Rattle.qvt_types_lists.proofs.Before.{any_before}
use Rattle.qvt_types_lists.proofs.same.stands_before.Goals as goal

pub returns-in-None : goal.returns-in-None
returns-in-None c = sym (any_before (are_same c.args.unit.now) c.args.number c.args.units.now ∙ ap (is_before c.args.number) (sym c.first_same.ensures ∙ c.in-None.is))

pub returns-in-Some : goal.returns-in-Some
returns-in-Some c = sym (any_before (are_same c.args.unit.now) c.args.number c.args.units.now ∙ ap (is_before c.args.number) (sym c.first_same.ensures ∙ c.in-Some.is))
