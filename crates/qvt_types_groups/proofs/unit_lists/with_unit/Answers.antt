use Rattle.std.proofs.Common.{◌∙◌, ◌++◌, [], ◌∷◌, ap, sym}
use Rattle.std.specs.Prelude.{if◌then◌else◌}
use Rattle.std.specs.Str.{bytes_eq}
use Rattle.qvt_types_groups.specs.Lists.{numbers_under}
use Rattle.qvt_types_groups.proofs.Lists.{left_out, put_under}
use Rattle.qvt_types_groups.proofs.unit_lists.with_unit.Goals as goal

pub returns-in_ok-all : goal.returns-in_ok-all
returns-in_ok-all c = λ name. put_under c.args.maps c.args.with_context c.args.unit.now c.args.number (numbers_under c.args.lists name) _ name
    (sym c.is_one.ensures ∙ c.if-is_one.true)
    (c.in_ok-all.ensures name ∙ ap (λ x. numbers_under c.args.lists name ++ (if bytes_eq name x then c.args.number ∷ [] else [])) c.as_str.ensures)

pub returns-else-is_one : goal.returns-else-is_one
returns-else-is_one c = λ name. left_out c.args.maps c.args.with_context c.args.unit.now c.args.number (numbers_under c.args.lists name) name
    (sym c.is_one.ensures ∙ c.if-is_one.false)
