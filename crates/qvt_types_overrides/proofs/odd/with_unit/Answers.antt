use Rattle.std.proofs.Common.{◌∙◌, ◌++◌, [], ◌∷◌, ap}
use Rattle.std.specs.Prelude.{if◌then◌else◌}
use Rattle.std.specs.Str.{bytes_eq}
use Rattle.qvt_types_groups.specs.Lists.{numbers_under}
use Rattle.qvt_types_overrides.proofs.Parted.{left_out, put_there}
use Rattle.qvt_types_overrides.proofs.odd.with_unit.Goals as goal

pub returns-in_ok-more : goal.returns-in_ok-more
returns-in_ok-more c = λ name.
    c.in_ok-more.ensures name ∙ ap (λ x. numbers_under c.args.lists name ++ (if bytes_eq name x then c.args.number ∷ [] else [])) c.as_str.ensures
    ∙ put_there (bytes_eq name c.args.unit.now.name) c.args.is_one (numbers_under c.args.lists name) c.args.number c.if-is_one.true

pub returns-else-is_one : goal.returns-else-is_one
returns-else-is_one c = λ name. left_out (bytes_eq name c.args.unit.now.name) c.args.is_one (numbers_under c.args.lists name) c.args.number c.if-is_one.false
