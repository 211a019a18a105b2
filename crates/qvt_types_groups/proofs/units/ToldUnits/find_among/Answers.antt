use Rattle.std.proofs.Common.{eqb, subst, sym}
use Rattle.std.specs.List.{IsDistinct}
use Rattle.qvt_types_groups.proofs.Tables.{like_distinct}
use Rattle.qvt_types_groups.proofs.units.ToldUnits.find_among.Goals as goal

pub look_up-requires-clause-distinct : goal.look_up-requires-clause-distinct
look_up-requires-clause-distinct c = subst (IsDistinct eqb) (sym c.requires.group) (like_distinct c.args.names.now c.args.first)
