use Rattle.std.proofs.Common.{eqb, subst, sym}
use Rattle.std.specs.List.{IsDistinct}
use Rattle.qvt_types_groups.proofs.Tables.{group_distinct}
use Rattle.qvt_types_groups.proofs.units.unit_table.Goals as goal

pub group_table-requires-clause-distinct : goal.group_table-requires-clause-distinct
group_table-requires-clause-distinct c = subst (IsDistinct eqb) (sym c.group.ensures) (group_distinct c.is_mapping.result c.as_str.result.now c.args.names.now)
