use Rattle.std.proofs.Common.{eqb, subst, sym}
use Rattle.std.specs.List.{IsDistinct}
use Rattle.qvt_types_choices.specs.Tables.{TellsOf}
use Rattle.qvt_types_groups.proofs.Tables.{like_distinct, table_tells}
use Rattle.qvt_types_groups.proofs.units.ToldUnits.find.Goals as goal

pub found_in-requires-clause-distinct : goal.found_in-requires-clause-distinct
found_in-requires-clause-distinct c = subst (IsDistinct eqb) (sym c.requires.group) (like_distinct c.args.names.now c.args.first)

pub found_in-requires-clause-told : goal.found_in-requires-clause-told
found_in-requires-clause-told c =
    subst (λ us. TellsOf c.args.metas.now us c.args.group.now c.in_ok-table.table.now) (sym c.signatures.ensures)
    (table_tells c.args.metas.now c.args.names.now c.args.self.now.tables c.in_ok-table.table.now c.args.first c.args.group.now c.requires.told.told (sym c.in_ok-table.ensures.value) c.requires.group)
