use Rattle.std.proofs.Common.{◌∙◌, ◌+◌, ◌∷◌, [], length, ap}
use Rattle.std.proofs.lemmas.List.{length-append}
use Rattle.qvt_types_groups.proofs.Tables.{table_more}
use Rattle.qvt_types_groups.proofs.units.unit_tables.Goals as goal

pub loop-number-preserved : goal.loop-number-preserved
loop-number-preserved c = record {
  each =
      ap length c.in_ok-push.ensures.ok
      ∙ length-append c.loop-number.tables (c.in_ok-unit_table.field-0 ∷ [])
      ∙ ap (λ n. n + 1) c.loop-number.invariant.each;
  told = table_more c.args.metas.now c.args.names.now c.loop-number.tables c.push.new.self c.in_ok-unit_table.field-0 c.loop-number.number c.loop-number.invariant.each c.loop-number.invariant.told
      c.in_ok-unit_table.ensures c.in_ok-push.ensures.ok;
}
