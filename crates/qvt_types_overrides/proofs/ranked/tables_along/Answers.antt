use Rattle.std.proofs.Common.{◌∙◌, ◌<◌, length, get_or, arith, sym, ap, subst}
use Rattle.qvt_types_overrides.specs.Ranked.{EachFrom}
use Rattle.qvt_types_above.specs.Tells.{AllFrom}
use Rattle.qvt_types_overrides.proofs.NextTable.{next_table, one_longer}
use Rattle.qvt_types_overrides.proofs.ranked.tables_along.Goals as goal

pub loop-list-preserved : goal.loop-list-preserved
loop-list-preserved c = record {
  long = one_longer c.loop-list.tables c.push.new.self c.in_ok-table.table c.loop-list.list-index c.loop-list.invariant.long c.in_ok-push.ensures.ok;
  each = subst (EachFrom c.args.metas.now c.args.units.now c.args.named.now.all.lists) (sym c.in_ok-push.ensures.ok)
      (next_table c.args.metas.now c.args.units.now c.args.named.now.all.lists c.loop-list.tables c.loop-list.list-index c.list-item.result c.in_ok-table.table c.loop-list.invariant.long
      (let low : c.loop-list.list-index < length c.args.named.now.all.lists = omega (arith, ap length c.lists-list-items.ensures, c.loop-list-test.true) in low)
      (c.list-item.is ∙ ap (λ xs. get_or xs c.loop-list.list-index c.list-item.result) c.lists-list-items.ensures)
      c.loop-list.invariant.each
      (subst (λ ns. AllFrom c.args.metas.now c.args.units.now ns c.in_ok-table.table) c.as_slice-group.ensures c.in_ok-table.ensures));
}
