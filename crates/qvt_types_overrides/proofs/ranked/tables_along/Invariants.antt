use Rattle.std.proofs.Common.{◌≡◌, length}
use Rattle.qvt_types_overrides.specs.Ranked.{EachFrom}
use Rattle.qvt_types_overrides.proofs.ranked.tables_along.Given as goal

abbrev pub invariant-loop-list : goal.invariant-loop-list
invariant-loop-list l = record {
  long : length l.tables ≡ l.list-index;
  each : EachFrom l.metas l.units l.named.all.lists l.tables;
}
