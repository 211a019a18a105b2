use Rattle.std.proofs.Common.{◌≡◌, length}
use Rattle.qvt_types_groups.specs.Choices.{EachTells}
use Rattle.qvt_types_groups.proofs.units.unit_tables.Given as goal

abbrev pub invariant-loop-number : goal.invariant-loop-number
invariant-loop-number l = record {
  each : length l.tables ≡ l.number;
  told : EachTells l.metas l.names l.tables;
}
