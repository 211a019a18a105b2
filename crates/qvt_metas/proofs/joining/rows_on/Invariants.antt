use Rattle.std.proofs.Common.{◌≡◌, ◌+◌, ◌<◌, ◌^◌, ◌++◌, drop, map}
use Rattle.std.specs.List.{AllByRecursion}
use Rattle.qvt_metamodel.specs.Joined.{row_on}
use Rattle.qvt_metas.proofs.joining.rows_on.Given as goal

abbrev pub invariant-loop-row : goal.invariant-loop-row
invariant-loop-row l = record {
  built : l.all ++ map (row_on l.begin) (drop l.row-index l.rows) ≡ map (row_on l.begin) l.rows;
  few : AllByRecursion (λ r. l.begin.class + r.start < 2 ^ 32) (drop l.row-index l.rows);
}
