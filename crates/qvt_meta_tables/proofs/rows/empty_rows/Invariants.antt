use Rattle.std.proofs.Common.{◌≡◌, replicate}
use Rattle.qvt_metamodel.specs.Kept.{no_row}
use Rattle.qvt_meta_tables.proofs.rows.empty_rows.Given as goal

abbrev pub invariant-loop-at : goal.invariant-loop-at
invariant-loop-at l = l.rows ≡ replicate l.at no_row
