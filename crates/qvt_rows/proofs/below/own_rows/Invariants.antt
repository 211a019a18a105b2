use Rattle.std.proofs.Common.{◌≡◌, ℕ, ◌<◌, ◌==◌, length, slice_index_or}
use Rattle.qvt_metamodel.specs.Kept.{is_marked, no_row}
use Rattle.qvt_meta_tables.specs.Tables.{EndsWithin}
use Rattle.qvt_rows.proofs.below.own_rows.Given as goal

abbrev pub invariant-loop-class : goal.invariant-loop-class
invariant-loop-class l = record {
  each : length l.rows ≡ l.class;
  within : (c : ℕ) → EndsWithin l.count (slice_index_or l.rows c no_row);
  own : (c : ℕ) → c < length l.rows → (d : ℕ) → is_marked (slice_index_or l.rows c no_row) d ≡ (c == d);
}
