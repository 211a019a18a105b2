use Rattle.std.proofs.Common.{◌≡◌, ℕ, ◌<◌, length, slice_index_or}
use Rattle.std.specs.Prelude.{IsTrue}
use Rattle.qvt_metamodel.specs.Descends.{descends}
use Rattle.qvt_metamodel.specs.Kept.{is_marked, no_row}
use Rattle.qvt_meta_tables.specs.Tables.{of_classes, EndsWithin}
use Rattle.qvt_rows.proofs.Handed.{AreDone}
use Rattle.qvt_rows.proofs.below.rows_below.Given as goal

abbrev pub invariant-loop-place : goal.invariant-loop-place
invariant-loop-place l = record {
  each : length l.rows.items ≡ l.count;
  within : (c : ℕ) → EndsWithin l.count (slice_index_or l.rows.items c no_row);
  own : (c : ℕ) → c < length l.classes → IsTrue (is_marked (slice_index_or l.rows.items c no_row) c);
  sound : (c d : ℕ) → c < length l.classes → IsTrue (is_marked (slice_index_or l.rows.items c no_row) d) → IsTrue (descends (of_classes l.classes) d c);
  done : AreDone l.classes l.order.ranks l.place l.rows.items;
}
