use Rattle.std.proofs.Common.{◌≡◌, ◌<◌, ℕ, length, slice_index_or}
use Rattle.std.specs.Prelude.{slice_index}
use Rattle.qvt_metamodel.specs.Descends.{reaches}
use Rattle.qvt_metamodel.specs.Kept.{is_marked, no_row}
use Rattle.qvt_meta_tables.specs.Tables.{of_classes, EndsWithin}
use Rattle.qvt_meta_tables.proofs.rows.rows_of.Given as goal

abbrev pub invariant-loop-class : goal.invariant-loop-class
invariant-loop-class l = record {
  each : length l.rows.items ≡ l.count;
  within : (c : ℕ) → EndsWithin l.count (slice_index_or l.rows.items c no_row);
  done : (c : ℕ) → c < length l.classes → slice_index l.order.ranks c < l.class-index → (d : ℕ) → is_marked (slice_index_or l.rows.items c no_row) d ≡ reaches (of_classes l.classes) c d;
}
