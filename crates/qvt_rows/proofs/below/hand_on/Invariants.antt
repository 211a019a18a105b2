use Rattle.std.proofs.Common.{◌≡◌, ◌≢◌, ℕ, take, length, slice_index_or}
use Rattle.qvt_metamodel.specs.Kept.{is_marked, no_row}
use Rattle.qvt_meta_tables.specs.Tables.{EndsWithin}
use Rattle.qvt_rows.specs.Sets.{handed_on}
use Rattle.qvt_rows.proofs.below.hand_on.Given as goal

abbrev pub invariant-loop-superclass : goal.invariant-loop-superclass
invariant-loop-superclass l = record {
  each : length l.rows.items ≡ l.bound;
  within : (c : ℕ) → EndsWithin l.bound (slice_index_or l.rows.items c no_row);
  marks : (c d : ℕ) → c ≢ l.class → is_marked (slice_index_or l.rows.items c no_row) d ≡ handed_on l.fn.rows.items l.class (take l.superclass-index l.supers) c d;
}
