use Rattle.std.proofs.Common.{◌≡◌, ℕ, ◌||◌, ◌==◌, drop, slice_index_or}
use Rattle.std.specs.List.{list_any}
use Rattle.qvt_metamodel.specs.Kept.{is_marked, no_row}
use Rattle.qvt_meta_tables.specs.Tables.{EndsWithin}
use Rattle.qvt_meta_tables.proofs.rows.row_at.Given as goal

abbrev pub invariant-loop-superclass : goal.invariant-loop-superclass
invariant-loop-superclass l = record {
  marks : (d : ℕ) → (is_marked l.row d || list_any (λ s. (s.0 == d) || is_marked (slice_index_or l.rows.items s.0 no_row) d) (drop l.superclass-index l.supers))
      ≡ list_any (λ s. (s.0 == d) || is_marked (slice_index_or l.rows.items s.0 no_row) d) l.supers;
  within : EndsWithin l.bound l.row;
}
