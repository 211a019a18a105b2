use Rattle.std.proofs.Common.{◌≡◌, ◌<◌, ℕ, length, slice_index_or}
use Rattle.qvt_metamodel.specs.Named.{nowhere_metamodel}
use Rattle.qvt_meta_names.specs.Enumerated.{IsTabled, no_table}
use Rattle.qvt_meta_names.proofs.enum_tables.enum_tables.Given as goal

abbrev pub invariant-loop-place : goal.invariant-loop-place
invariant-loop-place l = record {
  each : length l.tables ≡ l.place;
  at : (k : ℕ) → k < l.place → IsTabled (slice_index_or l.metamodels k nowhere_metamodel).enums (slice_index_or l.tables k no_table);
}
