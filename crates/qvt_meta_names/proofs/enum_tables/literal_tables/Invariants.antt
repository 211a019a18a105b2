use Rattle.std.proofs.Common.{◌≡◌, ◌<◌, ℕ, List, [], length, position, slice_index_or}
use Rattle.std.specs.Map.{lookup}
use Rattle.std.specs.Str.{bytes_eq}
use Rattle.qvt_metamodel.specs.Named.{nowhere_enumeration}
use Rattle.qvt_meta_names.proofs.enum_tables.literal_tables.Given as goal

abbrev pub invariant-loop-place : goal.invariant-loop-place
invariant-loop-place l = record {
  each : length l.tables ≡ l.place;
  literals : (e : ℕ) → e < l.place → (name : List ℕ) → lookup (bytes_eq name) (slice_index_or l.tables e []) ≡ position (bytes_eq name) (slice_index_or l.enums e nowhere_enumeration).literals;
}
