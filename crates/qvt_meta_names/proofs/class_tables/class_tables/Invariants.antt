use Rattle.std.proofs.Common.{◌≡◌, ◌<◌, ℕ, List, [], ◌==◌, ◌&&◌, length, position, slice_index_or}
use Rattle.std.specs.Map.{lookup}
use Rattle.std.specs.Str.{bytes_eq}
use Rattle.qvt_metamodel.specs.declared.info.ClassInfo.{ClassInfo}
use Rattle.qvt_meta_names.proofs.class_tables.class_tables.Given as goal

abbrev pub invariant-loop-metamodel : goal.invariant-loop-metamodel
invariant-loop-metamodel l = record {
  each : length l.tables ≡ l.metamodel;
  names : (k : ℕ) → k < l.metamodel → (name : List ℕ) → lookup (bytes_eq name) (slice_index_or l.tables k []) ≡ position (λ (c : ClassInfo). (c.metamodel == k) && bytes_eq name c.name) l.classes;
}
