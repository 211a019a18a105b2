use Rattle.std.proofs.Common.{◌≡◌, ◌<◌, ℕ, List, [], length, position, slice_index_or}
use Rattle.std.specs.Map.{lookup}
use Rattle.std.specs.Str.{bytes_eq}
use Rattle.qvt_metamodel.specs.declared.declared.DeclaredFeature.{DeclaredFeature}
use Rattle.qvt_metas.specs.Added.{declared_at}
use Rattle.qvt_meta.proofs.own_names.own_names.Given as goal

abbrev pub invariant-loop-class : goal.invariant-loop-class
invariant-loop-class l = record {
  each : length l.tables ≡ l.class;
  at : (c : ℕ) → c < l.class → (name : List ℕ) → lookup (bytes_eq name) (slice_index_or l.tables c []) ≡ position (λ (f : DeclaredFeature). bytes_eq name f.name) (declared_at l.classes c).features;
}
