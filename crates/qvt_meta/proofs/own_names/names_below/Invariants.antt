use Rattle.std.proofs.Common.{◌≡◌, ℕ, List, drop}
use Rattle.std.specs.Option.{option_or}
use Rattle.std.specs.Map.{lookup}
use Rattle.std.specs.Str.{bytes_eq}
use Rattle.qvt_metamodel.specs.declared.declared.DeclaredFeature.{DeclaredFeature}
use Rattle.qvt_meta_names.proofs.Tables.{first_at}
use Rattle.qvt_meta.proofs.own_names.names_below.Given as goal

abbrev pub invariant-loop-place : goal.invariant-loop-place
invariant-loop-place l =
    (name : List ℕ) → option_or (lookup (bytes_eq name) l.table) (first_at (λ (f : DeclaredFeature). bytes_eq name f.name) l.place (drop l.place l.features))
    ≡ first_at (λ (f : DeclaredFeature). bytes_eq name f.name) 0 l.features
