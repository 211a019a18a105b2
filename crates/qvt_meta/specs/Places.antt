-- What the places of the names of a metamodel that is added are.
use Rattle.std.specs.Prelude.{◌≡◌, ℕ, ◌+◌, ◌<◌, ◌^◌, List, [], ◌∷◌, length, position, slice_index_or}
use Rattle.std.specs.Map.{lookup}
use Rattle.std.specs.Str.{bytes_eq}
use Rattle.qvt_metamodel.specs.declared.declared.DeclaredClass.{DeclaredClass}
use Rattle.qvt_metamodel.specs.declared.begin.Begin.{Begin}
use Rattle.qvt_meta.specs.declared.adding.NamePlaces.{NamePlaces}
use Rattle.qvt_metas.specs.Added.{names_of, feature_count, declared_at}

-- how many features stand before those of each of these classes, and before the end, where n stand before the first
abbrev pub firsts_of : ℕ → List DeclaredClass → List ℕ
firsts_of n [] = n ∷ []
firsts_of n (k ∷ ks) = n ∷ firsts_of (n + length k.features) ks

-- the places of the features of each class by name, of several of one name the first
pub record AreOwnNames (ks : List DeclaredClass) (tables : List (List (List ℕ × ℕ))) : Type 0 where
  pub each : length tables ≡ length ks
  pub at : (c : ℕ) → c < length ks → (name : List ℕ) → lookup (bytes_eq name) (slice_index_or tables c []) ≡ position (λ f. bytes_eq name f.name) (declared_at ks c).features

pub record ArePlaces (b : Begin) (p : NamePlaces) (ks : List DeclaredClass) : Type 0 where
  pub names : p.classes ≡ names_of ks
  pub firsts : p.firsts.items ≡ firsts_of 0 ks
  pub own : AreOwnNames ks p.own
  pub few_enums : length p.enums < 2 ^ 32
  pub few_classes : b.class + length ks < 2 ^ 32
  pub few_features : b.feature + feature_count ks < 2 ^ 32
