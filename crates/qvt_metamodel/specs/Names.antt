-- Names that are taken already.
use Rattle.std.specs.Prelude.{ℕ, List, [], ◌∷◌, Bool, codes}
use Rattle.std.specs.List.{list_any}
use Rattle.std.specs.Str.{bytes_eq}
pub use Rattle.qvt_json.specs.Repeated.{repeated}

-- the names of the types that every metamodel has
abbrev pub primitive_names : List (List ℕ)
primitive_names = codes "Boolean" ∷ codes "Integer" ∷ codes "String" ∷ []

abbrev pub is_among : List ℕ → List (List ℕ) → Bool
is_among name names = list_any (bytes_eq name) names
