-- Tables of numbers by name, as plain data, and the numbers that stand for the names of features.
use Rattle.std.specs.Prelude.{ℕ, List, map, string_bytes, String, slice_index_or, unwrap_or}
use Rattle.std.specs.Global.{Global}
use Rattle.std.specs.Map.{lookup}
use Rattle.std.specs.Str.{bytes_eq}
use Rattle.qvt_base.specs.declared.numbers.FeatureNo.{FeatureNo}
use Rattle.qvt_metamodel.specs.declared.info.FeatureInfo.{FeatureInfo}

abbrev pub named : List (String Global × ℕ) → List (List ℕ × ℕ)
named es = map (λ e. (string_bytes e.0, e.1)) es

-- the number that stands for a name
abbrev pub number_in : List (List ℕ × ℕ) → List ℕ → ℕ
number_in table name = unwrap_or (lookup (bytes_eq name) table) 0

-- those of the names of features
abbrev pub numbers_of : List (List ℕ × ℕ) → List FeatureInfo → List ℕ
numbers_of table features = map (λ f. number_in table f.name) features

-- that of the name of the feature with this number
abbrev pub number_at : List ℕ → FeatureNo → ℕ
number_at numbers f = slice_index_or numbers f.0 0
