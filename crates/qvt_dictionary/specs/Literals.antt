-- The literals of the enumerations of a metamodel as sets.
use Rattle.std.specs.Prelude.{◌≡◌, ℕ, ◌<◌, List, [], length, slice_index_or, position, Some}
use Rattle.std.specs.Str.{bytes_eq}
use Rattle.qvt_metas.specs.Metamodels.{Metamodels}
use Rattle.qvt_metas.specs.Named.{enumeration_at}

-- no two of the texts are equal: each is found first at its own place
abbrev pub EachIsFirst : List (List ℕ) → Type 0
EachIsFirst xs = (i : ℕ) → i < length xs → position (bytes_eq (slice_index_or xs i [])) xs ≡ Some i

pub record AreLiterals (m : Metamodels) (k : ℕ) (sets : List (List (List ℕ))) : Type 0 where
  pub each : (e : ℕ) → e < length sets → slice_index_or sets e [] ≡ (enumeration_at m k e).literals
