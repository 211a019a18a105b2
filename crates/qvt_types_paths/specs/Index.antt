-- A table in which the first of each name is found.
use Rattle.std.specs.Prelude.{◌≡◌, ◌<◌, ◌^◌, ℕ, List, length, position}
use Rattle.std.specs.Map.{lookup}
use Rattle.std.specs.Str.{bytes_eq}

pub record IsIndex (names : List (List ℕ)) (table : List (List ℕ × ℕ)) : Type 0 where
  pub found : (name : List ℕ) → lookup (bytes_eq name) table ≡ position (bytes_eq name) names
  pub few : length names < 2 ^ 32
