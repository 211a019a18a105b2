-- Sets of numbers that are emptied at once: a number is there where it has the mark of this turn.
use Rattle.std.specs.Prelude.{ℕ, Bool, ◌≤◌, ◌<◌, ◌==◌, List, slice_index_or}

abbrev pub has_number : List ℕ × ℕ → ℕ → Bool
has_number s n = slice_index_or s.0 n 0 == s.1

-- no number has the mark of a later turn, and none that was never put there that of a turn
pub record AreTurns (marks : List ℕ) (turn : ℕ) : Type 0 where
  pub before : (n : ℕ) → slice_index_or marks n 0 ≤ turn
  pub begun : 0 < turn
