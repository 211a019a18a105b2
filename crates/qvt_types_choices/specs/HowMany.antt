-- How many units of a list pass.
use Rattle.std.specs.Prelude.{ℕ, ◌+◌, Bool, List, [], ◌∷◌}
use Rattle.qvt_counts.specs.Counts.{one}

abbrev pub how_many : (ℕ → Bool) → List ℕ → ℕ
how_many p [] = 0
how_many p (n ∷ ns) = one (p n) + how_many p ns
