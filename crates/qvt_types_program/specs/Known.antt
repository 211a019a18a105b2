-- Metamodels of models; every model of an accepted program has one.
use Rattle.std.specs.Prelude.{ℕ, Option, Some, None}

abbrev pub known : Option ℕ → ℕ
known None = 0
known (Some k) = k
