-- Texts that stand twice in a list.
use Rattle.std.specs.Prelude.{ℕ, List, Option}
use Rattle.std.specs.Str.{bytes_eq}
use Rattle.qvt_repeats.specs.Repeats.{repeated_by}

-- the first text that is one of those before it
abbrev pub repeated : List (List ℕ) → List (List ℕ) → Option (List ℕ)
repeated earlier xs = repeated_by bytes_eq earlier xs
