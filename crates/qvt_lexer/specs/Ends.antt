-- The end of a text.
use Rattle.std.specs.Prelude.{◌≡◌, ℕ, List, ◌++◌}

-- the bytes of the text end with those of rest
abbrev pub IsEndOf : List ℕ → List ℕ → Type 0
IsEndOf text rest = (front : List ℕ) × (text ≡ front ++ rest)
