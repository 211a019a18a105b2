-- The numbers of items in a list.
use Rattle.std.specs.Prelude.{ℕ, ◌+◌, Bool, List, [], ◌∷◌, if◌then◌else◌}

-- the numbers of the items that pass a test, ascending, where the first item has the number n
abbrev pub numbers_from : {X : Type 0} → (X → Bool) → ℕ → List X → List ℕ
numbers_from test n [] = []
numbers_from test n (x ∷ xs) = if test x then n ∷ numbers_from test (n + 1) xs else numbers_from test (n + 1) xs

-- the same, where it has the number 0
abbrev pub numbers : {X : Type 0} → (X → Bool) → List X → List ℕ
numbers test xs = numbers_from test 0 xs
