-- A relation on the numbers from 0, given by the list of what each number leads to, and the numbers that lead back to themselves.
use Rattle.std.specs.Prelude.{ℕ, ◌+◌, Bool, ◌==◌, length, List, [], ◌∷◌, slice_index_or, if◌then◌else◌}
use Rattle.std.specs.List.{list_any}
use Rattle.qvt_relation.specs.Closure.{reaches_by}

abbrev pub among : List ℕ → ℕ → Bool
among xs y = list_any (λ x. x == y) xs

-- x leads to y in one step
abbrev pub leads : List (List ℕ) → ℕ → ℕ → Bool
leads lists x y = among (slice_index_or lists x []) y

-- one or more steps lead from x back to x
abbrev pub is_on_cycle : List (List ℕ) → ℕ → Bool
is_on_cycle lists x = reaches_by (leads lists) (length lists) x x

abbrev pub how_often : ℕ → List ℕ → ℕ
how_often y [] = 0
how_often y (x ∷ xs) = (if x == y then 1 else 0) + how_often y xs

-- how often a number stands in all the lists
abbrev pub how_often_in : List (List ℕ) → ℕ → ℕ
how_often_in [] y = 0
how_often_in (xs ∷ lists) y = how_often y xs + how_often_in lists y
