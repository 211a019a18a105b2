-- The place of the first expression of each number.
use Rattle.std.specs.Prelude.{◌≡◌, ℕ, Bool, List, position, Option, None, slice_index_or}
use Rattle.qvt_meaning.specs.Numbered.{Listed, has_number}

abbrev pub place_under : List (Option ℕ) → ℕ → Option ℕ
place_under places n = slice_index_or places n None

abbrev pub numbered_so : ℕ → Listed → Bool
numbered_so n l = has_number (record { 0 = n }) l

-- what stands under each number is the place of the first expression that has it
abbrev pub IsExprIndex : List Listed → List (Option ℕ) → Type 0
IsExprIndex ls places = (n : ℕ) → place_under places n ≡ position (numbered_so n) ls
