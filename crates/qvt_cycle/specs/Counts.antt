-- Counts that tell how often numbers stand in lists, where 2 stands for more than once.
use Rattle.std.specs.Prelude.{ℕ, ◌+◌, min, fold, map, List, slice_index_or, slice_set}

abbrev pub counted : List ℕ → ℕ → List ℕ
counted counts x = slice_set counts x (min 2 (slice_index_or counts x 0 + 1))

abbrev pub counted_all : List ℕ → List ℕ → List ℕ
counted_all counts xs = fold counted counts xs

-- a count for each
abbrev pub zeros : {X : Type 0} → List X → List ℕ
zeros xs = map (λ x. 0) xs
