-- Lists of units by which is told what a class asks, each unit once.
use Rattle.std.specs.Prelude.{◌≡◌, ℕ, ◌==◌, ◌&&◌, Bool, true, false, List, [], ◌∷◌, ◌++◌, if◌then◌else◌, slice_index_or}
use Rattle.std.specs.List.{list_any, list_all}
use Rattle.qvt_base.specs.declared.numbers.ClassNo.{ClassNo}
use Rattle.qvt_metas.specs.NumberSets.{has_number}
use Rattle.qvt_types_above.specs.declared.above.Above.{Above}
use Rattle.qvt_types_above.specs.declared.above.Above.TheVariants.{Untold, Nothing, Least, Both, Listed}
use Rattle.qvt_types_above.specs.Above.{above_at}

-- the set has the numbers of the list
abbrev pub AreThere : List ℕ → List ℕ × ℕ → Type 0
AreThere ks set = (n : ℕ) → has_number set n ≡ list_any (λ k. k == n) ks

-- a number more, if it is not there
abbrev pub put : List ℕ → ℕ → List ℕ
put ks n = if list_any (λ k. k == n) ks then ks else ks ++ n ∷ []

abbrev pub put_all : List ℕ → List ℕ → List ℕ
put_all ks [] = ks
put_all ks (n ∷ ns) = put_all (put ks n) ns

-- the units by which something is told
abbrev pub numbers_of : List (List ℕ) → Above → List ℕ
numbers_of lists Untold = []
numbers_of lists Nothing = []
numbers_of lists (Least n) = n ∷ []
numbers_of lists (Both i k) = i ∷ k ∷ []
numbers_of lists (Listed s) = slice_index_or lists s []

abbrev pub put_classes : List (List ℕ) → List Above → List ℕ → List ClassNo → List ℕ
put_classes lists row ks [] = ks
put_classes lists row ks (c ∷ cs) = put_classes lists row (put_all ks (numbers_of lists (above_at row c.0))) cs

-- the units by which it is told already and of these classes
abbrev pub gathered : List (List ℕ) → List Above → Above → List ClassNo → List ℕ
gathered lists row a cs = put_classes lists row (put_all [] (numbers_of lists a)) cs

abbrev pub is_told : Above → Bool
is_told Untold = false
is_told Nothing = true
is_told (Least n) = true
is_told (Both i k) = true
is_told (Listed s) = true

abbrev pub are_told : List Above → Above → List ClassNo → Bool
are_told row a cs = is_told a && list_all (λ c. is_told (above_at row c.0)) cs
