-- Features of classes that repeat the name of an earlier feature of their class (EMOF 12.4: the features of a class have
-- different names, those that it inherits among them).
use Rattle.std.specs.Prelude.{◌≡◌, ℕ, ◌==◌, Bool, List, [], ◌∷◌, ◌++◌, length, take, slice_index_or}
use Rattle.std.specs.List.{list_any}
use Rattle.std.specs.Str.{bytes_eq}
use Rattle.qvt_base.specs.declared.numbers.FeatureNo.{FeatureNo}
use Rattle.qvt_metamodel.specs.declared.front.Front.{Front}
use Rattle.qvt_meta_names.specs.Named.{number_at}
use Rattle.qvt_meta_tables.specs.NumberSets.{has_number}

-- for each of the items whether one before it, or one of these earlier ones, is the same
abbrev pub repeat_flags : {X : Type 0} → (X → X → Bool) → List X → List X → List Bool
repeat_flags same earlier [] = []
repeat_flags same earlier (x ∷ xs) = list_any (same x) earlier ∷ repeat_flags same (earlier ++ x ∷ []) xs

-- whether the numbers of their names are the same
abbrev pub same_number : List ℕ → FeatureNo → FeatureNo → Bool
same_number numbers f g = number_at numbers g == number_at numbers f

abbrev pub number_flags : List ℕ → List FeatureNo → List Bool
number_flags numbers list = repeat_flags (same_number numbers) [] list

-- the set has the numbers of the names of these features, and no others
abbrev pub NamesAre : List ℕ → List FeatureNo → List ℕ × ℕ → Type 0
NamesAre numbers features set = (n : ℕ) → has_number set n ≡ list_any (λ f. number_at numbers f == n) features

-- the flags of a list that is the first ones of a line
abbrev pub front_flags : List (List Bool) → Front → List Bool
front_flags lines f = take f.count (slice_index_or lines f.line [])

-- each line has flags, one for each of its places
pub record AreFlagged (lines : List (List FeatureNo)) (flags : List (List Bool)) : Type 0 where
  pub each : length flags ≡ length lines
  pub places : (l : ℕ) → length (slice_index_or flags l []) ≡ length (slice_index_or lines l [])

-- for each of the names whether one before it is the same
abbrev pub name_flags : List (List ℕ) → List Bool
name_flags names = repeat_flags bytes_eq [] names
