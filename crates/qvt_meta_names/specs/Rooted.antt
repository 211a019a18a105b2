-- The first place of each name in a list of features, by the number of the name, in trees of four ways that share what they have
-- in common. A node is four words in a row, told by the place of the first of them; the one at 0 is the empty tree.
use Rattle.std.specs.Prelude.{◌≡◌, ℕ, zero, suc, ◌+◌, ◌-◌, ◌/◌, ◌%◌, ◌<◌, ◌==◌, ◌&&◌, nat_lt, if◌then◌else◌, List, [], ◌∷◌, ◌++◌, Option, Some, None, length, position, slice_index_or}
use Rattle.qvt_base.specs.declared.numbers.FeatureNo.{FeatureNo}
use Rattle.qvt_meta_names.specs.Named.{number_at}
use Rattle.qvt_meta_names.specs.declared.place_tables.PlaceTables.{PlaceTables}

-- the word that a tree has for a number: down by its digits to the base of four, the lowest first
abbrev pub tree_word : List ℕ → ℕ → ℕ → ℕ → ℕ
tree_word words zero node number = node
tree_word words (suc levels) node number = tree_word words levels (slice_index_or words (node + number % 4) 0) (number / 4)

-- what is left of a number without so many of its lowest digits
abbrev pub rest_above : ℕ → ℕ → ℕ
rest_above zero number = number
rest_above (suc levels) number = rest_above levels (number / 4)

-- no number has more digits
abbrev pub HaveDigits : List ℕ → ℕ → Type 0
HaveDigits numbers levels = (i : ℕ) → rest_above levels (slice_index_or numbers i 0) ≡ 0

abbrev pub empty_tree : List ℕ
empty_tree = 0 ∷ 0 ∷ 0 ∷ 0 ∷ []

-- the second words are the first and then others
abbrev pub GoesOn : List ℕ → List ℕ → Type 0
GoesOn old new = (more : List ℕ) × (new ≡ old ++ more)

-- a word of a node in which that of one digit is another
abbrev pub cell_with : List ℕ → ℕ → ℕ → ℕ → ℕ → ℕ
cell_with words node digit word place = if place == digit then word else slice_index_or words (node + place) 0

abbrev pub node_with : List ℕ → ℕ → ℕ → ℕ → List ℕ
node_with words node digit word = cell_with words node digit word 0 ∷ cell_with words node digit word 1 ∷ cell_with words node digit word 2 ∷ cell_with words node digit word 3 ∷ []

-- a tree has the word for the number, and for others what a tree before it has for them
pub record IsTreeWith (old new : List ℕ) (levels before number word after : ℕ) : Type 0 where
  pub more : GoesOn old new
  pub there : tree_word new levels after number ≡ word
  pub others : (n w : ℕ) → (n ≡ number → ⊥) → rest_above levels n ≡ 0 → rest_above levels number ≡ 0 → 0 < w → tree_word old levels before n ≡ w → tree_word new levels after n ≡ w

-- what stands past the end of a list
abbrev pub no_number : FeatureNo
no_number = record { 0 = 0 }

-- the place that a word tells, one below it, where the feature there has this number
abbrev pub told_place : List ℕ → List FeatureNo → ℕ → ℕ → Option ℕ
told_place numbers list word number = if nat_lt 0 word && (nat_lt (word - 1) (length list) && (number == number_at numbers (slice_index_or list (word - 1) no_number))) then Some (word - 1) else None

-- the tree finds the first place of each number that the list has. What it has for other numbers does not matter
pub record FindsPlaces (numbers : List ℕ) (list : List FeatureNo) (words : List ℕ) (levels root : ℕ) : Type 0 where
  pub first : (n p : ℕ) → position (λ f. n == number_at numbers f) list ≡ Some p → tree_word words levels root n ≡ p + 1

-- words that trees can be put behind
pub record AreReady (numbers words : List ℕ) (levels : ℕ) : Type 0 where
  pub empty : GoesOn empty_tree words
  pub digits : HaveDigits numbers levels

-- after more words another tree finds the places
pub record FindsOn (numbers : List ℕ) (list : List FeatureNo) (old new : List ℕ) (levels root : ℕ) : Type 0 where
  pub more : GoesOn old new
  pub finds : FindsPlaces numbers list new levels root

-- each list has a tree that finds its places
pub record ArePlaced (numbers : List ℕ) (lists : List (List FeatureNo)) (t : PlaceTables) : Type 0 where
  pub each : length t.roots ≡ length lists
  pub at : (l : ℕ) → l < length lists → FindsPlaces numbers (slice_index_or lists l []) t.words t.levels (slice_index_or t.roots l 0)
