-- Rows as sets of the numbers that they mark.
use Rattle.std.specs.Prelude.{◌≡◌, ◌≤◌, ◌+◌, ℕ, Bool, List, length, nat_lt, bit_or, IsTrue, if◌then◌else◌, ◌||◌, ◌&&◌, ◌==◌, slice_index_or}
use Rattle.std.specs.List.{list_any}
use Rattle.qvt_base.specs.declared.numbers.ClassNo.{ClassNo}
use Rattle.qvt_metamodel.specs.declared.row.Row.{Row}
use Rattle.qvt_metamodel.specs.Kept.{no_row, word_of, is_marked}

-- a number is marked in both rows
pub record Overlap (one other : Row) : Type 0 where
  pub number : ℕ
  pub first : IsTrue (is_marked one number)
  pub second : IsTrue (is_marked other number)

-- each number that is marked in the one row is marked in the other
abbrev pub IsSubset : Row → Row → Type 0
IsSubset one other = (d : ℕ) → IsTrue (is_marked one d) → IsTrue (is_marked other d)

-- whether the set of a class has a number once what these sets have of another class is put into those of its superclasses
abbrev pub handed_on : List Row → ℕ → List ClassNo → ℕ → ℕ → Bool
handed_on rows from supers class number =
    is_marked (slice_index_or rows class no_row) number || (list_any (λ s. s.0 == class) supers && is_marked (slice_index_or rows from no_row) number)

-- a row with the words of another behind its own
pub record IsLengthened (one other row : Row) : Type 0 where
  pub start : row.start ≡ one.start
  pub first : row.skipped ≡ one.skipped
  pub reach : one.skipped + length one.words ≤ row.skipped + length row.words
  pub words : (n : ℕ) → word_of row n ≡ (if nat_lt n (one.skipped + length one.words) then word_of one n else word_of other n)

-- a row with the words of another put into its own before a place
pub record ArePut (end : ℕ) (one other row : Row) : Type 0 where
  pub start : row.start ≡ one.start
  pub words : (n : ℕ) → word_of row n ≡ (if nat_lt n end then bit_or (word_of one n) (word_of other n) else word_of one n)
