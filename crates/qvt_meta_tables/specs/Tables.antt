-- The tables of a list of classes, and an order in which they are made.
use Rattle.std.specs.Prelude.{◌≡◌, ℕ, ◌<◌, ◌≤◌, nat_lt, ◌+◌, ◌/◌, ◌%◌, ◌^◌, ◌==◌, if◌then◌else◌, List, [], length, slice_index, slice_index_or, None, IsTrue, bit_or}
use Rattle.std.specs.List.{list_all}
use Rattle.qvt_base.specs.declared.numbers.FeatureNo.{FeatureNo}
use Rattle.qvt_metamodel.specs.declared.row.Row.{Row}
use Rattle.qvt_metamodel.specs.declared.info.ClassInfo.{ClassInfo}
use Rattle.qvt_metamodel.specs.Metamodels.{Metamodels, class_at, features_of}
use Rattle.qvt_metamodel.specs.Descends.{reaches}
use Rattle.qvt_metamodel.specs.Kept.{AreRanks, no_row, is_marked, word_of}

-- these classes and nothing else
abbrev pub of_classes : List ClassInfo → Metamodels
of_classes ks = record { metamodels = []; classes = ks; features = []; element = None }

pub record IsOrder (m : Metamodels) (order ranks : List ℕ) : Type 0 where
  pub ranked : AreRanks m ranks
  pub placed : (c : ℕ) → c < length m.classes → slice_index order (slice_index ranks c) ≡ c
  pub all : length order ≡ length m.classes
  pub live : (c : ℕ) → IsTrue (list_all (λ s. nat_lt s.0 (length m.classes)) (class_at m c).supers)

-- a row that is made here starts at the first class, and has no more words than there are classes
pub record EndsWithin (n : ℕ) (r : Row) : Type 0 where
  pub start : r.start ≡ 0
  pub words : r.skipped + length r.words ≤ n

-- the word with this number of a row where this class alone is marked
abbrev pub mark_of : ℕ → ℕ → ℕ
mark_of c n = if c / 64 == n then 2 ^ (c % 64) else 0

-- the word with this number in a row with the marks of both and of a class
abbrev pub joined_word : Row → ℕ → Row → ℕ → ℕ
joined_word row c other n = bit_or (bit_or (word_of row n) (mark_of c n)) (word_of other n)

-- the features of each class, and which classes are above it
pub record AreTables (m : Metamodels) (lists : List (List FeatureNo)) (rows : List Row) (ranks : List ℕ) : Type 0 where
  pub ranked : AreRanks m ranks
  pub each : length lists ≡ length m.classes
  pub each_row : length rows ≡ length m.classes
  pub starts : (c : ℕ) → (slice_index_or rows c no_row).start ≤ length m.classes
  pub features : (c : ℕ) → slice_index_or lists c [] ≡ features_of m c
  pub ancestors : (c d : ℕ) → is_marked (slice_index_or rows c no_row) d ≡ reaches m c d
