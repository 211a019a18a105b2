-- The tables beside the list of metamodels: for each class its features in order, and which classes are above it.
use Rattle.std.specs.Prelude.{◌≡◌, ℕ, ◌<◌, ◌≤◌, ◌-◌, ◌/◌, ◌%◌, ◌==◌, Bool, ◌&&◌, nat_le, if◌then◌else◌, List, [], length, slice_index, slice_index_or}
use Rattle.std.specs.Int.{bit_at}
use Rattle.std.specs.List.{AllByRecursion}
use Rattle.qvt_base.specs.declared.numbers.FeatureNo.{FeatureNo}
use Rattle.qvt_metamodel.specs.declared.row.Row.{Row}
use Rattle.qvt_metamodel.specs.Metamodels.{Metamodels, class_at, features_of}
use Rattle.qvt_metamodel.specs.Descends.{reaches}
use Rattle.qvt_metamodel.specs.WellFormed.{IsWellFormed}

abbrev pub no_row : Row
no_row = record { start = 0; skipped = 0; words = [] }

-- the word of a row with this number, which has no mark where it is left out
abbrev pub word_of : Row → ℕ → ℕ
word_of r n = if nat_le r.skipped n then slice_index_or r.words (n - r.skipped) 0 else 0

abbrev pub is_bit : ℕ → ℕ → Bool
is_bit word k = bit_at word k == 1

-- whether a class is marked in a row
abbrev pub is_marked : Row → ℕ → Bool
is_marked r d = nat_le r.start d && is_bit (word_of r ((d - r.start) / 64)) ((d - r.start) % 64)

-- each class has a rank above those of its superclasses
pub record AreRanks (m : Metamodels) (ranks : List ℕ) : Type 0 where
  pub each : length ranks ≡ length m.classes
  pub bounded : (c : ℕ) → c < length m.classes → slice_index ranks c < length m.classes
  pub rise : (c : ℕ) → AllByRecursion (λ s. slice_index ranks s.0 < slice_index ranks c) (class_at m c).supers

pub record IsKept (m : Metamodels) (lists : List (List FeatureNo)) (rows : List Row) (ranks : List ℕ) : Type 0 where
  pub well_formed : IsWellFormed m
  pub ranked : AreRanks m ranks
  pub each : length lists ≡ length m.classes
  pub each_row : length rows ≡ length m.classes
  pub starts : (c : ℕ) → (slice_index_or rows c no_row).start ≤ length m.classes
  pub features : (c : ℕ) → slice_index_or lists c [] ≡ features_of m c
  pub ancestors : (c d : ℕ) → is_marked (slice_index_or rows c no_row) d ≡ reaches m c d
