-- Sets of classes as rows of bits.
use Rattle.std.specs.Prelude.{◌≡◌, ◌<◌, ◌+◌, ◌/◌, ℕ, min, nat_lt, ◌==◌, ◌&&◌, ◌||◌, Bool, true, false, length, slice_index_or}
use Rattle.qvt_metas.specs.Metamodels.{Metamodels, class_at}
use Rattle.qvt_metas.specs.Descends.{reaches}
use Rattle.qvt_metas.specs.Kept.{no_row, is_marked}
use Rattle.qvt_metamodel.specs.declared.row.Row.{Row}
use Rattle.qvt_metas.specs.Tables.{EndsWithin}
use Rattle.qvt_types_choices.specs.declared.class_sets.ClassSets.{ClassSets}

-- the set of those of the classes that pass
pub record IsSetOf (m : Metamodels) (p : ℕ → Bool) (r : Row) : Type 0 where
  pub within : EndsWithin (length m.classes) r
  pub marks : (d : ℕ) → is_marked r d ≡ (nat_lt d (length m.classes) && p d)

-- for each class it and those that it is above, all, the abstract ones, and none
pub record AreSets (m : Metamodels) (t : ClassSets) : Type 0 where
  pub each : length t.below.items ≡ length m.classes
  pub below : (c : ℕ) → c < length m.classes → IsSetOf m (λ d. (d == c) || reaches m d c) (slice_index_or t.below.items c no_row)
  pub all : IsSetOf m (λ d. true) t.all
  pub abstracts : IsSetOf m (λ d. (class_at m d).is_abstract) t.abstracts
  pub none : IsSetOf m (λ d. false) t.none

-- how many words a set of numbers below a bound has
abbrev pub word_count : ℕ → ℕ
word_count n = min n (n / 64 + 1)
