-- Features that stand in lists, as a set of their numbers, and lists in which none stands twice.
use Rattle.std.specs.Prelude.{◌≡◌, ℕ, List, [], ◌++◌, Option, slice_index_or, IfSome, IsTrue}
use Rattle.qvt_base.specs.declared.numbers.FeatureNo.{FeatureNo}
use Rattle.qvt_metamodel.specs.Metamodels.{among_features, each_once}
use Rattle.qvt_meta_tables.specs.NumberSets.{has_number}

-- no feature stands twice
abbrev pub IsOnce : List FeatureNo → Type 0
IsOnce gs = each_once [] gs ≡ gs

-- the features are all in the set
abbrev pub AreIn : List ℕ × ℕ → List FeatureNo → Type 0
AreIn set gs = (n : ℕ) → IsTrue (among_features n gs) → IsTrue (has_number set n)

-- behind features of the set before these all are new, and the set after has them too
abbrev pub AreNew : List ℕ × ℕ → List FeatureNo → List ℕ × ℕ → Type 0
AreNew before own after = (gs : List FeatureNo) → AreIn before gs → (each_once gs own ≡ own) × AreIn after (gs ++ own)

-- no list has a feature twice, and the set has those of all
pub record AreNoted (lists : List (List FeatureNo)) (set : List ℕ × ℕ) : Type 0 where
  pub once : (c : ℕ) → IsOnce (slice_index_or lists c [])
  pub within : (c : ℕ) → AreIn set (slice_index_or lists c [])

-- the set has the numbers of these features, and no others
abbrev pub HasJust : List ℕ × ℕ → List FeatureNo → Type 0
HasJust set gs = (n : ℕ) → has_number set n ≡ among_features n gs

-- where a class is known, the set has the numbers of the features in its list, and no others
abbrev pub HasJustOf : List (List FeatureNo) → Option ℕ → List ℕ × ℕ → Type 0
HasJustOf lists known set = IfSome known (λ c. HasJust set (slice_index_or lists c []))
