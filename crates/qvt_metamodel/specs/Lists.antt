-- The lists of features of classes (EMOF 12.4: a class has the features of its superclasses and then its own). A list that
-- goes on from another has that one at its front, so both can be the first ones of one line.
use Rattle.std.specs.Prelude.{◌≡◌, ℕ, ◌<◌, ◌≤◌, List, [], length, map, take, slice_index_or, Option, Some, None}
use Rattle.std.specs.List.{All}
use Rattle.qvt_base.specs.declared.numbers.FeatureNo.{FeatureNo}
use Rattle.qvt_metamodel.specs.declared.front.Front.{Front}

pub record Lists : Type 0 where
  pub lines : List (List FeatureNo)
  pub fronts : List Front

abbrev pub front_of : List (List FeatureNo) → Front → List FeatureNo
front_of lines f = take f.count (slice_index_or lines f.line [])

abbrev pub all_lists : Lists → List (List FeatureNo)
all_lists ls = map (front_of ls.lines) ls.fronts

-- the line is there, and has as many
pub record IsLineFront (lines : List (List FeatureNo)) (f : Front) : Type 0 where
  pub line : f.line < length lines
  pub count : f.count ≤ length (slice_index_or lines f.line [])

-- the list begins with these, the first ones of a line
pub record HasFront (list : List FeatureNo) (f : Front) (first : List FeatureNo) : Type 0 where
  pub within : f.count ≤ length list
  pub same : take f.count list ≡ first

-- a line begins with a front of a line before it
pub record BeginsWith (lines : List (List FeatureNo)) (l : ℕ) (f : Front) : Type 0 where
  pub before : f.line < l
  pub front : IsLineFront lines f
  pub has : HasFront (slice_index_or lines l []) f (front_of lines f)

-- the lists are fronts of the lines, and of each line is told what it begins with, or nothing
pub record AreLined (lines : List (List FeatureNo)) (begins : List (Option Front)) (fronts : List Front) : Type 0 where
  pub within : All (IsLineFront lines) fronts
  pub each : length begins ≡ length lines
  pub begun : (l : ℕ) (f : Front) → slice_index_or begins l None ≡ Some f → BeginsWith lines l f

-- the second lines have in the place of each feature of the first the one that stands for it
abbrev pub AreMapped : List (List FeatureNo) → List (List FeatureNo) → Type 0
AreMapped lines others = (stand_in : FeatureNo → FeatureNo) × (others ≡ map (map stand_in) lines)
