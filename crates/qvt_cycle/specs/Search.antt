-- A search along the steps of a relation: the numbers that are marked as found, and those whose lists are still to be looked
-- through. And classes given to the numbers of the relation, which may show that one does not lead back to itself.
use Rattle.std.specs.Prelude.{ℕ, ◌+◌, ◌==◌, nat_le, Bool, true, false, ◌&&◌, List, [], ◌∷◌, ◌++◌, map, fold, slice_index_or, slice_set, if◌then◌else◌}
use Rattle.std.specs.List.{list_all}

pub record SearchState : Type 0 where
  pub marks : List Bool
  pub pending : List ℕ

-- past the end everything counts as marked
abbrev pub is_visited : List Bool → ℕ → Bool
is_visited marks y = slice_index_or marks y true

abbrev pub visit : SearchState → ℕ → SearchState
visit found y = if is_visited found.marks y then found else record { marks = slice_set found.marks y true; pending = found.pending ++ y ∷ [] }

abbrev pub visit_all : SearchState → List ℕ → SearchState
visit_all found ys = fold visit found ys

abbrev pub unmarked : {X : Type 0} → List X → List Bool
unmarked xs = map (λ x. false) xs

-- how many are not marked
abbrev pub missing : List Bool → ℕ
missing [] = 0
missing (b ∷ bs) = (if b then 0 else 1) + missing bs

-- the class of a number
abbrev pub component_of : List ℕ → ℕ → ℕ
component_of classes x = slice_index_or classes x 0

-- no class of these is above n
abbrev pub are_below : List ℕ → ℕ → List ℕ → Bool
are_below classes n ys = list_all (λ y. nat_le (component_of classes y) n) ys

abbrev pub fall_from : List ℕ → List ℕ → List (List ℕ) → Bool
fall_from classes ns [] = true
fall_from classes [] (ys ∷ lists) = false
fall_from classes (n ∷ ns) (ys ∷ lists) = are_below classes n ys && fall_from classes ns lists

-- classes never rise from a number to what it leads to
abbrev pub fall : List ℕ → List (List ℕ) → Bool
fall classes lists = fall_from classes classes lists

-- the class of x stands once
abbrev pub is_alone : List ℕ → List ℕ → ℕ → Bool
is_alone classes uses x = slice_index_or uses (component_of classes x) 0 == 1
