-- What is asked where a slot is loaded.
use Rattle.std.specs.Prelude.{◌≡◌, ℕ, Bool, ◌&&◌, List, [], IsTrue, IsFalse}
use Rattle.qvt_value.specs.declared.value.Value.{Value}
use Rattle.qvt_metamodel.specs.Metamodels.{Metamodels, shape_of, is_containment}
use Rattle.qvt_slots.specs.Slots.{has, Inside}
use Rattle.qvt_slots.specs.Contents.{Contents, slot_of}
use Rattle.qvt_slots.specs.Types.{IsAssignable}
use Rattle.qvt_slots.specs.Repeats.{repeats}
use Rattle.qvt_slots.specs.Cells.{with_list}

-- slot (o, p) is there and empty, and the values are of its type; where p is a containment no object stands in a containment slot
-- already, and none would be inside itself
pub record IsPlaceable (s : Contents) (o p : ℕ) (vs : List Value) : Type 0 where
  pub assignable : IsAssignable s o p vs
  pub empty : slot_of s o p ≡ []
  pub free : IsTrue (is_containment s.metas p) → (x f y : ℕ) → IsTrue (is_containment s.metas f) → IsTrue (has vs y) → IsFalse (has (slot_of s x f) y)
  pub acyclic : IsTrue (is_containment s.metas p) → (x : ℕ) → Inside s.metas (with_list (slot_of s) o p vs) x x → ⊥

-- slots of the feature are unique, and a value stands twice in the list
abbrev pub places_twice : Metamodels → ℕ → List Value → Bool
places_twice m p vs = (shape_of m p).unique && repeats vs
