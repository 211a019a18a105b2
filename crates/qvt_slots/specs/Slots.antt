-- Slots as lists of values (EMOF 12: a slot is what an object holds for a feature), and what holds of all slots of a store.
use Rattle.std.specs.Prelude.{◌≡◌, ℕ, Bool, false, ◌==◌, List, IsTrue, Option, Some, None}
use Rattle.std.specs.List.{list_any}
use Rattle.qvt_value.specs.declared.value.Value.{Value}
use Rattle.qvt_value.specs.declared.value.Value.TheVariants.{Obj}
use Rattle.qvt_metas.specs.Metamodels.{Metamodels, is_opposite, is_containment}

-- the list of each slot, by object and feature
abbrev pub Slots : Type 0
Slots = ℕ → ℕ → List Value

-- the object that a value is, if it is one
abbrev pub object_in : Value → Option ℕ
object_in (Obj o) = Some o.0
object_in _ = None

abbrev pub passes : (ℕ → Bool) → Option ℕ → Bool
passes test None = false
passes test (Some x) = test x

-- whether the value is an object that passes the test
abbrev pub is_object_with : (ℕ → Bool) → Value → Bool
is_object_with test v = passes test (object_in v)

abbrev pub is_object : ℕ → Value → Bool
is_object y v = is_object_with (λ x. x == y) v

-- whether the list holds object y
abbrev pub has : List Value → ℕ → Bool
has vs y = list_any (is_object y) vs

-- an object is held by a slot exactly where its opposite slot holds the slot's owner
pub record OppositesAgree (m : Metamodels) (s : Slots) : Type 0 where
  pub agree : (x f y g : ℕ) → IsTrue (is_opposite m f g) → IsTrue (has (s x f) y) → IsTrue (has (s y g) x)

-- an object stands in at most one containment slot
pub record OneContainer (m : Metamodels) (s : Slots) : Type 0 where
  pub one : (x f x' f' y : ℕ) → IsTrue (is_containment m f) → IsTrue (is_containment m f') → IsTrue (has (s x f) y) → IsTrue (has (s x' f') y) → (x ≡ x') × (f ≡ f')

-- object y stands in a containment slot of object x
pub record Contains (m : Metamodels) (s : Slots) (x y : ℕ) : Type 0 where
  pub feature : ℕ
  pub containment : IsTrue (is_containment m feature)
  pub held : IsTrue (has (s x feature) y)

-- y is inside x: the closure of the pairs of containment
pub data Inside (m : Metamodels) (s : Slots) : ℕ → ℕ → Type 0 where
  directly : {x y : ℕ} → Contains m s x y → Inside m s x y
  through : {x y z : ℕ} → Contains m s x y → Inside m s y z → Inside m s x z
