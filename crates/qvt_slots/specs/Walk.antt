-- The objects around an object, and when a change would put an object inside itself.
use Rattle.std.specs.Prelude.{◌≡◌, ℕ, zero, suc, ◌+◌, Bool, ◌⊎◌, IsTrue, List, if◌then◌else◌}
use Rattle.qvt_base.specs.declared.numbers.Oid.{Oid}
use Rattle.qvt_metas.specs.Metamodels.{Metamodels, is_containment}
use Rattle.qvt_relation.specs.Closure.{reaches_by}
use Rattle.qvt_slots.specs.Slots.{Slots, Inside}
use Rattle.qvt_slots.specs.Change.{Change, among_objects, is_container}
use Rattle.qvt_slots.specs.Assign.{is_in}

-- x is y, or y is inside x
abbrev pub IsOver : Metamodels → Slots → ℕ → ℕ → Type 0
IsOver m s x y = (x ≡ y) ⊎ Inside m s x y

-- one of the objects is over object y
pub record SomeOver (m : Metamodels) (s : Slots) (os : List Oid) (y : ℕ) : Type 0 where
  pub object : ℕ
  pub listed : IsTrue (among_objects os object)
  pub over : IsOver m s object y

abbrev pub count_below : ℕ → (ℕ → Bool) → ℕ
count_below zero p = 0
count_below (suc n) p = (if p n then 1 else 0) + count_below n p

-- how many objects below n an object is inside of
unfoldable pub depth : Metamodels → Slots → ℕ → ℕ → ℕ
depth m s n x = count_below n (λ y. reaches_by (is_in m s) n y x)

-- the changed object is over one of the objects
pub record IsOverSome (m : Metamodels) (s : Slots) (o : ℕ) (os : List Oid) : Type 0 where
  pub object : ℕ
  pub listed : IsTrue (among_objects os object)
  pub under : IsOver m s o object

-- an added object stands over the changed one, which is to contain it, or under the changed one, which it is to contain
pub data ClosesCycle (c : Change) : Type 0 where
  by_items : IsTrue (is_containment c.metas c.feature) → SomeOver c.metas c.slots c.added c.object → ClosesCycle c
  by_end : IsTrue (is_container c.metas c.feature) → IsOverSome c.metas c.slots c.object c.added → ClosesCycle c

-- some object is inside itself
pub record IsCyclic (m : Metamodels) (s : Slots) : Type 0 where
  pub object : ℕ
  pub inside : Inside m s object object
