-- The writes that carry out a change in the slots other than the changed one.
use Rattle.std.specs.Prelude.{◌≡◌, ℕ, List, IsTrue, IsFalse, All}
use Rattle.qvt_base.specs.declared.numbers.Oid.{Oid}
use Rattle.qvt_value.specs.declared.value.Value.{Value}
use Rattle.qvt_metamodel.specs.Metamodels.{is_containment, is_opposite}
use Rattle.qvt_slots.specs.declared.commit.Write.{Write}
use Rattle.qvt_slots.specs.Slots.{has}
pub use Rattle.qvt_slots.specs.Listed.{is_write_of, listed}
use Rattle.qvt_slots.specs.Change.{Change, among_objects, is_here, is_container, slot_elsewhere}
use Rattle.qvt_slots.specs.Contents.{Contents, is_slot, slot_of}

-- a write of what the change gives
pub record IsRight (s : Contents) (c : Change) (w : Write) : Type 0 where
  pub slot : IsTrue (is_slot s w.object.0 w.feature.0)
  pub elsewhere : IsFalse (is_here c w.object.0 w.feature.0)
  pub items : w.items ≡ slot_elsewhere c w.object.0 w.feature.0

-- more writes, all of them right
pub record Extends (s : Contents) (c : Change) (old new : List Write) : Type 0 where
  pub right : All (IsRight s c) old → All (IsRight s c) new
  pub keeps : (x f : ℕ) → IsTrue (listed old x f) → IsTrue (listed new x f)

-- more writes, all of them right, with each slot elsewhere of which P holds
pub record Plans (s : Contents) (c : Change) (old new : List Write) (P : ℕ → ℕ → Type 0) : Type 0 where
  pub extends : Extends s c old new
  pub there : (x f : ℕ) → P x f → IsTrue (is_slot s x f) → IsFalse (is_here c x f) → IsTrue (listed new x f)

-- this slot
pub record IsSlotOf (o p x f : ℕ) : Type 0 where
  pub object : x ≡ o
  pub feature : f ≡ p

-- the slot of feature p of one of the objects
pub record IsSlotOfSome (os : List Oid) (p x f : ℕ) : Type 0 where
  pub object : IsTrue (among_objects os x)
  pub feature : f ≡ p

-- the slot of feature p of an object of the list
pub record IsHeldSlot (vs : List Value) (p x f : ℕ) : Type 0 where
  pub object : IsTrue (has vs x)
  pub feature : f ≡ p

-- the slot of x that is opposite to feature g
pub record IsOppositeSlot (s : Contents) (o g x f : ℕ) : Type 0 where
  pub object : x ≡ o
  pub opposite : IsTrue (is_opposite s.metas g f)

-- slot (x, p), where x is held in slot q of one of the objects
pub record IsOwnerSlot (s : Contents) (os : List Oid) (q p x f : ℕ) : Type 0 where
  pub feature : f ≡ p
  pub owner : ℕ
  pub is_listed : IsTrue (among_objects os owner)
  pub held : IsTrue (has (slot_of s owner q) x)

-- slot (x, f) is the containment slot that holds a, or the slot of a that is opposite to that one
pub data IsAround (s : Contents) (a x f : ℕ) : Type 0 where
  holding : IsTrue (is_containment s.metas f) → IsTrue (has (slot_of s x f) a) → IsAround s a x f
  opposed : (y g : ℕ) → x ≡ a → IsTrue (is_containment s.metas g) → IsTrue (has (slot_of s y g) a) → IsTrue (is_opposite s.metas g f) → IsAround s a x f

pub record IsAroundSome (s : Contents) (os : List Oid) (x f : ℕ) : Type 0 where
  pub object : ℕ
  pub is_listed : IsTrue (among_objects os object)
  pub around : IsAround s object x f

-- the slots that an opposite touches
pub data IsOpposed (s : Contents) (c : Change) (x f : ℕ) : Type 0 where
  before : IsTrue (is_opposite c.metas c.feature f) → IsTrue (among_objects c.removed x) → IsOpposed s c x f
  after : IsTrue (is_opposite c.metas c.feature f) → IsTrue (among_objects c.added x) → IsOpposed s c x f
  owner : (q : ℕ) → IsTrue (is_opposite c.metas c.feature q) → IsOwnerSlot s c.added q c.feature x f → IsOpposed s c x f

-- the slots that a new container touches
pub data IsRehoused (s : Contents) (c : Change) (x f : ℕ) : Type 0 where
  items : IsTrue (is_containment c.metas c.feature) → IsAroundSome s c.added x f → IsRehoused s c x f
  itself : IsTrue (is_container c.metas c.feature) → IsAround s c.object x f → IsRehoused s c x f

-- the writes are right, and each other slot elsewhere stays as it is
pub record IsPlan (s : Contents) (c : Change) (ws : List Write) : Type 0 where
  pub right : All (IsRight s c) ws
  pub others : (x f : ℕ) → IsTrue (is_slot s x f) → IsFalse (is_here c x f) → IsFalse (listed ws x f) → slot_elsewhere c x f ≡ slot_of s x f
