-- A change as it is prepared: the slot, and what is added and removed. The new list is not needed for the other slots.
use Rattle.std.specs.Prelude.{◌≡◌, ℕ, Bool, false, ◌||◌, List, [], length, IsTrue, IsFalse, Option, Some, None}
use Rattle.std.specs.List.{list_any}
use Rattle.qvt_base.specs.declared.numbers.FeatureNo.{FeatureNo}
use Rattle.qvt_base.specs.declared.numbers.Oid.{Oid}
use Rattle.qvt_value.specs.declared.value.Value.{Value}
use Rattle.qvt_metamodel.specs.Metamodels.{shape_of, opposite}
use Rattle.qvt_slots.specs.declared.fault.StoreFault.{StoreFault}
use Rattle.qvt_slots.specs.declared.fault.StoreFault.TheVariants.{TooMany, ContainmentCycle, ReadOnly, NoMemory}
use Rattle.qvt_slots.specs.declared.draft.Draft.{Draft}
use Rattle.qvt_slots.specs.Slots.{has}
use Rattle.qvt_slots.specs.Change.{Change, among_objects, objects_beyond, is_added, slot_elsewhere}
use Rattle.qvt_slots.specs.Contents.{Contents, is_live, slot_of}
use Rattle.qvt_slots.specs.Assign.{exceeds_bound, is_read_only}
use Rattle.qvt_slots.specs.Walk.{ClosesCycle}

abbrev pub change_with : Contents → Draft → List Value → Change
change_with s d ws = record {
  metas = s.metas;
  slots = slot_of s;
  object = d.object.0;
  feature = d.feature.0;
  items = ws;
  added = d.added;
  removed = d.removed;
}

-- what the draft says of the other slots
abbrev pub drafted : Contents → Draft → Change
drafted s d = change_with s d []

-- the draft is of the change to the list ws
pub record IsDraft (s : Contents) (d : Draft) (ws : List Value) : Type 0 where
  pub adds : d.added ≡ objects_beyond (slot_of s d.object.0 d.feature.0) ws
  pub removes : d.removed ≡ objects_beyond ws (slot_of s d.object.0 d.feature.0)

abbrev pub overfills_elsewhere : Change → Option FeatureNo → Oid → Bool
overfills_elsewhere c None a = false
overfills_elsewhere c (Some q) a = exceeds_bound (length (slot_elsewhere c a.0 q.0)) (shape_of c.metas q.0).upper

-- a new list of n items, or an opposite slot, passes its upper bound
abbrev pub is_overfilling : Change → ℕ → Bool
is_overfilling c n = exceeds_bound n (shape_of c.metas c.feature).upper || list_any (overfills_elsewhere c (opposite c.metas c.feature)) c.added

-- the added objects are there
pub record AddsLive (s : Contents) (c : Change) : Type 0 where
  pub live : (y : ℕ) → IsTrue (is_added c y) → IsTrue (is_live s y)

-- no refusal but that of another model
pub record IsAllowed (s : Contents) (c : Change) (n : ℕ) : Type 0 where
  pub few : IsFalse (is_overfilling c n)
  pub acyclic : ClosesCycle c → ⊥
  pub writable : IsFalse (is_read_only s c.object)

pub record IsCycleFault (s : Contents) (c : Change) (n : ℕ) : Type 0 where
  pub few : IsFalse (is_overfilling c n)
  pub cycle : ClosesCycle c

pub record IsReadOnlyFault (s : Contents) (c : Change) (n : ℕ) : Type 0 where
  pub few : IsFalse (is_overfilling c n)
  pub acyclic : ClosesCycle c → ⊥
  pub read_only : IsTrue (is_read_only s c.object)

-- the first refusal, where it is not that of another model
abbrev pub IsEarlyFault : Contents → Change → ℕ → StoreFault → Type 0
IsEarlyFault s c n TooMany = IsTrue (is_overfilling c n)
IsEarlyFault s c n ContainmentCycle = IsCycleFault s c n
IsEarlyFault s c n ReadOnly = IsReadOnlyFault s c n
IsEarlyFault s c n NoMemory = Unit {0}
IsEarlyFault s c n _ = ⊥

-- what is removed stands in the changed slot
pub record RemovesHeld (s : Contents) (d : Draft) : Type 0 where
  pub held : (y : ℕ) → IsTrue (among_objects d.removed y) → IsTrue (has (slot_of s d.object.0 d.feature.0) y)
