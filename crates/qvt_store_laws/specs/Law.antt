-- What a change keeps of all slots.
use Rattle.std.specs.Prelude.{◌≡◌, ℕ, ◌≤◌, List, length, IsTrue}
use Rattle.std.specs.List.{list_all}
use Rattle.qvt_value.specs.declared.value.Value.{Value}
use Rattle.qvt_metamodel.specs.Metamodels.{is_single}
use Rattle.qvt_metamodel.specs.WellFormed.{IsWellFormed}
use Rattle.qvt_slots.specs.Slots.{OppositesAgree, OneContainer}
use Rattle.qvt_slots.specs.Change.{Change, objects_beyond, slot_after}
use Rattle.qvt_slots.specs.Contents.{Contents, is_slot}
use Rattle.qvt_slots.specs.Types.{is_of_type}

-- what is added and removed is told by the old list and the new one
pub record HasDifferences (c : Change) : Type 0 where
  pub adds : c.added ≡ objects_beyond (c.slots c.object c.feature) c.items
  pub removes : c.removed ≡ objects_beyond c.items (c.slots c.object c.feature)

-- a single-valued slot gets one item at most
pub record FitsSingle (c : Change) : Type 0 where
  pub single : IsTrue (is_single c.metas c.feature) → length c.items ≤ 1

-- the slot is there, and the new items are of its type
pub record IsFit (s : Contents) (o p : ℕ) (ws : List Value) : Type 0 where
  pub slot : IsTrue (is_slot s o p)
  pub types : IsTrue (list_all (is_of_type s p) ws)

abbrev pub KeepsOpposites : Type 0
KeepsOpposites = (c : Change) → HasDifferences c → IsWellFormed c.metas → FitsSingle c → OppositesAgree c.metas c.slots → OppositesAgree c.metas (slot_after c)

abbrev pub KeepsOneContainer : Type 0
KeepsOneContainer = (c : Change) → HasDifferences c → IsWellFormed c.metas → FitsSingle c → OneContainer c.metas c.slots → OneContainer c.metas (slot_after c)
