-- Writes of whole slots into the cells, and the holders that follow.
use Rattle.std.specs.Prelude.{◌≡◌, ℕ, ◌<◌, Bool, List, [], ◌∷◌, ◌++◌, length, IsTrue, Option, Some, None, ◌==◌, ◌&&◌, if◌then◌else◌}
use Rattle.std.specs.List.{flat_map}
use Rattle.qvt_base.specs.declared.numbers.Oid.{Oid}
use Rattle.qvt_metas.specs.Metamodels.{Metamodels, has_feature, is_containment}
use Rattle.qvt_slots.specs.declared.cell.Holder.{Holder}
use Rattle.qvt_slots.specs.declared.cell.Cell.{Cell}
use Rattle.qvt_slots.specs.declared.commit.Write.{Write}
use Rattle.qvt_slots.specs.declared.draft.Draft.{Draft}
use Rattle.qvt_slots.specs.Slots.{Slots, has}
use Rattle.qvt_slots.specs.Change.{among_objects, objects_beyond}
use Rattle.qvt_slots.specs.Contents.{slot_in}
use Rattle.qvt_slots.specs.Cells.{instances, instance_in, holder_at, holder_in, SameObjects, with_list}

pub record IsWrite (m : Metamodels) (cells : List Cell) (w : Write) : Type 0 where
  pub live : w.object.0 < length cells
  pub there : IsTrue (has_feature m (instance_in cells w.object.0).class w.feature.0)

-- the slots after the writes, in order
abbrev pub written : List Write → Slots → Slots
written [] s = s
written (w ∷ ws) s = written ws (with_list s w.object.0 w.feature.0 w.items)

pub record AreWritten (m : Metamodels) (old new : List Cell) (writes : List Write) : Type 0 where
  pub objects : SameObjects m old new
  pub holders : (y : ℕ) → holder_at new y ≡ holder_at old y
  pub slots : (x f : ℕ) → slot_in m (instances new) x f ≡ written writes (slot_in m (instances old)) x f

-- the holder of y is this one, and all else is as before
pub record IsHeld (old new : List Cell) (y : ℕ) (holder : Option Holder) : Type 0 where
  pub objects : instances new ≡ instances old
  pub holders : (z : ℕ) → holder_at new z ≡ (if z == y then holder else holder_at old z)

-- the objects that pass the test are there
pub record AllLive (cells : List Cell) (test : ℕ → Bool) : Type 0 where
  pub live : (y : ℕ) → IsTrue (test y) → y < length cells

-- each object that passes the test has this holder, and all else is as before
pub record AreHeld (old new : List Cell) (test : ℕ → Bool) (holder : Option Holder) : Type 0 where
  pub objects : instances new ≡ instances old
  pub holders : (z : ℕ) → holder_at new z ≡ (if test z then holder else holder_at old z)

abbrev pub or_else : Option Holder → Option Holder → Option Holder
or_else None other = other
or_else (Some h) other = Some h

-- the holder that the write gives to object z
abbrev pub held_by : Metamodels → Write → ℕ → Option Holder
held_by m w z = if is_containment m w.feature.0 && has w.items z then Some (holder_in w.object.0 w.feature.0) else None

-- the holder that the last of the writes gives
abbrev pub last_holder : Metamodels → List Write → ℕ → Option Holder
last_holder m [] z = None
last_holder m (w ∷ ws) z = or_else (last_holder m ws z) (held_by m w z)

pub record AreHeldBy (m : Metamodels) (old new : List Cell) (ws : List Write) : Type 0 where
  pub objects : instances new ≡ instances old
  pub holders : (z : ℕ) → holder_at new z ≡ or_else (last_holder m ws z) (holder_at old z)

-- the holder that the changed slot gives to an added object
abbrev pub held_here : Metamodels → Draft → ℕ → Option Holder
held_here m d z = if is_containment m d.feature.0 && among_objects d.added z then Some (holder_in d.object.0 d.feature.0) else None

pub record AreHeldHere (m : Metamodels) (d : Draft) (old new : List Cell) : Type 0 where
  pub objects : instances new ≡ instances old
  pub holders : (z : ℕ) → holder_at new z ≡ or_else (held_here m d z) (holder_at old z)

-- the holder after a change: by a write, by the changed slot, none where released, else the old one
abbrev pub holder_after : Metamodels → Draft → List Write → List Oid → ℕ → Option Holder → Option Holder
holder_after m d ws released z old = or_else (last_holder m ws z) (or_else (held_here m d z) (if among_objects released z then None else old))

-- the writes are carried out, and the holders follow
pub record IsSettled (m : Metamodels) (d : Draft) (old new : List Cell) (ws : List Write) (released : List Oid) : Type 0 where
  pub objects : SameObjects m old new
  pub slots : (x f : ℕ) → slot_in m (instances new) x f ≡ written ws (slot_in m (instances old)) x f
  pub holders : (z : ℕ) → holder_at new z ≡ holder_after m d ws released z (holder_at old z)

-- the old items of a containment slot that is written
abbrev pub released_by : Metamodels → Slots → Write → List Oid
released_by m s w = if is_containment m w.feature.0 then objects_beyond [] (s w.object.0 w.feature.0) else []

-- the removed items, where the changed slot is a containment
abbrev pub released_here : Metamodels → Draft → List Oid
released_here m d = if is_containment m d.feature.0 then d.removed else []

abbrev pub released_of : Metamodels → Slots → Draft → List Write → List Oid
released_of m s d ws = released_here m d ++ flat_map (released_by m s) ws
