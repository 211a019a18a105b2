-- How a store is kept: numbered cells of objects, each with the containment slot that holds it, and for each extent the list
-- of its objects.
use Rattle.std.specs.Prelude.{◌≡◌, ◌≢◌, ℕ, ◌<◌, ◌≤◌, List, [], map, length, slice_index_or, slice_set, IsTrue, Option, Some, None, ◌==◌, ◌&&◌, if◌then◌else◌}
use Rattle.qvt_base.specs.declared.numbers.FeatureNo.{FeatureNo}
use Rattle.qvt_base.specs.declared.numbers.Oid.{Oid}
use Rattle.qvt_value.specs.declared.value.Value.{Value}
use Rattle.qvt_metas.specs.Metamodels.{Metamodels, features_of, is_containment}
use Rattle.qvt_metas.specs.WellFormed.{IsWellFormed}
use Rattle.qvt_slots.specs.declared.extent.Extent.{Extent}
use Rattle.qvt_slots.specs.declared.cell.Holder.{Holder}
use Rattle.qvt_slots.specs.declared.cell.Cell.{Cell}
use Rattle.qvt_slots.specs.declared.cell.Marks.{Marks}
use Rattle.qvt_slots.specs.Slots.{Slots, has, Inside}
use Rattle.qvt_slots.specs.Contents.{Instance, Contents, AreNamed, HoldOwn, no_instance, slot_in, members_from, set_slot}
use Rattle.qvt_slots.specs.Limits.{most_objects}
use Rattle.qvt_slots.specs.Types.{AreTyped}
use Rattle.qvt_slots.specs.Repeats.{AreUnique}

abbrev pub instance_of : Cell → Instance
instance_of cell = record { class = cell.class.0; extent = cell.extent; slots = cell.slots.items }

abbrev pub instances : List Cell → List Instance
instances cells = map instance_of cells

abbrev pub contents_of : Metamodels → List Extent → List Cell → Contents
contents_of m extents cells = record { metas = m; extents = extents; objects = instances cells }

abbrev pub instance_in : List Cell → ℕ → Instance
instance_in cells x = slice_index_or (instances cells) x no_instance

abbrev pub holder_at : List Cell → ℕ → Option Holder
holder_at cells y = slice_index_or (map (λ cell. cell.holder) cells) y None

abbrev pub holder_in : ℕ → ℕ → Holder
holder_in x f = record { object = record { 0 = x }; feature = record { 0 = f } }

-- the holder of an object is the one containment slot that has it
pub record AreHolders (m : Metamodels) (cells : List Cell) : Type 0 where
  pub held : (x f y : ℕ) → IsTrue (is_containment m f) → IsTrue (has (slot_in m (instances cells) x f) y) → holder_at cells y ≡ Some (holder_in x f)
  pub contains : (h : Holder) (y : ℕ) → holder_at cells y ≡ Some h → IsTrue (is_containment m h.feature.0) × IsTrue (has (slot_in m (instances cells) h.object.0 h.feature.0) y)

-- a cell has a list for each feature of its class
pub record HaveSlots (m : Metamodels) (cells : List Cell) : Type 0 where
  pub slots : (x : ℕ) → x < length cells → length (instance_in cells x).slots ≡ length (features_of m (instance_in cells x).class)

-- what stands in the cells
pub record AreWhole (m : Metamodels) (cells : List Cell) : Type 0 where
  pub well_formed : IsWellFormed m
  pub few : length cells ≤ most_objects
  pub have_slots : HaveSlots m cells
  pub holders : AreHolders m cells
  pub acyclic : (x : ℕ) → Inside m (slot_in m (instances cells)) x x → ⊥

-- each extent lists its objects in order
pub record AreMembers (extents : List Extent) (cells : List Cell) (members : List (List Oid)) : Type 0 where
  pub count : length members ≡ length extents
  pub lists : (e : ℕ) → e < length members → slice_index_or members e [] ≡ members_from 0 (instances cells) e

-- each mark is set only where it holds
pub record IsStoreKept (m : Metamodels) (extents : List Extent) (cells : List Cell) (members : List (List Oid)) (marks : Marks) : Type 0 where
  pub whole : AreWhole m cells
  pub named : AreNamed m extents
  pub typed : AreTyped (contents_of m extents cells)
  pub listed : AreMembers extents cells members
  pub unique : IsTrue marks.distinct → AreUnique (contents_of m extents cells)
  pub own : IsTrue marks.own → HoldOwn (contents_of m extents cells)

-- feature f stands at i, and at no earlier place
pub record IsPlaceOf (features : List FeatureNo) (f i : ℕ) : Type 0 where
  pub within : i < length features
  pub here : (slice_index_or features i (record { 0 = 0 })).0 ≡ f
  pub earlier : (k : ℕ) → k < i → (slice_index_or features k (record { 0 = 0 })).0 ≢ f

-- the objects are the same but for what their slots hold
pub record SameObjects (m : Metamodels) (old new : List Cell) : Type 0 where
  pub same_length : length new ≡ length old
  pub classes : (x : ℕ) → (instance_in new x).class ≡ (instance_in old x).class
  pub extents : (x : ℕ) → (instance_in new x).extent ≡ (instance_in old x).extent
  pub have_slots : HaveSlots m new

abbrev pub with_list : Slots → ℕ → ℕ → List Value → Slots
with_list s o p vs x f = if (x == o) && (f == p) then vs else s x f

-- slot (o, p) has this list, and all else is as it was
pub record IsPut (m : Metamodels) (old new : List Cell) (o p : ℕ) (vs : List Value) : Type 0 where
  pub objects : SameObjects m old new
  pub holders : (y : ℕ) → holder_at new y ≡ holder_at old y
  pub slots : (x f : ℕ) → slot_in m (instances new) x f ≡ with_list (slot_in m (instances old)) o p vs x f
  pub whole : instances new ≡ slice_set (instances old) o (set_slot (features_of m (instance_in old o).class) (instance_in old o) p vs)

-- the cells stand for the same
pub record IsSameCells (old new : List Cell) : Type 0 where
  pub objects : instances new ≡ instances old
  pub holders : (y : ℕ) → holder_at new y ≡ holder_at old y
