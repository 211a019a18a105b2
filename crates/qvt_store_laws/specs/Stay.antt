-- What every store keeps, and what a store that grew or was changed says of the objects that were there before: the same.
use Rattle.std.specs.Prelude.{◌≡◌, ℕ, ◌≤◌, ◌++◌, List, length, IsTrue, IsFalse, Ok}
use Rattle.qvt_base.specs.declared.numbers.Oid.{Oid}
use Rattle.qvt_value.specs.declared.value.Value.{Value}
use Rattle.qvt_metamodel.specs.WellFormed.{IsWellFormed}
use Rattle.qvt_slots.specs.declared.op.SetOp.{SetOp}
use Rattle.qvt_slots.specs.Slots.{Inside}
use Rattle.qvt_slots.specs.Contents.{Contents, AreNamed, object_at, class_of, extent_of, is_live, is_writable, members_of, slot_of, with_new}
use Rattle.qvt_slots.specs.Limits.{most_objects}
use Rattle.qvt_slots.specs.Types.{AreTyped, IsAssignable}
use Rattle.qvt_slots.specs.Assign.{assign, append, write}
use Rattle.qvt_store_laws.specs.Sound.{Sound}

-- what every store keeps, sound or not
pub record IsStore (s : Contents) : Type 0 where
  pub well_formed : IsWellFormed s.metas
  -- an extent has a name exactly where its metamodel has one
  pub named : AreNamed s.metas s.extents
  pub few : length s.objects ≤ most_objects
  pub typed : AreTyped s
  pub outside_itself : (x : ℕ) → Inside s.metas (slot_of s) x x → ⊥

-- the old list begins the new one
pub record IsBeginningOf (old new : List Oid) : Type 0 where
  pub rest : List Oid
  pub more : new ≡ old ++ rest

pub record StaysIn (s s' : Contents) : Type 0 where
  pub metas : s'.metas ≡ s.metas
  pub extents : s'.extents ≡ s.extents
  -- an object that is there stays there, of its class and in its extent
  pub live : (x : ℕ) → IsTrue (is_live s x) → IsTrue (is_live s' x)
  pub class : (x : ℕ) → IsTrue (is_live s x) → class_of s' x ≡ class_of s x
  pub extent : (x : ℕ) → IsTrue (is_live s x) → extent_of s' x ≡ extent_of s x
  -- new objects of an extent come after those that are there
  pub members : (e : ℕ) → IsBeginningOf (members_of s e) (members_of s' e)
  pub assignable : (o p : ℕ) (vs : List Value) → IsAssignable s o p vs → IsAssignable s' o p vs

abbrev pub StaysIsReflexive : Type 0
StaysIsReflexive = (s : Contents) → StaysIn s s

abbrev pub StaysIsTransitive : Type 0
StaysIsTransitive = (s s' s'' : Contents) → StaysIn s s' → StaysIn s' s'' → StaysIn s s''

abbrev pub AddStays : Type 0
AddStays = (s : Contents) (c e : ℕ) → StaysIn s (with_new s c e)

abbrev pub AssignStays : Type 0
AssignStays = (s s' : Contents) (o p : ℕ) (vs : List Value) → assign s o p vs ≡ Ok s' → StaysIn s s'

abbrev pub AppendStays : Type 0
AppendStays = (s s' : Contents) (o p : ℕ) (v : Value) → append s o p v ≡ Ok s' → StaysIn s s'

abbrev pub WriteStays : Type 0
WriteStays = (s s' : Contents) (o p : ℕ) (op : SetOp) (vs : List Value) → write s o p op vs ≡ Ok s' → StaysIn s s'

-- an object of an extent that is not writable is as before after every write to a sound store
abbrev pub ReadOnlyStays : Type 0
ReadOnlyStays = (s s' : Contents) (o p : ℕ) (op : SetOp) (vs : List Value) → IsStore s → Sound s → IsAssignable s o p vs → write s o p op vs ≡ Ok s' →
    (x : ℕ) → IsFalse (is_writable s x) → object_at s' x ≡ object_at s x

-- The objects of the extents that are not writable, those of the models that are only read (QVT 8.2.1.1), are there and as before.
pub record InputsStay (s s' : Contents) : Type 0 where
  pub extents : s'.extents ≡ s.extents
  pub live : (x : ℕ) → IsTrue (is_live s x) → IsTrue (is_live s' x)
  pub objects : (x : ℕ) → IsTrue (is_live s x) → IsFalse (is_writable s x) → object_at s' x ≡ object_at s x

abbrev pub InputsStayIsReflexive : Type 0
InputsStayIsReflexive = (s : Contents) → InputsStay s s

abbrev pub InputsStayIsTransitive : Type 0
InputsStayIsTransitive = (s s' s'' : Contents) → InputsStay s s' → InputsStay s' s'' → InputsStay s s''

-- one more object leaves them
abbrev pub AddLeavesInputs : Type 0
AddLeavesInputs = (s : Contents) (c e : ℕ) → InputsStay s (with_new s c e)

-- so does a write to a sound store
abbrev pub WriteLeavesInputs : Type 0
WriteLeavesInputs = (s s' : Contents) (o p : ℕ) (op : SetOp) (vs : List Value) → IsStore s → Sound s → IsAssignable s o p vs → write s o p op vs ≡ Ok s' → InputsStay s s'
