-- What every store keeps that is changed by assignments alone (EMOF 12, and the rules of models): `Sound`, which is that opposite
-- slots agree, and what holds while a model is loaded too.
use Rattle.std.specs.Prelude.{◌≡◌, ℕ, ◌<◌, List, [], ◌∷◌, length, IsTrue, IsFalse, ◌⊎◌, All, Ok}
use Rattle.qvt_value.specs.declared.value.Value.{Value}
use Rattle.qvt_metamodel.specs.Metamodels.{Metamodels, class_at, features_of, opposite, shape_of}
use Rattle.qvt_metamodel.specs.WellFormed.{IsWellFormed}
use Rattle.qvt_slots.specs.declared.extent.Extent.{Extent}
use Rattle.qvt_slots.specs.declared.op.SetOp.{SetOp}
use Rattle.qvt_slots.specs.Slots.{has, OppositesAgree, OneContainer, Inside}
use Rattle.qvt_slots.specs.Change.{is_some_feature}
use Rattle.qvt_slots.specs.Contents.{Contents, AreNamed, object_at, class_of, extent_of, extent_at, is_extent, is_live, is_model, is_slot, slot_of, with_new, with_slot}
use Rattle.qvt_slots.specs.Types.{AreTyped, HasCodeType, IsAssignable}
use Rattle.qvt_slots.specs.Repeats.{AreUnique, repeats}
use Rattle.qvt_store_laws.specs.Place.{IsPlaceable}
use Rattle.qvt_slots.specs.Assign.{exceeds_bound, crosses, assign, append, write}

-- class c is concrete and of the metamodel of extent e, and both are there
pub record IsClassFor (s : Contents) (c e : ℕ) : Type 0 where
  pub extent : IsTrue (is_extent s e)
  pub live : c < length s.metas.classes
  pub metamodel : (class_at s.metas c).metamodel ≡ (extent_at s e).metamodel
  pub concrete : IsFalse (class_at s.metas c).is_abstract

-- what a store keeps while a model is loaded
pub record SoundButOpposites (s : Contents) : Type 0 where
  -- each object is of a concrete class of its extent's metamodel
  pub classes : (x : ℕ) → IsTrue (is_live s x) → IsClassFor s (class_of s x) (extent_of s x)
  -- and has a list for each feature of its class
  pub lists : (x : ℕ) → IsTrue (is_live s x) → length (object_at s x).slots ≡ length (features_of s.metas (class_of s x))
  -- only an object that is there has a slot with items, of a feature of its class
  pub features : (x f : ℕ) → IsTrue (is_slot s x f) ⊎ (slot_of s x f ≡ [])
  pub typed : AreTyped s
  -- Integers fit 64 bits, Strings are UTF-8
  pub plain : (x f : ℕ) → All HasCodeType (slot_of s x f)
  pub bounds : (x f : ℕ) → IsFalse (exceeds_bound (length (slot_of s x f)) (shape_of s.metas f).upper)
  pub unique : AreUnique s
  pub containers : OneContainer s.metas (slot_of s)
  pub outside_itself : (x : ℕ) → Inside s.metas (slot_of s) x x → ⊥
  -- an extent of a model holds references to its own objects alone
  pub own_objects : (x f y : ℕ) → IsTrue (is_model s (extent_of s x)) → IsTrue (has (slot_of s x f) y) → extent_of s y ≡ extent_of s x

-- and where no model is being loaded
pub record Sound (s : Contents) : Type 0 where
  pub parts : SoundButOpposites s
  pub opposites : OppositesAgree s.metas (slot_of s)

-- a list that a sound store may hold in slot (o, p), if its values are plain
pub record IsSoundList (s : Contents) (o p : ℕ) (vs : List Value) : Type 0 where
  pub bound : IsFalse (exceeds_bound (length vs) (shape_of s.metas p).upper)
  pub unique : IsTrue (shape_of s.metas p).unique → IsFalse (repeats vs)
  pub own_objects : IsFalse (crosses s o vs)

-- a store with no objects is sound
abbrev pub NewIsSound : Type 0
NewIsSound = (m : Metamodels) (extents : List Extent) → Sound (record { metas = m; extents = extents; objects = [] })

-- one more object keeps a store sound
abbrev pub AddKeepsSound : Type 0
AddKeepsSound = (s : Contents) (c e : ℕ) → IsClassFor s c e → Sound s → Sound (with_new s c e)

-- an assignment that is not refused keeps a store sound
abbrev pub AssignKeepsSound : Type 0
AssignKeepsSound = (s s' : Contents) (o p : ℕ) (vs : List Value) → IsWellFormed s.metas → AreNamed s.metas s.extents → IsAssignable s o p vs → All HasCodeType vs →
    Sound s → assign s o p vs ≡ Ok s' → Sound s'

-- so does an append
abbrev pub AppendKeepsSound : Type 0
AppendKeepsSound = (s s' : Contents) (o p : ℕ) (v : Value) → IsWellFormed s.metas → AreNamed s.metas s.extents → IsAssignable s o p (v ∷ []) → All HasCodeType (v ∷ []) →
    Sound s → append s o p v ≡ Ok s' → Sound s'

-- and every write
abbrev pub WriteKeepsSound : Type 0
WriteKeepsSound = (s s' : Contents) (o p : ℕ) (op : SetOp) (vs : List Value) → IsWellFormed s.metas → AreNamed s.metas s.extents → IsAssignable s o p vs → All HasCodeType vs →
    Sound s → write s o p op vs ≡ Ok s' → Sound s'

-- while a model is loaded, one more object keeps what a store then keeps
abbrev pub AddKeepsLoading : Type 0
AddKeepsLoading = (s : Contents) (c e : ℕ) → IsClassFor s c e → SoundButOpposites s → SoundButOpposites (with_new s c e)

-- and so does a slot that is placed
abbrev pub PlaceKeepsLoading : Type 0
PlaceKeepsLoading = (s : Contents) (o p : ℕ) (vs : List Value) → IsPlaceable s o p vs → All HasCodeType vs → IsSoundList s o p vs → SoundButOpposites s → SoundButOpposites (with_slot s o p vs)

-- a slot that is placed keeps a store sound, where its feature has no opposite
abbrev pub PlaceKeepsSound : Type 0
PlaceKeepsSound = (s : Contents) (o p : ℕ) (vs : List Value) → IsWellFormed s.metas → IsPlaceable s o p vs → All HasCodeType vs → IsSoundList s o p vs → IsFalse (is_some_feature (opposite s.metas p)) →
    Sound s → Sound (with_slot s o p vs)
