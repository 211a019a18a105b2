-- A store as plain data (EMOF 12): its metamodels, its extents, and its objects by number with their class, their extent and
-- their slots. Look-ups are total: past the end they answer a default, and a pair that is no slot has the empty list.
use Rattle.std.specs.Prelude.{◌≡◌, ℕ, suc, Bool, true, false, IsTrue, ◌==◌, ◌&&◌, nat_lt, List, [], ◌∷◌, ◌++◌, map, length, slice_index_or, slice_set, if◌then◌else◌}
use Rattle.qvt_base.specs.declared.numbers.FeatureNo.{FeatureNo}
use Rattle.qvt_base.specs.declared.numbers.Oid.{Oid}
use Rattle.qvt_value.specs.declared.value.Value.{Value}
use Rattle.qvt_slots.specs.declared.extent.Extent.{Extent}
use Rattle.qvt_metas.specs.Metamodels.{Metamodels, features_of, has_feature}
use Rattle.qvt_metas.specs.Named.{metamodel_at}
use Rattle.qvt_slots.specs.Slots.{Slots, has}

-- `slots` has the list of each feature of the class, in their order
pub record Instance : Type 0 where
  pub class : ℕ
  pub extent : ℕ
  pub slots : List (List Value)

pub record Contents : Type 0 where
  pub metas : Metamodels
  pub extents : List Extent
  pub objects : List Instance

abbrev pub no_instance : Instance
no_instance = record { class = 0; extent = 0; slots = [] }

abbrev pub no_extent : Extent
no_extent = record { name = []; metamodel = 0; writable = false }

abbrev pub object_at : Contents → ℕ → Instance
object_at s x = slice_index_or s.objects x no_instance

abbrev pub extent_at : Contents → ℕ → Extent
extent_at s e = slice_index_or s.extents e no_extent

abbrev pub class_of : Contents → ℕ → ℕ
class_of s x = (object_at s x).class

abbrev pub extent_of : Contents → ℕ → ℕ
extent_of s x = (object_at s x).extent

abbrev pub is_live : Contents → ℕ → Bool
is_live s x = nat_lt x (length s.objects)

abbrev pub is_extent : Contents → ℕ → Bool
is_extent s e = nat_lt e (length s.extents)

-- an extent is a model's exactly where it has a name
abbrev pub is_named : List ℕ → Bool
is_named [] = false
is_named (b ∷ bs) = true

abbrev pub is_model : Contents → ℕ → Bool
is_model s e = is_named (extent_at s e).name

-- an extent has a name exactly where its metamodel has one
pub record AreNamed (m : Metamodels) (extents : List Extent) : Type 0 where
  pub named : (e : ℕ) → IsTrue (nat_lt e (length extents)) → is_named (slice_index_or extents e no_extent).name ≡ is_named (metamodel_at m (slice_index_or extents e no_extent).metamodel).name

abbrev pub is_writable : Contents → ℕ → Bool
is_writable s x = (extent_at s (extent_of s x)).writable

-- the list of feature f, where the lists stand in the order of the features
abbrev pub list_of : List FeatureNo → List (List Value) → ℕ → List Value
list_of [] lists f = []
list_of (g ∷ gs) [] f = []
list_of (g ∷ gs) (vs ∷ lists) f = if g.0 == f then vs else list_of gs lists f

abbrev pub slot_in : Metamodels → List Instance → Slots
slot_in m objects x f = let object = slice_index_or objects x no_instance in list_of (features_of m object.class) object.slots f

abbrev pub slot_of : Contents → Slots
slot_of s = slot_in s.metas s.objects

-- object x is there and its class has feature f
abbrev pub is_slot : Contents → ℕ → ℕ → Bool
is_slot s x f = is_live s x && has_feature s.metas (class_of s x) f

-- the slots of a model hold objects of its own extent alone
pub record HoldOwn (s : Contents) : Type 0 where
  pub own : (x f y : ℕ) → IsTrue (is_model s (extent_of s x)) → IsTrue (has (slot_of s x f) y) → extent_of s y ≡ extent_of s x

-- the objects of extent e in order, numbered from x on
abbrev pub members_from : ℕ → List Instance → ℕ → List Oid
members_from x [] e = []
members_from x (object ∷ objects) e = if object.extent == e then record { 0 = x } ∷ members_from (suc x) objects e else members_from (suc x) objects e

abbrev pub members_of : Contents → ℕ → List Oid
members_of s e = members_from 0 s.objects e

-- the lists with that of feature f set
abbrev pub set_list : List FeatureNo → List (List Value) → ℕ → List Value → List (List Value)
set_list [] lists f vs = lists
set_list (g ∷ gs) [] f vs = []
set_list (g ∷ gs) (us ∷ lists) f vs = if g.0 == f then vs ∷ lists else us ∷ set_list gs lists f vs

abbrev pub set_slot : List FeatureNo → Instance → ℕ → List Value → Instance
set_slot gs object f vs = record object { slots = set_list gs object.slots f vs }

-- slot (o, p) is vs, and all else as before
abbrev pub with_slot : Contents → ℕ → ℕ → List Value → Contents
with_slot s o p vs = record s { objects = slice_set s.objects o (set_slot (features_of s.metas (class_of s o)) (object_at s o) p vs) }

-- with one more object, whose slots are empty
abbrev pub with_new : Contents → ℕ → ℕ → Contents
with_new s class extent = record s { objects = s.objects ++ record { class = class; extent = extent; slots = map (λ _. []) (features_of s.metas class) } ∷ [] }
