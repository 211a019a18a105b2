-- What a change of one slot does to every slot of a store. Slot (object, feature) becomes the list `items`. Removed are the
-- old items that are not in the new list, added the items of the new list that are not old.
use Rattle.std.specs.Prelude.{ℕ, Bool, true, false, ◌==◌, ◌||◌, ◌&&◌, not, List, [], ◌∷◌, ◌++◌, map, filter, if◌then◌else◌, Option, Some, None}
use Rattle.std.specs.List.{list_any}
use Rattle.qvt_base.specs.declared.numbers.FeatureNo.{FeatureNo}
use Rattle.qvt_base.specs.declared.numbers.Oid.{Oid}
use Rattle.qvt_value.specs.declared.value.Value.{Value}
use Rattle.qvt_value.specs.declared.value.Value.TheVariants.{Obj}
use Rattle.qvt_metas.specs.Metamodels.{Metamodels, opposite, is_opposite, is_containment, is_single}
use Rattle.qvt_slots.specs.Slots.{Slots, is_object_with, has}

abbrev pub object_value : ℕ → Value
object_value o = Obj (record { 0 = o })

abbrev pub oid_of : Value → Oid
oid_of (Obj o) = o
oid_of _ = record { 0 = 0 }

abbrev pub is_new_object : List Value → Value → Bool
is_new_object others v = is_object_with (λ y. not (has others y)) v

-- the objects of a list that the other list does not hold
abbrev pub objects_beyond : List Value → List Value → List Oid
objects_beyond others vs = map oid_of (filter (is_new_object others) vs)

abbrev pub among_objects : List Oid → ℕ → Bool
among_objects os y = list_any (λ o. o.0 == y) os

abbrev pub is_some_object : List Oid → Bool
is_some_object [] = false
is_some_object (o ∷ os) = true

pub record Change : Type 0 where
  pub metas : Metamodels
  pub slots : Slots
  pub object : ℕ
  pub feature : ℕ
  pub items : List Value
  pub added : List Oid
  pub removed : List Oid

abbrev pub is_here : Change → ℕ → ℕ → Bool
is_here c x f = (x == c.object) && (f == c.feature)

abbrev pub is_added : Change → ℕ → Bool
is_added c y = among_objects c.added y

abbrev pub is_removed : Change → ℕ → Bool
is_removed c y = among_objects c.removed y

abbrev pub names_containment : Metamodels → Option FeatureNo → Bool
names_containment m None = false
names_containment m (Some q) = is_containment m q.0

-- the feature has an opposite, which is a containment
abbrev pub is_container : Metamodels → ℕ → Bool
is_container m f = names_containment m (opposite m f)

abbrev pub is_some_feature : Option FeatureNo → Bool
is_some_feature None = false
is_some_feature (Some q) = true

-- a change of a slot of the feature may touch other slots
abbrev pub is_linked : Metamodels → ℕ → Bool
is_linked m f = is_containment m f || is_some_feature (opposite m f)

-- slot (x, f) is the opposite slot of an added object
abbrev pub gains : Change → ℕ → ℕ → Bool
gains c x f = is_opposite c.metas c.feature f && is_added c x

-- Object y is taken out of slot (x, f)
-- * as it was removed from the changed slot,
-- * or as another object takes its place in the single-valued opposite slot of an added object,
-- * or as it was added to a containment, and so gets another container,
-- * or as it is the changed object, and was added to a containment by its own end.
abbrev pub is_taken : Change → ℕ → ℕ → ℕ → Bool
is_taken c x f y = is_here c x f && is_removed c y

abbrev pub is_replaced : Change → ℕ → ℕ → ℕ → Bool
is_replaced c x f y = gains c x f && is_single c.metas f && not (y == c.object)

abbrev pub is_moved_in : Change → ℕ → ℕ → ℕ → Bool
is_moved_in c x f y = is_containment c.metas c.feature && is_containment c.metas f && is_added c y && not (is_here c x f)

abbrev pub is_moved : Change → ℕ → ℕ → ℕ → Bool
is_moved c x f y = is_container c.metas c.feature && is_some_object c.added && is_containment c.metas f && (y == c.object) && not (gains c x f)

abbrev pub leaves : Change → ℕ → ℕ → ℕ → Bool
leaves c x f y = is_taken c x f y || is_replaced c x f y || is_moved_in c x f y || is_moved c x f y

-- the owner x is taken out of the slot of object y that is opposite to f
abbrev pub is_left : Change → Option FeatureNo → ℕ → ℕ → Bool
is_left c None x y = false
is_left c (Some g) x y = has (c.slots y g.0) x && leaves c y g.0 x

-- slot (x, f) loses y, by its own end or by the other
abbrev pub loses : Change → ℕ → ℕ → ℕ → Bool
loses c x f y = leaves c x f y || is_left c (opposite c.metas f) x y

abbrev pub keeps : Change → ℕ → ℕ → Value → Bool
keeps c x f v = not (is_object_with (loses c x f) v)

-- with object o last, unless it is there
abbrev pub with_object : ℕ → List Value → List Value
with_object o vs = if has vs o then vs else vs ++ object_value o ∷ []

-- the list of an opposite slot of an added object: the changed object alone, or last
abbrev pub with_end : Change → ℕ → List Value → List Value
with_end c f vs = if is_single c.metas f then object_value c.object ∷ [] else with_object c.object vs

-- the list that a slot other than the changed one then holds
abbrev pub slot_elsewhere : Change → Slots
slot_elsewhere c x f = let kept = filter (keeps c x f) (c.slots x f) in if gains c x f then with_end c f kept else kept

-- the list that slot (x, f) then holds
abbrev pub slot_after : Change → Slots
slot_after c x f = if is_here c x f then c.items else slot_elsewhere c x f
