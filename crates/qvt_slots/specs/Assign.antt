-- A store after an assignment to a slot, or the first refusal. It is given for all slots at once, by what the change does to each.
use Rattle.std.specs.Prelude.{ℕ, suc, Bool, false, ◌==◌, ◌||◌, ◌&&◌, nat_lt, not, List, [], ◌∷◌, ◌++◌, map, length, if◌then◌else◌, Option, Some, None, Result, Ok, Err}
use Rattle.std.specs.List.{list_any}
use Rattle.qvt_base.specs.declared.numbers.FeatureNo.{FeatureNo}
use Rattle.qvt_base.specs.declared.numbers.Oid.{Oid}
use Rattle.qvt_value.specs.declared.value.Value.{Value}
use Rattle.qvt_metas.specs.Metamodels.{Metamodels, features_of, shape_of, opposite, is_containment}
use Rattle.qvt_relation.specs.Closure.{any_below, reaches_by}
use Rattle.qvt_slots.specs.declared.fault.StoreFault.{StoreFault}
use Rattle.qvt_slots.specs.declared.fault.StoreFault.TheVariants.{TooMany, ContainmentCycle, ReadOnly, CrossModel}
use Rattle.qvt_slots.specs.declared.op.SetOp.{SetOp}
use Rattle.qvt_slots.specs.declared.op.SetOp.TheVariants.{Put, Add}
use Rattle.qvt_slots.specs.Slots.{Slots, has, is_object_with}
use Rattle.qvt_slots.specs.Change.{Change, objects_beyond, slot_after}
use Rattle.qvt_slots.specs.Contents.{Contents, Instance, slot_of, extent_of, is_model, is_writable}
use Rattle.qvt_slots.specs.Repeats.{new_list}

-- the change of slot (o, p) to a list in which repeats are left out already
abbrev pub change_to : Contents → ℕ → ℕ → List Value → Change
change_to s o p ws = record {
  metas = s.metas;
  slots = slot_of s;
  object = o;
  feature = p;
  items = ws;
  added = objects_beyond (slot_of s o p) ws;
  removed = objects_beyond ws (slot_of s o p);
}

abbrev pub change_of : Contents → ℕ → ℕ → List Value → Change
change_of s o p vs = change_to s o p (new_list s.metas p vs)

-- n items are more than the upper bound, if there is one
abbrev pub exceeds_bound : ℕ → Option ℕ → Bool
exceeds_bound n None = false
exceeds_bound n (Some upper) = nat_lt upper n

-- TooMany: the new list, or an opposite slot that gets the changed object
abbrev pub is_overfull : Change → ℕ → ℕ → Bool
is_overfull c x f = exceeds_bound (length (slot_after c x f)) (shape_of c.metas f).upper

abbrev pub overfills_end : Change → Option FeatureNo → Oid → Bool
overfills_end c None a = false
overfills_end c (Some q) a = is_overfull c a.0 q.0

abbrev pub is_too_many : Change → Bool
is_too_many c = exceeds_bound (length c.items) (shape_of c.metas c.feature).upper || list_any (overfills_end c (opposite c.metas c.feature)) c.added

-- ContainmentCycle: some object would be inside itself
abbrev pub is_in : Metamodels → Slots → ℕ → ℕ → Bool
is_in m s x y = any_below (length m.features) (λ f. is_containment m f && has (s x f) y)

abbrev pub is_cyclic : Metamodels → Slots → ℕ → Bool
is_cyclic m s n = any_below n (λ x. reaches_by (is_in m s) n x x)

-- ReadOnly: the object is in an extent of direction in
abbrev pub is_read_only : Contents → ℕ → Bool
is_read_only s o = not (is_writable s o)

-- CrossModel: the object is in a model, and the new list holds an object of another extent
abbrev pub is_elsewhere : Contents → ℕ → Value → Bool
is_elsewhere s o v = is_object_with (λ a. not (extent_of s a == extent_of s o)) v

abbrev pub crosses : Contents → ℕ → List Value → Bool
crosses s o vs = is_model s (extent_of s o) && list_any (is_elsewhere s o) vs

-- the first refusal of the change
abbrev pub refusal_of : Contents → Change → Option StoreFault
refusal_of s c =
    if is_too_many c then Some TooMany
    else if is_cyclic c.metas (slot_after c) (length s.objects) then Some ContainmentCycle
    else if is_read_only s c.object then Some ReadOnly
    else if crosses s c.object c.items then Some CrossModel
    else None

-- an object with its slots after the change
abbrev pub instance_after : Change → ℕ → Instance → Instance
instance_after c x object = record object { slots = map (λ g. slot_after c x g.0) (features_of c.metas object.class) }

-- the objects, numbered from x on
abbrev pub instances_after : Change → ℕ → List Instance → List Instance
instances_after c x [] = []
instances_after c x (object ∷ objects) = instance_after c x object ∷ instances_after c (suc x) objects

abbrev pub store_after : Contents → Change → Contents
store_after s c = record s { objects = instances_after c 0 s.objects }

abbrev pub ok_unless : Option StoreFault → Contents → Result Contents StoreFault
ok_unless None s = Ok s
ok_unless (Some fault) s = Err fault

-- Assign: slot (o, p) gets the list vs
abbrev pub assign : Contents → ℕ → ℕ → List Value → Result Contents StoreFault
assign s o p vs = let c : Change = change_of s o p vs in ok_unless (refusal_of s c) (store_after s c)

-- Append: slot (o, p) gets its list and v last
abbrev pub append : Contents → ℕ → ℕ → Value → Result Contents StoreFault
append s o p v = assign s o p (slot_of s o p ++ v ∷ [])

-- Write: Put is Assign, Add puts the list after the old one; either is one change with one refusal
abbrev pub write : Contents → ℕ → ℕ → SetOp → List Value → Result Contents StoreFault
write s o p Put vs = assign s o p vs
write s o p Add vs = assign s o p (slot_of s o p ++ vs)
