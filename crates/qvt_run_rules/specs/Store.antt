-- What a run does with the store (EMOF 12; QVT 1.3, 8.2.2.11 AssignExp and 8.2.2.24 InstantiationExp).
use Rattle.std.specs.Prelude.{ℕ, Bool, true, false, ◌==◌, ◌&&◌, nat_lt, not, List, [], ◌∷◌, filter, map, length, if◌then◌else◌, Option, Some, None, Result, Ok, Err}
use Rattle.std.specs.List.{list_all}
use Rattle.qvt_base.specs.declared.numbers.Oid.{Oid}
use Rattle.qvt_base.specs.declared.numbers.Place.{Place}
use Rattle.qvt_metamodel.specs.Metamodels.{Metamodels, class_at, shape_of, is_single}
use Rattle.qvt_metamodel.specs.declared.info.FeatureShape.{FeatureShape}
use Rattle.qvt_relation.specs.Closure.{any_below}
use Rattle.qvt_value.specs.declared.value.Value.{Value, Null, Obj, Coll', items-the_row-Value}
use Rattle.qvt_value.specs.declared.value.Value.TheViews.{Coll}
use Rattle.qvt_value.specs.declared.value.Kind.{Kind}
use Rattle.qvt_value.specs.declared.value.Kind.TheVariants.{Set, Bag, Sequence, OrderedSet}
use Rattle.qvt_value.specs.Make.{made}
use Rattle.qvt_value.specs.Limits.{limited}
use Rattle.qvt_ocl_words.specs.Lists.{is_null}
use Rattle.qvt_slots.specs.declared.op.SetOp.{SetOp}
use Rattle.qvt_slots.specs.declared.op.SetOp.TheVariants.{Put, Add}
use Rattle.qvt_slots.specs.declared.fault.StoreFault.{StoreFault}
use Rattle.qvt_slots.specs.declared.fault.StoreFault.TheVariants as refused
use Rattle.qvt_slots.specs.Contents.{Contents, extent_at, is_extent, is_slot, slot_of, members_of, with_new}
use Rattle.qvt_slots.specs.Limits.{most_objects}
use Rattle.qvt_slots.specs.Types.{is_of_type}
use Rattle.qvt_slots.specs.Assign.{is_in, write}
use Rattle.qvt_run_data.specs.declared.fault.RunFault.{RunFault}
use Rattle.qvt_run_data.specs.declared.fault.RunFault.TheVariants as fault
use Rattle.qvt_run_data.specs.declared.exit.End.TheVariants.{Fault}
use Rattle.qvt_run_rules.specs.State.{Does, stop, misfit, look}

-- Properties.

-- the kind of the flags of a feature with several values
abbrev pub flags_kind : Bool → Bool → Kind
flags_kind true true = OrderedSet
flags_kind true false = Sequence
flags_kind false true = Set
flags_kind false false = Bag

abbrev pub feature_kind : FeatureShape → Kind
feature_kind f = flags_kind f.ordered f.unique

abbrev pub single : List Value → Value
single [] = Null
single (v ∷ vs) = v

-- the list of a slot as a value: TooLarge where it is beyond the limits
abbrev pub slot_value : Place → Metamodels → ℕ → List Value → Value
slot_value at m f vs = limited at (if is_single m f then single vs else Coll (feature_kind (shape_of m f)) (made (feature_kind (shape_of m f)) vs))

-- what property f of object o is, if the object is there and has it
unfoldable pub property : Place → Contents → ℕ → ℕ → Option Value
property at s o f = if is_slot s o f then Some (slot_value at s.metas f (slot_of s o f)) else None

-- The objects of a model, in order.

abbrev pub objects_of : Contents → ℕ → List Oid
objects_of s e = members_of s e

-- the object stands in no containment slot
abbrev pub is_root : Contents → Oid → Bool
is_root s y = not (any_below (length s.objects) (λ x. is_in s.metas (slot_of s) x y.0))

abbrev pub roots_of : Contents → ℕ → List Oid
roots_of s e = filter (is_root s) (members_of s e)

abbrev pub ordered_set : List Oid → Value
ordered_set os = Coll OrderedSet (map Obj os)

-- New objects.

-- the class is concrete, and of the metamodel of the extent
abbrev pub is_class_for : Contents → ℕ → ℕ → Bool
is_class_for s c e = is_extent s e && (nat_lt c (length s.metas.classes) && (((class_at s.metas c).metamodel == (extent_at s e).metamodel) && not (class_at s.metas c).is_abstract))

-- Changes of slots.

-- null is no item, and any other value one
abbrev pub one_item : Value → List Value
one_item v = if is_null v then [] else v ∷ []

-- the items of a collection but for nulls; a single value is one
abbrev pub many_items : Value → List Value
many_items (Coll' k s r) = filter (λ v. not (is_null v)) (items-the_row-Value _ r)
many_items v = one_item v

-- what a value puts into a slot
abbrev pub slot_items : Bool → Value → List Value
slot_items true v = one_item v
slot_items false v = many_items v

-- the slot is there, and the items are of its type
abbrev pub are_fit : Contents → ℕ → ℕ → List Value → Bool
are_fit s o f vs = is_slot s o f && list_all (is_of_type s f) vs

abbrev pub op_of : Bool → SetOp
op_of true = Add
op_of false = Put

-- the fault that a refusal is; a change answers none of the last two
abbrev pub fault_of : StoreFault → RunFault
fault_of refused.TooMany = fault.TooMany
fault_of refused.ContainmentCycle = fault.ContainmentCycle
fault_of refused.ReadOnly = fault.ReadOnly
fault_of refused.CrossModel = fault.CrossModel
fault_of refused.TooManyObjects = fault.TooManyObjects
fault_of refused.NoMemory = fault.TypeFault

module _ {E : Type 0} where
  unfoldable pub read_property : ℕ → Oid → Place → Does E Value
  read_property f o at = look (λ s. property at s.store o.0 f) at

  -- one more object, by its number
  abbrev pub made_one : Bool → Bool → ℕ → ℕ → Place → Does E Oid
  made_one false room c e at = misfit at
  made_one true false c e at = stop (Fault fault.TooManyObjects at)
  made_one true true c e at = λ s. (Ok (record { 0 = length s.store.objects }), record s { store = with_new s.store c e })

  unfoldable pub new_object : ℕ → ℕ → Place → Does E Oid
  new_object c e at = λ s. made_one (is_class_for s.store c e) (nat_lt (length s.store.objects) most_objects) c e at s

  abbrev pub changed : Result Contents StoreFault → Place → Does E (Unit {0})
  changed (Ok store) at = λ s. (Ok tt, record s { store = store })
  changed (Err refusal) at = stop (Fault (fault_of refusal) at)

  -- slot (o, f) gets the list, or its own list with this one after it
  abbrev pub written : ℕ → ℕ → SetOp → List Value → Place → Does E (Unit {0})
  written o f op vs at = λ s. if are_fit s.store o f vs then changed (write s.store o f op vs) at s else misfit at s

  -- an assignment of a value, with its sign at this place
  unfoldable pub put : ℕ → ℕ → Bool → Value → Place → Does E (Unit {0})
  put o f adds v at = λ s. written o f (op_of adds) (slot_items (is_single s.store.metas f) v) at s
