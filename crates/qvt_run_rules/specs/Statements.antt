-- One rule for each kind of statement, over what its parts do (QVT 1.3, 8.2.2). A value that a statement takes is not invalid; its fault
-- comes before anything behind it.
use Rattle.std.specs.Prelude.{ℕ, zero, suc, Bool, true, false, if◌then◌else◌, List, [], ◌∷◌, ◌++◌, Option, Some, None}
use Rattle.std.specs.List.{list_all}
use Rattle.qvt_base.specs.declared.numbers.Oid.{Oid}
use Rattle.qvt_base.specs.declared.numbers.Place.{Place}
use Rattle.qvt_metamodel.specs.Metamodels.{Metamodels}
use Rattle.qvt_types_data.specs.Term.{kind_of}
use Rattle.qvt_value.specs.declared.value.Value.{Value, Null, Bool as Truth, Obj, Invalid}
use Rattle.qvt_value.specs.declared.value.Reason.TheVariants.{NullValue}
use Rattle.qvt_value.specs.Limits.{built}
use Rattle.qvt_slots.specs.Contents.{Contents, is_slot}
use Rattle.qvt_types_data.specs.declared.ty.Ty.{Ty}
use Rattle.qvt_types_steps.specs.Types.{Collection, collection_of}
use Rattle.qvt_types_steps.specs.Rulings.{items_conform}
use Rattle.qvt_run_data.specs.declared.fault.RunFault.TheVariants as fault
use Rattle.qvt_run_data.specs.declared.local.Local.{Local}
use Rattle.qvt_run_data.specs.declared.exit.End.TheVariants.{Fault, OutOfFuel}
use Rattle.qvt_run_data.specs.declared.exit.Exit.TheVariants.{Returned}
use Rattle.qvt_run_rules.specs.State.{Does, ◌>>=◌, ◌>>◌, pure, exits, stop, misfit, look}
use Rattle.qvt_run_rules.specs.Typed.{has_type, has_asked, valid, object_of, taken}
use Rattle.qvt_run_rules.specs.Locals.{local, read, read_local, push, set, scoped, with_locals, inside}
use Rattle.qvt_run_rules.specs.Sources.{items_of}
use Rattle.qvt_run_rules.specs.Store.{put, new_object}

-- Variables of a collection type.

-- the items that `+=` adds to a variable of a collection type: those of a collection whose items are of its item type, else the one
-- value; null is none
abbrev pub added_items : Metamodels → Option Collection → Ty → Value → List Value
added_items m c t Null = []
added_items m c t v = if items_conform m c t then items_of v else v ∷ []

abbrev pub is_item : Contents → Ty → Value → Bool
is_item s t v = has_type s t v

-- what the variable then holds, if the items are of its item type
abbrev pub added_to : Contents → Place → Collection → Value → List Value → Option Value
added_to s at c old vs = if list_all (is_item s c.item) vs then Some (built at (kind_of c.kind) (items_of old ++ vs)) else None

abbrev pub added_as : Contents → Place → Option Collection → Option Collection → Value → Value → Option Value
added_as s at None c old v = None
added_as s at (Some k) c old v = added_to s at k old (added_items s.metas c k.item v)

abbrev pub collection_type : Option Ty → Option Collection
collection_type None = None
collection_type (Some t) = collection_of t

module _ {E : Type 0} where
  -- Conditions.

  -- whether a condition at this place is true
  abbrev pub truth : Place → Value → Does E Bool
  truth at (Truth b) = pure b
  truth at Null = stop (Fault (fault.InvalidValue NullValue) at)
  truth at (Invalid r p) = stop (Fault (fault.InvalidValue r) p)
  truth at v = misfit at

  abbrev pub holds : Does E Value → Place → Does E Bool
  holds test at = test >>= truth at

  -- the object that an assignment changes, with its sign at this place, has the property
  abbrev pub with_slot : ℕ → Place → Oid → Does E Oid
  with_slot f at o = look (λ s. if is_slot s.store o.0 f then Some o else None) at

  unfoldable pub member_target : Does E Value → ℕ → Place → Does E Oid
  member_target object f at = object >>= object_of at >>= with_slot f at

  -- the object of the innermost object expression
  unfoldable pub inner_target : ℕ → Place → Does E Oid
  inner_target f at = look (λ s. s.inner) at >>= with_slot f at

  -- the object of a variable, which a bare name means where it is no property of that
  unfoldable pub source_target : List ℕ → ℕ → Place → Does E Oid
  source_target name f at = read name at >>= object_of at >>= with_slot f at

  -- Assignments.

  -- a property: the target's object, the right side, and the change
  unfoldable pub assign_property : Does E Oid → ℕ → Bool → Does E Value → Place → Does E (Unit {0})
  assign_property object f adds p at = object >>= (λ o. p >>= valid >>= (λ v. put o.0 f adds v at))

  -- `:=` to a variable
  unfoldable pub assign_variable : List ℕ → Does E Value → Place → Does E (Unit {0})
  assign_variable name p at = p >>= valid >>= (λ v. set name v at)

  -- `+=` to a variable, of a value with this type
  abbrev pub added : Local → Option Ty → Value → Place → Does E Value
  added old t v at = look (λ s. added_as s.store at (collection_type old.asked) (collection_type t) old.value v) at

  unfoldable pub add_variable : List ℕ → Option Ty → Does E Value → Place → Does E (Unit {0})
  add_variable name t p at = p >>= valid >>= (λ v. read_local name at >>= (λ old. added old t v at >>= valid >>= (λ w. set name w at)))

  -- Other statements.

  -- a variable, null where it has no first value
  unfoldable pub declare : List ℕ → Option Ty → Does E Value → Place → Does E (Unit {0})
  declare name t p at = p >>= taken t at >>= (λ v. push (local name t v))

  unfoldable pub discard : Does E Value → Does E (Unit {0})
  discard p = p >> pure tt

  -- a `return` with a value of the unit's answer type, and one without
  unfoldable pub give_back : Option Ty → Does E Value → Place → Does E (Unit {0})
  give_back t p at = p >>= taken t at >>= (λ v. exits (Returned (Some v)))

  unfoldable pub go_back : Does E (Unit {0})
  go_back = exits (Returned None)

  -- one after another
  abbrev pub in_order : List (Does E (Unit {0})) → Does E (Unit {0})
  in_order [] = pure tt
  in_order (p ∷ ps) = p >> in_order ps

  unfoldable pub block : List (Does E (Unit {0})) → Does E (Unit {0})
  block ps = scoped (in_order ps)

  unfoldable pub branch : Does E Value → Place → Does E (Unit {0}) → Does E (Unit {0}) → Does E (Unit {0})
  branch test at body other = holds test at >>= (λ b. if b then body else other)

  -- a turn of a loop: whether it was made
  unfoldable pub turn : Does E Value → Place → Does E (Unit {0}) → Does E Bool
  turn test at body = holds test at >>= (λ b. if b then body >> pure true else pure false)

  -- at most n turns
  unfoldable pub loop : ℕ → Does E Value → Place → Does E (Unit {0}) → Does E (Unit {0})
  loop zero test at body = stop OutOfFuel
  loop (suc n) test at body = turn test at body >>= (λ made. if made then loop n test at body else pure tt)

  -- the items of a collection, taken once: for each the body, with the variable in scope
  unfoldable pub for_item : List ℕ → Option Ty → Does E (Unit {0}) → Value → Does E (Unit {0})
  for_item name t body v = with_locals (local name t v ∷ []) body

  abbrev pub each_item : (Value → Does E (Unit {0})) → List Value → Does E (Unit {0})
  each_item f [] = pure tt
  each_item f (v ∷ vs) = f v >> each_item f vs

  -- the items, which are of the type of the variable
  abbrev pub asked_items : Option Ty → Place → List Value → Does E (List Value)
  asked_items t at vs = look (λ s. if list_all (has_asked s.store t) vs then Some vs else None) at

  unfoldable pub for_each : Does E Value → Place → List ℕ → Option Ty → Does E (Unit {0}) → Does E (Unit {0})
  for_each source at name t body = source >>= valid >>= (λ v. asked_items t at (items_of v)) >>= each_item (for_item name t body)

  -- Object expressions.

  -- the body on an object, whose properties its bare names mean
  unfoldable pub on_object : Does E (Unit {0}) → Oid → Does E Value
  on_object body o = inside o body >> pure (Obj o)

  unfoldable pub set_object : List ℕ → Place → Oid → Does E Oid
  set_object name at o = set name (Obj o) at >> pure o

  -- a new object where the variable is null, else the variable's object
  abbrev pub object_or_new : List ℕ → ℕ → ℕ → Place → Value → Does E Oid
  object_or_new name c e at Null = new_object c e at >>= set_object name at
  object_or_new name c e at (Obj o) = pure o
  object_or_new name c e at v = misfit at

module _ {E : Type 0} (spend : ℕ → Does E (Unit {0})) where
  -- a statement costs one
  unfoldable pub statement : Does E (Unit {0}) → Does E (Unit {0})
  statement p = spend 1 >> p

  unfoldable pub object : ℕ → ℕ → Does E (Unit {0}) → Place → Does E Value
  object c e body at = spend 1 >> (new_object c e at >>= on_object body)

  -- on a variable
  unfoldable pub object_in : List ℕ → Ty → ℕ → ℕ → Does E (Unit {0}) → Place → Does E Value
  object_in name t c e body at = spend 1 >> (read_local name at >>= (λ v. taken (Some t) at v.value) >>= object_or_new name c e at >>= on_object body)
