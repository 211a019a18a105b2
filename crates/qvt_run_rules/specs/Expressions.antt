-- One rule for each kind of expression that makes and changes nothing, over what its parts do (OCL 2.4, 7 and 11.3). A unit is charged
-- when evaluation reaches its token, from left to right.
use Rattle.std.specs.Prelude.{ℕ, suc, zero, ◌+◌, Bool, true, false, ◌==◌, if◌then◌else◌, ℤ, pos, ◌+ℤ◌, ◌-ℤ◌, int_le, unsigned_abs, List, [], ◌∷◌, ◌++◌, filter, Option, Some, None}
use Rattle.std.specs.List.{find, list_all}
use Rattle.qvt_base.specs.declared.numbers.Oid.{Oid}
use Rattle.qvt_base.specs.declared.numbers.Place.{Place}
use Rattle.qvt_metamodel.specs.Descends.{descends}
use Rattle.qvt_tree_types.specs.declared.words.BinaryOp.{BinaryOp}
use Rattle.qvt_tree_types.specs.declared.words.PrefixOp.{PrefixOp}
use Rattle.qvt_tree_types.specs.declared.words.PrefixOp.TheVariants as sign
use Rattle.qvt_value.specs.declared.value.Value.{Value, Null, Bool as Truth, Int, Obj, Invalid}
use Rattle.qvt_value.specs.declared.value.Kind.{Kind}
use Rattle.qvt_value.specs.declared.value.Reason.TheVariants.{NullSource, NullValue, CastFailed}
use Rattle.qvt_value.specs.Make.{is_invalid}
use Rattle.qvt_value.specs.Limits.{built, limited}
use Rattle.qvt_ocl_words.specs.declared.op.Op.{Op}
use Rattle.qvt_ocl_words.specs.declared.op.Op.TheVariants as operator
use Rattle.qvt_ocl_words.specs.Operation.{operation}
use Rattle.qvt_slots.specs.Contents.{Contents, class_of, is_live, members_of}
use Rattle.qvt_run_data.specs.declared.questions.ObjectTest.{ObjectTest}
use Rattle.qvt_run_data.specs.declared.questions.ObjectTest.TheVariants.{IsKindOf, IsTypeOf, AsType}
use Rattle.qvt_run_data.specs.declared.questions.ModelQuery.{ModelQuery}
use Rattle.qvt_run_data.specs.declared.questions.ModelQuery.TheVariants.{Objects, RootObjects, ObjectsOfType}
use Rattle.qvt_run_rules.specs.State.{Does, ◌>>=◌, ◌>>◌, pure, misfit, found, look, ask}
use Rattle.qvt_run_rules.specs.Locals.{read}
use Rattle.qvt_run_rules.specs.Logic.{value_or, logic, by_left, not_of}
use Rattle.qvt_run_rules.specs.Sources.{over_items, dotted}
use Rattle.qvt_run_rules.specs.Store.{read_property, objects_of, roots_of, ordered_set}

-- Collection literals.

-- n Integers from a on
abbrev pub integers_from : ℤ → ℕ → List Value
integers_from a zero = []
integers_from a (suc n) = Int a ∷ integers_from (a +ℤ pos 1) n

-- the Integers from a to b, none if a is above b
unfoldable pub integers_to : ℤ → ℤ → List Value
integers_to a b = if int_le a b then integers_from a (unsigned_abs (b -ℤ a) + 1) else []

-- the items of `a..b`: an invalid end comes first, then a null one
abbrev pub range_of : Place → Value → Value → Option (List Value)
range_of at (Invalid r p) w = Some (Invalid r p ∷ [])
range_of at v (Invalid r p) = Some (Invalid r p ∷ [])
range_of at Null w = Some (Invalid NullSource at ∷ [])
range_of at v Null = Some (Invalid NullSource at ∷ [])
range_of at (Int a) (Int b) = Some (integers_to a b)
range_of at v w = None

-- the collection of these items, or the first that is invalid
unfoldable pub collection : Place → Kind → List Value → Value
collection at k vs = value_or (find is_invalid vs) (built at k vs)

-- The tests of an object, and its cast (OCL 2.4, 11.3.3).

abbrev pub object_test : Contents → ObjectTest → ℕ → Place → Oid → Value
object_test s IsKindOf c at o = Truth (descends s.metas (class_of s o.0) c)
object_test s IsTypeOf c at o = Truth (class_of s o.0 == c)
object_test s AsType c at o = if descends s.metas (class_of s o.0) c then Obj o else Invalid CastFailed at

abbrev pub if_live : Contents → Oid → Value → Option Value
if_live s o v = if is_live s o.0 then Some v else None

-- what the test says of a value, with a class
abbrev pub tested : Contents → ObjectTest → ℕ → Place → Value → Option Value
tested s t c at (Invalid r p) = Some (Invalid r p)
tested s t c at Null = Some (Invalid NullSource at)
tested s t c at (Obj o) = if_live s o (object_test s t c at o)
tested s t c at v = None

-- an object, or null
abbrev pub is_object : Contents → Value → Bool
is_object s Null = true
is_object s (Obj o) = is_live s o.0
is_object s v = false

-- selectByKind and selectByType (OCL 2.4, 11.7.1)
abbrev pub is_selected : Contents → Bool → ℕ → Value → Bool
is_selected s exact c (Obj o) = if exact then class_of s o.0 == c else descends s.metas (class_of s o.0) c
is_selected s exact c v = false

abbrev pub selected : Contents → Bool → ℕ → Place → Kind → List Value → Option Value
selected s exact c at k vs = if list_all (is_object s) vs then Some (built at k (filter (is_selected s exact c) vs)) else None

-- The operations of a model (QVT 1.3, 8.3.4.1 to 8.3.4.3).

abbrev pub model_objects : Contents → ModelQuery → ℕ → List Oid
model_objects s Objects e = objects_of s e
model_objects s RootObjects e = roots_of s e
model_objects s (ObjectsOfType c) e = filter (λ o. descends s.metas (class_of s o.0) c) (members_of s e)

module _ {E : Type 0} where
  -- the values of phrases, one after another
  abbrev pub values_onto : List Value → List (Does E Value) → Does E (List Value)
  values_onto done [] = pure done
  values_onto done (p ∷ ps) = p >>= (λ v. values_onto (done ++ v ∷ []) ps)

  abbrev pub values : List (Does E Value) → Does E (List Value)
  values ps = values_onto [] ps

  -- the same of lists of values
  abbrev pub lists_onto : List Value → List (Does E (List Value)) → Does E (List Value)
  lists_onto done [] = pure done
  lists_onto done (p ∷ ps) = p >>= (λ vs. lists_onto (done ++ vs) ps)

  -- a value that goes through operators, or steps, each of what is before it
  abbrev pub along : Value → List (Value → Does E Value) → Does E Value
  along v [] = pure v
  along v (f ∷ fs) = f v >>= (λ w. along w fs)

  unfoldable pub on_first : Does E Value → List (Value → Does E Value) → Does E Value
  on_first p fs = p >>= (λ v. along v fs)

  -- a property of a value, at its step or name
  abbrev pub property_of : ℕ → Place → Value → Does E Value
  property_of f at (Invalid r p) = pure (Invalid r p)
  property_of f at Null = pure (Invalid NullSource at)
  property_of f at (Obj o) = read_property f o at
  property_of f at v = misfit at

  -- one phrase where a condition is true and another where it is false; null is NullValue at this place
  abbrev pub chosen : Place → Does E Value → Does E Value → Value → Does E Value
  chosen at p q (Truth b) = if b then p else q
  chosen at p q Null = pure (Invalid NullValue at)
  chosen at p q (Invalid r i) = pure (Invalid r i)
  chosen at p q v = misfit at

  abbrev pub unless_known : Option Value → Does E Value → Does E Value
  unless_known (Some v) p = pure v
  unless_known None p = p

module _ {E : Type 0} (spend : ℕ → Does E (Unit {0})) where
  -- one unit
  abbrev pub tick : Does E (Unit {0})
  tick = spend 1

  -- Literals and names.

  unfoldable pub literal : Value → Does E Value
  literal v = tick >> pure v

  unfoldable pub variable : List ℕ → Place → Does E Value
  variable name at = tick >> read name at

  -- a property of an implicit source
  unfoldable pub implicit : List ℕ → ℕ → Place → Does E Value
  implicit source f at = tick >> (read source at >>= property_of f at)

  -- an item alone, and a range
  unfoldable pub item : Does E Value → Does E (List Value)
  item p = p >>= (λ v. pure (v ∷ []))

  unfoldable pub range : Does E Value → Does E Value → Place → Does E (List Value)
  range p q at = p >>= (λ v. q >>= (λ w. found (range_of at v w) at))

  -- all items are evaluated
  unfoldable pub collected : Kind → List (Does E (List Value)) → Place → Does E Value
  collected k ps at = tick >> (lists_onto [] ps >>= (λ vs. pure (collection at k vs)))

  -- Conditionals and operators.

  unfoldable pub conditional : Does E Value → Place → Does E Value → Does E Value → Does E Value
  conditional test test_at p q = tick >> (test >>= chosen test_at p q)

  -- between two operands, of which the left one stands before it: both are evaluated
  unfoldable pub operated : Op → Does E Value → Place → Value → Does E Value
  operated o p at v = tick >> (p >>= (λ w. found (operation o at v (w ∷ [])) at))

  -- a word of logic, which may stop before its right side
  unfoldable pub logical : BinaryOp → Does E Value → Place → Value → Does E Value
  logical o p at v = tick >> unless_known (by_left o v) (p >>= (λ w. found (logic o v w) at))

  -- before an operand
  abbrev pub signed : PrefixOp → Place → Value → Option Value
  signed sign.Not at v = not_of v
  signed sign.Minus at v = operation operator.Negate at v []

  unfoldable pub prefixed : PrefixOp → Place → Does E Value → Does E Value
  prefixed o at p = tick >> (p >>= (λ v. found (signed o at v) at))

  -- Steps, each of the value before it.

  unfoldable pub dot : Bool → ℕ → Place → Value → Does E Value
  dot collect f at v = tick >> dotted collect at [] (property_of f at) v

  -- an operation: its arguments are evaluated once, whatever the source is
  abbrev pub applied : Op → List Value → Place → Value → Does E Value
  applied o ws at v = found (operation o at v ws) at

  unfoldable pub called : Bool → Op → List (Does E Value) → Place → Value → Does E Value
  called collect o ps at v = tick >> (values ps >>= (λ ws. dotted collect at ws (applied o ws at) v))

  -- a test or cast, with a class, which costs nothing
  unfoldable pub object_tested : Bool → ObjectTest → ℕ → Place → Value → Does E Value
  object_tested collect t c at v = tick >> dotted collect at [] (λ w. look (λ s. tested s.store t c at w) at) v

  -- a selection by class, of what an arrow goes over
  unfoldable pub select_class : Bool → ℕ → Place → Value → Does E Value
  select_class exact c at v = tick >> over_items at (λ k vs. look (λ s. selected s.store exact c at k vs) at) v

  -- Steps behind a first part.

  -- the name of a model, and an operation of it
  unfoldable pub model_step : ModelQuery → ℕ → Place → Does E Value
  model_step q e at = tick >> (tick >> ask (λ s. limited at (ordered_set (model_objects s.store q e))))
