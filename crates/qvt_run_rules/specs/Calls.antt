-- Calls of units (QVT 1.3, 8.2.1.10, 8.2.1.13, 8.2.1.14 and 8.2.2.9): the source and the arguments, then the unit. An argument is not
-- invalid, and neither invalid nor null is the context; a fault comes before anything behind it.
use Rattle.std.specs.Prelude.{ℕ, Bool, true, false, if◌then◌else◌, List, [], ◌∷◌, ◌++◌, Option, Some, None, Result, Ok, Err}
use Rattle.qvt_base.specs.declared.numbers.Oid.{Oid}
use Rattle.qvt_base.specs.declared.numbers.Place.{Place}
use Rattle.qvt_types_data.specs.declared.ty.Ty.{Ty}
use Rattle.qvt_value.specs.declared.value.Value.{Value, Null, Obj}
use Rattle.qvt_value.specs.declared.value.Kind.TheVariants.{Sequence}
use Rattle.qvt_value.specs.Limits.{built}
use Rattle.qvt_ocl_words.specs.Lists.{is_null}
use Rattle.qvt_run_data.specs.declared.callee.Callee.{Callee}
use Rattle.qvt_run_data.specs.declared.callee.Callee.TheVariants.{ConstructorCall}
use Rattle.qvt_run_data.specs.declared.local.Local.{Local}
use Rattle.qvt_run_data.specs.declared.exit.Exit.{Exit}
use Rattle.qvt_run_data.specs.declared.exit.Exit.TheVariants.{Returned, Ends}
use Rattle.qvt_run_rules.specs.State.{State, Done, Does, ◌>>=◌, ◌>>◌, pure, misfit, found, caught}
use Rattle.qvt_run_rules.specs.Typed.{valid, present, object_of, asked}
use Rattle.qvt_run_rules.specs.Locals.{self_name, result_name, fixed, read, in_frame}
use Rattle.qvt_run_rules.specs.Sources.{objects_in, collecting}
use Rattle.qvt_run_rules.specs.Store.{new_object}

-- what a call does with its arguments, at its place
abbrev pub CallRule : Type 0 → Type 0
CallRule E = Callee → List Value → Place → Does E Value

pub record UnitParam : Type 0 where
  pub name : List ℕ
  pub type : Option Ty

-- a helper, a query or a constructor: whether it has a context, its parameters, and what its body does
pub record Routine (E : Type 0) : Type 0 where
  pub has_context : Bool
  pub params : List UnitParam
  pub body : Does E (Unit {0})

module _ {E : Type 0} where
  -- What a unit begins with.

  -- the parameters with the values of a call, which are of their types
  abbrev pub bound : List UnitParam → List Value → Place → Does E (List Local)
  bound [] [] at = pure []
  bound (p ∷ ps) (v ∷ vs) at = asked p.type at v >>= (λ w. bound ps vs at >>= (λ ls. pure (fixed p.name w ∷ ls)))
  bound ps vs at = misfit at

  abbrev pub self_of : Bool → Option Oid → Place → Does E (List Local)
  self_of false o at = pure []
  self_of true (Some o) at = pure (fixed self_name (Obj o) ∷ [])
  self_of true None at = misfit at

  -- `self`, if the unit has a context, and the parameters
  unfoldable pub frame : Bool → List UnitParam → Option Oid → List Value → Place → Does E (List Local)
  frame has_context ps o vs at = self_of has_context o at >>= (λ me. bound ps vs at >>= (λ ls. pure (me ++ ls)))

  -- what a body gives back: null, where it ends without a value
  abbrev pub given_in : Result (Unit {0}) Exit → State E → Done E Value
  given_in (Ok u) s = (Ok Null, s)
  given_in (Err (Returned None)) s = (Ok Null, s)
  given_in (Err (Returned (Some v))) s = (Ok v, s)
  given_in (Err (Ends e)) s = (Err (Ends e), s)

  unfoldable pub given : Does E (Unit {0}) → Does E Value
  given p = λ s. given_in (p s).0 (p s).1

  -- a helper or a query
  unfoldable pub helper : Routine E → Option Oid → List Value → Place → Does E Value
  helper h o vs at = frame h.has_context h.params o vs at >>= (λ ls. given (in_frame ls h.body))

  -- a constructor: its body runs on the new object, which is `self` and `result` there
  abbrev pub on_new : Routine E → List Local → Oid → Does E Value
  on_new h ls o = caught (in_frame (fixed self_name (Obj o) ∷ fixed result_name (Obj o) ∷ ls) h.body) >> pure (Obj o)

  unfoldable pub constructor_ : Routine E → ℕ → ℕ → List Value → Place → Does E Value
  constructor_ h c e vs at = new_object c e at >>= (λ o. bound h.params vs at >>= (λ ls. on_new h ls o))

  -- The arguments of a call.

  abbrev pub arguments_onto : List Value → List (Does E Value) → Does E (List Value)
  arguments_onto done [] = pure done
  arguments_onto done (p ∷ ps) = p >>= valid >>= (λ v. arguments_onto (done ++ v ∷ []) ps)

  abbrev pub arguments : List (Does E Value) → Does E (List Value)
  arguments ps = arguments_onto [] ps

  module _ (calls : CallRule E) where
    -- a unit that is chosen by an object
    abbrev pub call_on : (Oid → Does E Callee) → List Value → Place → Oid → Does E Value
    call_on choose vs at o = choose o >>= (λ c. calls c vs at)

    -- on a context: null is told before the arguments
    abbrev pub on_context : (Oid → Does E Callee) → List (Does E Value) → Place → Value → Does E Value
    on_context choose ps at v = object_of at v >>= (λ o. arguments ps >>= (λ vs. call_on choose vs at o))

    -- the results of a mapping for objects in order, but for nulls
    abbrev pub with_result : Value → List Value → List Value
    with_result v done = if is_null v then done else done ++ v ∷ []

    abbrev pub mapped_onto : Place → List Value → (Oid → Does E Value) → List Oid → Does E Value
    mapped_onto at done f [] = pure (built at Sequence done)
    mapped_onto at done f (o ∷ os) = f o >>= (λ v. mapped_onto at (with_result v done) f os)

module _ {E : Type 0} (spend : ℕ → Does E (Unit {0})) (calls : CallRule E) where
  -- a unit without a context
  unfoldable pub call_free : Callee → List (Does E Value) → Place → Does E Value
  call_free c ps at = spend 1 >> (arguments ps >>= (λ vs. calls c vs at))

  -- on an implicit source
  unfoldable pub call_implicit : (Oid → Does E Callee) → List ℕ → List (Does E Value) → Place → Does E Value
  call_implicit choose source ps at = spend 1 >> (read source at >>= on_context calls choose ps at)

  -- behind a dot; where the source is invalid the step is not charged
  unfoldable pub call_step : (Oid → Does E Callee) → List (Does E Value) → Place → Value → Does E Value
  call_step choose ps at v = valid v >>= (λ w. spend 1 >> on_context calls choose ps at w)

  -- a helper or a query for each item of a collection: the answers flattened. A null item is the fault when its turn comes
  abbrev pub each_called : (Oid → Does E Callee) → List Value → Place → Value → Does E Value
  each_called choose vs at v = collecting at [] (λ x. object_of at x >>= call_on calls choose vs at) v

  unfoldable pub call_each : (Oid → Does E Callee) → List (Does E Value) → Place → Value → Does E Value
  call_each choose ps at v = valid v >>= (λ w. spend 1 >> (present at w >>= (λ u. arguments ps >>= (λ vs. each_called choose vs at u))))

  -- A mapping over a collection, or over a single value behind an arrow: for each object in order, with the arguments evaluated once; a
  -- null item is left out. The answer is the Sequence of the results that are not null.
  unfoldable pub map_all : (Oid → Does E Callee) → List (Does E Value) → Place → Value → Does E Value
  map_all choose ps at v = valid v >>= (λ w. spend 1 >> (arguments ps >>= (λ vs. found (objects_in w) at >>= mapped_onto calls at [] (call_on calls choose vs at))))

  -- `new`: a constructor, or the object alone
  unfoldable pub new_by : ℕ → ℕ → ℕ → List (Does E Value) → Place → Does E Value
  new_by n c e ps at = spend 1 >> (arguments ps >>= (λ vs. calls (ConstructorCall n c e) vs at))

  unfoldable pub new_alone : ℕ → ℕ → Place → Does E Value
  new_alone c e at = spend 1 >> (new_object c e at >>= (λ o. pure (Obj o)))
