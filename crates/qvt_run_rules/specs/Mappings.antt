-- The steps of a mapping call (QVT 1.3, 8.1.1 to 8.1.4, 8.2.1.15 MappingOperation): `when`, disjunction, the record of an earlier call,
-- the init section, the result, the record, the mappings that are inherited, population and end, the mappings that are merged.
use Rattle.std.specs.Prelude.{ℕ, Bool, true, false, if◌then◌else◌, List, [], ◌∷◌, ◌++◌, length, take, Option, Some, None}
use Rattle.qvt_base.specs.declared.numbers.Oid.{Oid}
use Rattle.qvt_base.specs.declared.numbers.Place.{Place}
use Rattle.qvt_metamodel.specs.Metamodels.{class_at}
use Rattle.qvt_metamodel.specs.Descends.{descends}
use Rattle.qvt_slots.specs.Contents.{class_of}
use Rattle.qvt_types_data.specs.declared.ty.Ty.TheVariants as ty
use Rattle.qvt_value.specs.declared.value.Value.{Value, Null, Obj}
use Rattle.qvt_run_data.specs.declared.fault.RunFault.TheVariants as fault
use Rattle.qvt_run_data.specs.declared.callee.Callee.TheVariants.{MappingCall}
use Rattle.qvt_run_data.specs.declared.callee.Way.{Way}
use Rattle.qvt_run_data.specs.declared.callee.Way.TheVariants.{Called, Chosen, Reused}
use Rattle.qvt_run_data.specs.declared.local.Local.{Local}
use Rattle.qvt_run_data.specs.declared.record.Key.{Key}
use Rattle.qvt_run_data.specs.declared.exit.End.TheVariants.{Fault}
use Rattle.qvt_run_rules.specs.State.{State, Done, Does, ◌>>=◌, ◌>>◌, pure, stop, misfit, found, ask, turn_to, caught}
use Rattle.qvt_run_rules.specs.Locals.{result_name, local, read, set, in_frame, in_own}
use Rattle.qvt_run_rules.specs.Store.{new_object}
use Rattle.qvt_run_rules.specs.Trace.{result_for, has_key, record_of}
use Rattle.qvt_run_rules.specs.Calls.{CallRule, UnitParam, frame}

-- a class, and the extent in which its objects are made
pub record ResultClass : Type 0 where
  pub class : ℕ
  pub extent : ℕ

-- a mapping: its context class, if it has one; its parameters; its result class, if it has one, with the extent in which the result is
-- made; what its `when` and its sections do; the mappings that it inherits, merges and disjuncts to; the place of its name
pub record MappingRule (E : Type 0) : Type 0 where
  pub number : ℕ
  pub context : Option ℕ
  pub params : List UnitParam
  pub result : Option ResultClass
  pub when : Option (Does E Bool)
  pub init : Does E (Unit {0})
  pub population : Does E (Unit {0})
  pub finish : Does E (Unit {0})
  pub inherits : List ℕ
  pub merges : List ℕ
  pub disjuncts : List ℕ
  pub place : Place

-- what comes of the steps up to the record: a result that the trace had, one with which the init section returned, or one with which
-- the call goes on
pub data MadeResult : Type 0 where
  Known : Option Oid → MadeResult
  Ended : Option Oid → MadeResult
  New : Option Oid → MadeResult

-- and the variables after the init section
abbrev pub BegunCall : Type 0
BegunCall = MadeResult × List Local

abbrev pub is_there : {A : Type 0} → Option A → Bool
is_there None = false
is_there (Some a) = true

abbrev pub value_of : Option Oid → Value
value_of None = Null
value_of (Some o) = Obj o

-- the variable `result`, in a mapping that has one
abbrev pub result_local : Option ResultClass → Value → List Local
result_local None v = []
result_local (Some c) v = local result_name (Some (ty.Class (record { 0 = c.class }))) v ∷ []

abbrev pub key : ℕ → Option Oid → List Value → Key
key n o vs = record { mapping = record { 0 = n }; context = o; args = vs }

module _ {E : Type 0} where
  -- Keys and records.

  abbrev pub shut : {A : Type 0} → ℕ → Done E A → Done E A
  shut n d = (d.0, record d.1 { keys = take n d.1.keys })

  -- while the key is open
  unfoldable pub with_key : {A : Type 0} → Key → Does E A → Does E A
  with_key k p = λ s. shut (length s.keys) (p (record s { keys = s.keys ++ k ∷ [] }))

  unfoldable pub note : Key → Option Oid → Does E (Unit {0})
  note k r = turn_to (λ s. record s { trace = s.trace ++ record_of k r ∷ [] })

  -- the record is written before the sections; where the init section returned, if `result` is not null
  abbrev pub noted_on : Key → MadeResult → BegunCall → Does E BegunCall
  noted_on k (Known r) x = pure x
  noted_on k (Ended None) x = pure x
  noted_on k (Ended (Some o)) x = note k (Some o) >> pure x
  noted_on k (New r) x = note k r >> pure x

  abbrev pub noted : Key → BegunCall → Does E BegunCall
  noted k x = noted_on k x.0 x

  abbrev pub unless_open : Bool → Place → Does E BegunCall → Does E BegunCall
  unless_open true at p = stop (Fault fault.MappingCycle at)
  unless_open false at p = p

  abbrev pub unless_known : Option (Option Oid) → Does E BegunCall → Does E BegunCall
  unless_known (Some r) p = pure (Known r, [])
  unless_known None p = p

  -- the result that the trace has for the key; else what comes first while the key is open, and its record
  unfoldable pub once : Key → Place → Does E BegunCall → Does E BegunCall
  once k at first = ask (λ s. result_for k s.trace) >>= (λ known. unless_known known
      (ask (λ s. has_key s.keys k) >>= (λ is_open. unless_open is_open at (with_key k (first >>= noted k)))))

  -- `when`, over `self` and the parameters
  abbrev pub when_holds : Option (Does E Bool) → List Local → Does E Bool
  when_holds None ls = pure true
  when_holds (Some p) ls = in_frame ls p

  -- The result.

  abbrev pub object_in : Place → Value → Does E (Option Oid)
  object_in at Null = pure None
  object_in at (Obj o) = pure (Some o)
  object_in at v = misfit at

  abbrev pub result_read : Option ResultClass → Place → Does E (Option Oid)
  result_read None at = pure None
  result_read (Some c) at = read result_name at >>= object_in at

  -- an object of the class: none of an abstract one
  abbrev pub made_unless : Bool → ℕ → ℕ → Place → Does E Oid
  made_unless true c e at = stop (Fault fault.NoResult at)
  made_unless false c e at = new_object c e at

  abbrev pub made_of : ℕ → ℕ → Place → Does E Oid
  made_of c e at = ask (λ s. (class_at s.store.metas c).is_abstract) >>= (λ b. made_unless b c e at)

  abbrev pub kept_as : Place → Oid → Does E MadeResult
  kept_as at o = set result_name (Obj o) at >> pure (New (Some o))

  abbrev pub completed_as : Option ResultClass → Place → Does E MadeResult
  completed_as None at = pure (New None)
  completed_as (Some c) at = made_of c.class c.extent at >>= kept_as at

  -- the result that init has set, else a new object
  abbrev pub completed : MappingRule E → Option Oid → Does E MadeResult
  completed m (Some o) = pure (New (Some o))
  completed m None = completed_as m.result m.place

  -- the init section, and the result
  unfoldable pub first_inside : MappingRule E → Does E MadeResult
  first_inside m = caught m.init >>= (λ returned. result_read m.result m.place >>= (λ r. if returned then pure (Ended r) else completed m r))

  unfoldable pub first : MappingRule E → List Local → Does E BegunCall
  first m ls = in_own (ls ++ result_local m.result Null) (first_inside m)

  -- The sections, which see the variables of the init section.
  unfoldable pub sections : MappingRule E → List Local → Does E (Unit {0})
  sections m ls = in_frame ls (caught m.population >> (caught m.finish >> pure tt))

  abbrev pub of_class_in : Option ℕ → Option Oid → State E → Bool
  of_class_in None o s = true
  of_class_in (Some c) None s = false
  of_class_in (Some c) (Some o) s = descends s.store.metas (class_of s.store o.0) c

  abbrev pub refused : Bool → Place → Does E Value
  refused true at = stop (Fault fault.WhenFailed at)
  refused false at = pure Null

module _ {E : Type 0} (mappings : ℕ → Option (MappingRule E)) (calls : CallRule E) where
  abbrev pub frame_of : MappingRule E → Option Oid → List Value → Place → Does E (List Local)
  frame_of m o vs at = frame (is_there m.context) m.params o vs at

  -- Disjunction: a candidate fits where the context object is of its context class, and its `when` is true.
  unfoldable pub fits : MappingRule E → Option Oid → List Value → Place → Does E Bool
  fits m o vs at = ask (of_class_in m.context o) >>= (λ b. if b then (frame_of m o vs at >>= when_holds m.when) else pure false)

  -- the first that fits is called, without its `when` again
  abbrev pub dispatch : List ℕ → Option Oid → List Value → Place → Does E Value
  dispatch [] o vs at = pure Null
  dispatch (n ∷ ns) o vs at = found (mappings n) at >>= (λ m. fits m o vs at
      >>= (λ b. if b then calls (MappingCall n Chosen o) vs at else dispatch ns o vs at))

  -- Reuse: the shared result is that of the mapping that reuses.
  abbrev pub reuse : List ℕ → Option Oid → Option Oid → List Value → Place → Does E (Unit {0})
  reuse [] shared o vs at = pure tt
  reuse (n ∷ ns) shared o vs at = calls (MappingCall n (Reused shared) o) vs at >> reuse ns shared o vs at

  -- inherited mappings, population and end, merged mappings
  unfoldable pub body : MappingRule E → Option Oid → List Local → Option Oid → List Value → Place → Does E (Unit {0})
  body m shared ls o vs at = reuse m.inherits shared o vs at >> (sections m ls >> reuse m.merges shared o vs at)

  abbrev pub goes_by : MappingRule E → Option Oid → List Value → Place → List Local → MadeResult → Does E Value
  goes_by m o vs at ls (Known r) = pure (value_of r)
  goes_by m o vs at ls (Ended r) = pure (value_of r)
  goes_by m o vs at ls (New r) = body m r ls o vs at >> pure (value_of r)

  abbrev pub goes_on : MappingRule E → Option Oid → List Value → Place → BegunCall → Does E Value
  goes_on m o vs at x = goes_by m o vs at x.1 x.0

  unfoldable pub made : MappingRule E → Option Oid → List Value → List Local → Place → Does E Value
  made m o vs ls at = once (key m.number o vs) at (first m ls) >>= goes_on m o vs at

  -- a dispatcher writes no record
  abbrev pub chosen_by : List ℕ → MappingRule E → Option Oid → List Value → List Local → Place → Does E Value
  chosen_by [] m o vs ls at = made m o vs ls at
  chosen_by (n ∷ ns) m o vs ls at = dispatch (n ∷ ns) o vs at

  unfoldable pub chosen : MappingRule E → Option Oid → List Value → List Local → Place → Does E Value
  chosen m o vs ls at = chosen_by m.disjuncts m o vs ls at

  unfoldable pub called : MappingRule E → Bool → Option Oid → List Value → List Local → Place → Does E Value
  called m strict o vs ls at = when_holds m.when ls >>= (λ b. if b then chosen m o vs ls at else refused strict at)

  -- a reused mapping: it makes no object, opens no key and writes no record; a `return` in its init section ends it. What it reuses itself
  -- gets the shared result, and its own sections see its own `result`
  abbrev pub reused_on : MappingRule E → Option Oid → Option Oid → List Value → Place → Bool × List Local → Does E Value
  reused_on m shared o vs at x = if x.0 then pure Null else body m shared x.1 o vs at >> pure Null

  unfoldable pub reused : MappingRule E → Option Oid → Option Oid → List Value → List Local → Place → Does E Value
  reused m shared o vs ls at = when_holds m.when ls
      >>= (λ b. if b then in_own (ls ++ result_local m.result (value_of shared)) (caught m.init) >>= reused_on m shared o vs at else pure Null)

  abbrev pub by_way : MappingRule E → Way → Option Oid → List Value → Place → List Local → Does E Value
  by_way m (Called strict) o vs at ls = called m strict o vs ls at
  by_way m Chosen o vs at ls = chosen m o vs ls at
  by_way m (Reused shared) o vs at ls = reused m shared o vs ls at

  unfoldable pub mapping : MappingRule E → Way → Option Oid → List Value → Place → Does E Value
  mapping m way o vs at = frame_of m o vs at >>= by_way m way o vs at
