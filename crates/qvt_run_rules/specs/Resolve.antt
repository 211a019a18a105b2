-- Resolves (QVT 1.3, 8.1.10 and 8.2.1.22): the candidates of a request, of which those are the answer for which a condition is true; and what
-- a late one keeps.
use Rattle.std.specs.Prelude.{ℕ, ◌+◌, Bool, true, false, if◌then◌else◌, List, [], ◌∷◌, ◌++◌, map, Option, Some, None, Result, Ok, Err}
use Rattle.std.specs.List.{list_all}
use Rattle.qvt_base.specs.declared.numbers.Oid.{Oid}
use Rattle.qvt_base.specs.declared.numbers.Place.{Place}
use Rattle.qvt_metamodel.specs.Metamodels.{shape_of}
use Rattle.qvt_metamodel.specs.Descends.{is_class_kind}
use Rattle.qvt_slots.specs.Contents.{Contents, is_live}
use Rattle.qvt_value.specs.declared.value.Value.{Value, Null, Bool as Truth, Obj, Invalid as NotValid}
use Rattle.qvt_value.specs.declared.value.Value.TheViews.{Coll}
use Rattle.qvt_value.specs.declared.value.Kind.TheVariants.{Sequence}
use Rattle.qvt_value.specs.declared.value.Reason.{Reason}
use Rattle.qvt_value.specs.declared.value.Reason.TheVariants.{NullValue}
use Rattle.qvt_run_data.specs.declared.fault.RunFault.TheVariants as fault
use Rattle.qvt_run_data.specs.declared.late.LateWrite.{LateWrite}
use Rattle.qvt_run_data.specs.declared.request.RequestForm.{RequestForm}
use Rattle.qvt_run_data.specs.declared.request.Query.{Query}
use Rattle.qvt_run_data.specs.declared.exit.End.{End}
use Rattle.qvt_run_data.specs.declared.exit.End.TheVariants.{Fault}
use Rattle.qvt_run_rules.specs.State.{State, Does, ◌>>=◌, ◌>>◌, pure, stop, look}
use Rattle.qvt_run_rules.specs.Typed.{valid}
use Rattle.qvt_run_rules.specs.Locals.{var_of}
use Rattle.qvt_run_rules.specs.Sources.{sources_in}
use Rattle.qvt_run_rules.specs.Store.{op_of}

-- what a condition says of a candidate
pub data ConditionVerdict : Type 0 where
  Passes : ConditionVerdict
  Fails : ConditionVerdict
  Invalid : Reason → Place → ConditionVerdict
  Stops : End → ConditionVerdict

-- with the cost of evaluating it
pub record Weighed : Type 0 where
  pub verdict : ConditionVerdict
  pub cost : ℕ

-- the objects, or what ended the answer
pub data FoundOrEnded : Type 0 where
  Objects : List Oid → FoundOrEnded
  Undefined : Reason → Place → FoundOrEnded
  Stopped : End → FoundOrEnded

-- with the cost of the conditions that were evaluated
pub record ResolveAnswer : Type 0 where
  pub found : FoundOrEnded
  pub cost : ℕ

-- the value of a condition that stands at this place: null is NullValue there
abbrev pub verdict_of : Place → Result Value End → ConditionVerdict
verdict_of at (Ok (Truth b)) = if b then Passes else Fails
verdict_of at (Ok Null) = Invalid NullValue at
verdict_of at (Ok (NotValid r p)) = Invalid r p
verdict_of at (Ok v) = Stops (Fault fault.TypeFault at)
verdict_of at (Err e) = Stops e

-- what comes of a candidate; `on` goes on with the rest
abbrev pub sifted_by : ConditionVerdict → Bool → List Oid → ℕ → Oid → (List Oid → ResolveAnswer) → ResolveAnswer
sifted_by Passes one done cost o on = if one then record { found = Objects (done ++ o ∷ []); cost = cost } else on (done ++ o ∷ [])
sifted_by Fails one done cost o on = on done
sifted_by (Invalid r p) one done cost o on = record { found = Undefined r p; cost = cost }
sifted_by (Stops e) one done cost o on = record { found = Stopped e; cost = cost }

-- The candidates that pass, in order. Where one is wanted the first ends it; so does a condition that is neither true nor false.
abbrev pub sifted : (Oid → Weighed) → Bool → List Oid → ℕ → List Oid → ResolveAnswer
sifted test one done cost [] = record { found = Objects done; cost = cost }
sifted test one done cost (o ∷ os) = sifted_by (test o).verdict one done (cost + (test o).cost) o (λ more. sifted test one more (cost + (test o).cost) os)

abbrev pub first_object : List Oid → Value
first_object [] = Null
first_object (o ∷ os) = Obj o

-- one object or null, or a Sequence
abbrev pub objects_value : Bool → List Oid → Value
objects_value true os = first_object os
objects_value false os = Coll Sequence (map Obj os)

abbrev pub query_of : RequestForm → Option (List Oid) → Query
query_of f os = record { request = record { inverse = f.inverse; within = f.within; sources = os; class = record { 0 = f.class } }; one = f.one; condition = f.condition }

-- objects all of which are there
abbrev pub if_live : Contents → List Oid → Option (List Oid)
if_live s os = if list_all (λ o. is_live s o.0) os then Some os else None

abbrev pub all_live : Contents → Option (List Oid) → Option (List Oid)
all_live s None = None
all_live s (Some os) = if_live s os

module _ {E : Type 0} where
  abbrev pub answer_value : Bool → FoundOrEnded → Does E Value
  answer_value one (Objects os) = pure (objects_value one os)
  answer_value one (Undefined r p) = pure (NotValid r p)
  answer_value one (Stopped e) = stop e

  -- the cost of the conditions, and then the answer
  abbrev pub answered_now : (ℕ → Does E (Unit {0})) → Bool → ResolveAnswer → Does E Value
  answered_now spend one a = spend a.cost >> answer_value one a.found

  -- the sources: none behind which a resolve stands is none at all, and null is no source
  abbrev pub sources_of : Place → Option Value → Does E (Option (List Oid))
  sources_of at None = pure None
  sources_of at (Some v) = look (λ s. all_live s.store (sources_in v)) at >>= (λ os. pure (Some os))

  abbrev pub valid_source : Option Value → Does E (Option Value)
  valid_source None = pure None
  valid_source (Some v) = valid v >>= (λ w. pure (Some w))

  -- a late resolve is of the slot's type
  abbrev pub if_fits : ℕ → ℕ → State E → Option (Unit {0})
  if_fits f c s = if is_class_kind s.store.metas c (shape_of s.store.metas f).kind then Some tt else None

  abbrev pub late_write : Oid → ℕ → Bool → Query → Place → State E → LateWrite
  late_write o f adds q at s = record {
    object = o;
    feature = record { 0 = f };
    op = op_of adds;
    request = q.request;
    one = q.one;
    condition = q.condition;
    vars = map var_of s.locals;
    place = at;
  }

  -- the variables are taken as they are
  abbrev pub entered : (LateWrite → Does E (Unit {0})) → Oid → ℕ → Bool → Query → Place → Does E (Unit {0})
  entered enter o f adds q at = λ s. enter (late_write o f adds q at s) s

module _ {E : Type 0} (spend : ℕ → Does E (Unit {0})) where
  -- a resolve without a source, and behind one
  unfoldable pub resolve_alone : (Query → Does E Value) → RequestForm → Does E Value
  resolve_alone answer f = spend 1 >> answer (query_of f None)

  unfoldable pub resolve_step : (Query → Does E Value) → RequestForm → Place → Value → Does E Value
  resolve_step answer f at v = valid v >>= (λ w. spend 1 >> (sources_of at (Some w) >>= (λ os. answer (query_of f os))))

  -- A late resolve, with the sign of its assignment at the first place: the target's object, the source, and one entry. The slot stays.
  unfoldable pub late : (LateWrite → Does E (Unit {0})) → Does E Oid → ℕ → Bool → Does E (Option Value) → RequestForm → Place → Place → Does E (Unit {0})
  late enter object f adds source form sign at = object >>= (λ o. source >>= valid_source >>= (λ v. spend 1 >> (sources_of at v
      >>= (λ os. look (if_fits f form.class) sign >> entered enter o f adds (query_of form os) sign))))
