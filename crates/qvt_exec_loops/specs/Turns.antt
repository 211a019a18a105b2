-- The iterators as machines (OCL 2.4, 7.6 and 11.9): what one keeps between its turns, what it does with the items that are left, and what
-- it does as soon as its body has a value for an item.
use Rattle.std.specs.Prelude.{◌≡◌, ◌+◌, Bool, true, false, not, if◌then◌else◌, List, [], ◌∷◌, ◌++◌, Option, Some, None, Result, Ok, Err}
use Rattle.qvt_base.specs.declared.numbers.Place.{Place}
use Rattle.qvt_value.specs.declared.value.Value.{Value, Bool as Truth, Invalid, Null}
use Rattle.qvt_value.specs.declared.value.Kind.{Kind}
use Rattle.qvt_value.specs.declared.value.Reason.TheVariants.{NullValue}
use Rattle.qvt_types_steps.specs.declared.iterators.IteratorKind.{IteratorKind}
use Rattle.qvt_types_steps.specs.declared.iterators.IteratorKind.TheVariants as iterator
use Rattle.qvt_run_data.specs.declared.exit.End.TheVariants.{Fault}
use Rattle.qvt_run_data.specs.declared.exit.Exit.TheVariants.{Ends}
use Rattle.qvt_run_data.specs.declared.exit.Halt.{Halt}
use Rattle.qvt_run_data.specs.declared.exit.Halt.TheVariants.{Exits, NoMemory}
use Rattle.qvt_run_data.specs.declared.fault.RunFault.TheVariants.{TypeFault}
use Rattle.qvt_run_data.specs.declared.late.LateWrite.{LateWrite}
use Rattle.qvt_run_rules.specs.State.{State, Does, ◌>>=◌, pure, found}
use Rattle.qvt_run_rules.specs.Logic.{is_true, conjunction, disjunction, if_logical}
use Rattle.qvt_run_rules.specs.Sources.{as_flat, as_kind, collected_kind, gathered, unless_invalid}
use Rattle.qvt_run_rules.specs.Iterators.{all_differ, judged, kept_if, select_from, exists_from, is_falsity, for_all_from, any_from, one_from, keyed, sort_from}
use Rattle.qvt_exec_loops.specs.declared.gathering.GatheringMode.{GatheringMode}
use Rattle.qvt_exec_loops.specs.declared.gathering.GatheringMode.TheVariants.{Nested, Flat, Unique}
use Rattle.qvt_exec_loops.specs.declared.turns.Turns.{Turns}
use Rattle.qvt_exec_loops.specs.declared.turns.Turns.TheVariants as turn

-- what becomes of the values of the bodies
abbrev pub finish_of : GatheringMode → Place → Kind → List Value → Does LateWrite Value
finish_of Nested at k = as_kind at (collected_kind k)
finish_of Flat at k = as_flat at (collected_kind k)
finish_of Unique at k = λ vs. pure (Truth (all_differ vs))

-- how an iterator begins over a collection of the kind; `iterate` and `closure` are no such machines
abbrev pub turns_of : IteratorKind → Kind → Option Turns
turns_of iterator.Select k = Some (turn.Kept (record { wanted = true; kind = k; done = [] }))
turns_of iterator.Reject k = Some (turn.Kept (record { wanted = false; kind = k; done = [] }))
turns_of iterator.Collect k = Some (turn.Gathered (record { finish = Flat; kind = k; done = [] }))
turns_of iterator.CollectNested k = Some (turn.Gathered (record { finish = Nested; kind = k; done = [] }))
turns_of iterator.Exists k = Some (turn.Exists (Truth false))
turns_of iterator.ForAll k = Some (turn.ForAll (Truth true))
turns_of iterator.Any k = Some turn.Any
turns_of iterator.One k = Some (turn.One 0)
turns_of iterator.IsUnique k = Some (turn.Gathered (record { finish = Unique; kind = k; done = [] }))
turns_of iterator.SortedBy k = Some (turn.Sorted (record { kind = k; keyed = [] }))
turns_of iterator.Iterate k = None
turns_of iterator.Closure k = None

module _ (at : Place) (f : Value → Does LateWrite Value) where
  -- what an iterator that has come so far does with the items that are left
  abbrev pub rest_of : Turns → List Value → Does LateWrite Value
  rest_of (turn.Kept t) xs = select_from at f t.wanted t.kind t.done xs
  rest_of (turn.Gathered t) xs = gathered (finish_of t.finish at t.kind) f t.done xs
  rest_of turn.Any xs = any_from at f xs
  rest_of (turn.One n) xs = one_from at f n xs
  rest_of (turn.Exists v) xs = exists_from at f v xs
  rest_of (turn.ForAll v) xs = for_all_from at f v xs
  rest_of (turn.Sorted t) xs = sort_from at f t.kind t.keyed xs

  -- what follows a condition for an item, where the items are wanted for which it is true, or those for which it is false
  abbrev pub after_kept : Bool → Kind → List Value → Value → List Value → Value → Does LateWrite Value
  after_kept true k done x xs = judged at (λ b. select_from at f true k (kept_if at f b x done) xs)
  after_kept false k done x xs = judged at (λ b. select_from at f false k (kept_if at f (not b) x done) xs)

  -- what follows the value of the body for an item
  abbrev pub after_of : Turns → Value → List Value → Value → Does LateWrite Value
  after_of (turn.Kept t) x xs = after_kept t.wanted t.kind t.done x xs
  after_of (turn.Gathered t) x xs = λ w. unless_invalid w (gathered (finish_of t.finish at t.kind) f (t.done ++ w ∷ []) xs)
  after_of turn.Any x xs = judged at (λ b. if b then pure x else any_from at f xs)
  after_of (turn.One n) x xs = judged at (λ b. one_from at f (if b then n + 1 else n) xs)
  after_of (turn.Exists v) x xs = λ w. found (if_logical w (disjunction v w)) at >>= (λ u. if is_true u then pure u else exists_from at f u xs)
  after_of (turn.ForAll v) x xs = λ w. found (if_logical w (conjunction v w)) at >>= (λ u. if is_falsity at f u then pure u else for_all_from at f u xs)
  after_of (turn.Sorted t) x xs = keyed at f (λ v. sort_from at f t.kind (t.keyed ++ record { key = v; item = x } ∷ []) xs)

-- what ends an iterator that wants a Boolean, at another value
abbrev pub without_truth : Place → Value → Result (Option Value) Halt
without_truth at Null = Ok (Some (Invalid NullValue at))
without_truth at (Invalid r p) = Ok (Some (Invalid r p))
without_truth at v = Err (Exits (Ends (Fault TypeFault at)))

-- the call gives what the phrase gives, which leaves every state as it is, or there was no memory
abbrev pub Finds : {A : Type 0} → Does LateWrite A → Result A Halt → Type 0
Finds p (Ok a) = (s : State LateWrite) → p s ≡ (Ok a, s)
Finds p (Err NoMemory) = Unit {0}
Finds p (Err (Exits e)) = (s : State LateWrite) → p s ≡ (Err e, s)

-- the phrase goes on as the other, or gives the value, or ends, and leaves every state as it is till then; or there was no memory
abbrev pub Takes : Does LateWrite Value → Result (Option Value) Halt → Does LateWrite Value → Type 0
Takes p (Ok None) q = (s : State LateWrite) → p s ≡ q s
Takes p (Ok (Some v)) q = (s : State LateWrite) → p s ≡ (Ok v, s)
Takes p (Err NoMemory) q = Unit {0}
Takes p (Err (Exits e)) q = (s : State LateWrite) → p s ≡ (Err e, s)
