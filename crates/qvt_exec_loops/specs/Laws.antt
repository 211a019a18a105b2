-- The iterators of the rules are their machines, over the items of a source in order (OCL 2.4, 11.9).
use Rattle.std.specs.Prelude.{◌≡◌, ℕ, List, ◌∷◌, Option, Some, None}
use Rattle.qvt_base.specs.declared.numbers.Place.{Place}
use Rattle.qvt_value.specs.declared.value.Value.{Value}
use Rattle.qvt_value.specs.declared.value.Kind.{Kind}
use Rattle.qvt_types_steps.specs.declared.iterators.IteratorKind.{IteratorKind}
use Rattle.qvt_types_steps.specs.declared.iterators.IteratorKind.TheVariants as iterator
use Rattle.qvt_run_data.specs.declared.late.LateWrite.{LateWrite}
use Rattle.qvt_run_rules.specs.State.{Does, ◌>>=◌, misfit}
use Rattle.qvt_run_rules.specs.Iterators as each
use Rattle.qvt_exec_loops.specs.Turns.{after_of, rest_of, turns_of}
use Rattle.qvt_exec_loops.specs.declared.turns.Turns.{Turns}

-- with an item before those that are left it evaluates its body for the item, and takes the value
abbrev pub EachItemIsATurn : Type 0
EachItemIsATurn = (at : Place) (f : Value → Does LateWrite Value) (t : Turns) (x : Value) (xs : List Value) → rest_of at f t (x ∷ xs) ≡ (f x >>= after_of at f t x xs)

-- the same of what an iterator begins with, if it is such a machine
abbrev pub rest_if : Place → (Value → Does LateWrite Value) → Option Turns → List Value → Does LateWrite Value
rest_if at f None xs = misfit at
rest_if at f (Some t) xs = rest_of at f t xs

-- what the iterator does with all items of a collection
abbrev pub by_turns : IteratorKind → Place → (Value → Does LateWrite Value) → Kind → List Value → Does LateWrite Value
by_turns which at f k xs = rest_if at f (turns_of which k) xs

-- a rule is an iterator that goes by turns
abbrev pub GoesBy : IteratorKind → ((ℕ → Does LateWrite (Unit {0})) → Place → Option (List ℕ) → Does LateWrite Value → Value → Does LateWrite Value) → Type 0
GoesBy which rule = (spend : ℕ → Does LateWrite (Unit {0})) (at : Place) (name : Option (List ℕ)) (body : Does LateWrite Value) (v : Value) →
    rule spend at name body v ≡ each.iterated spend at name body (by_turns which at (each.for_item name body)) v

-- all iterators of the rules but `iterate` and `closure`
pub record IteratorsGoByTurns : Type 0 where
  pub select : GoesBy iterator.Select each.select
  pub reject : GoesBy iterator.Reject each.reject
  pub collect : GoesBy iterator.Collect each.collect
  pub collect_nested : GoesBy iterator.CollectNested each.collect_nested
  pub exists_ : GoesBy iterator.Exists each.exists_
  pub for_all : GoesBy iterator.ForAll each.for_all
  pub any : GoesBy iterator.Any each.any
  pub one : GoesBy iterator.One each.one
  pub is_unique : GoesBy iterator.IsUnique each.is_unique
  pub sorted_by : GoesBy iterator.SortedBy each.sorted_by
