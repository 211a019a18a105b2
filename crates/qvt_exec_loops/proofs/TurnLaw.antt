-- What an iterator does with an item and those behind it is its body for the item, and then its turn.
use Rattle.std.proofs.Common.{◌≡◌, Bool, true, false, refl, sym, subst, List, ◌∷◌, Option, Result}
use Rattle.qvt_base.specs.declared.numbers.Place.{Place}
use Rattle.qvt_value.specs.declared.value.Value.{Value}
use Rattle.qvt_value.specs.declared.value.Kind.{Kind}
use Rattle.qvt_run_data.specs.declared.exit.Halt.{Halt}
use Rattle.qvt_run_data.specs.declared.late.LateWrite.{LateWrite}
use Rattle.qvt_run_rules.specs.State.{Does, ◌>>=◌}
use Rattle.qvt_run_rules.specs.Iterators as each
use Rattle.qvt_exec_loops.specs.Laws.{IteratorsGoByTurns}
use Rattle.qvt_exec_loops.specs.Turns.{after_kept, after_of, rest_of, Takes}
use Rattle.qvt_exec_loops.specs.declared.turns.Turns.{Turns}
use Rattle.qvt_exec_loops.specs.declared.turns.Turns.TheVariants as turn

kept : (at : Place) (f : Value → Does LateWrite Value) (wanted : Bool) (k : Kind) (done : List Value) (x : Value) (xs : List Value) → each.select_from at f wanted k done (x ∷ xs) ≡ (f x >>= after_kept at f wanted k done x xs)
kept at f true k done x xs = refl
kept at f false k done x xs = refl

pub turned : (at : Place) (f : Value → Does LateWrite Value) (t : Turns) (x : Value) (xs : List Value) → rest_of at f t (x ∷ xs) ≡ (f x >>= after_of at f t x xs)
turned at f (turn.Kept t) x xs = kept at f t.wanted t.kind t.done x xs
turned at f (turn.Gathered t) x xs = refl
turned at f turn.Any x xs = refl
turned at f (turn.One n) x xs = refl
turned at f (turn.Exists v) x xs = refl
turned at f (turn.ForAll v) x xs = refl
turned at f (turn.Sorted t) x xs = refl

-- a turn of a machine that is known
pub taken_as : (at : Place) (f : Value → Does LateWrite Value) (t u : Turns) (x : Value) (xs : List Value) (w : Value) (r : Result (Option Value) Halt) (q : Does LateWrite Value) → t ≡ u →
    Takes (after_of at f u x xs w) r q → Takes (after_of at f t x xs w) r q
taken_as at f t u x xs w r q e h = subst (λ (m : Turns). Takes (after_of at f m x xs w) r q) (sym e) h

pub all_turns : IteratorsGoByTurns
unfolding each.select each.reject each.collect each.collect_nested each.exists_ each.for_all each.any each.one each.is_unique each.sorted_by
all_turns = record {
  select = λ spend at name body v. refl;
  reject = λ spend at name body v. refl;
  collect = λ spend at name body v. refl;
  collect_nested = λ spend at name body v. refl;
  exists_ = λ spend at name body v. refl;
  for_all = λ spend at name body v. refl;
  any = λ spend at name body v. refl;
  one = λ spend at name body v. refl;
  is_unique = λ spend at name body v. refl;
  sorted_by = λ spend at name body v. refl;
}
