-- Steps that keep the cost.
use Rattle.std.proofs.Common.{◌≡◌, ℕ, Bool, true, false, nat_lt, if◌then◌else◌, refl, List, length, Some, None, Result, Ok, Err}
use Rattle.qvt_base.specs.declared.numbers.Place.{Place}
use Rattle.qvt_metamodel.specs.Metamodels.{is_single}
use Rattle.qvt_slots.specs.declared.fault.StoreFault.{StoreFault}
use Rattle.qvt_slots.specs.Assign.{write}
use Rattle.qvt_slots.specs.Contents.{Contents}
use Rattle.qvt_slots.specs.Limits.{most_objects}
use Rattle.qvt_value.specs.declared.value.Value.{Value}
use Rattle.qvt_run_data.specs.declared.exit.Exit.{Exit}
use Rattle.qvt_run_data.specs.declared.exit.Exit.TheVariants.{Returned, Ends}
use Rattle.qvt_run_rules.specs.State.{State, misfit, caught_in}
use Rattle.qvt_run_rules.specs.Locals.{own_in}
use Rattle.qvt_run_rules.specs.Store.{made_one, is_class_for, new_object, are_fit, changed, op_of, slot_items, put}
use Rattle.qvt_run_rules.specs.Calls.{given_in}

module _ {E : Type 0} where
  one_cost : (fits room : Bool) (c e : ℕ) (at : Place) (s : State E) → (made_one fits room c e at s).1.cost ≡ s.cost
  one_cost false room c e at s = refl
  one_cost true false c e at s = refl
  one_cost true true c e at s = refl

  pub made_cost : (c e : ℕ) (at : Place) (s : State E) → (new_object c e at s).1.cost ≡ s.cost
  unfolding new_object
  made_cost c e at s = one_cost (is_class_for s.store c e) (nat_lt (length s.store.objects) most_objects) c e at s

  changed_cost : (r : Result Contents StoreFault) (at : Place) (s : State E) → (changed r at s).1.cost ≡ s.cost
  changed_cost (Ok store) at s = refl
  changed_cost (Err refusal) at s = refl

  written_cost : (b : Bool) (r : Result Contents StoreFault) (at : Place) (s : State E) → (if b then changed r at s else misfit at s).1.cost ≡ s.cost
  written_cost true r at s = changed_cost r at s
  written_cost false r at s = refl

  pub put_cost : (o f : ℕ) (adds : Bool) (v : Value) (at : Place) (s : State E) → (put o f adds v at s).1.cost ≡ s.cost
  unfolding put
  put_cost o f adds v at s = let vs : List Value = slot_items (is_single s.store.metas f) v in written_cost (are_fit s.store o f vs) (write s.store o f (op_of adds) vs) at s

  pub caught_cost : (r : Result (Unit {0}) Exit) (t : State E) → (caught_in r t).1.cost ≡ t.cost
  caught_cost (Ok u) t = refl
  caught_cost (Err (Returned v)) t = refl
  caught_cost (Err (Ends e)) t = refl

  pub given_cost : (r : Result (Unit {0}) Exit) (t : State E) → (given_in r t).1.cost ≡ t.cost
  given_cost (Ok u) t = refl
  given_cost (Err (Returned None)) t = refl
  given_cost (Err (Returned (Some v))) t = refl
  given_cost (Err (Ends e)) t = refl

  pub owned_cost : {A : Type 0} (r : Result A Exit) (t s : State E) → (own_in r t s).1.cost ≡ t.cost
  owned_cost (Ok a) t s = refl
  owned_cost (Err e) t s = refl
