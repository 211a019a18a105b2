-- What goes over the items of a collection, and what it gives of a value that is none.
use Rattle.std.proofs.Common.{◌≡◌, ◌∙◌, ℕ, Bool, false, refl, sym, ap, subst, List, Option, Result, Ok}
use Rattle.qvt_base.specs.declared.numbers.Place.{Place}
use Rattle.qvt_value.specs.declared.value.Value.{Value, Coll', Invalid, items_hidden-the_row-Value-0}
use Rattle.qvt_value.specs.declared.value.Value.TheViews.{Coll}
use Rattle.qvt_value.specs.declared.value.Kind.{Kind}
use Rattle.qvt_value.specs.Make.{is_collection}
use Rattle.qvt_run_data.specs.declared.exit.Halt.{Halt}
use Rattle.qvt_run_data.specs.declared.late.LateWrite.{LateWrite}
use Rattle.qvt_exec_state.specs.Held.{contents_of}
use Rattle.qvt_run_rules.specs.Cost.{spend_of}
use Rattle.qvt_run_rules.specs.Expressions.{select_class, selected}
use Rattle.qvt_run_rules.specs.State.{State, Done, Does, on_outcome, found, look}
use Rattle.qvt_run_rules.specs.Sources.{over_items}
use Rattle.qvt_exec_state.specs.Runs.{Runs, seen}
use Rattle.qvt_exec_state.specs.declared.state.RunState.{RunState}
use Rattle.qvt_exec_leaves.specs.Leaves.{without_items}

pub over_coll : (at : Place) (f : Kind → List Value → Does LateWrite Value) (k : Kind) (vs : List Value) → over_items at f (Coll k vs) ≡ f k vs
over_coll at f k vs = ap (f k) (items_hidden-the_row-Value-0 vs)

pub over_none : (at : Place) (f : Kind → List Value → Does LateWrite Value) (v : Value) (t : RunState) → is_collection v ≡ false → Runs (over_items at f v (seen t)) (without_items v at) t
over_none at f (Coll' k s r) t h = cc
over_none at f (Invalid r p) t h = refl
over_none at f v t h = refl

-- a selection by class on the items of a collection
abbrev by_class : Bool → ℕ → Place → Kind → List Value → Does LateWrite Value
by_class exact c at = λ k vs. look (λ s. selected s.store exact c at k vs) at

pub class_selected : (limit : Option ℕ) (exact : Bool) (c : ℕ) (at : Place) (v : Value) (k : Kind) (vs : List Value) (kept : Option Value) (u : Unit {0}) (s : State LateWrite) (r : Result Value Halt) (t : RunState) →
    v ≡ Coll k vs → spend_of limit 1 s ≡ (Ok u, seen t) → kept ≡ selected (contents_of t.store) exact c at k vs → Runs (found kept at (seen t)) r t → Runs (select_class (spend_of limit) exact c at v s) r t
unfolding select_class
class_selected limit exact c at v k vs kept u s r t is ticked found_so runs =
    subst (λ (d : Done LateWrite (Unit {0})). Runs (on_outcome d.0 d.1 (λ _. over_items at (by_class exact c at) v)) r t) (sym ticked)
    (subst (λ (p : Does LateWrite Value). Runs (p (seen t)) r t) (sym (ap (over_items at (by_class exact c at)) is ∙ over_coll at (by_class exact c at) k vs))
    (subst (λ (o : Option Value). Runs (found o at (seen t)) r t) found_so runs))
