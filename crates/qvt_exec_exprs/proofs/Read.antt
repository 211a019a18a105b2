-- An Integer, or a variable that holds one, is a literal of that number.
use Rattle.std.proofs.Common.{◌≡◌, ◌∙◌, ℕ, ℤ, refl, sym, ap, List, Option, Some, None, Result, Ok, Err}
use Rattle.qvt_base.specs.declared.numbers.Place.{Place}
use Rattle.qvt_types_data.specs.declared.note.Reading.{Reading}
use Rattle.qvt_types_data.specs.declared.note.Reading.TheVariants.{Variable}
use Rattle.qvt_types_data.specs.declared.ty.Ty.{Ty}
use Rattle.qvt_types_nodes.specs.Tree.{TypedExprTerm, TypedIntExpr, TypedPathExpr}
use Rattle.qvt_types_nodes.specs.View.{typed_expr_view}
use Rattle.qvt_types_nodes.specs.declared.tree.TypedExpr.{TypedExpr}
use Rattle.qvt_value.specs.declared.value.Value.{Value, Int}
use Rattle.qvt_run_data.specs.declared.exit.Exit.{Exit}
use Rattle.qvt_run_data.specs.declared.late.LateWrite.{LateWrite}
use Rattle.qvt_run_rules.specs.Calls.{CallRule}
use Rattle.qvt_run_rules.specs.Cost.{spend_of}
use Rattle.qvt_run_rules.specs.Expressions as rule
use Rattle.qvt_run_rules.specs.Locals.{local_named, value_in, read}
use Rattle.qvt_run_rules.specs.State.{State, on_outcome, pure, found}
use Rattle.qvt_meaning.specs.Phrases as of
use Rattle.qvt_meaning.specs.Readings as by
use Rattle.qvt_meaning.specs.Readings.{Setting}
use Rattle.qvt_exec_quiet.specs.Leaves.{IsQuiet}
use Rattle.qvt_exec_quiet.proofs.Leaving.{quiet_spend}
use Rattle.qvt_exec_steps.specs.Means.{Scene, expr_of, setting_of}
use Rattle.qvt_exec_exprs.specs.Numbers.{integer_in, number_in, number_read}

same_number : (m n : ℤ) → Some m ≡ Some n → m ≡ n
same_number m n h = cc

held_is : (n : ℤ) (o : Option Value) → Some n ≡ integer_in o → o ≡ Some (Int n)
held_is n (Some (Int m)) h = ap (λ (k : ℤ). Some (Int k)) (sym (same_number n m h))
held_is n (Some v) h = absurd (cc)
held_is n None h = absurd (cc)

module _ (x : Setting LateWrite) (calls : CallRule LateWrite) (answer : Option Ty) (charges : IsQuiet (x.spend 1)) where
  -- what is read behind a charge stands there before it
  after : (name : List ℕ) (at : Place) (n : ℤ) (s t : State LateWrite) (o : Result (Unit {0}) Exit) → value_in (local_named name s.locals) ≡ Some (Int n) → t ≡ record s { cost = t.cost } →
      on_outcome o t (λ u. pure (Int n)) ≡ on_outcome o t (λ u. read name at)
  unfolding read
  after name at n s t (Err e) h q = refl
  after name at n s t (Ok u) h q = sym (ap (λ (v : Option Value). found v at t) (ap (λ (w : State LateWrite). value_in (local_named name w.locals)) q ∙ h))

  by_reading : (r : Reading) (source : Option (List ℕ)) (at : Place) (n : ℤ) (s : State LateWrite) → Some n ≡ number_read r s.locals → rule.literal x.spend (Int n) s ≡ by.name_of x.spend r source at s
  unfolding rule.literal rule.variable
  by_reading (Variable name) source at n s h = after name at n s (x.spend 1 s).1 (x.spend 1 s).0 (held_is n (value_in (local_named name s.locals)) h) (charges.leaves s)
  by_reading r source at n s h = absurd (cc)

  by_view : (e : TypedExprTerm) (n : ℤ) (s : State LateWrite) → Some n ≡ number_in e s.locals → rule.literal x.spend (Int n) s ≡ of.expr x calls answer e s
  unfolding of.expr
  by_view (TypedIntExpr v at m) n s h = ap (λ (k : ℤ). rule.literal x.spend (Int k) s) (same_number n v h)
  by_view (TypedPathExpr p) n s h = by_reading p.note.reading p.note.source p.place n s h
  by_view e n s h = absurd (cc)

pub number_is : (x : Scene) (node : TypedExpr) (n : ℤ) (s : State LateWrite) → Some n ≡ number_in (typed_expr_view node) s.locals → rule.literal (spend_of x.0.limit) (Int n) s ≡ expr_of x node s
unfolding expr_of
number_is x node n s h = by_view (setting_of x) x.1.calls x.0.answer.now (quiet_spend x.0.limit 1) (typed_expr_view node) n s h
