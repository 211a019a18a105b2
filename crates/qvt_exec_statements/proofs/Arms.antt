-- The arms of an `if`, one after another.
use Rattle.std.proofs.Common.{◌≡◌, ◌∙◌, ℕ, ◌<◌, ◌≤◌, ◌+◌, zero, suc, refl, sym, ap, subst, Bool, true, false, if◌then◌else◌, List, [], ◌∷◌, length, drop, Result, Ok, Err, IsErrAnd, arith}
use Rattle.std.proofs.Math.Seq.{drop-cons}
use Rattle.std.proofs.Math.ListN.{get_or}
use Rattle.qvt_run_data.specs.declared.exit.Exit.{Exit}
use Rattle.qvt_run_data.specs.declared.exit.Halt.{Halt}
use Rattle.qvt_run_data.specs.declared.late.LateWrite.{LateWrite}
use Rattle.qvt_run_rules.specs.State.{State, Done, Does, on_outcome, pure}
use Rattle.qvt_run_rules.specs.Statements as statement
use Rattle.qvt_types_nodes.specs.Tree.{TypedArmTerm, TypedArmOf}
use Rattle.qvt_types_nodes.specs.View.{typed_arm_view}
use Rattle.qvt_types_nodes.specs.declared.tree.TypedArm.{TypedArm}
use Rattle.qvt_exec_resolves.specs.Nodes.{place_of}
use Rattle.qvt_exec_resolves.specs.Phrases as phrase
use Rattle.qvt_exec_state.specs.Runs.{Runs, seen}
use Rattle.qvt_exec_state.specs.declared.state.RunState.{RunState}
use Rattle.qvt_exec_leaves.proofs.Ends.{ends}
use Rattle.qvt_exec_phrases.specs.Means.{Scene, arms_of, setting_of}
use Rattle.qvt_exec_statements.specs.Arms.{arm_turn}

-- nothing more where the condition was true, else these
abbrev pub unless_made : Does LateWrite (Unit {0}) → Bool → Does LateWrite (Unit {0})
unless_made other made = if made then pure tt else other

abbrev pub after_turn : Does LateWrite (Unit {0}) → Done LateWrite Bool → Done LateWrite (Unit {0})
after_turn other d = on_outcome d.0 d.1 (unless_made other)

whole : (d : Done LateWrite (Unit {0})) (other : Does LateWrite (Unit {0})) → d ≡ after_turn other (on_outcome d.0 d.1 (λ _. pure true))
whole (Ok u, s) other = refl
whole (Err e, s) other = refl

-- a test that gave this, and then the body or the others
tested : (body other : Does LateWrite (Unit {0})) (r : Result Bool Exit) (s : State LateWrite) →
    on_outcome r s (λ b. if b then body else other) ≡ after_turn other (on_outcome r s (λ b. if b then (λ t. on_outcome (body t).0 (body t).1 (λ _. pure true)) else pure false))
tested body other (Ok true) s = whole (body s) other
tested body other (Ok false) s = refl
tested body other (Err e) s = refl

-- an arm is a turn, and the others where its condition was false
one_arm : (x : Scene) (a : TypedArmTerm) (other : Does LateWrite (Unit {0})) (s : State LateWrite) →
    phrase.arm (setting_of x) x.1.calls x.0.answer.now a other s ≡ after_turn other (arm_turn x a s)
unfolding phrase.arm statement.branch statement.turn
one_arm x (TypedArmOf c ss) other s =
    let d = statement.holds (phrase.expr (setting_of x) x.1.calls x.0.answer.now c) (place_of c) s in
    tested (statement.block (phrase.stmts (setting_of x) x.1.calls x.0.answer.now ss)) other d.0 d.1

first_arm : (x : Scene) (a : TypedArm) (arms : List TypedArm) (other : Does LateWrite (Unit {0})) (s : State LateWrite) →
    arms_of x (a ∷ arms) other s ≡ after_turn (arms_of x arms other) (arm_turn x (typed_arm_view a) s)
unfolding arms_of phrase.arms
first_arm x a arms other s = one_arm x (typed_arm_view a) (arms_of x arms other) s

module _ (x : Scene) (other : Does LateWrite (Unit {0})) (arms : List TypedArm) (n : ℕ) (a : TypedArm) (within : n < length arms) (is : a ≡ get_or arms n a) (s : State LateWrite) (d : Done LateWrite (Unit {0})) (before : arms_of x (drop n arms) other s ≡ d) where
  this_arm : after_turn (arms_of x (drop (n + 1) arms) other) (arm_turn x (typed_arm_view a) s) ≡ d
  this_arm =
      let next_is : suc n ≡ n + 1 = omega arith in
      sym (ap (λ (l : List TypedArm). arms_of x l other s) (drop-cons arms n a within) ∙ first_arm x (get_or arms n a) (drop (suc n) arms) other s
      ∙ ap (λ (k : TypedArm). after_turn (arms_of x (drop (suc n) arms) other) (arm_turn x (typed_arm_view k) s)) (sym is)
      ∙ ap (λ m. after_turn (arms_of x (drop m arms) other) (arm_turn x (typed_arm_view a) s)) next_is) ∙ before

  -- its condition or its body ends it
  pub arm_ends : (h : Halt) (r : Result (Unit {0}) Halt) (t : RunState) → Runs (arm_turn x (typed_arm_view a) s) (Err h) t → IsErrAnd r (λ e. e ≡ h) → Runs d r t
  arm_ends h r t on err = ends (arm_turn x (typed_arm_view a) s) (unless_made (arms_of x (drop (n + 1) arms) other)) d h r t (sym this_arm) on err

  -- its condition was true
  pub arm_made : (t : RunState) (made : Bool) → arm_turn x (typed_arm_view a) s ≡ (Ok made, seen t) → made ≡ true → d ≡ (Ok tt, seen t)
  arm_made t made on true_is =
      sym this_arm ∙ ap (after_turn (arms_of x (drop (n + 1) arms) other)) (on ∙ ap (λ b. (Ok b, seen t)) true_is)

  -- its condition was false
  pub arm_passed : (t : State LateWrite) (made : Bool) → arm_turn x (typed_arm_view a) s ≡ (Ok made, t) → made ≡ false → arms_of x (drop (n + 1) arms) other t ≡ d
  arm_passed t made on false_is =
      sym (ap (after_turn (arms_of x (drop (n + 1) arms) other)) (on ∙ ap (λ b. (Ok b, t)) false_is)) ∙ this_arm

-- behind the last of them
arms_over : (x : Scene) (other : Does LateWrite (Unit {0})) (arms : List TypedArm) (n : ℕ) → length arms ≤ n → arms_of x (drop n arms) other ≡ other
unfolding arms_of phrase.arms
arms_over x other [] zero h = refl
arms_over x other [] (suc n) h = refl
arms_over x other (a ∷ arms) zero h = absurd (omega (arith, h))
arms_over x other (a ∷ arms) (suc n) h = arms_over x other arms n (omega (arith, h))

pub others_run : (x : Scene) (other : Does LateWrite (Unit {0})) (arms : List TypedArm) (n : ℕ) (s : State LateWrite) (d : Done LateWrite (Unit {0})) (r : Result (Unit {0}) Halt) (t : RunState) → length arms ≤ n → arms_of x (drop n arms) other s ≡ d → Runs (other s) r t → Runs d r t
others_run x other arms n s d r t over before runs =
    subst (λ (e : Done LateWrite (Unit {0})). Runs e r t) (sym (ap (λ (p : Does LateWrite (Unit {0})). p s) (arms_over x other arms n over)) ∙ before) runs
