-- A loop that feeds an iterator: it has come to an item, and what is left is what all is.
use Rattle.std.proofs.Common.{◌≡◌, ◌∙◌, ℕ, zero, suc, ◌+◌, ◌<◌, ◌≤◌, refl, sym, ap, subst, List, [], ◌∷◌, length, drop, Option, Some, None, Result, Ok, Err, IsErrAnd, arith}
use Rattle.std.proofs.Math.Seq.{drop-cons}
use Rattle.std.proofs.Math.ListN.{get_or}
use Rattle.qvt_base.specs.declared.numbers.Place.{Place}
use Rattle.qvt_value.specs.declared.value.Value.{Value}
use Rattle.qvt_run_data.specs.declared.exit.Halt.{Halt}
use Rattle.qvt_run_data.specs.declared.exit.Halt.TheVariants.{Exits, NoMemory}
use Rattle.qvt_run_data.specs.declared.late.LateWrite.{LateWrite}
use Rattle.qvt_run_rules.specs.State.{State, Done, Does, on_outcome}
use Rattle.qvt_exec_state.specs.Runs.{Runs, seen}
use Rattle.qvt_exec_state.specs.declared.state.RunState.{RunState}
use Rattle.qvt_exec_loops.specs.Turns.{after_of, rest_of, Finds, Takes}
use Rattle.qvt_exec_loops.specs.declared.turns.Turns.{Turns}
use Rattle.qvt_exec_loops.proofs.TurnLaw.{turned}

next : (xs : List Value) (n : ℕ) (x : Value) → n < length xs → x ≡ get_or xs n x → drop n xs ≡ x ∷ drop (n + 1) xs
next xs n x within is =
    let e : suc n ≡ n + 1 = omega arith in
    drop-cons xs n x within ∙ ap (λ y. y ∷ drop (suc n) xs) (sym is) ∙ ap (λ m. x ∷ drop m xs) e

none_left : (xs : List Value) (n : ℕ) → length xs ≤ n → drop n xs ≡ []
none_left [] zero h = refl
none_left [] (suc n) h = refl
none_left (x ∷ xs) zero h = absurd (omega (arith, h))
none_left (x ∷ xs) (suc n) h = none_left xs n (omega (arith, h))

module _ (at : Place) (f : Value → Does LateWrite Value) where
  -- what is left, from the outcome of the body on
  abbrev onward : Turns → Value → List Value → Done LateWrite Value → Done LateWrite Value
  onward t x xs d = on_outcome d.0 d.1 (after_of at f t x xs)

  -- the loop has come to the item
  pub record IsAt (d : Done LateWrite Value) (t : Turns) (xs : List Value) (n : ℕ) (x : Value) (s : State LateWrite) : Type 0 where
    pub same : rest_of at f t (drop n xs) s ≡ d
    pub within : n < length xs
    pub item : x ≡ get_or xs n x

  opened : (d : Done LateWrite Value) (t : Turns) (xs : List Value) (n : ℕ) (x : Value) (s : State LateWrite) → IsAt d t xs n x s → d ≡ onward t x (drop (n + 1) xs) (f x s)
  opened d t xs n x s is =
      sym is.same ∙ ap (λ ys. rest_of at f t ys s) (next xs n x is.within is.item)
      ∙ ap (λ (p : Does LateWrite Value). p s) (turned at f t x (drop (n + 1) xs))

  behind : (d : Done LateWrite Value) (t : Turns) (xs : List Value) (n : ℕ) (x w : Value) (s : State LateWrite) (u : RunState) → IsAt d t xs n x s → Runs (f x s) (Ok w) u → d ≡ after_of at f t x (drop (n + 1) xs) w (seen u)
  behind d t xs n x w s u is ran = opened d t xs n x s is ∙ ap (onward t x (drop (n + 1) xs)) ran

  -- the body ends it
  pub body_ends : (d : Done LateWrite Value) (t : Turns) (xs : List Value) (n : ℕ) (x : Value) (s : State LateWrite) (h : Halt) (r : Result Value Halt) (u : RunState) → IsAt d t xs n x s → Runs (f x s) (Err h) u → IsErrAnd r (λ e. e ≡ h) → Runs d r u
  body_ends d t xs n x s h (Ok v) u is ran err = absurd err
  body_ends d t xs n x s NoMemory (Err e) u is ran err = subst (λ (z : Halt). Runs d (Err z) u) (sym err) tt
  body_ends d t xs n x s (Exits o) (Err e) u is ran err = subst (λ (z : Halt). Runs d (Err z) u) (sym err) (opened d t xs n x s is ∙ ap (onward t x (drop (n + 1) xs)) ran)

  -- its turn ends it
  pub turn_ends : (d : Done LateWrite Value) (t : Turns) (xs : List Value) (n : ℕ) (x w : Value) (s : State LateWrite) (q : Does LateWrite Value) (h : Halt) (r : Result Value Halt) (u : RunState) → IsAt d t xs n x s → Runs (f x s) (Ok w) u →
      Takes (after_of at f t x (drop (n + 1) xs) w) (Err h) q → IsErrAnd r (λ e. e ≡ h) → Runs d r u
  turn_ends d t xs n x w s q h (Ok v) u is ran took err = absurd err
  turn_ends d t xs n x w s q NoMemory (Err e) u is ran took err = subst (λ (z : Halt). Runs d (Err z) u) (sym err) tt
  turn_ends d t xs n x w s q (Exits o) (Err e) u is ran took err = subst (λ (z : Halt). Runs d (Err z) u) (sym err) (behind d t xs n x w s u is ran ∙ took (seen u))

  -- its turn gives the value
  pub turn_gives : (d : Done LateWrite Value) (t : Turns) (xs : List Value) (n : ℕ) (x w : Value) (s : State LateWrite) (q : Does LateWrite Value) (o : Option Value) (v : Value) (u : RunState) → IsAt d t xs n x s → Runs (f x s) (Ok w) u →
      Takes (after_of at f t x (drop (n + 1) xs) w) (Ok o) q → o ≡ Some v → d ≡ (Ok v, seen u)
  turn_gives d t xs n x w s q o v u is ran took e =
      let given : Takes (after_of at f t x (drop (n + 1) xs) w) (Ok (Some v)) q = subst (λ (z : Option Value). Takes (after_of at f t x (drop (n + 1) xs) w) (Ok z) q) e took in
      behind d t xs n x w s u is ran ∙ given (seen u)

  -- it goes on
  pub turn_goes_on : (d : Done LateWrite Value) (t : Turns) (xs : List Value) (n : ℕ) (x w : Value) (s : State LateWrite) (q : Does LateWrite Value) (o : Option Value) (u : RunState) → IsAt d t xs n x s → Runs (f x s) (Ok w) u →
      Takes (after_of at f t x (drop (n + 1) xs) w) (Ok o) q → o ≡ None → q (seen u) ≡ d
  turn_goes_on d t xs n x w s q o u is ran took e =
      let on : Takes (after_of at f t x (drop (n + 1) xs) w) (Ok None) q = subst (λ (z : Option Value). Takes (after_of at f t x (drop (n + 1) xs) w) (Ok z) q) e took in
      sym (behind d t xs n x w s u is ran ∙ on (seen u))

  -- no item is left
  pub all_taken : (d : Done LateWrite Value) (t : Turns) (xs : List Value) (n : ℕ) (r : Result Value Halt) (u : RunState) → rest_of at f t (drop n xs) (seen u) ≡ d → length xs ≤ n → Finds (rest_of at f t []) r → Runs d r u
  all_taken d t xs n (Ok v) u same left finds = sym same ∙ ap (λ ys. rest_of at f t ys (seen u)) (none_left xs n left) ∙ finds (seen u)
  all_taken d t xs n (Err NoMemory) u same left finds = tt
  all_taken d t xs n (Err (Exits o)) u same left finds = sym same ∙ ap (λ ys. rest_of at f t ys (seen u)) (none_left xs n left) ∙ finds (seen u)
