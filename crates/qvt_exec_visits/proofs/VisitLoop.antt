-- A loop that goes from visit to visit, with so many bodies at most: it has come to an item, and what is left is what all is.
use Rattle.std.proofs.Common.{◌≡◌, ◌∙◌, ℕ, suc, true, false, refl, sym, ap, subst, Option, Some, None, Result, Ok, Err, IsErrAnd}
use Rattle.qvt_base.specs.declared.numbers.Place.{Place}
use Rattle.qvt_value.specs.declared.value.Value.{Value, Invalid}
use Rattle.qvt_value.specs.Limits.{built}
use Rattle.qvt_value.specs.Make.{is_invalid}
use Rattle.qvt_run_data.specs.declared.exit.End.TheVariants.{OutOfFuel}
use Rattle.qvt_run_data.specs.declared.exit.Exit.TheVariants.{Ends}
use Rattle.qvt_run_data.specs.declared.exit.Halt.{Halt}
use Rattle.qvt_run_data.specs.declared.exit.Halt.TheVariants.{Exits, NoMemory}
use Rattle.qvt_run_data.specs.declared.late.LateWrite.{LateWrite}
use Rattle.qvt_run_rules.specs.State.{State, Done, Does, pure, on_outcome}
use Rattle.qvt_run_rules.specs.Sources.{reached_kind, unless_invalid}
use Rattle.qvt_exec_state.specs.Runs.{Runs, seen}
use Rattle.qvt_exec_state.specs.declared.state.RunState.{RunState}
use Rattle.qvt_exec_visits.specs.Visited.{Visited, visited, GivesVisited, IsNextItem, TakesBodyValue, rest_of}
use Rattle.qvt_exec_visits.proofs.VisitLaw.{visit, at_end}

valid_goes : (g : Value) (q : Does LateWrite Value) → is_invalid g ≡ false → unless_invalid g q ≡ q
valid_goes (Invalid r p) q e = cc
valid_goes g q e = refl

invalid_ends : (g : Value) (q : Does LateWrite Value) → is_invalid g ≡ true → unless_invalid g q ≡ pure g
invalid_ends (Invalid r p) q e = refl
invalid_ends g q e = cc

module _ (at : Place) (f : Value → Does LateWrite Value) where
  -- what is left, from the outcome of the body on
  abbrev onward : ℕ → Visited → Value → Done LateWrite Value → Done LateWrite Value
  onward n w x d = on_outcome d.0 d.1 (λ g. unless_invalid g (rest_of at f n (visited w x g)))

  -- the loop has come to the item: what is left is what all is, with n bodies at most, and m behind this one
  pub record IsAt (d : Done LateWrite Value) (n m : ℕ) (v w : Visited) (o : Option Value) (x : Value) (s : State LateWrite) : Type 0 where
    pub same : rest_of at f n v s ≡ d
    pub more : n ≡ suc m
    pub next : IsNextItem v o w
    pub item : o ≡ Some x

  opened : (d : Done LateWrite Value) (n m : ℕ) (v w : Visited) (o : Option Value) (x : Value) (s : State LateWrite) → IsAt d n m v w o x s → d ≡ onward m w x (f x s)
  opened d n m v w o x s is =
      let next : IsNextItem v (Some x) w = subst (λ (z : Option Value). IsNextItem v z w) is.item is.next in
      sym is.same ∙ ap (λ k. rest_of at f k v s) is.more ∙ ap (λ (p : Does LateWrite Value). p s) (visit at f m v w x next)

  behind : (d : Done LateWrite Value) (n m : ℕ) (v w : Visited) (o : Option Value) (x g : Value) (s : State LateWrite) (u : RunState) → IsAt d n m v w o x s → Runs (f x s) (Ok g) u →
      d ≡ unless_invalid g (rest_of at f m (visited w x g)) (seen u)
  behind d n m v w o x g s u is ran = opened d n m v w o x s is ∙ ap (onward m w x) ran

  -- the body ends it
  pub body_ends : (d : Done LateWrite Value) (n m : ℕ) (v w : Visited) (o : Option Value) (x : Value) (s : State LateWrite) (h : Halt) (r : Result Value Halt) (u : RunState) → IsAt d n m v w o x s →
      Runs (f x s) (Err h) u → IsErrAnd r (λ e. e ≡ h) → Runs d r u
  body_ends d n m v w o x s h (Ok a) u is ran err = absurd err
  body_ends d n m v w o x s NoMemory (Err e) u is ran err = subst (λ (z : Halt). Runs d (Err z) u) (sym err) tt
  body_ends d n m v w o x s (Exits q) (Err e) u is ran err = subst (λ (z : Halt). Runs d (Err z) u) (sym err) (opened d n m v w o x s is ∙ ap (onward m w x) ran)

  -- the visit ends it
  pub visit_ends : (d : Done LateWrite Value) (n m : ℕ) (v w t : Visited) (o e : Option Value) (x g a : Value) (s : State LateWrite) (u : RunState) → IsAt d n m v w o x s → Runs (f x s) (Ok g) u →
      TakesBodyValue w x g e t → e ≡ Some a → d ≡ (Ok a, seen u)
  visit_ends d n m v w t o e x g a s u is ran took ended =
      let given : TakesBodyValue w x g (Some a) t = subst (λ (z : Option Value). TakesBodyValue w x g z t) ended took in
      behind d n m v w o x g s u is ran ∙ ap (λ (p : Does LateWrite Value). p (seen u)) (invalid_ends g (rest_of at f m (visited w x g)) given.0)
      ∙ ap (λ (z : Value). (Ok z, seen u)) (sym given.1)

  -- it goes on
  pub visit_goes_on : (d : Done LateWrite Value) (n m : ℕ) (v w t : Visited) (o e : Option Value) (x g : Value) (s : State LateWrite) (u : RunState) → IsAt d n m v w o x s → Runs (f x s) (Ok g) u →
      TakesBodyValue w x g e t → e ≡ None → rest_of at f m t (seen u) ≡ d
  visit_goes_on d n m v w t o e x g s u is ran took on =
      let given : TakesBodyValue w x g None t = subst (λ (z : Option Value). TakesBodyValue w x g z t) on took in
      ap (λ (z : Visited). rest_of at f m z (seen u)) given.1
      ∙ sym (behind d n m v w o x g s u is ran ∙ ap (λ (p : Does LateWrite Value). p (seen u)) (valid_goes g (rest_of at f m (visited w x g)) given.0))

  -- it would go on, and no body more may be evaluated
  pub last_visit : (d : Done LateWrite Value) (n : ℕ) (v w t : Visited) (o e : Option Value) (x g : Value) (s : State LateWrite) (u : RunState) → IsAt d n 0 v w o x s → Runs (f x s) (Ok g) u →
      TakesBodyValue w x g e t → e ≡ None → d ≡ (Err (Ends OutOfFuel), seen u)
  last_visit d n v w t o e x g s u is ran took on = sym (visit_goes_on d n 0 v w t o e x g s u is ran took on)

  -- no item is left that was not visited
  pub all_visited : (d : Done LateWrite Value) (n m : ℕ) (v w : Visited) (o : Option Value) (r : Result Value Halt) (u : RunState) → rest_of at f n v (seen u) ≡ d → n ≡ suc m →
      IsNextItem v o w → o ≡ None → GivesVisited (built at (reached_kind w.kind) w.done) r → Runs d r u
  all_visited d n m v w o (Ok a) u same more next none gives =
      sym same ∙ ap (λ k. rest_of at f k v (seen u)) more
      ∙ ap (λ (p : Does LateWrite Value). p (seen u)) (at_end at f m v w (subst (λ (z : Option Value). IsNextItem v z w) none next))
      ∙ ap (λ (z : Value). (Ok z, seen u)) (sym gives)
  all_visited d n m v w o (Err NoMemory) u same more next none gives = tt
  all_visited d n m v w o (Err (Exits q)) u same more next none gives = absurd gives
