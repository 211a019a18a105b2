-- With two fuels and one bound of turns, what a phrase does agrees as long as its cost is within the smaller fuel: it is the same, or with
-- the smaller fuel it ends out of fuel, and with the larger one its cost passes the smaller, or it ends out of fuel too.
use Rattle.std.proofs.Common.{◌≡◌, ◌∙◌, ◌⊎◌, inl, inr, ℕ, zero, suc, ◌+◌, ◌≤◌, ◌<◌, Bool, true, false, nat_lt, if◌then◌else◌, refl, sym, ap, subst, List, [], ◌∷◌, ◌++◌, length, Option, Some, None, Result, Ok, Err, arith, ltb-true, ltb-false}
use Rattle.qvt_base.specs.declared.numbers.Oid.{Oid}
use Rattle.qvt_base.specs.declared.numbers.Place.{Place}
use Rattle.qvt_typing.specs.Accepts.{ProgramTerm}
use Rattle.qvt_value.specs.declared.value.Value.{Value, Null, Bool as Truth, Invalid}
use Rattle.qvt_value.specs.declared.value.Kind.{Kind}
use Rattle.qvt_run_data.specs.declared.exit.End.TheVariants.{OutOfFuel}
use Rattle.qvt_run_data.specs.declared.exit.Exit.{Exit}
use Rattle.qvt_run_data.specs.declared.exit.Exit.TheVariants.{Ends}
use Rattle.qvt_run_data.specs.declared.late.LateWrite.{LateWrite}
use Rattle.qvt_run_data.specs.declared.local.Local.{Local}
use Rattle.qvt_run_data.specs.declared.record.Key.{Key}
use Rattle.qvt_run_rules.specs.State.{State, Done, Does, on_outcome, ◌>>=◌, ◌>>◌, pure, exits, ask, misfit, caught_in, caught}
use Rattle.qvt_run_rules.specs.Cost.{charge}
use Rattle.qvt_run_rules.specs.Locals.{fixed, name_in, push, replace, scoped, with_locals, inside, cut, out_of, under, begun, own_in, in_frame, in_own}
use Rattle.qvt_run_rules.specs.Store.{new_object, put}
use Rattle.qvt_run_rules.specs.Trace.{result_for, has_key}
use Rattle.qvt_run_rules.specs.Sources as source
use Rattle.qvt_run_rules.specs.Iterators.{unvisited, for_item, closure_from}
use Rattle.qvt_run_rules.specs.Statements.{statement, loop, turn, holds, truth}
use Rattle.qvt_run_rules.specs.Calls.{given_in, given}
use Rattle.qvt_run_rules.specs.Mappings as of
use Rattle.qvt_run_rules.specs.Mappings.{MadeResult, BegunCall, Known, Ended, New, note, once, with_key}
use Rattle.qvt_run_rules.specs.Resolve.{ResolveAnswer, FoundOrEnded, Objects, Undefined, Stopped, answer_value, answered_now, late_write}
use Rattle.qvt_meaning.specs.Plain.{answer}
use Rattle.qvt_meaning.specs.Run.{entered}
use Rattle.qvt_meaning_laws.proofs.Closed.{Closed}
use Rattle.qvt_meaning_laws.proofs.Lates.{lates}
use Rattle.qvt_run_laws.specs.Fuel.{bounded}
use Rattle.qvt_run_laws.proofs.Steady.{made_cost, put_cost, caught_cost, given_cost, owned_cost}

abbrev pub IsOut : {A : Type 0} → Result A Exit → Type 0
IsOut r = r ≡ Err (Ends OutOfFuel)

module _ {E : Type 0} (f g : ℕ) (more : f ≤ g) where
  -- out of fuel, or past f
  abbrev pub Passes : {A : Type 0} → Done E A → Type 0
  Passes d = IsOut d.0 ⊎ (f < d.1.cost)

  abbrev pub Agrees : {A : Type 0} → Done E A → Done E A → Type 0
  Agrees d e = ((d ≡ e) × (e.1.cost ≤ f)) ⊎ (IsOut d.0 × Passes e)

  -- and the cost does not fall
  abbrev pub Agree : (A : Type 0) → Does E A → Does E A → Type 0
  Agree A p q = (s : State E) → (s.cost ≤ (q s).1.cost) × (s.cost ≤ f → Agrees (p s) (q s))

  -- One after another.

  same_on : {A B : Type 0} (h k : A → Does E B) → ((a : A) → Agree B (h a) (k a)) → (r : Result A Exit) (t : State E) → t.cost ≤ f → Agrees (on_outcome r t h) (on_outcome r t k)
  same_on h k z (Ok a) t c = (z a t).1 c
  same_on h k z (Err x) t c = inl (refl, c)

  rises_on : {A B : Type 0} (h k : A → Does E B) → ((a : A) → Agree B (h a) (k a)) → (r : Result A Exit) (t : State E) (n : ℕ) → n ≤ t.cost → n ≤ (on_outcome r t k).1.cost
  rises_on h k z (Ok a) t n c = let w : t.cost ≤ (k a t).1.cost = (z a t).0 in omega arith
  rises_on h k z (Err x) t n c = c

  passes_on : {A B : Type 0} (h k : A → Does E B) → ((a : A) → Agree B (h a) (k a)) → (e : Done E A) → Passes e → Passes (on_outcome e.0 e.1 k)
  passes_on h k z e (inl o) = inl (ap (λ r. (on_outcome r e.1 k).0) o)
  passes_on h k z e (inr c) = inr (rises_on h k z e.0 e.1 (suc f) c)

  outcome : {A B : Type 0} (h k : A → Does E B) → ((a : A) → Agree B (h a) (k a)) → (d e : Done E A) → Agrees d e → Agrees (on_outcome d.0 d.1 h) (on_outcome e.0 e.1 k)
  outcome h k z d e (inl w) = subst (λ x. Agrees (on_outcome x.0 x.1 h) (on_outcome e.0 e.1 k)) (sym w.0) (same_on h k z e.0 e.1 w.1)
  outcome h k z d e (inr w) = inr (ap (λ r. (on_outcome r d.1 h).0) w.0, passes_on h k z e w.1)

  pub binds : {A B : Type 0} (p q : Does E A) (h k : A → Does E B) → Agree A p q → ((a : A) → Agree B (h a) (k a)) → Agree B (p >>= h) (q >>= k)
  binds p q h k e z = λ s. (rises_on h k z (q s).0 (q s).1 s.cost (e s).0, λ c. outcome h k z (p s) (q s) ((e s).1 c))

  -- what keeps the cost, with both fuels
  steady : {A : Type 0} (p : Does E A) → ((s : State E) → (p s).1.cost ≡ s.cost) → Agree A p p
  steady p e = λ s. (omega (arith, e s), λ c. inl (refl, omega (arith, e s, c)))

  pub pures : {A : Type 0} (a : A) → Agree A (pure a) (pure a)
  pures a = steady (pure a) (λ s. refl)

  pub picks : {A : Type 0} (b : Bool) (p p' q q' : Does E A) → Agree A p q → Agree A p' q' → Agree A (if b then p else p') (if b then q else q')
  picks true p p' q q' e k = e
  picks false p p' q q' e k = k

  -- Charges.

  abbrev charged : Bool → ℕ → State E → Done E (Unit {0})
  charged b n s = if b then (Err (Ends OutOfFuel), s) else (Ok tt, record s { cost = s.cost + n })

  charge_rises : (b : Bool) (n : ℕ) (s : State E) → s.cost ≤ (charged b n s).1.cost
  charge_rises true n s = omega arith
  charge_rises false n s = omega arith

  charge_agrees : (b c : Bool) (n : ℕ) (s : State E) → nat_lt f (s.cost + n) ≡ b → nat_lt g (s.cost + n) ≡ c → s.cost ≤ f → Agrees (charged b n s) (charged c n s)
  charge_agrees true true n s h k w = inl (refl, w)
  charge_agrees true false n s h k w = inr (refl, inr (ltb-true f (s.cost + n) h))
  charge_agrees false true n s h k w = let low : s.cost + n ≤ f = ltb-false f (s.cost + n) h in let high : g < s.cost + n = ltb-true g (s.cost + n) k in absurd (omega arith)
  charge_agrees false false n s h k w = inl (refl, ltb-false f (s.cost + n) h)

  pub spends : (n : ℕ) → Agree (Unit {0}) (charge f n) (charge g n)
  unfolding charge
  spends n = λ s. (charge_rises (nat_lt g (s.cost + n)) n s, λ c. charge_agrees (nat_lt f (s.cost + n)) (nat_lt g (s.cost + n)) n s refl refl c)

  -- What is done in a state of the same cost, and turned into another of the same.

  module _ {A B : Type 0} (m : State E → Result A Exit → State E → Done E B) (start : State E → State E)
      (cost : (s : State E) (r : Result A Exit) (t : State E) → (m s r t).1.cost ≡ t.cost) (out : (s t : State E) → IsOut (m s (Err (Ends OutOfFuel)) t).0)
      (first : (s : State E) → (start s).cost ≡ s.cost) where
    passes : (s : State E) (e : Done E A) → Passes e → Passes (m s e.0 e.1)
    passes s e (inl o) = inl (ap (λ r. (m s r e.1).0) o ∙ out s e.1)
    passes s e (inr c) = inr (omega (arith, cost s e.0 e.1, c))

    turned : (s : State E) (d e : Done E A) → Agrees d e → Agrees (m s d.0 d.1) (m s e.0 e.1)
    turned s d e (inl w) = inl (ap (λ x. m s x.0 x.1) w.0, omega (arith, cost s e.0 e.1, w.1))
    turned s d e (inr w) = inr (ap (λ r. (m s r d.1).0) w.0 ∙ out s d.1, passes s e w.1)

    pub wraps : (p q : Does E A) → Agree A p q → Agree B (λ s. m s (p (start s)).0 (p (start s)).1) (λ s. m s (q (start s)).0 (q (start s)).1)
    wraps p q e = λ s.
        let t : State E = start s in
        (omega (arith, first s, cost s (q t).0 (q t).1, (e t).0), λ c. turned s (p t) (q t) ((e t).1 (omega (arith, first s, c))))

  pushes : (v : Local) → Agree (Unit {0}) (push v) (push v)
  unfolding push
  pushes v = steady (push v) (λ s. refl)

  scopes : {A : Type 0} (p q : Does E A) → Agree A p q → Agree A (scoped p) (scoped q)
  unfolding scoped
  scopes p q e = wraps (λ s r t. cut (length s.locals) (r, t)) (λ s. s) (λ s r t. refl) (λ s t. refl) (λ s. refl) p q e

  withs : {A : Type 0} (h : List Local → List Local) (p q : Does E A) → Agree A p q → Agree A (λ s. with_locals (h s.locals) p s) (λ s. with_locals (h s.locals) q s)
  unfolding with_locals
  withs h p q e = wraps (λ s r t. cut (length s.locals) (r, t)) (λ s. record s { locals = s.locals ++ h s.locals }) (λ s r t. refl) (λ s t. refl) (λ s. refl) p q e

  insides : {A : Type 0} (o : Oid) (p q : Does E A) → Agree A p q → Agree A (inside o p) (inside o q)
  unfolding inside
  insides o p q e = wraps (λ s r t. out_of s.inner (r, t)) (λ s. record s { inner = Some o }) (λ s r t. refl) (λ s t. refl) (λ s. refl) p q e

  frames : {A : Type 0} (vs : List Local) (p q : Does E A) → Agree A p q → Agree A (in_frame vs p) (in_frame vs q)
  unfolding in_frame
  frames vs p q e = wraps (λ s r t. under s (r, t)) (λ s. begun vs s) (λ s r t. refl) (λ s t. refl) (λ s. refl) p q e

  owns : {A : Type 0} (vs : List Local) (p q : Does E A) → Agree A p q → Agree (A × List Local) (in_own vs p) (in_own vs q)
  unfolding in_own
  owns vs p q e = wraps (λ s r t. own_in r t s) (λ s. begun vs s) (λ s r t. owned_cost r t s) (λ s t. refl) (λ s. refl) p q e

  catches : (p q : Does E (Unit {0})) → Agree (Unit {0}) p q → Agree Bool (caught p) (caught q)
  unfolding caught
  catches p q e = wraps (λ s r t. caught_in r t) (λ s. s) (λ s r t. caught_cost r t) (λ s t. refl) (λ s. refl) p q e

  gives_back : (p q : Does E (Unit {0})) → Agree (Unit {0}) p q → Agree Value (given p) (given q)
  unfolding given
  gives_back p q e = wraps (λ s r t. given_in r t) (λ s. s) (λ s r t. given_cost r t) (λ s t. refl) (λ s. refl) p q e

  -- The trace.

  noted : (k : Key) (m : MadeResult) (x : BegunCall) → Agree BegunCall (of.noted_on k m x) (of.noted_on k m x)
  unfolding note
  noted k (Known r) x = pures x
  noted k (Ended None) x = pures x
  noted k (Ended (Some o)) x = steady (of.noted_on k (Ended (Some o)) x) (λ s. refl)
  noted k (New r) x = steady (of.noted_on k (New r) x) (λ s. refl)

  with_keys : {A : Type 0} (k : Key) (p q : Does E A) → Agree A p q → Agree A (with_key k p) (with_key k q)
  unfolding with_key
  with_keys k p q e = wraps (λ s r t. of.shut (length s.keys) (r, t)) (λ s. record s { keys = s.keys ++ k ∷ [] }) (λ s r t. refl) (λ s t. refl) (λ s. refl) p q e

  unless_open : (b : Bool) (at : Place) (p q : Does E BegunCall) → Agree BegunCall p q → Agree BegunCall (of.unless_open b at p) (of.unless_open b at q)
  unless_open true at p q e = steady (of.unless_open true at p) (λ s. refl)
  unless_open false at p q e = e

  unless_known : (o : Option (Option Oid)) (p q : Does E BegunCall) → Agree BegunCall p q → Agree BegunCall (of.unless_known o p) (of.unless_known o q)
  unless_known (Some r) p q e = pures (Known r, [])
  unless_known None p q e = e

  onces : (k : Key) (at : Place) (p q : Does E BegunCall) → Agree BegunCall p q → Agree BegunCall (once k at p) (once k at q)
  unfolding once
  onces k at p q e =
      let inner : Agree BegunCall (with_key k (p >>= of.noted k)) (with_key k (q >>= of.noted k))
      = with_keys k (p >>= of.noted k) (q >>= of.noted k) (binds p q (of.noted k) (of.noted k) e (λ x. noted k x.0 x)) in
      let free : Agree BegunCall (ask (λ s. has_key s.keys k) >>= (λ b. of.unless_open b at (with_key k (p >>= of.noted k)))) (ask (λ s. has_key s.keys k) >>= (λ b. of.unless_open b at (with_key k (q >>= of.noted k))))
      = λ s. unless_open (has_key s.keys k) at _ _ inner s in
      λ s. unless_known (result_for k s.trace) _ _ free s

  -- Loops.

  truths : (at : Place) (v : Value) → Agree Bool (truth at v) (truth at v)
  truths at (Truth b) = pures b
  truths at Null = steady (truth at Null) (λ s. refl)
  truths at (Invalid r i) = steady (truth at (Invalid r i)) (λ s. refl)
  truths at v = steady (misfit at) (λ s. refl)

  turns : (t u : Does E Value) (at : Place) (p q : Does E (Unit {0})) → Agree Value t u → Agree (Unit {0}) p q → Agree Bool (turn t at p) (turn u at q)
  unfolding turn
  turns t u at p q d e = binds (holds t at) (holds u at) (λ b. if b then p >> pure true else pure false) (λ b. if b then q >> pure true else pure false) (binds t u (truth at) (truth at) d (truths at))
      (λ b. picks b (p >> pure true) (pure false) (q >> pure true) (pure false) (binds p q (λ _. pure true) (λ _. pure true) e (λ _. pures true)) (pures false))

  loops : (n : ℕ) (t u : Does E Value) (at : Place) (p q : Does E (Unit {0})) → Agree Value t u → Agree (Unit {0}) p q → Agree (Unit {0}) (loop n t at p) (loop n u at q)
  unfolding loop
  loops zero t u at p q d e = steady (exits (Ends OutOfFuel)) (λ s. refl)
  loops (suc n) t u at p q d e = binds (turn t at p) (turn u at q) (λ b. if b then loop n t at p else pure tt) (λ b. if b then loop n u at q else pure tt) (turns t u at p q d e)
      (λ b. picks b (loop n t at p) (pure tt) (loop n u at q) (pure tt) (loops n t u at p q d e) (pures tt))

  statements : (p q : Does E (Unit {0})) → Agree (Unit {0}) p q → Agree (Unit {0}) (statement (charge f) p) (statement (charge g) q)
  unfolding statement
  statements p q e = binds (charge f 1) (charge g 1) (λ _. p) (λ _. q) (spends 1) (λ _. e)

  items : (name : Option (List ℕ)) (p q : Does E Value) → Agree Value p q → (v : Value) → Agree Value (for_item name p v) (for_item name q v)
  unfolding for_item
  items name p q e v = withs (λ vs. fixed (name_in vs name) v ∷ []) p q e

  unless_invalid : (w : Value) (p q : Does E Value) → Agree Value p q → Agree Value (source.unless_invalid w p) (source.unless_invalid w q)
  unless_invalid (Invalid r i) p q e = pures (Invalid r i)
  unless_invalid w p q e = e

  closures : (n : ℕ) (at : Place) (h k : Value → Does E Value) (kind : Kind) (done vs : List Value) → ((v : Value) → Agree Value (h v) (k v)) → Agree Value (closure_from at h n kind done vs) (closure_from at k n kind done vs)
  closures zero at h k kind done vs e = steady (exits (Ends OutOfFuel)) (λ s. refl)
  closures (suc n) at h k kind done [] e = pures _
  closures (suc n) at h k kind done (v ∷ vs) e =
      let rest : Value → List Value = λ w. unvisited (done ++ v ∷ []) (source.present_items (source.items_of w) ++ vs) in
      binds (h v) (k v) (λ w. source.unless_invalid w (closure_from at h n kind (done ++ v ∷ []) (rest w))) (λ w. source.unless_invalid w (closure_from at k n kind (done ++ v ∷ []) (rest w))) (e v)
      (λ w. unless_invalid w (closure_from at h n kind (done ++ v ∷ []) (rest w)) (closure_from at k n kind (done ++ v ∷ []) (rest w)) (closures n at h k kind (done ++ v ∷ []) (rest w) e))

  -- Resolves.

  values : (one : Bool) (a : FoundOrEnded) → Agree Value (answer_value one a) (answer_value one a)
  values one (Objects os) = steady (answer_value one (Objects os)) (λ s. refl)
  values one (Undefined r i) = steady (answer_value one (Undefined r i)) (λ s. refl)
  values one (Stopped e) = steady (answer_value one (Stopped e)) (λ s. refl)

  answers : (one : Bool) (a : ResolveAnswer) → Agree Value (answered_now (charge f) one a) (answered_now (charge g) one a)
  answers one a = binds (charge f a.cost) (charge g a.cost) (λ _. answer_value one a.found) (λ _. answer_value one a.found) (spends a.cost) (λ _. values one a.found)

  -- over the rules of two runs in which a loop has as many turns at most
  pub agree : (keep : LateWrite → E) (p : ProgramTerm) (n : ℕ) → Closed E E Agree (λ p q. Unit {0}) (bounded keep p f n) (bounded keep p g n)
  agree keep program n = record {
    binds = λ A B p q h k e z. binds p q h k e z;
    gives = λ A a. pures a;
    ends = λ A e. steady (exits e) (λ s. refl);
    spends = spends;
    stores = λ A h. steady (ask (λ s. h s.store)) (λ s. refl);
    variables = λ A h. steady (ask (λ s. h s.locals)) (λ s. refl);
    inners = steady (ask (λ s. s.inner)) (λ s. refl);
    pushes = pushes;
    replaces = λ v. steady (replace v) (λ s. refl);
    makes = λ c e at. steady (new_object c e at) (made_cost c e at);
    puts = λ o h adds v at. steady (put o h adds v at) (put_cost o h adds v at);
    scopes = λ A p q e. scopes p q e;
    withs = λ A h p q e. withs h p q e;
    insides = λ A o p q e. insides o p q e;
    frames = λ A vs p q e. frames vs p q e;
    owns = λ A vs p q e. owns vs p q e;
    catches = catches;
    gives_back = gives_back;
    onces = onces;
    loops = λ t u at p q z d e. statements (loop n t at p) (loop n u at q) (loops n t u at p q d e);
    closures = λ at name p q k done vs z e. closures (suc n) at (for_item name p) (for_item name q) k done vs (items name p q e);
    resolves = λ at q s. answers q.one (answer program s.trace s.store s.locals at q) s;
    lates = lates Agree (bounded keep program f n) (bounded keep program g n) (λ A B p q h k e z. binds p q h k e z) (λ A a. pures a) (λ A e. steady (exits e) (λ s. refl)) spends (λ A h. steady (ask (λ s. h s.store)) (λ s. refl))
        (λ o h adds q at s. steady (entered keep program f (late_write o h adds q at s)) (λ t. refl) s);
    beyonds = λ at p q e. e;
  }
