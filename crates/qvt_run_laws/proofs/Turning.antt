-- How many turns a loop may have at most tells nothing, where it may have at least as many as there is fuel: each turn costs something.
use Rattle.std.proofs.Common.{◌≡◌, ◌∙◌, ℕ, zero, suc, ◌+◌, ◌≤◌, ◌<◌, Bool, true, false, nat_lt, if◌then◌else◌, refl, ap, List, [], ◌∷◌, ◌++◌, length, Option, Some, None, Result, Ok, Err, arith, ltb-false}
use Rattle.qvt_base.specs.declared.numbers.Oid.{Oid}
use Rattle.qvt_base.specs.declared.numbers.Place.{Place}
use Rattle.qvt_typing.specs.Accepts.{ProgramTerm}
use Rattle.qvt_value.specs.declared.value.Value.{Value, Null, Bool as Truth, Invalid}
use Rattle.qvt_value.specs.declared.value.Kind.{Kind}
use Rattle.qvt_run_data.specs.declared.exit.End.TheVariants.{OutOfFuel}
use Rattle.qvt_run_data.specs.declared.exit.Exit.{Exit}
use Rattle.qvt_run_data.specs.declared.exit.Exit.TheVariants.{Ends}
use Rattle.qvt_run_data.specs.declared.late.LateWrite.{LateWrite}
use Rattle.qvt_run_data.specs.declared.local.Local.{Local}
use Rattle.qvt_run_data.specs.declared.record.Key.{Key}
use Rattle.qvt_run_rules.specs.State.{State, Done, Does, on_outcome, ◌>>=◌, ◌>>◌, pure, exits, ask, misfit, caught_in, caught}
use Rattle.qvt_run_rules.specs.Cost.{charge}
use Rattle.qvt_run_rules.specs.Locals.{fixed, name_in, push, replace, scoped, with_locals, inside, cut, out_of, under, begun, own_in, in_frame, in_own}
use Rattle.qvt_run_rules.specs.Store.{new_object, put}
use Rattle.qvt_run_rules.specs.Trace.{result_for, has_key}
use Rattle.qvt_run_rules.specs.Sources as source
use Rattle.qvt_run_rules.specs.Iterators.{unvisited, for_item, closure_from}
use Rattle.qvt_run_rules.specs.Statements.{statement, loop, turn, holds, truth}
use Rattle.qvt_run_rules.specs.Calls.{given_in, given}
use Rattle.qvt_run_rules.specs.Mappings as of
use Rattle.qvt_run_rules.specs.Mappings.{MadeResult, BegunCall, Known, Ended, New, note, once, with_key}
use Rattle.qvt_run_rules.specs.Resolve.{ResolveAnswer, FoundOrEnded, Objects, Undefined, Stopped, answer_value, answered_now, late_write}
use Rattle.qvt_meaning.specs.Plain.{answer}
use Rattle.qvt_meaning.specs.Run.{entered}
use Rattle.qvt_meaning_laws.proofs.Closed.{Closed}
use Rattle.qvt_meaning_laws.proofs.Lates.{lates}
use Rattle.qvt_run_laws.specs.Fuel.{bounded}
use Rattle.qvt_run_laws.proofs.Spending.{HasSpent, Spends}
use Rattle.qvt_run_laws.proofs.Steady.{made_cost, put_cost, caught_cost, given_cost, owned_cost}

-- what costs more than it has to
spent_more : {A : Type 0} (r : Result A Exit) (n m : ℕ) → n < m → HasSpent n r m
spent_more (Ok a) n m c = c
spent_more (Err x) n m c = tt

module _ {E : Type 0} (fuel : ℕ) where
  -- from this state: the same, at no less cost, within the fuel
  abbrev pub Meets : {A : Type 0} → State E → Done E A → Done E A → Type 0
  Meets s d e = (d ≡ e) × (s.cost ≤ e.1.cost) × (e.1.cost ≤ fuel)

  abbrev pub Meet : (A : Type 0) → Does E A → Does E A → Type 0
  Meet A p q = (s : State E) → s.cost ≤ fuel → Meets s (p s) (q s)

  -- One after another.

  on : {A B : Type 0} (h k : A → Does E B) (s : State E) → ((a : A) (t : State E) → s.cost ≤ t.cost → t.cost ≤ fuel → Meets t (h a t) (k a t)) → (r : Result A Exit) (t : State E) → s.cost ≤ t.cost → t.cost ≤ fuel
      → Meets s (on_outcome r t h) (on_outcome r t k)
  on h k s z (Ok a) t low high = let w : Meets t (h a t) (k a t) = z a t low high in (w.0, omega (arith, low, w.1), w.2)
  on h k s z (Err x) t low high = (refl, low, high)

  behind : {A B : Type 0} (h k : A → Does E B) (s : State E) (d e : Done E A) → Meets s d e → (s.cost ≤ e.1.cost → e.1.cost ≤ fuel → Meets s (on_outcome e.0 e.1 h) (on_outcome e.0 e.1 k))
      → Meets s (on_outcome d.0 d.1 h) (on_outcome e.0 e.1 k)
  behind h k s d e w z = let v : Meets s (on_outcome e.0 e.1 h) (on_outcome e.0 e.1 k) = z w.1 w.2 in (ap (λ x. on_outcome x.0 x.1 h) w.0 ∙ v.0, v.1, v.2)

  pub binds : {A B : Type 0} (p q : Does E A) (h k : A → Does E B) → Meet A p q → ((a : A) → Meet B (h a) (k a)) → Meet B (p >>= h) (q >>= k)
  binds p q h k e z = λ s c. behind h k s (p s) (q s) (e s c) (λ low high. on h k s (λ a t below above. z a t above) (q s).0 (q s).1 low high)

  steady : {A : Type 0} (p : Does E A) → ((s : State E) → (p s).1.cost ≡ s.cost) → Meet A p p
  steady p e = λ s c. (refl, omega (arith, e s), omega (arith, e s, c))

  pures : {A : Type 0} (a : A) → Meet A (pure a) (pure a)
  pures a = steady (pure a) (λ s. refl)

  picks : {A : Type 0} (b : Bool) (p p' q q' : Does E A) → Meet A p q → Meet A p' q' → Meet A (if b then p else p') (if b then q else q')
  picks true p p' q q' e k = e
  picks false p p' q q' e k = k

  -- Charges.

  abbrev charged : Bool → ℕ → State E → Done E (Unit {0})
  charged b n s = if b then (Err (Ends OutOfFuel), s) else (Ok tt, record s { cost = s.cost + n })

  charge_meets : (b : Bool) (n : ℕ) (s : State E) → nat_lt fuel (s.cost + n) ≡ b → s.cost ≤ fuel → Meets s (charged b n s) (charged b n s)
  charge_meets true n s h c = (refl, omega arith, c)
  charge_meets false n s h c = (refl, omega arith, ltb-false fuel (s.cost + n) h)

  spends : (n : ℕ) → Meet (Unit {0}) (charge fuel n) (charge fuel n)
  unfolding charge
  spends n = λ s c. charge_meets (nat_lt fuel (s.cost + n)) n s refl c

  -- What is done in a state of the same cost, and turned into another of the same.

  wraps : {A B : Type 0} (m : State E → Result A Exit → State E → Done E B) (start : State E → State E)
      → ((s : State E) (r : Result A Exit) (t : State E) → (m s r t).1.cost ≡ t.cost) → ((s : State E) → (start s).cost ≡ s.cost)
      → (p q : Does E A) → Meet A p q → Meet B (λ s. m s (p (start s)).0 (p (start s)).1) (λ s. m s (q (start s)).0 (q (start s)).1)
  wraps m start cost first p q e = λ s c.
      let t : State E = start s in
      let w : Meets t (p t) (q t) = e t (omega (arith, first s, c)) in
      (ap (λ x. m s x.0 x.1) w.0, omega (arith, first s, cost s (q t).0 (q t).1, w.1), omega (arith, cost s (q t).0 (q t).1, w.2))

  pushes : (v : Local) → Meet (Unit {0}) (push v) (push v)
  unfolding push
  pushes v = steady (push v) (λ s. refl)

  scopes : {A : Type 0} (p q : Does E A) → Meet A p q → Meet A (scoped p) (scoped q)
  unfolding scoped
  scopes p q e = wraps (λ s r t. cut (length s.locals) (r, t)) (λ s. s) (λ s r t. refl) (λ s. refl) p q e

  withs : {A : Type 0} (h : List Local → List Local) (p q : Does E A) → Meet A p q → Meet A (λ s. with_locals (h s.locals) p s) (λ s. with_locals (h s.locals) q s)
  unfolding with_locals
  withs h p q e = wraps (λ s r t. cut (length s.locals) (r, t)) (λ s. record s { locals = s.locals ++ h s.locals }) (λ s r t. refl) (λ s. refl) p q e

  insides : {A : Type 0} (o : Oid) (p q : Does E A) → Meet A p q → Meet A (inside o p) (inside o q)
  unfolding inside
  insides o p q e = wraps (λ s r t. out_of s.inner (r, t)) (λ s. record s { inner = Some o }) (λ s r t. refl) (λ s. refl) p q e

  frames : {A : Type 0} (vs : List Local) (p q : Does E A) → Meet A p q → Meet A (in_frame vs p) (in_frame vs q)
  unfolding in_frame
  frames vs p q e = wraps (λ s r t. under s (r, t)) (λ s. begun vs s) (λ s r t. refl) (λ s. refl) p q e

  owns : {A : Type 0} (vs : List Local) (p q : Does E A) → Meet A p q → Meet (A × List Local) (in_own vs p) (in_own vs q)
  unfolding in_own
  owns vs p q e = wraps (λ s r t. own_in r t s) (λ s. begun vs s) (λ s r t. owned_cost r t s) (λ s. refl) p q e

  catches : (p q : Does E (Unit {0})) → Meet (Unit {0}) p q → Meet Bool (caught p) (caught q)
  unfolding caught
  catches p q e = wraps (λ s r t. caught_in r t) (λ s. s) (λ s r t. caught_cost r t) (λ s. refl) p q e

  gives_back : (p q : Does E (Unit {0})) → Meet (Unit {0}) p q → Meet Value (given p) (given q)
  unfolding given
  gives_back p q e = wraps (λ s r t. given_in r t) (λ s. s) (λ s r t. given_cost r t) (λ s. refl) p q e

  -- The trace.

  noted : (k : Key) (m : MadeResult) (x : BegunCall) → Meet BegunCall (of.noted_on k m x) (of.noted_on k m x)
  unfolding note
  noted k (Known r) x = pures x
  noted k (Ended None) x = pures x
  noted k (Ended (Some o)) x = steady (of.noted_on k (Ended (Some o)) x) (λ s. refl)
  noted k (New r) x = steady (of.noted_on k (New r) x) (λ s. refl)

  with_keys : {A : Type 0} (k : Key) (p q : Does E A) → Meet A p q → Meet A (with_key k p) (with_key k q)
  unfolding with_key
  with_keys k p q e = wraps (λ s r t. of.shut (length s.keys) (r, t)) (λ s. record s { keys = s.keys ++ k ∷ [] }) (λ s r t. refl) (λ s. refl) p q e

  unless_open : (b : Bool) (at : Place) (p q : Does E BegunCall) → Meet BegunCall p q → Meet BegunCall (of.unless_open b at p) (of.unless_open b at q)
  unless_open true at p q e = steady (of.unless_open true at p) (λ s. refl)
  unless_open false at p q e = e

  unless_known : (o : Option (Option Oid)) (p q : Does E BegunCall) → Meet BegunCall p q → Meet BegunCall (of.unless_known o p) (of.unless_known o q)
  unless_known (Some r) p q e = pures (Known r, [])
  unless_known None p q e = e

  onces : (k : Key) (at : Place) (p q : Does E BegunCall) → Meet BegunCall p q → Meet BegunCall (once k at p) (once k at q)
  unfolding once
  onces k at p q e =
      let inner : Meet BegunCall (with_key k (p >>= of.noted k)) (with_key k (q >>= of.noted k))
      = with_keys k (p >>= of.noted k) (q >>= of.noted k) (binds p q (of.noted k) (of.noted k) e (λ x. noted k x.0 x)) in
      let free : Meet BegunCall (ask (λ s. has_key s.keys k) >>= (λ b. of.unless_open b at (with_key k (p >>= of.noted k)))) (ask (λ s. has_key s.keys k) >>= (λ b. of.unless_open b at (with_key k (q >>= of.noted k))))
      = λ s. unless_open (has_key s.keys k) at _ _ inner s in
      λ s. unless_known (result_for k s.trace) _ _ free s

  -- What costs something where it gives a value.

  spent_behind : {A B : Type 0} (h k : A → Does E B) → ((a : A) → Meet B (h a) (k a)) → (n : ℕ) (r : Result A Exit) (t : State E) → HasSpent n r t.cost → t.cost ≤ fuel → HasSpent n (on_outcome r t k).0 (on_outcome r t k).1.cost
  spent_behind h k z n (Ok a) t d c = let w : Meets t (h a t) (k a t) = z a t c in spent_more (k a t).0 n (k a t).1.cost (omega (arith, d, w.1))
  spent_behind h k z n (Err x) t d c = tt

  spends_first : {A B : Type 0} (p q : Does E A) (h k : A → Does E B) → Meet A p q → Spends fuel A q → ((a : A) → Meet B (h a) (k a)) → Spends fuel B (q >>= k)
  spends_first p q h k e d z = λ s c. let w : Meets s (p s) (q s) = e s c in spent_behind h k z s.cost (q s).0 (q s).1 (d s c) w.2

  -- Loops.

  truths : (at : Place) (v : Value) → Meet Bool (truth at v) (truth at v)
  truths at (Truth b) = pures b
  truths at Null = steady (truth at Null) (λ s. refl)
  truths at (Invalid r i) = steady (truth at (Invalid r i)) (λ s. refl)
  truths at v = steady (misfit at) (λ s. refl)

  module _ (t u : Does E Value) (at : Place) (p q : Does E (Unit {0})) (d : Meet Value t u) (e : Meet (Unit {0}) p q) (costs : Spends fuel Value u) where
    conditions : Meet Bool (holds t at) (holds u at)
    conditions = binds t u (truth at) (truth at) d (truths at)

    bodies : (b : Bool) → Meet Bool (if b then p >> pure true else pure false) (if b then q >> pure true else pure false)
    bodies b = picks b (p >> pure true) (pure false) (q >> pure true) (pure false) (binds p q (λ _. pure true) (λ _. pure true) e (λ _. pures true)) (pures false)

    turns : Meet Bool (turn t at p) (turn u at q)
    unfolding turn
    turns = binds (holds t at) (holds u at) (λ b. if b then p >> pure true else pure false) (λ b. if b then q >> pure true else pure false) conditions bodies

    turn_costs : Spends fuel Bool (turn u at q)
    unfolding turn
    turn_costs = spends_first (holds t at) (holds u at) (λ b. if b then p >> pure true else pure false) (λ b. if b then q >> pure true else pure false) conditions
        (spends_first t u (truth at) (truth at) d costs (truths at)) bodies

    abbrev Loops : ℕ → ℕ → State E → Type 0
    Loops n m w = Meets w (loop n t at p w) (loop m u at q w)

    after_turn : (n m : ℕ) (s : State E) → ((w : State E) → w.cost ≤ fuel → fuel < w.cost + n → fuel < w.cost + m → Loops n m w) → fuel < s.cost + suc n → fuel < s.cost + suc m
        → (r : Result Bool Exit) (w : State E) → HasSpent s.cost r w.cost → s.cost ≤ w.cost → w.cost ≤ fuel
        → Meets s (on_outcome r w (λ made. if made then loop n t at p else pure tt)) (on_outcome r w (λ made. if made then loop m u at q else pure tt))
    after_turn n m s more a b (Ok true) w d low high = let v : Loops n m w = more w high (omega arith) (omega arith) in (v.0, omega (arith, low, v.1), v.2)
    after_turn n m s more a b (Ok false) w d low high = (refl, low, high)
    after_turn n m s more a b (Err x) w d low high = (refl, low, high)

    loops : (n m : ℕ) (s : State E) → s.cost ≤ fuel → fuel < s.cost + n → fuel < s.cost + m → Loops n m s
    unfolding loop
    loops zero m s c a b = absurd (omega arith)
    loops (suc n) zero s c a b = absurd (omega arith)
    loops (suc n) (suc m) s c a b =
        behind (λ made. if made then loop n t at p else pure tt) (λ made. if made then loop m u at q else pure tt) s (turn t at p s) (turn u at q s) (turns s c)
        (λ low high. after_turn n m s (λ w above x y. loops n m w above x y) a b (turn u at q s).0 (turn u at q s).1 (turn_costs s c) low high)

    -- a statement, which costs one itself

    charge_costs : (b : Bool) (s : State E) → HasSpent s.cost (charged b 1 s).0 (charged b 1 s).1.cost
    charge_costs true s = tt
    charge_costs false s = omega arith

    one_costs : Spends {E = E} fuel (Unit {0}) (charge fuel 1)
    unfolding charge
    one_costs = λ s c. charge_costs (nat_lt fuel (s.cost + 1)) s

    first_turn : (n m : ℕ) (s : State E) → fuel ≤ n → fuel ≤ m → (r : Result (Unit {0}) Exit) (w : State E) → HasSpent s.cost r w.cost → s.cost ≤ w.cost → w.cost ≤ fuel
        → Meets s (on_outcome r w (λ _. loop n t at p)) (on_outcome r w (λ _. loop m u at q))
    first_turn n m s a b (Ok x) w d low high = let v : Loops n m w = loops n m w high (omega arith) (omega arith) in (v.0, omega (arith, low, v.1), v.2)
    first_turn n m s a b (Err x) w d low high = (refl, low, high)

    pub while_loops : (n m : ℕ) → fuel ≤ n → fuel ≤ m → Meet (Unit {0}) (statement (charge fuel) (loop n t at p)) (statement (charge fuel) (loop m u at q))
    unfolding statement
    while_loops n m a b = λ s c.
        behind (λ _. loop n t at p) (λ _. loop m u at q) s (charge fuel 1 s) (charge fuel 1 s) (spends 1 s c)
        (λ low high. first_turn n m s a b (charge fuel 1 s).0 (charge fuel 1 s).1 (one_costs s c) low high)

  unless_invalid : (w : Value) (p q : Does E Value) (t : State E) → t.cost ≤ fuel → Meets t (p t) (q t) → Meets t (source.unless_invalid w p t) (source.unless_invalid w q t)
  unless_invalid (Invalid r i) p q t c h = pures (Invalid r i) t c
  unless_invalid w p q t c h = h

  module _ (at : Place) (name : Option (List ℕ)) (p q : Does E Value) (e : Meet Value p q) (costs : Spends fuel Value q) where
    items : (v : Value) → Meet Value (for_item name p v) (for_item name q v)
    unfolding for_item
    items v = withs (λ vs. fixed (name_in vs name) v ∷ []) p q e

    item_costs : (v : Value) → Spends fuel Value (for_item name q v)
    unfolding for_item with_locals
    item_costs v = λ s c. costs (record s { locals = s.locals ++ fixed (name_in s.locals name) v ∷ [] }) c

    abbrev Visits : ℕ → ℕ → Kind → List Value → List Value → State E → Type 0
    Visits n m k done vs w = Meets w (closure_from at (for_item name p) n k done vs w) (closure_from at (for_item name q) m k done vs w)

    abbrev rest : List Value → List Value → Value → List Value
    rest done vs w = unvisited done (source.present_items (source.items_of w) ++ vs)

    after_item : (n m : ℕ) (k : Kind) (done vs : List Value) (s : State E) → ((ws : List Value) (w : State E) → w.cost ≤ fuel → fuel < w.cost + n → fuel < w.cost + m → Visits n m k done ws w) → fuel < s.cost + suc n → fuel < s.cost + suc m
        → (r : Result Value Exit) (w : State E) → HasSpent s.cost r w.cost → s.cost ≤ w.cost → w.cost ≤ fuel
        → Meets s (on_outcome r w (λ x. source.unless_invalid x (closure_from at (for_item name p) n k done (rest done vs x))))
        (on_outcome r w (λ x. source.unless_invalid x (closure_from at (for_item name q) m k done (rest done vs x))))
    after_item n m k done vs s more a b (Ok x) w d low high =
        let z : Visits n m k done (rest done vs x) w = more (rest done vs x) w high (omega arith) (omega arith) in
        let v = unless_invalid x (closure_from at (for_item name p) n k done (rest done vs x)) (closure_from at (for_item name q) m k done (rest done vs x)) w high z in
        (v.0, omega (arith, low, v.1), v.2)
    after_item n m k done vs s more a b (Err x) w d low high = (refl, low, high)

    pub closures : (n m : ℕ) (k : Kind) (done vs : List Value) (s : State E) → s.cost ≤ fuel → fuel < s.cost + n → fuel < s.cost + m → Visits n m k done vs s
    closures zero m k done vs s c a b = absurd (omega arith)
    closures (suc n) zero k done vs s c a b = absurd (omega arith)
    closures (suc n) (suc m) k done [] s c a b = pures _ s c
    closures (suc n) (suc m) k done (v ∷ vs) s c a b =
        behind (λ x. source.unless_invalid x (closure_from at (for_item name p) n k (done ++ v ∷ []) (rest (done ++ v ∷ []) vs x)))
        (λ x. source.unless_invalid x (closure_from at (for_item name q) m k (done ++ v ∷ []) (rest (done ++ v ∷ []) vs x))) s (for_item name p v s) (for_item name q v s) (items v s c)
        (λ low high. after_item n m k (done ++ v ∷ []) vs s (λ ws w above x y. closures n m k (done ++ v ∷ []) ws w above x y) a b (for_item name q v s).0 (for_item name q v s).1 (item_costs v s c) low high)

  -- Resolves.

  values : (one : Bool) (a : FoundOrEnded) → Meet Value (answer_value one a) (answer_value one a)
  values one (Objects os) = steady (answer_value one (Objects os)) (λ s. refl)
  values one (Undefined r i) = steady (answer_value one (Undefined r i)) (λ s. refl)
  values one (Stopped e) = steady (answer_value one (Stopped e)) (λ s. refl)

  answers : (one : Bool) (a : ResolveAnswer) → Meet Value (answered_now (charge fuel) one a) (answered_now (charge fuel) one a)
  answers one a = binds (charge fuel a.cost) (charge fuel a.cost) (λ _. answer_value one a.found) (λ _. answer_value one a.found) (spends a.cost) (λ _. values one a.found)

  -- over the rules of two runs with this fuel, in which a loop may have at least as many turns
  pub meet : (keep : LateWrite → E) (p : ProgramTerm) (n m : ℕ) → fuel ≤ n → fuel ≤ m → Closed E E Meet (λ p q. Spends fuel Value q) (bounded keep p fuel n) (bounded keep p fuel m)
  meet keep program n m a b = record {
    binds = λ A B p q h k e z. binds p q h k e z;
    gives = λ A x. pures x;
    ends = λ A e. steady (exits e) (λ s. refl);
    spends = spends;
    stores = λ A h. steady (ask (λ s. h s.store)) (λ s. refl);
    variables = λ A h. steady (ask (λ s. h s.locals)) (λ s. refl);
    inners = steady (ask (λ s. s.inner)) (λ s. refl);
    pushes = pushes;
    replaces = λ v. steady (replace v) (λ s. refl);
    makes = λ c e at. steady (new_object c e at) (made_cost c e at);
    puts = λ o h adds v at. steady (put o h adds v at) (put_cost o h adds v at);
    scopes = λ A p q e. scopes p q e;
    withs = λ A h p q e. withs h p q e;
    insides = λ A o p q e. insides o p q e;
    frames = λ A vs p q e. frames vs p q e;
    owns = λ A vs p q e. owns vs p q e;
    catches = catches;
    gives_back = gives_back;
    onces = onces;
    loops = λ t u at p q costs d e. while_loops t u at p q d e costs n m a b;
    closures = λ at name p q k done vs costs e s c. closures at name p q e costs (suc n) (suc m) k done vs s c (omega (arith, a)) (omega (arith, b));
    resolves = λ at q s. answers q.one (answer program s.trace s.store s.locals at q) s;
    lates = lates Meet (bounded keep program fuel n) (bounded keep program fuel m) (λ A B p q h k e z. binds p q h k e z) (λ A x. pures x) (λ A e. steady (exits e) (λ s. refl)) spends (λ A h. steady (ask (λ s. h s.store)) (λ s. refl))
        (λ o h adds q at s. steady (entered keep program fuel (late_write o h adds q at s)) (λ t. refl) s);
    beyonds = λ at p q e. e;
  }
