-- A relation of an earlier and a later store that holds of what runs do: it holds where nothing changes, of steps in order, of one more
-- object, and of a write.
use Rattle.std.proofs.Common.{◌≡◌, ℕ, zero, suc, ◌+◌, Bool, true, false, nat_lt, if◌then◌else◌, refl, sym, subst, List, [], ◌∷◌, ◌++◌, length, Option, Some, None, Result, Ok, Err}
use Rattle.qvt_base.specs.declared.numbers.Oid.{Oid}
use Rattle.qvt_base.specs.declared.numbers.Place.{Place}
use Rattle.qvt_metamodel.specs.Metamodels.{is_single}
use Rattle.qvt_slots.specs.declared.fault.StoreFault.{StoreFault}
use Rattle.qvt_slots.specs.declared.op.SetOp.{SetOp}
use Rattle.qvt_slots.specs.Assign.{write}
use Rattle.qvt_slots.specs.Contents.{Contents, with_new}
use Rattle.qvt_slots.specs.Limits.{most_objects}
use Rattle.qvt_typing.specs.Accepts.{ProgramTerm}
use Rattle.qvt_value.specs.declared.value.Value.{Value, Null, Bool as Truth, Invalid}
use Rattle.qvt_value.specs.declared.value.Kind.{Kind}
use Rattle.qvt_run_data.specs.declared.exit.End.TheVariants.{OutOfFuel}
use Rattle.qvt_run_data.specs.declared.exit.Exit.{Exit}
use Rattle.qvt_run_data.specs.declared.exit.Exit.TheVariants.{Returned, Ends}
use Rattle.qvt_run_data.specs.declared.late.LateWrite.{LateWrite}
use Rattle.qvt_run_data.specs.declared.local.Local.{Local}
use Rattle.qvt_run_data.specs.declared.record.Key.{Key}
use Rattle.qvt_run_rules.specs.State.{State, Done, Does, on_outcome, ◌>>=◌, ◌>>◌, pure, ask, misfit, caught_in, caught}
use Rattle.qvt_run_rules.specs.Cost.{charge}
use Rattle.qvt_run_rules.specs.Locals.{fixed, name_in, push, scoped, with_locals, inside, cut, out_of, under, begun, own_in, in_frame, in_own}
use Rattle.qvt_run_rules.specs.Store.{made_one, is_class_for, new_object, are_fit, changed, op_of, slot_items, put}
use Rattle.qvt_run_rules.specs.Trace.{result_for, has_key}
use Rattle.qvt_run_rules.specs.Sources as source
use Rattle.qvt_run_rules.specs.Iterators.{unvisited, for_item, closure_from}
use Rattle.qvt_run_rules.specs.Statements.{statement, loop, turn, holds, truth}
use Rattle.qvt_run_rules.specs.Calls.{given_in, given}
use Rattle.qvt_run_rules.specs.Mappings as of
use Rattle.qvt_run_rules.specs.Mappings.{MadeResult, BegunCall, Known, Ended, New, note, once, with_key}
use Rattle.qvt_run_rules.specs.Resolve.{ResolveAnswer, FoundOrEnded, Objects, Undefined, Stopped, answer_value, answered_now}
use Rattle.qvt_meaning.specs.Laws.{request_run}
use Rattle.qvt_meaning.specs.Plain.{answer, state_of}
use Rattle.qvt_meaning.specs.Run.{setting, main_in, main_run}
use Rattle.qvt_meaning.specs.Units.{all_calls}
use Rattle.qvt_meaning_laws.proofs.Closed.{Closed}
use Rattle.qvt_meaning_laws.proofs.Lates.{lates}
use Rattle.qvt_meaning_laws.proofs.Actions as action
use Rattle.qvt_meaning_laws.proofs.Phrasing.{of_stmts}
use Rattle.qvt_meaning_laws.proofs.Calls as call
use Rattle.qvt_run_laws.specs.Records.{rules}

-- what is asked of it
pub record Follows (M : Contents → Contents → Type 0) : Type 0 where
  pub itself : (s : Contents) → M s s
  pub on : (s t u : Contents) → M s t → M t u → M s u
  pub makes : (s : Contents) (c e : ℕ) → is_class_for s c e ≡ true → M s (with_new s c e)
  pub writes : (s t : Contents) (o f : ℕ) (op : SetOp) (vs : List Value) → are_fit s o f vs ≡ true → write s o f op vs ≡ Ok t → M s t

abbrev E : Type 0
E = LateWrite

module _ (M : Contents → Contents → Type 0) (follows : Follows M) where
  abbrev Moves : (A : Type 0) → Does E A → Does E A → Type 0
  Moves A p q = (s : State E) → M s.store (p s).1.store

  steady : {A : Type 0} (p : Does E A) → ((s : State E) → (p s).1.store ≡ s.store) → Moves A p p
  steady p e = λ s. subst (M s.store) (sym (e s)) (follows.itself s.store)

  after : {A B : Type 0} (f : A → Does E B) → ((a : A) → Moves B (f a) (f a)) → (s : State E) (r : Result A Exit) (t : State E) → M s.store t.store → M s.store (on_outcome r t f).1.store
  after f k s (Ok a) t h = follows.on s.store t.store (f a t).1.store h (k a t)
  after f k s (Err e) t h = h

  binds : {A B : Type 0} (p : Does E A) (f : A → Does E B) → Moves A p p → ((a : A) → Moves B (f a) (f a)) → Moves B (p >>= f) (p >>= f)
  binds p f e k = λ s. after f k s (p s).0 (p s).1 (e s)

  pures : {A : Type 0} (a : A) → Moves A (pure a) (pure a)
  pures a = λ s. follows.itself s.store

  picks : {A : Type 0} (b : Bool) (p q : Does E A) → Moves A p p → Moves A q q → Moves A (if b then p else q) (if b then p else q)
  picks true p q e k = e
  picks false p q e k = k

  -- what is done in a state with the same store, and turned into another state with the same
  wraps : {A B : Type 0} (m : State E → Result A Exit → State E → Done E B) (start : State E → State E) → ((s : State E) (r : Result A Exit) (t : State E) → (m s r t).1.store ≡ t.store)
      → ((s : State E) → (start s).store ≡ s.store) → (p : Does E A) → Moves A p p → Moves B (λ s. m s (p (start s)).0 (p (start s)).1) (λ s. m s (p (start s)).0 (p (start s)).1)
  wraps m start ends begins p e = λ s.
      let t : State E = (p (start s)).1 in
      subst (M s.store) (sym (ends s (p (start s)).0 t)) (subst (λ st. M st t.store) (begins s) (e (start s)))

  -- Steps.

  abbrev charged : Bool → ℕ → State E → Done E (Unit {0})
  charged b n s = if b then (Err (Ends OutOfFuel), s) else (Ok tt, record s { cost = s.cost + n })

  charge_by : (b : Bool) (n : ℕ) (s : State E) → M s.store (charged b n s).1.store
  charge_by true n s = follows.itself s.store
  charge_by false n s = follows.itself s.store

  spends : (fuel n : ℕ) → Moves (Unit {0}) (charge fuel n) (charge fuel n)
  unfolding charge
  spends fuel n = λ s. charge_by (nat_lt fuel (s.cost + n)) n s

  makes_one : (fits room : Bool) (c e : ℕ) (at : Place) (s : State E) → is_class_for s.store c e ≡ fits → M s.store (made_one fits room c e at s).1.store
  makes_one false room c e at s h = follows.itself s.store
  makes_one true false c e at s h = follows.itself s.store
  makes_one true true c e at s h = follows.makes s.store c e h

  makes : (c e : ℕ) (at : Place) → Moves Oid (new_object c e at) (new_object c e at)
  unfolding new_object
  makes c e at = λ s. makes_one (is_class_for s.store c e) (nat_lt (length s.store.objects) most_objects) c e at s refl

  changes : (r : Result Contents StoreFault) (at : Place) (s : State E) → ((store : Contents) → r ≡ Ok store → M s.store store) → M s.store (changed r at s).1.store
  changes (Ok store) at s w = w store refl
  changes (Err refusal) at s w = follows.itself s.store

  writes_if : (b : Bool) (o f : ℕ) (op : SetOp) (vs : List Value) (at : Place) (s : State E) → are_fit s.store o f vs ≡ b → M s.store (if b then changed (write s.store o f op vs) at s else misfit at s).1.store
  writes_if true o f op vs at s h = changes (write s.store o f op vs) at s (λ store e. follows.writes s.store store o f op vs h e)
  writes_if false o f op vs at s h = follows.itself s.store

  puts : (o f : ℕ) (adds : Bool) (v : Value) (at : Place) → Moves (Unit {0}) (put o f adds v at) (put o f adds v at)
  unfolding put
  puts o f adds v at = λ s. let vs : List Value = slot_items (is_single s.store.metas f) v in writes_if (are_fit s.store o f vs) o f (op_of adds) vs at s refl

  values : (one : Bool) (a : FoundOrEnded) → Moves Value (answer_value one a) (answer_value one a)
  values one (Objects os) = λ s. follows.itself s.store
  values one (Undefined r i) = λ s. follows.itself s.store
  values one (Stopped e) = λ s. follows.itself s.store

  answers : (fuel : ℕ) (one : Bool) (a : ResolveAnswer) → Moves Value (answered_now (charge fuel) one a) (answered_now (charge fuel) one a)
  answers fuel one a = binds (charge fuel a.cost) (λ _. answer_value one a.found) (spends fuel a.cost) (λ _. values one a.found)

  -- Scopes and returns.

  caught_store : (r : Result (Unit {0}) Exit) (t : State E) → (caught_in r t).1.store ≡ t.store
  caught_store (Ok u) t = refl
  caught_store (Err (Returned v)) t = refl
  caught_store (Err (Ends e)) t = refl

  given_store : (r : Result (Unit {0}) Exit) (t : State E) → (given_in r t).1.store ≡ t.store
  given_store (Ok u) t = refl
  given_store (Err (Returned None)) t = refl
  given_store (Err (Returned (Some v))) t = refl
  given_store (Err (Ends e)) t = refl

  owned_store : {A : Type 0} (s : State E) (r : Result A Exit) (t : State E) → (own_in r t s).1.store ≡ t.store
  owned_store s (Ok a) t = refl
  owned_store s (Err e) t = refl

  pushes : (v : Local) → Moves (Unit {0}) (push v) (push v)
  unfolding push
  pushes v = λ s. follows.itself s.store

  scopes : {A : Type 0} (p : Does E A) → Moves A p p → Moves A (scoped p) (scoped p)
  unfolding scoped
  scopes p e = wraps (λ s r t. cut (length s.locals) (r, t)) (λ s. s) (λ s r t. refl) (λ s. refl) p e

  withs : {A : Type 0} (f : List Local → List Local) (p : Does E A) → Moves A p p → Moves A (λ s. with_locals (f s.locals) p s) (λ s. with_locals (f s.locals) p s)
  unfolding with_locals
  withs f p e = wraps (λ s r t. cut (length s.locals) (r, t)) (λ s. record s { locals = s.locals ++ f s.locals }) (λ s r t. refl) (λ s. refl) p e

  insides : {A : Type 0} (o : Oid) (p : Does E A) → Moves A p p → Moves A (inside o p) (inside o p)
  unfolding inside
  insides o p e = wraps (λ s r t. out_of s.inner (r, t)) (λ s. record s { inner = Some o }) (λ s r t. refl) (λ s. refl) p e

  frames : {A : Type 0} (vs : List Local) (p : Does E A) → Moves A p p → Moves A (in_frame vs p) (in_frame vs p)
  unfolding in_frame
  frames vs p e = wraps (λ s r t. under s (r, t)) (λ s. begun vs s) (λ s r t. refl) (λ s. refl) p e

  owns : {A : Type 0} (vs : List Local) (p : Does E A) → Moves A p p → Moves (A × List Local) (in_own vs p) (in_own vs p)
  unfolding in_own
  owns vs p e = wraps (λ s r t. own_in r t s) (λ s. begun vs s) owned_store (λ s. refl) p e

  catches : (p : Does E (Unit {0})) → Moves (Unit {0}) p p → Moves Bool (caught p) (caught p)
  unfolding caught
  catches p e = wraps (λ s r t. caught_in r t) (λ s. s) (λ s r t. caught_store r t) (λ s. refl) p e

  gives_back : (p : Does E (Unit {0})) → Moves (Unit {0}) p p → Moves Value (given p) (given p)
  unfolding given
  gives_back p e = wraps (λ s r t. given_in r t) (λ s. s) (λ s r t. given_store r t) (λ s. refl) p e

  -- The trace.

  noted : (k : Key) (m : MadeResult) (x : BegunCall) → Moves BegunCall (of.noted_on k m x) (of.noted_on k m x)
  unfolding note
  noted k (Known r) x = pures x
  noted k (Ended None) x = pures x
  noted k (Ended (Some o)) x = steady (of.noted_on k (Ended (Some o)) x) (λ s. refl)
  noted k (New r) x = steady (of.noted_on k (New r) x) (λ s. refl)

  with_keys : {A : Type 0} (k : Key) (p : Does E A) → Moves A p p → Moves A (with_key k p) (with_key k p)
  unfolding with_key
  with_keys k p e = wraps (λ s r t. of.shut (length s.keys) (r, t)) (λ s. record s { keys = s.keys ++ k ∷ [] }) (λ s r t. refl) (λ s. refl) p e

  unless_open : (b : Bool) (at : Place) (p : Does E BegunCall) → Moves BegunCall p p → Moves BegunCall (of.unless_open b at p) (of.unless_open b at p)
  unless_open true at p e = λ s. follows.itself s.store
  unless_open false at p e = e

  unless_known : (o : Option (Option Oid)) (p : Does E BegunCall) → Moves BegunCall p p → Moves BegunCall (of.unless_known o p) (of.unless_known o p)
  unless_known (Some r) p e = λ s. follows.itself s.store
  unless_known None p e = e

  onces : (k : Key) (at : Place) (p : Does E BegunCall) → Moves BegunCall p p → Moves BegunCall (once k at p) (once k at p)
  unfolding once
  onces k at p e =
      let inner : Moves BegunCall (with_key k (p >>= of.noted k)) (with_key k (p >>= of.noted k)) = with_keys k (p >>= of.noted k) (binds p (of.noted k) e (λ x. noted k x.0 x)) in
      let rest : Does E BegunCall = ask (λ s. has_key s.keys k) >>= (λ b. of.unless_open b at (with_key k (p >>= of.noted k))) in
      let free : Moves BegunCall rest rest = λ s. unless_open (has_key s.keys k) at (with_key k (p >>= of.noted k)) inner s in
      λ s. unless_known (result_for k s.trace) rest free s

  -- Loops.

  truths : (at : Place) (v : Value) → Moves Bool (truth at v) (truth at v)
  truths at (Truth b) = λ s. follows.itself s.store
  truths at Null = λ s. follows.itself s.store
  truths at (Invalid r i) = λ s. follows.itself s.store
  truths at v = λ s. follows.itself s.store

  turns : (t : Does E Value) (at : Place) (p : Does E (Unit {0})) → Moves Value t t → Moves (Unit {0}) p p → Moves Bool (turn t at p) (turn t at p)
  unfolding turn
  turns t at p d e = binds (holds t at) (λ b. if b then p >> pure true else pure false) (binds t (truth at) d (truths at))
      (λ b. picks b (p >> pure true) (pure false) (binds p (λ _. pure true) e (λ _. pures true)) (pures false))

  loops : (n : ℕ) (t : Does E Value) (at : Place) (p : Does E (Unit {0})) → Moves Value t t → Moves (Unit {0}) p p → Moves (Unit {0}) (loop n t at p) (loop n t at p)
  unfolding loop
  loops zero t at p d e = λ s. follows.itself s.store
  loops (suc n) t at p d e = binds {A = Bool} {B = Unit {0}} (turn t at p) (λ b. if b then loop n t at p else pure tt) (turns t at p d e) (λ b. picks {A = Unit {0}} b (loop n t at p) (pure tt) (loops n t at p d e) (pures {A = Unit {0}} tt))

  statements : (fuel : ℕ) (p : Does E (Unit {0})) → Moves (Unit {0}) p p → Moves (Unit {0}) (statement (charge fuel) p) (statement (charge fuel) p)
  unfolding statement
  statements fuel p e = binds (charge fuel 1) (λ _. p) (spends fuel 1) (λ _. e)

  items : (name : Option (List ℕ)) (p : Does E Value) → Moves Value p p → (v : Value) → Moves Value (for_item name p v) (for_item name p v)
  unfolding for_item
  items name p e v = withs (λ vs. fixed (name_in vs name) v ∷ []) p e

  unless_invalid : (w : Value) (p : Does E Value) → Moves Value p p → Moves Value (source.unless_invalid w p) (source.unless_invalid w p)
  unless_invalid (Invalid r i) p e = λ s. follows.itself s.store
  unless_invalid w p e = e

  closures : (n : ℕ) (at : Place) (f : Value → Does E Value) (k : Kind) (done vs : List Value) → ((v : Value) → Moves Value (f v) (f v)) → Moves Value (closure_from at f n k done vs) (closure_from at f n k done vs)
  closures zero at f k done vs e = λ s. follows.itself s.store
  closures (suc n) at f k done [] e = λ s. follows.itself s.store
  closures (suc n) at f k done (v ∷ vs) e =
      let rest : Value → List Value = λ w. unvisited (done ++ v ∷ []) (source.present_items (source.items_of w) ++ vs) in
      binds (f v) (λ w. source.unless_invalid w (closure_from at f n k (done ++ v ∷ []) (rest w))) (e v)
      (λ w. unless_invalid w (closure_from at f n k (done ++ v ∷ []) (rest w)) (closures n at f k (done ++ v ∷ []) (rest w) e))

  module _ (program : ProgramTerm) (fuel : ℕ) where
    moves : Closed E E Moves (λ p q. Unit {0}) (rules program fuel) (rules program fuel)
    unfolding setting
    moves = record {
      binds = λ A B p q f g e k. binds p f e k;
      gives = λ A a. pures a;
      ends = λ A e s. follows.itself s.store;
      spends = spends fuel;
      stores = λ A f s. follows.itself s.store;
      variables = λ A f s. follows.itself s.store;
      inners = λ s. follows.itself s.store;
      pushes = pushes;
      replaces = λ v s. follows.itself s.store;
      makes = makes;
      puts = puts;
      scopes = λ A p q e. scopes p e;
      withs = λ A f p q e. withs f p e;
      insides = λ A o p q e. insides o p e;
      frames = λ A vs p q e. frames vs p e;
      owns = λ A vs p q e. owns vs p e;
      catches = λ p q e. catches p e;
      gives_back = λ p q e. gives_back p e;
      onces = λ k at p q e. onces k at p e;
      loops = λ t u at p q z d e. statements fuel (loop fuel t at p) (loops fuel t at p d e);
      closures = λ at name p q k done vs z e. closures (suc fuel) at (for_item name p) k done vs (items name p e);
      resolves = λ at q s. answers fuel q.one (answer program s.trace s.store s.locals at q) s;
      lates = lates Moves (rules program fuel) (rules program fuel) (λ A B p q f g e k. binds p f e k) (λ A a. pures a) (λ A e s. follows.itself s.store) (spends fuel) (λ A f s. follows.itself s.store)
          (λ o f adds q at s. follows.itself s.store);
      beyonds = λ at p q e. e;
    }

    -- what `main` makes of a store
    pub main_moves : (store : Contents) → M store (request_run program fuel store).1.store
    unfolding main_run setting
    main_moves store = action.block moves (of_stmts moves program {d = all_calls (rules program fuel)} {d' = all_calls (rules program fuel)} (call.calls_to moves program (λ left answer e. tt) 100) (λ answer e. tt) None (main_in program.module_.units)) (state_of store [] [])
