-- What two phrases do is alike where one does what the other does, but for the entries: each is made of one of the other's. So it is of all
-- phrases over settings that keep alike entries, for no rule reads an entry.
use Rattle.std.proofs.Common.{◌≡◌, ◌∙◌, ℕ, zero, suc, ◌+◌, Bool, true, false, nat_lt, if◌then◌else◌, refl, sym, ap, List, [], ◌∷◌, ◌++◌, map, length, Option, Some, None, Result, Ok, Err}
use Rattle.std.proofs.lemmas.List.{map-append}
use Rattle.qvt_base.specs.declared.numbers.Oid.{Oid}
use Rattle.qvt_base.specs.declared.numbers.Place.{Place}
use Rattle.qvt_metamodel.specs.Metamodels.{is_single}
use Rattle.qvt_slots.specs.declared.fault.StoreFault.{StoreFault}
use Rattle.qvt_slots.specs.declared.op.SetOp.{SetOp}
use Rattle.qvt_slots.specs.Assign.{write}
use Rattle.qvt_slots.specs.Contents.{Contents}
use Rattle.qvt_slots.specs.Limits.{most_objects}
use Rattle.qvt_typing.specs.Accepts.{ProgramTerm}
use Rattle.qvt_value.specs.declared.value.Value.{Value, Null, Bool as Truth, Invalid}
use Rattle.qvt_value.specs.declared.value.Kind.{Kind}
use Rattle.qvt_run_data.specs.declared.exit.Exit.{Exit}
use Rattle.qvt_run_data.specs.declared.exit.Exit.TheVariants.{Returned, Ends}
use Rattle.qvt_run_data.specs.declared.late.LateWrite.{LateWrite}
use Rattle.qvt_run_data.specs.declared.local.Local.{Local}
use Rattle.qvt_run_data.specs.declared.record.Key.{Key}
use Rattle.qvt_run_rules.specs.State.{State, Done, Does, on_outcome, ◌>>=◌, ◌>>◌, pure, ask, misfit, caught_in, caught}
use Rattle.qvt_run_rules.specs.Cost.{charge}
use Rattle.qvt_run_rules.specs.Locals.{fixed, name_in, push, scoped, with_locals, inside, cut, out_of, under, begun, own_in, in_frame, in_own}
use Rattle.qvt_run_rules.specs.Store.{made_one, is_class_for, new_object, are_fit, changed, written, op_of, slot_items, put}
use Rattle.qvt_run_rules.specs.Trace.{result_for, has_key}
use Rattle.qvt_run_rules.specs.Sources as source
use Rattle.qvt_run_rules.specs.Iterators.{unvisited, for_item, closure_from}
use Rattle.qvt_run_rules.specs.Statements.{statement, loop, turn, holds, truth}
use Rattle.qvt_run_rules.specs.Calls.{given_in, given}
use Rattle.qvt_run_rules.specs.Mappings as of
use Rattle.qvt_run_rules.specs.Mappings.{BegunCall, Known, Ended, New, note, once, with_key}
use Rattle.qvt_run_rules.specs.Resolve.{ResolveAnswer, FoundOrEnded, Objects, Undefined, Stopped, answer_value, answered_now, late_write}
use Rattle.qvt_meaning.specs.Plain.{answer, state_of}
use Rattle.qvt_meaning.specs.Run.{entered, setting, main_in, main_run}
use Rattle.qvt_meaning_laws.proofs.Closed.{Closed}
use Rattle.qvt_meaning_laws.proofs.Lates.{lates}
use Rattle.qvt_meaning_laws.proofs.Actions.{block}
use Rattle.qvt_meaning_laws.proofs.Phrasing.{of_stmts}
use Rattle.qvt_meaning_laws.proofs.Calls.{calls_to}

module _ {E F : Type 0} (g : E → F) where
  -- the state with its entries mapped
  abbrev pub image : State E → State F
  image s = record { locals = s.locals; inner = s.inner; store = s.store; trace = s.trace; keys = s.keys; entries = map g s.entries; cost = s.cost }

  abbrev pub image_of : {A : Type 0} → Done E A → Done F A
  image_of d = (d.0, image d.1)

  abbrev pub Alike : (A : Type 0) → Does E A → Does F A → Type 0
  Alike A p q = (s : State E) → q (image s) ≡ image_of (p s)

  outcome : {A B : Type 0} (f : A → Does E B) (h : A → Does F B) → ((a : A) → Alike B (f a) (h a)) → (r : Result A Exit) (s : State E) → on_outcome r (image s) h ≡ image_of (on_outcome r s f)
  outcome f h e (Ok a) s = e a s
  outcome f h e (Err z) s = refl

  binds : (A B : Type 0) (p : Does E A) (q : Does F A) (f : A → Does E B) (h : A → Does F B) → Alike A p q → ((a : A) → Alike B (f a) (h a)) → Alike B (p >>= f) (q >>= h)
  binds A B p q f h e k = λ s. ap (λ (d : Done F A). on_outcome d.0 d.1 h) (e s) ∙ outcome f h k (p s).0 (p s).1

  -- one of two outcomes
  either : {A : Type 0} (b : Bool) (d e : Done E A) → (if b then image_of d else image_of e) ≡ image_of (if b then d else e)
  either true d e = refl
  either false d e = refl

  picks : (A : Type 0) (b : Bool) (p p' : Does E A) (q q' : Does F A) → Alike A p q → Alike A p' q' → Alike A (if b then p else p') (if b then q else q')
  picks A true p p' q q' e k = e
  picks A false p p' q q' e k = k

  charges : (fuel n : ℕ) → Alike (Unit {0}) (charge fuel n) (charge fuel n)
  unfolding charge
  charges fuel n = λ s. either (nat_lt fuel (s.cost + n)) _ _

  -- The store.

  makes_one : (fits room : Bool) (c e : ℕ) (at : Place) → Alike Oid (made_one fits room c e at) (made_one fits room c e at)
  makes_one false room c e at = λ s. refl
  makes_one true false c e at = λ s. refl
  makes_one true true c e at = λ s. refl

  makes : (c e : ℕ) (at : Place) → Alike Oid (new_object c e at) (new_object c e at)
  unfolding new_object
  makes c e at = λ s. makes_one (is_class_for s.store c e) (nat_lt (length s.store.objects) most_objects) c e at s

  changes : (r : Result Contents StoreFault) (at : Place) → Alike (Unit {0}) (changed r at) (changed r at)
  changes (Ok store) at = λ s. refl
  changes (Err refusal) at = λ s. refl

  writes_if : (b : Bool) (r : Result Contents StoreFault) (at : Place) (s : State E) → (if b then changed r at (image s) else misfit at (image s)) ≡ image_of (if b then changed r at s else misfit at s)
  writes_if true r at s = changes r at s
  writes_if false r at s = refl

  writes : (o f : ℕ) (op : SetOp) (vs : List Value) (at : Place) → Alike (Unit {0}) (written o f op vs at) (written o f op vs at)
  writes o f op vs at = λ s. writes_if (are_fit s.store o f vs) (write s.store o f op vs) at s

  puts : (o f : ℕ) (adds : Bool) (v : Value) (at : Place) → Alike (Unit {0}) (put o f adds v at) (put o f adds v at)
  unfolding put
  puts o f adds v at = λ s. writes o f (op_of adds) (slot_items (is_single s.store.metas f) v) at s

  -- Scopes.

  scopes : (A : Type 0) (p : Does E A) (q : Does F A) → Alike A p q → Alike A (scoped p) (scoped q)
  unfolding scoped
  scopes A p q e = λ s. ap (λ (d : Done F A). cut (length s.locals) d) (e s)

  withs : (A : Type 0) (f : List Local → List Local) (p : Does E A) (q : Does F A) → Alike A p q → Alike A (λ s. with_locals (f s.locals) p s) (λ s. with_locals (f s.locals) q s)
  unfolding with_locals
  withs A f p q e = λ s. ap (λ (d : Done F A). cut (length s.locals) d) (e (record s { locals = s.locals ++ f s.locals }))

  insides : (A : Type 0) (o : Oid) (p : Does E A) (q : Does F A) → Alike A p q → Alike A (inside o p) (inside o q)
  unfolding inside
  insides A o p q e = λ s. ap (λ (d : Done F A). out_of s.inner d) (e (record s { inner = Some o }))

  frames : (A : Type 0) (vs : List Local) (p : Does E A) (q : Does F A) → Alike A p q → Alike A (in_frame vs p) (in_frame vs q)
  unfolding in_frame
  frames A vs p q e = λ s. ap (λ (d : Done F A). under (image s) d) (e (begun vs s))

  owns_in : {A : Type 0} (r : Result A Exit) (t s : State E) → own_in r (image t) (image s) ≡ image_of (own_in r t s)
  owns_in (Ok a) t s = refl
  owns_in (Err e) t s = refl

  owns : (A : Type 0) (vs : List Local) (p : Does E A) (q : Does F A) → Alike A p q → Alike (A × List Local) (in_own vs p) (in_own vs q)
  unfolding in_own
  owns A vs p q e = λ s. ap (λ (d : Done F A). own_in d.0 d.1 (image s)) (e (begun vs s)) ∙ owns_in (p (begun vs s)).0 (p (begun vs s)).1 s

  -- Returns.

  catches_in : (r : Result (Unit {0}) Exit) (s : State E) → caught_in r (image s) ≡ image_of (caught_in r s)
  catches_in (Ok u) s = refl
  catches_in (Err (Returned v)) s = refl
  catches_in (Err (Ends e)) s = refl

  catches : (p : Does E (Unit {0})) (q : Does F (Unit {0})) → Alike (Unit {0}) p q → Alike Bool (caught p) (caught q)
  unfolding caught
  catches p q e = λ s. ap (λ (d : Done F (Unit {0})). caught_in d.0 d.1) (e s) ∙ catches_in (p s).0 (p s).1

  gives_in : (r : Result (Unit {0}) Exit) (s : State E) → given_in r (image s) ≡ image_of (given_in r s)
  gives_in (Ok u) s = refl
  gives_in (Err (Returned None)) s = refl
  gives_in (Err (Returned (Some v))) s = refl
  gives_in (Err (Ends e)) s = refl

  gives_back : (p : Does E (Unit {0})) (q : Does F (Unit {0})) → Alike (Unit {0}) p q → Alike Value (given p) (given q)
  unfolding given
  gives_back p q e = λ s. ap (λ (d : Done F (Unit {0})). given_in d.0 d.1) (e s) ∙ gives_in (p s).0 (p s).1

  pushes : (v : Local) → Alike (Unit {0}) (push v) (push v)
  unfolding push
  pushes v = λ s. refl

  -- The trace.

  notes : (k : Key) (o : Option Oid) → Alike (Unit {0}) (note k o) (note k o)
  unfolding note
  notes k o = λ s. refl

  noted : (k : Key) (m : of.MadeResult) (z : BegunCall) → Alike BegunCall (of.noted_on k m z) (of.noted_on k m z)
  noted k (Known r) z = λ s. refl
  noted k (Ended None) z = λ s. refl
  noted k (Ended (Some o)) z = binds (Unit {0}) BegunCall (note k (Some o)) (note k (Some o)) (λ _. pure z) (λ _. pure z) (notes k (Some o)) (λ _ s. refl)
  noted k (New r) z = binds (Unit {0}) BegunCall (note k r) (note k r) (λ _. pure z) (λ _. pure z) (notes k r) (λ _ s. refl)

  keys : (A : Type 0) (k : Key) (p : Does E A) (q : Does F A) → Alike A p q → Alike A (with_key k p) (with_key k q)
  unfolding with_key
  keys A k p q e = λ s. ap (λ (d : Done F A). of.shut (length s.keys) d) (e (record s { keys = s.keys ++ k ∷ [] }))

  unless_open : (b : Bool) (at : Place) (p : Does E BegunCall) (q : Does F BegunCall) → Alike BegunCall p q → Alike BegunCall (of.unless_open b at p) (of.unless_open b at q)
  unless_open true at p q e = λ s. refl
  unless_open false at p q e = e

  unless_known : (o : Option (Option Oid)) (p : Does E BegunCall) (q : Does F BegunCall) → Alike BegunCall p q → Alike BegunCall (of.unless_known o p) (of.unless_known o q)
  unless_known (Some r) p q e = λ s. refl
  unless_known None p q e = e

  onces : (k : Key) (at : Place) (p : Does E BegunCall) (q : Does F BegunCall) → Alike BegunCall p q → Alike BegunCall (once k at p) (once k at q)
  unfolding once
  onces k at p q e =
      let inner : Alike BegunCall (with_key k (p >>= of.noted k)) (with_key k (q >>= of.noted k))
      = keys BegunCall k (p >>= of.noted k) (q >>= of.noted k) (binds BegunCall BegunCall p q (of.noted k) (of.noted k) e (λ z. noted k z.0 z)) in
      let free : Alike BegunCall (ask (λ s. has_key s.keys k) >>= (λ b. of.unless_open b at (with_key k (p >>= of.noted k)))) (ask (λ s. has_key s.keys k) >>= (λ b. of.unless_open b at (with_key k (q >>= of.noted k))))
      = λ s. unless_open (has_key s.keys k) at _ _ inner s in
      λ s. unless_known (result_for k s.trace) _ _ free s

  -- Loops.

  truths : (at : Place) (v : Value) → Alike Bool (truth at v) (truth at v)
  truths at (Truth b) = λ s. refl
  truths at Null = λ s. refl
  truths at (Invalid r i) = λ s. refl
  truths at v = λ s. refl

  turns : (t : Does E Value) (u : Does F Value) (at : Place) (p : Does E (Unit {0})) (q : Does F (Unit {0})) → Alike Value t u → Alike (Unit {0}) p q → Alike Bool (turn t at p) (turn u at q)
  unfolding turn
  turns t u at p q d e = binds Bool Bool (holds t at) (holds u at) (λ b. if b then p >> pure true else pure false) (λ b. if b then q >> pure true else pure false) (binds Value Bool t u (truth at) (truth at) d (truths at))
      (λ b. picks Bool b (p >> pure true) (pure false) (q >> pure true) (pure false) (binds (Unit {0}) Bool p q (λ _. pure true) (λ _. pure true) e (λ _ s. refl)) (λ s. refl))

  loops : (n : ℕ) (t : Does E Value) (u : Does F Value) (at : Place) (p : Does E (Unit {0})) (q : Does F (Unit {0})) → Alike Value t u → Alike (Unit {0}) p q → Alike (Unit {0}) (loop n t at p) (loop n u at q)
  unfolding loop
  loops zero t u at p q d e = λ s. refl
  loops (suc n) t u at p q d e = binds Bool (Unit {0}) (turn t at p) (turn u at q) (λ b. if b then loop n t at p else pure tt) (λ b. if b then loop n u at q else pure tt) (turns t u at p q d e)
      (λ b. picks (Unit {0}) b (loop n t at p) (pure tt) (loop n u at q) (pure tt) (loops n t u at p q d e) (λ s. refl))

  -- a statement
  spending : (fuel : ℕ) (p : Does E (Unit {0})) (q : Does F (Unit {0})) → Alike (Unit {0}) p q → Alike (Unit {0}) (statement (charge fuel) p) (statement (charge fuel) q)
  unfolding statement
  spending fuel p q e = binds (Unit {0}) (Unit {0}) (charge fuel 1) (charge fuel 1) (λ _. p) (λ _. q) (charges fuel 1) (λ _. e)

  items : (name : Option (List ℕ)) (p : Does E Value) (q : Does F Value) → Alike Value p q → (v : Value) → Alike Value (for_item name p v) (for_item name q v)
  unfolding for_item
  items name p q e v = withs Value (λ vs. fixed (name_in vs name) v ∷ []) p q e

  unless_invalid : (w : Value) (p : Does E Value) (q : Does F Value) → Alike Value p q → Alike Value (source.unless_invalid w p) (source.unless_invalid w q)
  unless_invalid (Invalid r i) p q e = λ s. refl
  unless_invalid w p q e = e

  closures : (n : ℕ) (at : Place) (f : Value → Does E Value) (h : Value → Does F Value) (k : Kind) (done vs : List Value) → ((v : Value) → Alike Value (f v) (h v)) → Alike Value (closure_from at f n k done vs) (closure_from at h n k done vs)
  closures zero at f h k done vs e = λ s. refl
  closures (suc n) at f h k done [] e = λ s. refl
  closures (suc n) at f h k done (v ∷ vs) e =
      let rest : Value → List Value = λ w. unvisited (done ++ v ∷ []) (source.present_items (source.items_of w) ++ vs) in
      binds Value Value (f v) (h v) (λ w. source.unless_invalid w (closure_from at f n k (done ++ v ∷ []) (rest w))) (λ w. source.unless_invalid w (closure_from at h n k (done ++ v ∷ []) (rest w))) (e v)
      (λ w. unless_invalid w (closure_from at f n k (done ++ v ∷ []) (rest w)) (closure_from at h n k (done ++ v ∷ []) (rest w)) (closures n at f h k (done ++ v ∷ []) (rest w) e))

  -- Resolves.

  values : (one : Bool) (a : FoundOrEnded) → Alike Value (answer_value one a) (answer_value one a)
  values one (Objects os) = λ s. refl
  values one (Undefined r i) = λ s. refl
  values one (Stopped e) = λ s. refl

  answers : (fuel : ℕ) (one : Bool) (a : ResolveAnswer) → Alike Value (answered_now (charge fuel) one a) (answered_now (charge fuel) one a)
  answers fuel one a = binds (Unit {0}) Value (charge fuel a.cost) (charge fuel a.cost) (λ _. answer_value one a.found) (λ _. answer_value one a.found) (charges fuel a.cost) (λ _. values one a.found)

  -- Two ways to keep a late write of which the one gives what the other one's entry is mapped to.
  module _ (keep : LateWrite → E) (keep' : LateWrite → F) (same : (w : LateWrite) → g (keep w) ≡ keep' w) (p : ProgramTerm) (fuel : ℕ) where
    enters : (w : LateWrite) → Alike (Unit {0}) (entered keep p fuel w) (entered keep' p fuel w)
    enters w = λ s. ap (λ (es : List F). (Ok tt, record (image s) { entries = es })) (ap (λ (z : F). map g s.entries ++ z ∷ []) (sym (same w)) ∙ sym (map-append g s.entries (keep w ∷ [])))

    charges_both : (n : ℕ) → Alike (Unit {0}) ((setting keep p fuel).spend n) ((setting keep' p fuel).spend n)
    unfolding setting
    charges_both n = charges fuel n

    pub alike : Closed E F Alike (λ p q. Unit {0}) (setting keep p fuel) (setting keep' p fuel)
    unfolding setting
    alike = record {
      binds = binds;
      gives = λ A a s. refl;
      ends = λ A e s. refl;
      spends = charges_both;
      stores = λ A f s. refl;
      variables = λ A f s. refl;
      inners = λ s. refl;
      pushes = pushes;
      replaces = λ v s. refl;
      makes = makes;
      puts = puts;
      scopes = scopes;
      withs = withs;
      insides = insides;
      frames = frames;
      owns = owns;
      catches = catches;
      gives_back = gives_back;
      onces = onces;
      loops = λ t u at p q z d e. spending fuel (loop fuel t at p) (loop fuel u at q) (loops fuel t u at p q d e);
      closures = λ at name p q k done vs z e. closures (suc fuel) at (for_item name p) (for_item name q) k done vs (items name p q e);
      resolves = λ at q s. answers fuel q.one (answer p s.trace s.store s.locals at q) s;
      lates = lates Alike (setting keep p fuel) (setting keep' p fuel) binds (λ A a s. refl) (λ A e s. refl) charges_both (λ A f s. refl) (λ o f adds q at s. enters (late_write o f adds q at s) s);
      beyonds = λ at p q e. e;
    }

    -- a whole run
    pub runs : (store : Contents) → main_run keep' p fuel store ≡ image_of (main_run keep p fuel store)
    unfolding main_run setting
    runs store = block alike (of_stmts alike p (calls_to alike p (λ left answer e. tt) 100) (λ answer e. tt) None (main_in p.module_.units)) (state_of store [] [])
