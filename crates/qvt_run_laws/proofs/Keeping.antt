-- Every phrase keeps the records: from a state in which each key has one record at most, and none while it is open, it comes to such a
-- state, with the records that were there at the front of the trace and the same keys open.
use Rattle.std.proofs.Common.{◌≡◌, ◌∙◌, ℕ, zero, suc, ◌+◌, Bool, true, false, nat_lt, if◌then◌else◌, refl, sym, ap, subst, List, [], ◌∷◌, ◌++◌, append-nil, append_assoc, map, length, take, Option, Some, None, Result, Ok, Err}
use Rattle.std.proofs.Math.Seq.{take-append_seam}
use Rattle.qvt_base.specs.declared.numbers.Oid.{Oid}
use Rattle.qvt_base.specs.declared.numbers.Place.{Place}
use Rattle.qvt_metamodel.specs.Metamodels.{is_single}
use Rattle.qvt_slots.specs.declared.fault.StoreFault.{StoreFault}
use Rattle.qvt_slots.specs.Assign.{write}
use Rattle.qvt_slots.specs.Contents.{Contents}
use Rattle.qvt_slots.specs.Limits.{most_objects}
use Rattle.qvt_typing.specs.Accepts.{ProgramTerm}
use Rattle.qvt_value.specs.declared.value.Value.{Value, Null, Bool as Truth, Invalid}
use Rattle.qvt_value.specs.declared.value.Kind.{Kind}
use Rattle.qvt_run_data.specs.declared.exit.End.TheVariants.{OutOfFuel}
use Rattle.qvt_run_data.specs.declared.exit.Exit.{Exit}
use Rattle.qvt_run_data.specs.declared.exit.Exit.TheVariants.{Returned, Ends}
use Rattle.qvt_run_data.specs.declared.late.LateWrite.{LateWrite}
use Rattle.qvt_run_data.specs.declared.local.Local.{Local}
use Rattle.qvt_run_data.specs.declared.record.Key.{Key}
use Rattle.qvt_run_data.specs.declared.record.Record.{Record}
use Rattle.qvt_run_rules.specs.State.{State, Done, Does, on_outcome, ◌>>=◌, ◌>>◌, pure, ask, misfit, caught_in, caught}
use Rattle.qvt_run_rules.specs.Cost.{charge}
use Rattle.qvt_run_rules.specs.Locals.{fixed, name_in, push, replace, scoped, with_locals, inside, cut, out_of, under, begun, own_in, in_frame, in_own}
use Rattle.qvt_run_rules.specs.Store.{made_one, is_class_for, new_object, are_fit, changed, op_of, slot_items, put}
use Rattle.qvt_run_rules.specs.Trace.{same_key, record_of, result_for, has_key}
use Rattle.qvt_run_rules.specs.Sources as source
use Rattle.qvt_run_rules.specs.Iterators.{unvisited, for_item, closure_from}
use Rattle.qvt_run_rules.specs.Statements.{statement, loop, turn, holds, truth}
use Rattle.qvt_run_rules.specs.Calls.{given_in, given}
use Rattle.qvt_run_rules.specs.Mappings as of
use Rattle.qvt_run_rules.specs.Mappings.{MadeResult, BegunCall, Known, Ended, New, note, once, with_key}
use Rattle.qvt_run_rules.specs.Resolve.{ResolveAnswer, FoundOrEnded, Objects, Undefined, Stopped, answer_value, answered_now, late_write}
use Rattle.qvt_meaning.specs.Laws.{keys_differ}
use Rattle.qvt_meaning.specs.Plain.{answer}
use Rattle.qvt_meaning.specs.Run.{entered, setting}
use Rattle.qvt_meaning_laws.proofs.Closed.{Closed}
use Rattle.qvt_meaning_laws.proofs.Lates.{lates}
use Rattle.qvt_run_laws.specs.Records.{IsKeyed, Keeps, IsRecorded}
use Rattle.qvt_run_laws.proofs.Keys.{key_same, key_last, key_before, key_itself, key_apart, result_more, differ_more, known, no_records, first_record}

-- the steps under the key did not find it in the trace
abbrev pub IsMade : MadeResult → Type 0
IsMade (Known r) = ⊥
IsMade (Ended r) = Unit {0}
IsMade (New r) = Unit {0}

abbrev pub Fresh : Result BegunCall Exit → Type 0
Fresh (Ok x) = IsMade x.0
Fresh (Err e) = Unit {0}

module _ {E : Type 0} where
  abbrev pub Kept : (A : Type 0) → Does E A → Does E A → Type 0
  Kept A p q = (s : State E) → IsKeyed s → Keeps s (p s).1

  -- States with the same trace and keys.

  keyed_as : (s t : State E) → t.trace ≡ s.trace → t.keys ≡ s.keys → IsKeyed s → IsKeyed t
  keyed_as s t e k h = record {
    differ = subst (λ rs. keys_differ rs ≡ true) (sym e) h.differ;
    free = λ j q. subst (λ rs. result_for j rs ≡ None) (sym e) (h.free j (subst (λ ks. has_key ks j ≡ true) k q));
  }

  same : (s t : State E) → t.trace ≡ s.trace → t.keys ≡ s.keys → IsKeyed s → Keeps s t
  same s t e k h = record { keyed = keyed_as s t e k h; keys = k; records = ([], e ∙ sym (append-nil s.trace)) }

  -- the later state has the same trace and keys as this one
  moved : (s t u : State E) → u.trace ≡ t.trace → u.keys ≡ t.keys → Keeps s t → Keeps s u
  moved s t u e k h = record { keyed = keyed_as t u e k h.keyed; keys = k ∙ h.keys; records = (h.records.0, e ∙ h.records.1) }

  -- the earlier state has
  based : (s t u : State E) → t.trace ≡ s.trace → t.keys ≡ s.keys → Keeps t u → Keeps s u
  based s t u e k h = record { keyed = h.keyed; keys = h.keys ∙ k; records = (h.records.0, h.records.1 ∙ ap (λ rs. rs ++ h.records.0) e) }

  chain : (s t u : State E) → Keeps s t → Keeps t u → Keeps s u
  chain s t u h k = record {
    keyed = k.keyed;
    keys = k.keys ∙ h.keys;
    records = (h.records.0 ++ k.records.0, k.records.1 ∙ ap (λ rs. rs ++ k.records.0) h.records.1 ∙ append_assoc s.trace h.records.0 k.records.0);
  }

  after : {A B : Type 0} (f : A → Does E B) → ((a : A) → Kept B (f a) (f a)) → (s : State E) (r : Result A Exit) (t : State E) → Keeps s t → Keeps s (on_outcome r t f).1
  after f k s (Ok a) t h = chain s t (f a t).1 h (k a t h.keyed)
  after f k s (Err e) t h = h

  binds : {A B : Type 0} (p : Does E A) (f : A → Does E B) → Kept A p p → ((a : A) → Kept B (f a) (f a)) → Kept B (p >>= f) (p >>= f)
  binds p f e k = λ s h. after f k s (p s).0 (p s).1 (e s h)

  picks : {A : Type 0} (b : Bool) (p q : Does E A) → Kept A p p → Kept A q q → Kept A (if b then p else q) (if b then p else q)
  picks true p q e k = e
  picks false p q e k = k

  -- what is done in a state with the same trace and keys, and turned into another state with the same
  wraps : {A B : Type 0} (m : State E → Result A Exit → State E → Done E B) (start : State E → State E)
      → ((s : State E) (r : Result A Exit) (t : State E) → (m s r t).1.trace ≡ t.trace) → ((s : State E) (r : Result A Exit) (t : State E) → (m s r t).1.keys ≡ t.keys)
      → ((s : State E) → (start s).trace ≡ s.trace) → ((s : State E) → (start s).keys ≡ s.keys)
      → (p : Does E A) → Kept A p p → Kept B (λ s. m s (p (start s)).0 (p (start s)).1) (λ s. m s (p (start s)).0 (p (start s)).1)
  wraps m start et ek bt bk p e = λ s h.
      let t : State E = (p (start s)).1 in
      moved s t (m s (p (start s)).0 t).1 (et s (p (start s)).0 t) (ek s (p (start s)).0 t) (based s (start s) t (bt s) (bk s) (e (start s) (keyed_as s (start s) (bt s) (bk s) h)))

  -- Steps.

  abbrev charged : Bool → ℕ → State E → Done E (Unit {0})
  charged b n s = if b then (Err (Ends OutOfFuel), s) else (Ok tt, record s { cost = s.cost + n })

  charge_by : (b : Bool) (n : ℕ) (s : State E) → IsKeyed s → Keeps s (charged b n s).1
  charge_by true n s h = same s s refl refl h
  charge_by false n s h = same s (record s { cost = s.cost + n }) refl refl h

  spends : (fuel n : ℕ) → Kept (Unit {0}) (charge fuel n) (charge fuel n)
  unfolding charge
  spends fuel n = λ s h. charge_by (nat_lt fuel (s.cost + n)) n s h

  makes_one : (fits room : Bool) (c e : ℕ) (at : Place) → Kept Oid (made_one fits room c e at) (made_one fits room c e at)
  makes_one false room c e at = λ s h. same s s refl refl h
  makes_one true false c e at = λ s h. same s s refl refl h
  makes_one true true c e at = λ s h. same s (made_one true true c e at s).1 refl refl h

  makes : (c e : ℕ) (at : Place) → Kept Oid (new_object c e at) (new_object c e at)
  unfolding new_object
  makes c e at = λ s h. makes_one (is_class_for s.store c e) (nat_lt (length s.store.objects) most_objects) c e at s h

  changes : (r : Result Contents StoreFault) (at : Place) → Kept (Unit {0}) (changed r at) (changed r at)
  changes (Ok store) at = λ s h. same s (record s { store = store }) refl refl h
  changes (Err refusal) at = λ s h. same s s refl refl h

  writes_if : (b : Bool) (r : Result Contents StoreFault) (at : Place) (s : State E) → IsKeyed s → Keeps s (if b then changed r at s else misfit at s).1
  writes_if true r at s h = changes r at s h
  writes_if false r at s h = same s s refl refl h

  puts : (o f : ℕ) (adds : Bool) (v : Value) (at : Place) → Kept (Unit {0}) (put o f adds v at) (put o f adds v at)
  unfolding put
  puts o f adds v at = λ s h. let vs : List Value = slot_items (is_single s.store.metas f) v in writes_if (are_fit s.store o f vs) (write s.store o f (op_of adds) vs) at s h

  values : (one : Bool) (a : FoundOrEnded) → Kept Value (answer_value one a) (answer_value one a)
  values one (Objects os) = λ s h. same s s refl refl h
  values one (Undefined r i) = λ s h. same s s refl refl h
  values one (Stopped e) = λ s h. same s s refl refl h

  answers : (fuel : ℕ) (one : Bool) (a : ResolveAnswer) → Kept Value (answered_now (charge fuel) one a) (answered_now (charge fuel) one a)
  answers fuel one a = binds (charge fuel a.cost) (λ _. answer_value one a.found) (spends fuel a.cost) (λ _. values one a.found)

  catches_trace : (r : Result (Unit {0}) Exit) (t : State E) → (caught_in r t).1.trace ≡ t.trace
  catches_trace (Ok u) t = refl
  catches_trace (Err (Returned v)) t = refl
  catches_trace (Err (Ends e)) t = refl

  catches_keys : (r : Result (Unit {0}) Exit) (t : State E) → (caught_in r t).1.keys ≡ t.keys
  catches_keys (Ok u) t = refl
  catches_keys (Err (Returned v)) t = refl
  catches_keys (Err (Ends e)) t = refl

  gives_trace : (r : Result (Unit {0}) Exit) (t : State E) → (given_in r t).1.trace ≡ t.trace
  gives_trace (Ok u) t = refl
  gives_trace (Err (Returned None)) t = refl
  gives_trace (Err (Returned (Some v))) t = refl
  gives_trace (Err (Ends e)) t = refl

  gives_keys : (r : Result (Unit {0}) Exit) (t : State E) → (given_in r t).1.keys ≡ t.keys
  gives_keys (Ok u) t = refl
  gives_keys (Err (Returned None)) t = refl
  gives_keys (Err (Returned (Some v))) t = refl
  gives_keys (Err (Ends e)) t = refl

  owns_trace : {A : Type 0} (s : State E) (r : Result A Exit) (t : State E) → (own_in r t s).1.trace ≡ t.trace
  owns_trace s (Ok a) t = refl
  owns_trace s (Err e) t = refl

  owns_keys : {A : Type 0} (s : State E) (r : Result A Exit) (t : State E) → (own_in r t s).1.keys ≡ t.keys
  owns_keys s (Ok a) t = refl
  owns_keys s (Err e) t = refl

  -- Scopes and returns.

  pushes : (v : Local) → Kept (Unit {0}) (push v) (push v)
  unfolding push
  pushes v = λ s h. same s _ refl refl h

  scopes : {A : Type 0} (p : Does E A) → Kept A p p → Kept A (scoped p) (scoped p)
  unfolding scoped
  scopes p e = wraps (λ s r t. cut (length s.locals) (r, t)) (λ s. s) (λ s r t. refl) (λ s r t. refl) (λ s. refl) (λ s. refl) p e

  insides : {A : Type 0} (o : Oid) (p : Does E A) → Kept A p p → Kept A (inside o p) (inside o p)
  unfolding inside
  insides o p e = wraps (λ s r t. out_of s.inner (r, t)) (λ s. record s { inner = Some o }) (λ s r t. refl) (λ s r t. refl) (λ s. refl) (λ s. refl) p e

  frames : {A : Type 0} (vs : List Local) (p : Does E A) → Kept A p p → Kept A (in_frame vs p) (in_frame vs p)
  unfolding in_frame
  frames vs p e = wraps (λ s r t. under s (r, t)) (λ s. begun vs s) (λ s r t. refl) (λ s r t. refl) (λ s. refl) (λ s. refl) p e

  owns : {A : Type 0} (vs : List Local) (p : Does E A) → Kept A p p → Kept (A × List Local) (in_own vs p) (in_own vs p)
  unfolding in_own
  owns vs p e = wraps (λ s r t. own_in r t s) (λ s. begun vs s) owns_trace owns_keys (λ s. refl) (λ s. refl) p e

  catches : (p : Does E (Unit {0})) → Kept (Unit {0}) p p → Kept Bool (caught p) (caught p)
  unfolding caught
  catches p e = wraps (λ s r t. caught_in r t) (λ s. s) (λ s r t. catches_trace r t) (λ s r t. catches_keys r t) (λ s. refl) (λ s. refl) p e

  gives_back : (p : Does E (Unit {0})) → Kept (Unit {0}) p p → Kept Value (given p) (given p)
  unfolding given
  gives_back p e = wraps (λ s r t. given_in r t) (λ s. s) (λ s r t. gives_trace r t) (λ s r t. gives_keys r t) (λ s. refl) (λ s. refl) p e

  withs : {A : Type 0} (f : List Local → List Local) (p : Does E A) → Kept A p p → Kept A (λ s. with_locals (f s.locals) p s) (λ s. with_locals (f s.locals) p s)
  unfolding with_locals
  withs f p e = wraps (λ s r t. cut (length s.locals) (r, t)) (λ s. record s { locals = s.locals ++ f s.locals }) (λ s r t. refl) (λ s r t. refl) (λ s. refl) (λ s. refl) p e

  -- Loops.

  truths : (at : Place) (v : Value) → Kept Bool (truth at v) (truth at v)
  truths at (Truth b) = λ s h. same s s refl refl h
  truths at Null = λ s h. same s s refl refl h
  truths at (Invalid r i) = λ s h. same s s refl refl h
  truths at v = λ s h. same s s refl refl h

  pures : {A : Type 0} (a : A) → Kept A (pure a) (pure a)
  pures a = λ s h. same s s refl refl h

  turns : (t : Does E Value) (at : Place) (p : Does E (Unit {0})) → Kept Value t t → Kept (Unit {0}) p p → Kept Bool (turn t at p) (turn t at p)
  unfolding turn
  turns t at p d e = binds (holds t at) (λ b. if b then p >> pure true else pure false) (binds t (truth at) d (truths at))
      (λ b. picks b (p >> pure true) (pure false) (binds p (λ _. pure true) e (λ _. pures true)) (pures false))

  loops : (n : ℕ) (t : Does E Value) (at : Place) (p : Does E (Unit {0})) → Kept Value t t → Kept (Unit {0}) p p → Kept (Unit {0}) (loop n t at p) (loop n t at p)
  unfolding loop
  loops zero t at p d e = λ s h. same s s refl refl h
  loops (suc n) t at p d e = binds {A = Bool} {B = Unit {0}} (turn t at p) (λ b. if b then loop n t at p else pure tt) (turns t at p d e) (λ b. picks {A = Unit {0}} b (loop n t at p) (pure tt) (loops n t at p d e) (pures {A = Unit {0}} tt))

  statements : (fuel : ℕ) (p : Does E (Unit {0})) → Kept (Unit {0}) p p → Kept (Unit {0}) (statement (charge fuel) p) (statement (charge fuel) p)
  unfolding statement
  statements fuel p e = binds (charge fuel 1) (λ _. p) (spends fuel 1) (λ _. e)

  items : (name : Option (List ℕ)) (p : Does E Value) → Kept Value p p → (v : Value) → Kept Value (for_item name p v) (for_item name p v)
  unfolding for_item
  items name p e v = withs (λ vs. fixed (name_in vs name) v ∷ []) p e

  unless_invalid : (w : Value) (p : Does E Value) → Kept Value p p → Kept Value (source.unless_invalid w p) (source.unless_invalid w p)
  unless_invalid (Invalid r i) p e = λ s h. same s s refl refl h
  unless_invalid w p e = e

  closures : (n : ℕ) (at : Place) (f : Value → Does E Value) (k : Kind) (done vs : List Value) → ((v : Value) → Kept Value (f v) (f v)) → Kept Value (closure_from at f n k done vs) (closure_from at f n k done vs)
  closures zero at f k done vs e = λ s h. same s s refl refl h
  closures (suc n) at f k done [] e = λ s h. same s s refl refl h
  closures (suc n) at f k done (v ∷ vs) e =
      let rest : Value → List Value = λ w. unvisited (done ++ v ∷ []) (source.present_items (source.items_of w) ++ vs) in
      binds (f v) (λ w. source.unless_invalid w (closure_from at f n k (done ++ v ∷ []) (rest w))) (e v)
      (λ w. unless_invalid w (closure_from at f n k (done ++ v ∷ []) (rest w)) (closures n at f k (done ++ v ∷ []) (rest w) e))

  -- A key that is opened, and its record.

  module _ (k : Key) where
    -- it has no record, and is not open
    abbrev Free : State E → Type 0
    Free s = (result_for k s.trace ≡ None) × (has_key s.keys k ≡ false)

    abbrev opened : State E → State E
    opened s = record s { keys = s.keys ++ k ∷ [] }

    last_free : (s : State E) (j : Key) (b : Bool) → IsKeyed s → Free s → has_key (s.keys ++ k ∷ []) j ≡ true → has_key s.keys j ≡ b → result_for j s.trace ≡ None
    last_free s j true h f q e = h.free j e
    last_free s j false h f q e = subst (λ x. result_for x s.trace ≡ None) (key_same k j (key_last s.keys k j q e)) f.0

    opens : (s : State E) → IsKeyed s → Free s → IsKeyed (opened s)
    opens s h f = record { differ = h.differ; free = λ j q. last_free s j (has_key s.keys j) h f q refl }

    -- it has no record as long as it is open
    still_free : (s t : State E) → Keeps (opened s) t → result_for k t.trace ≡ None
    still_free s t h = h.keyed.free k (subst (λ l. has_key l k ≡ true) (sym h.keys) (key_itself s.keys k))

    -- it is closed again, with records after those that were there
    closes : (s t : State E) (more : List Record) → Keeps (opened s) t → keys_differ (t.trace ++ more) ≡ true → ((j : Key) → has_key s.keys j ≡ true → result_for j t.trace ≡ None → result_for j (t.trace ++ more) ≡ None)
        → (u : State E) → u.trace ≡ t.trace ++ more → u.keys ≡ take (length s.keys) t.keys → Keeps s u
    closes s t more h d w u a b =
        let ks : u.keys ≡ s.keys = b ∙ ap (take (length s.keys)) h.keys ∙ take-append_seam s.keys (k ∷ []) in
        record {
          keyed = record {
            differ = subst (λ rs. keys_differ rs ≡ true) (sym a) d;
            free = λ j q.
                let q' : has_key s.keys j ≡ true = subst (λ l. has_key l j ≡ true) ks q in
                subst (λ l. result_for j l ≡ None) (sym a) (w j q' (h.keyed.free j (subst (λ l. has_key l j ≡ true) (sym h.keys) (key_before s.keys k j q'))));
          };
          keys = ks;
          records = (h.records.0 ++ more, a ∙ ap (λ rs. rs ++ more) h.records.1 ∙ append_assoc s.trace h.records.0 more);
        }

    without : (s t : State E) → Keeps (opened s) t → (u : State E) → u.trace ≡ t.trace → u.keys ≡ take (length s.keys) t.keys → Keeps s u
    without s t h u a b =
        let e : t.trace ++ [] ≡ t.trace = append-nil t.trace in
        closes s t [] h (subst (λ rs. keys_differ rs ≡ true) (sym e) h.keyed.differ) (λ j q n. subst (λ rs. result_for j rs ≡ None) (sym e) n) u (a ∙ sym e) b

    with_record : (s t : State E) (v : Option Oid) → Free s → Keeps (opened s) t → (u : State E) → u.trace ≡ t.trace ++ record_of k v ∷ [] → u.keys ≡ take (length s.keys) t.keys → Keeps s u
    with_record s t v f h u a b =
        closes s t (record_of k v ∷ []) h (differ_more t.trace (record_of k v) h.keyed.differ (still_free s t h))
        (λ j q n. result_more j t.trace (record_of k v) n (key_apart s.keys k j (same_key k j) refl q f.1)) u a b

    noted : (s t : State E) (m : MadeResult) (x : BegunCall) → Free s → Keeps (opened s) t → Keeps s (of.shut (length s.keys) (of.noted_on k m x t)).1
    unfolding note
    noted s t (Known r) x f h = without s t h _ refl refl
    noted s t (Ended None) x f h = without s t h _ refl refl
    noted s t (Ended (Some o)) x f h = with_record s t (Some o) f h _ refl refl
    noted s t (New r) x f h = with_record s t r f h _ refl refl

    noting : (s : State E) (r : Result BegunCall Exit) (t : State E) → Free s → Keeps (opened s) t → Keeps s (of.shut (length s.keys) (on_outcome r t (of.noted k))).1
    noting s (Ok x) t f h = noted s t x.0 x f h
    noting s (Err e) t f h = without s t h _ refl refl

    module _ (at : Place) (p : Does E BegunCall) (e : Kept BegunCall p p) where
      abbrev rest : Does E BegunCall
      rest = ask (λ s. has_key s.keys k) >>= (λ is_open. of.unless_open is_open at (with_key k (p >>= of.noted k)))

      unless_open : (b : Bool) (s : State E) → has_key s.keys k ≡ b → result_for k s.trace ≡ None → IsKeyed s → Keeps s (of.unless_open b at (with_key k (p >>= of.noted k)) s).1
      unfolding with_key
      unless_open true s o n h = same s s refl refl h
      unless_open false s o n h = noting s (p (opened s)).0 (p (opened s)).1 (n, o) (e (opened s) (opens s h (n, o)))

      unless_known : (o : Option (Option Oid)) (s : State E) → result_for k s.trace ≡ o → IsKeyed s → Keeps s (of.unless_known o rest s).1
      unless_known (Some r) s o h = same s s refl refl h
      unless_known None s o h = unless_open (has_key s.keys k) s refl o h

      pub onces : Kept BegunCall (once k at p) (once k at p)
      unfolding once
      onces = λ s h. unless_known (result_for k s.trace) s refl h

      -- The record of the key, where what comes first does not find one itself.

      record_stands : (s t : State E) (m : MadeResult) (ls : List Local) → IsMade m → Keeps (opened s) t
          → IsRecorded k (of.noted_on k m (m, ls) t).0 (of.noted_on k m (m, ls) t).1.trace
      unfolding note
      record_stands s t (Known r) ls n h = absurd n
      record_stands s t (Ended None) ls n h = ap (map (λ (r : Record). r.result)) (no_records k t.trace (still_free s t h))
      record_stands s t (Ended (Some o)) ls n h = ap (map (λ (r : Record). r.result)) (first_record k t.trace (record_of k (Some o)) refl (still_free s t h))
      record_stands s t (New r) ls n h = ap (map (λ (r : Record). r.result)) (first_record k t.trace (record_of k r) refl (still_free s t h))

      writing : (s : State E) (r : Result BegunCall Exit) (t : State E) → Fresh r → Keeps (opened s) t → IsRecorded k (on_outcome r t (of.noted k)).0 (on_outcome r t (of.noted k)).1.trace
      writing s (Ok x) t n h = record_stands s t x.0 x.1 n h
      writing s (Err z) t n h = tt

      written_open : (b : Bool) (s : State E) → has_key s.keys k ≡ b → result_for k s.trace ≡ None → IsKeyed s → ((t : State E) → Fresh (p t).0)
          → IsRecorded k (of.unless_open b at (with_key k (p >>= of.noted k)) s).0 (of.unless_open b at (with_key k (p >>= of.noted k)) s).1.trace
      unfolding with_key
      written_open true s o n h w = tt
      written_open false s o n h w = writing s (p (opened s)).0 (p (opened s)).1 (w (opened s)) (e (opened s) (opens s h (n, o)))

      written_known : (o : Option (Option Oid)) (s : State E) → result_for k s.trace ≡ o → IsKeyed s → ((t : State E) → Fresh (p t).0)
          → IsRecorded k (of.unless_known o rest s).0 (of.unless_known o rest s).1.trace
      written_known (Some r) s o h w = known k s.trace r h.differ o
      written_known None s o h w = written_open (has_key s.keys k) s refl o h w

      pub once_records : ((t : State E) → Fresh (p t).0) → (s : State E) → IsKeyed s → IsRecorded k (once k at p s).0 (once k at p s).1.trace
      unfolding once
      once_records w s h = written_known (result_for k s.trace) s refl h w

  -- over the setting of a run
  pub keeps : (keep : LateWrite → E) (program : ProgramTerm) (fuel : ℕ) → Closed E E Kept (λ p q. Unit {0}) (setting keep program fuel) (setting keep program fuel)
  unfolding setting
  keeps keep program fuel = record {
    binds = λ A B p q f g e k. binds p f e k;
    gives = λ A a. pures a;
    ends = λ A e s h. same s s refl refl h;
    spends = spends fuel;
    stores = λ A f s h. same s s refl refl h;
    variables = λ A f s h. same s s refl refl h;
    inners = λ s h. same s s refl refl h;
    pushes = pushes;
    replaces = λ v s h. same s (replace v s).1 refl refl h;
    makes = makes;
    puts = puts;
    scopes = λ A p q e. scopes p e;
    withs = λ A f p q e. withs f p e;
    insides = λ A o p q e. insides o p e;
    frames = λ A vs p q e. frames vs p e;
    owns = λ A vs p q e. owns vs p e;
    catches = λ p q e. catches p e;
    gives_back = λ p q e. gives_back p e;
    onces = λ k at p q e. onces k at p e;
    loops = λ t u at p q z d e. statements fuel (loop fuel t at p) (loops fuel t at p d e);
    closures = λ at name p q k done vs z e. closures (suc fuel) at (for_item name p) k done vs (items name p e);
    resolves = λ at q s h. answers fuel q.one (answer program s.trace s.store s.locals at q) s h;
    lates = lates Kept (setting keep program fuel) (setting keep program fuel) (λ A B p q f g e k. binds p f e k) (λ A a. pures a) (λ A e s h. same s s refl refl h) (spends fuel) (λ A f s h. same s s refl refl h)
        (λ o f adds q at s h. same s (entered keep program fuel (late_write o f adds q at s) s).1 refl refl h);
    beyonds = λ at p q e. e;
  }
