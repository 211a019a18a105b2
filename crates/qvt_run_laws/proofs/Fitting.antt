-- What late assignments keep fits its slots, in every state of a run.
use Rattle.std.proofs.Common.{◌≡◌, ◌∙◌, ℕ, zero, suc, ◌+◌, Bool, true, false, nat_lt, ◌&&◌, if◌then◌else◌, refl, sym, ap, subst, List, [], ◌∷◌, ◌++◌, length, Option, Some, None, Result, Ok, Err}
use Rattle.qvt_base.specs.declared.numbers.Oid.{Oid}
use Rattle.qvt_base.specs.declared.numbers.Place.{Place}
use Rattle.qvt_metamodel.specs.Metamodels.{Metamodels, is_single, shape_of, has_feature}
use Rattle.qvt_metamodel.specs.Descends.{is_class_kind}
use Rattle.qvt_slots.specs.declared.fault.StoreFault.{StoreFault}
use Rattle.qvt_slots.specs.declared.op.SetOp.{SetOp}
use Rattle.qvt_slots.specs.Assign.{write}
use Rattle.qvt_slots.specs.Contents.{Contents, class_of, is_live, is_slot, with_new}
use Rattle.qvt_slots.specs.Limits.{most_objects}
use Rattle.qvt_store_laws.specs.Stay.{StaysIn}
use Rattle.qvt_store_laws.proofs.Stays.{stays_is_reflexive, stays_is_transitive, add_stays, write_stays}
use Rattle.qvt_typing.specs.Accepts.{ProgramTerm}
use Rattle.qvt_value.specs.declared.value.Value.{Value, Null, Bool as Truth, Invalid}
use Rattle.qvt_value.specs.declared.value.Kind.{Kind}
use Rattle.qvt_run_data.specs.declared.exit.End.TheVariants.{OutOfFuel}
use Rattle.qvt_run_data.specs.declared.exit.Exit.{Exit}
use Rattle.qvt_run_data.specs.declared.exit.Exit.TheVariants.{Returned, Ends}
use Rattle.qvt_run_data.specs.declared.late.LateWrite.{LateWrite}
use Rattle.qvt_run_data.specs.declared.local.Local.{Local}
use Rattle.qvt_run_data.specs.declared.record.Key.{Key}
use Rattle.qvt_run_data.specs.declared.request.RequestForm.{RequestForm}
use Rattle.qvt_run_rules.specs.State.{State, Done, Does, on_outcome, ◌>>=◌, ◌>>◌, pure, found, ask, look, misfit, caught_in, caught}
use Rattle.qvt_run_rules.specs.Cost.{charge}
use Rattle.qvt_run_rules.specs.Typed.{valid}
use Rattle.qvt_run_rules.specs.Locals.{fixed, name_in, push, replace, scoped, with_locals, inside, cut, out_of, under, begun, own_in, in_frame, in_own}
use Rattle.qvt_run_rules.specs.Store.{made_one, is_class_for, new_object, are_fit, changed, op_of, slot_items, put}
use Rattle.qvt_run_rules.specs.Trace.{result_for, has_key}
use Rattle.qvt_run_rules.specs.Sources as source
use Rattle.qvt_run_rules.specs.Iterators.{unvisited, for_item, closure_from}
use Rattle.qvt_run_rules.specs.Statements.{statement, loop, turn, holds, truth, with_slot}
use Rattle.qvt_run_rules.specs.Calls.{given_in, given}
use Rattle.qvt_run_rules.specs.Mappings as of
use Rattle.qvt_run_rules.specs.Mappings.{MadeResult, BegunCall, Known, Ended, New, note, once, with_key}
use Rattle.qvt_run_rules.specs.Resolve as by
use Rattle.qvt_run_rules.specs.Resolve.{ResolveAnswer, FoundOrEnded, Objects, Undefined, Stopped, answer_value, answered_now, late, late_write, query_of}
use Rattle.qvt_meaning.specs.Laws.{request_run}
use Rattle.qvt_meaning.specs.Plain.{answer, state_of}
use Rattle.qvt_meaning.specs.Run.{entered, setting, main_in, main_run}
use Rattle.qvt_meaning_laws.proofs.Closed.{Closed}
use Rattle.qvt_meaning_laws.proofs.Actions as action
use Rattle.qvt_meaning_laws.proofs.Phrasing.{of_stmts}
use Rattle.qvt_meaning_laws.proofs.Calls as call
use Rattle.qvt_meaning.specs.Units.{all_calls}
use Rattle.qvt_run_laws.proofs.Every.{Every, every-append, all_of}
use Rattle.qvt_run_laws.specs.Entries.{IsFor, RequestsFit}
use Rattle.qvt_run_laws.specs.Records.{rules}

both : (a b : Bool) → a ≡ true → b ≡ true → (a && b) ≡ true
both true b h k = k
both false b h k = absurd (cc)

left_of : (a b : Bool) → (a && b) ≡ true → a ≡ true
left_of true b h = refl
left_of false b h = absurd (cc)

right_of : (a b : Bool) → (a && b) ≡ true → b ≡ true
right_of true b h = h
right_of false b h = absurd (cc)

-- A slot that is there stays there.

pub slot_stays : (s t : Contents) → StaysIn s t → (o f : ℕ) → is_slot s o f ≡ true → is_slot t o f ≡ true
slot_stays s t h o f e =
    let live : is_live s o ≡ true = left_of (is_live s o) (has_feature s.metas (class_of s o) f) e in
    let has : has_feature s.metas (class_of s o) f ≡ true = right_of (is_live s o) (has_feature s.metas (class_of s o) f) e in
    both (is_live t o) (has_feature t.metas (class_of t o) f) (h.live o live) (ap (λ m. has_feature m (class_of t o) f) h.metas ∙ ap (λ c. has_feature s.metas c f) (h.class o live) ∙ has)

pub for_stays : (s t : Contents) → StaysIn s t → (w : LateWrite) → IsFor s w → IsFor t w
for_stays s t h w e = record {
  slot = slot_stays s t h w.object.0 w.feature.0 e.slot;
  class = ap (λ (m : Metamodels). is_class_kind m w.request.class.0 (shape_of m w.feature.0).kind) h.metas ∙ e.class;
}

all_stay : (s t : Contents) → StaysIn s t → (ws : List LateWrite) → Every (IsFor s) ws → Every (IsFor t) ws
all_stay s t h [] e = e
all_stay s t h (w ∷ ws) e = (for_stays s t h w e.0, all_stay s t h ws e.1)

-- what is kept fits, and what is in the store stays there
pub record Leaves (s t : State LateWrite) : Type 0 where
  pub fit : Every (IsFor t.store) t.entries
  pub stays : StaysIn s.store t.store

abbrev AllFit : State LateWrite → Type 0
AllFit s = Every (IsFor s.store) s.entries

abbrev E : Type 0
E = LateWrite

abbrev pub Fits : (A : Type 0) → Does E A → Does E A → Type 0
Fits A p q = (s : State E) → AllFit s → Leaves s (p s).1

same : (s t : State E) → t.store ≡ s.store → t.entries ≡ s.entries → AllFit s → Leaves s t
same s t a b h = record {
  fit = subst (Every (IsFor t.store)) (sym b) (subst (λ st. Every (IsFor st) s.entries) (sym a) h);
  stays = subst (StaysIn s.store) (sym a) (stays_is_reflexive s.store);
}

moved : (s t u : State E) → u.store ≡ t.store → u.entries ≡ t.entries → Leaves s t → Leaves s u
moved s t u a b h = record {
  fit = subst (Every (IsFor u.store)) (sym b) (subst (λ st. Every (IsFor st) t.entries) (sym a) h.fit);
  stays = subst (StaysIn s.store) (sym a) h.stays;
}

based : (s t u : State E) → t.store ≡ s.store → Leaves t u → Leaves s u
based s t u a h = record { fit = h.fit; stays = subst (λ st. StaysIn st u.store) a h.stays }

chain : (s t u : State E) → Leaves s t → Leaves t u → Leaves s u
chain s t u h k = record { fit = k.fit; stays = stays_is_transitive s.store t.store u.store h.stays k.stays }

after : {A B : Type 0} (f : A → Does E B) → ((a : A) → Fits B (f a) (f a)) → (s : State E) (r : Result A Exit) (t : State E) → Leaves s t → Leaves s (on_outcome r t f).1
after f k s (Ok a) t h = chain s t (f a t).1 h (k a t h.fit)
after f k s (Err e) t h = h

binds : {A B : Type 0} (p : Does E A) (f : A → Does E B) → Fits A p p → ((a : A) → Fits B (f a) (f a)) → Fits B (p >>= f) (p >>= f)
binds p f e k = λ s h. after f k s (p s).0 (p s).1 (e s h)

steady : {A : Type 0} (p : Does E A) → ((s : State E) → (p s).1.store ≡ s.store) → ((s : State E) → (p s).1.entries ≡ s.entries) → Fits A p p
steady p a b = λ s h. same s (p s).1 (a s) (b s) h

pures : {A : Type 0} (a : A) → Fits A (pure a) (pure a)
pures a = steady (pure a) (λ s. refl) (λ s. refl)

picks : {A : Type 0} (b : Bool) (p q : Does E A) → Fits A p p → Fits A q q → Fits A (if b then p else q) (if b then p else q)
picks true p q e k = e
picks false p q e k = k

-- what is done in a state with the same store and entries, and turned into another state with the same
wraps : {A B : Type 0} (m : State E → Result A Exit → State E → Done E B) (start : State E → State E)
    → ((s : State E) (r : Result A Exit) (t : State E) → (m s r t).1.store ≡ t.store) → ((s : State E) (r : Result A Exit) (t : State E) → (m s r t).1.entries ≡ t.entries)
    → ((s : State E) → (start s).store ≡ s.store) → ((s : State E) → (start s).entries ≡ s.entries)
    → (p : Does E A) → Fits A p p → Fits B (λ s. m s (p (start s)).0 (p (start s)).1) (λ s. m s (p (start s)).0 (p (start s)).1)
wraps m start es ee bs be p e = λ s h.
    let t : State E = (p (start s)).1 in
    moved s t (m s (p (start s)).0 t).1 (es s (p (start s)).0 t) (ee s (p (start s)).0 t) (based s (start s) t (bs s) (e (start s) (same s (start s) (bs s) (be s) h).fit))

-- Steps.

abbrev charged : Bool → ℕ → State E → Done E (Unit {0})
charged b n s = if b then (Err (Ends OutOfFuel), s) else (Ok tt, record s { cost = s.cost + n })

charge_by : (b : Bool) (n : ℕ) (s : State E) → AllFit s → Leaves s (charged b n s).1
charge_by true n s h = same s s refl refl h
charge_by false n s h = same s (record s { cost = s.cost + n }) refl refl h

spends : (fuel n : ℕ) → Fits (Unit {0}) (charge fuel n) (charge fuel n)
unfolding charge
spends fuel n = λ s h. charge_by (nat_lt fuel (s.cost + n)) n s h

grown : (s : State E) (store : Contents) → StaysIn s.store store → AllFit s → Leaves s (record s { store = store })
grown s store h e = record { fit = all_stay s.store store h s.entries e; stays = h }

makes_one : (fits room : Bool) (c e : ℕ) (at : Place) → Fits Oid (made_one fits room c e at) (made_one fits room c e at)
makes_one false room c e at = λ s h. same s s refl refl h
makes_one true false c e at = λ s h. same s s refl refl h
makes_one true true c e at = λ s h. grown s (with_new s.store c e) (add_stays s.store c e) h

makes : (c e : ℕ) (at : Place) → Fits Oid (new_object c e at) (new_object c e at)
unfolding new_object
makes c e at = λ s h. makes_one (is_class_for s.store c e) (nat_lt (length s.store.objects) most_objects) c e at s h

changes : (r : Result Contents StoreFault) (at : Place) (s : State E) → ((store : Contents) → r ≡ Ok store → StaysIn s.store store) → AllFit s → Leaves s (changed r at s).1
changes (Ok store) at s w h = grown s store (w store refl) h
changes (Err refusal) at s w h = same s s refl refl h

writes_if : (b : Bool) (o f : ℕ) (op : SetOp) (vs : List Value) (at : Place) (s : State E) → AllFit s → Leaves s (if b then changed (write s.store o f op vs) at s else misfit at s).1
writes_if true o f op vs at s h = changes (write s.store o f op vs) at s (λ store e. write_stays s.store store o f op vs e) h
writes_if false o f op vs at s h = same s s refl refl h

puts : (o f : ℕ) (adds : Bool) (v : Value) (at : Place) → Fits (Unit {0}) (put o f adds v at) (put o f adds v at)
unfolding put
puts o f adds v at = λ s h. let vs : List Value = slot_items (is_single s.store.metas f) v in writes_if (are_fit s.store o f vs) o f (op_of adds) vs at s h

values : (one : Bool) (a : FoundOrEnded) → Fits Value (answer_value one a) (answer_value one a)
values one (Objects os) = λ s h. same s s refl refl h
values one (Undefined r i) = λ s h. same s s refl refl h
values one (Stopped e) = λ s h. same s s refl refl h

answers : (fuel : ℕ) (one : Bool) (a : ResolveAnswer) → Fits Value (answered_now (charge fuel) one a) (answered_now (charge fuel) one a)
answers fuel one a = binds (charge fuel a.cost) (λ _. answer_value one a.found) (spends fuel a.cost) (λ _. values one a.found)

-- Scopes and returns.

caught_store : (r : Result (Unit {0}) Exit) (t : State E) → (caught_in r t).1.store ≡ t.store
caught_store (Ok u) t = refl
caught_store (Err (Returned v)) t = refl
caught_store (Err (Ends e)) t = refl

caught_entries : (r : Result (Unit {0}) Exit) (t : State E) → (caught_in r t).1.entries ≡ t.entries
caught_entries (Ok u) t = refl
caught_entries (Err (Returned v)) t = refl
caught_entries (Err (Ends e)) t = refl

given_store : (r : Result (Unit {0}) Exit) (t : State E) → (given_in r t).1.store ≡ t.store
given_store (Ok u) t = refl
given_store (Err (Returned None)) t = refl
given_store (Err (Returned (Some v))) t = refl
given_store (Err (Ends e)) t = refl

given_entries : (r : Result (Unit {0}) Exit) (t : State E) → (given_in r t).1.entries ≡ t.entries
given_entries (Ok u) t = refl
given_entries (Err (Returned None)) t = refl
given_entries (Err (Returned (Some v))) t = refl
given_entries (Err (Ends e)) t = refl

owned_store : {A : Type 0} (s : State E) (r : Result A Exit) (t : State E) → (own_in r t s).1.store ≡ t.store
owned_store s (Ok a) t = refl
owned_store s (Err e) t = refl

owned_entries : {A : Type 0} (s : State E) (r : Result A Exit) (t : State E) → (own_in r t s).1.entries ≡ t.entries
owned_entries s (Ok a) t = refl
owned_entries s (Err e) t = refl

pushes : (v : Local) → Fits (Unit {0}) (push v) (push v)
unfolding push
pushes v = steady (push v) (λ s. refl) (λ s. refl)

scopes : {A : Type 0} (p : Does E A) → Fits A p p → Fits A (scoped p) (scoped p)
unfolding scoped
scopes p e = wraps (λ s r t. cut (length s.locals) (r, t)) (λ s. s) (λ s r t. refl) (λ s r t. refl) (λ s. refl) (λ s. refl) p e

withs : {A : Type 0} (f : List Local → List Local) (p : Does E A) → Fits A p p → Fits A (λ s. with_locals (f s.locals) p s) (λ s. with_locals (f s.locals) p s)
unfolding with_locals
withs f p e = wraps (λ s r t. cut (length s.locals) (r, t)) (λ s. record s { locals = s.locals ++ f s.locals }) (λ s r t. refl) (λ s r t. refl) (λ s. refl) (λ s. refl) p e

insides : {A : Type 0} (o : Oid) (p : Does E A) → Fits A p p → Fits A (inside o p) (inside o p)
unfolding inside
insides o p e = wraps (λ s r t. out_of s.inner (r, t)) (λ s. record s { inner = Some o }) (λ s r t. refl) (λ s r t. refl) (λ s. refl) (λ s. refl) p e

frames : {A : Type 0} (vs : List Local) (p : Does E A) → Fits A p p → Fits A (in_frame vs p) (in_frame vs p)
unfolding in_frame
frames vs p e = wraps (λ s r t. under s (r, t)) (λ s. begun vs s) (λ s r t. refl) (λ s r t. refl) (λ s. refl) (λ s. refl) p e

owns : {A : Type 0} (vs : List Local) (p : Does E A) → Fits A p p → Fits (A × List Local) (in_own vs p) (in_own vs p)
unfolding in_own
owns vs p e = wraps (λ s r t. own_in r t s) (λ s. begun vs s) owned_store owned_entries (λ s. refl) (λ s. refl) p e

catches : (p : Does E (Unit {0})) → Fits (Unit {0}) p p → Fits Bool (caught p) (caught p)
unfolding caught
catches p e = wraps (λ s r t. caught_in r t) (λ s. s) (λ s r t. caught_store r t) (λ s r t. caught_entries r t) (λ s. refl) (λ s. refl) p e

gives_back : (p : Does E (Unit {0})) → Fits (Unit {0}) p p → Fits Value (given p) (given p)
unfolding given
gives_back p e = wraps (λ s r t. given_in r t) (λ s. s) (λ s r t. given_store r t) (λ s r t. given_entries r t) (λ s. refl) (λ s. refl) p e

-- The trace.

noted : (k : Key) (m : MadeResult) (x : BegunCall) → Fits BegunCall (of.noted_on k m x) (of.noted_on k m x)
unfolding note
noted k (Known r) x = pures x
noted k (Ended None) x = pures x
noted k (Ended (Some o)) x = steady (of.noted_on k (Ended (Some o)) x) (λ s. refl) (λ s. refl)
noted k (New r) x = steady (of.noted_on k (New r) x) (λ s. refl) (λ s. refl)

with_keys : {A : Type 0} (k : Key) (p : Does E A) → Fits A p p → Fits A (with_key k p) (with_key k p)
unfolding with_key
with_keys k p e = wraps (λ s r t. of.shut (length s.keys) (r, t)) (λ s. record s { keys = s.keys ++ k ∷ [] }) (λ s r t. refl) (λ s r t. refl) (λ s. refl) (λ s. refl) p e

unless_open : (b : Bool) (at : Place) (p : Does E BegunCall) → Fits BegunCall p p → Fits BegunCall (of.unless_open b at p) (of.unless_open b at p)
unless_open true at p e = steady (of.unless_open true at p) (λ s. refl) (λ s. refl)
unless_open false at p e = e

unless_known : (o : Option (Option Oid)) (p : Does E BegunCall) → Fits BegunCall p p → Fits BegunCall (of.unless_known o p) (of.unless_known o p)
unless_known (Some r) p e = pures {A = BegunCall} (Known r, [])
unless_known None p e = e

onces : (k : Key) (at : Place) (p : Does E BegunCall) → Fits BegunCall p p → Fits BegunCall (once k at p) (once k at p)
unfolding once
onces k at p e =
    let inner : Fits BegunCall (with_key k (p >>= of.noted k)) (with_key k (p >>= of.noted k)) = with_keys k (p >>= of.noted k) (binds p (of.noted k) e (λ x. noted k x.0 x)) in
    let rest : Does E BegunCall = ask (λ s. has_key s.keys k) >>= (λ b. of.unless_open b at (with_key k (p >>= of.noted k))) in
    let free : Fits BegunCall rest rest = λ s. unless_open (has_key s.keys k) at (with_key k (p >>= of.noted k)) inner s in
    λ s. unless_known (result_for k s.trace) rest free s

-- Loops.

truths : (at : Place) (v : Value) → Fits Bool (truth at v) (truth at v)
truths at (Truth b) = pures b
truths at Null = λ s h. same s s refl refl h
truths at (Invalid r i) = λ s h. same s s refl refl h
truths at v = λ s h. same s s refl refl h

turns : (t : Does E Value) (at : Place) (p : Does E (Unit {0})) → Fits Value t t → Fits (Unit {0}) p p → Fits Bool (turn t at p) (turn t at p)
unfolding turn
turns t at p d e = binds (holds t at) (λ b. if b then p >> pure true else pure false) (binds t (truth at) d (truths at))
    (λ b. picks b (p >> pure true) (pure false) (binds p (λ _. pure true) e (λ _. pures true)) (pures false))

loops : (n : ℕ) (t : Does E Value) (at : Place) (p : Does E (Unit {0})) → Fits Value t t → Fits (Unit {0}) p p → Fits (Unit {0}) (loop n t at p) (loop n t at p)
unfolding loop
loops zero t at p d e = λ s h. same s s refl refl h
loops (suc n) t at p d e = binds {A = Bool} {B = Unit {0}} (turn t at p) (λ b. if b then loop n t at p else pure tt) (turns t at p d e) (λ b. picks {A = Unit {0}} b (loop n t at p) (pure tt) (loops n t at p d e) (pures {A = Unit {0}} tt))

statements : (fuel : ℕ) (p : Does E (Unit {0})) → Fits (Unit {0}) p p → Fits (Unit {0}) (statement (charge fuel) p) (statement (charge fuel) p)
unfolding statement
statements fuel p e = binds (charge fuel 1) (λ _. p) (spends fuel 1) (λ _. e)

items : (name : Option (List ℕ)) (p : Does E Value) → Fits Value p p → (v : Value) → Fits Value (for_item name p v) (for_item name p v)
unfolding for_item
items name p e v = withs (λ vs. fixed (name_in vs name) v ∷ []) p e

unless_invalid : (w : Value) (p : Does E Value) → Fits Value p p → Fits Value (source.unless_invalid w p) (source.unless_invalid w p)
unless_invalid (Invalid r i) p e = λ s h. same s s refl refl h
unless_invalid w p e = e

closures : (n : ℕ) (at : Place) (f : Value → Does E Value) (k : Kind) (done vs : List Value) → ((v : Value) → Fits Value (f v) (f v)) → Fits Value (closure_from at f n k done vs) (closure_from at f n k done vs)
closures zero at f k done vs e = λ s h. same s s refl refl h
closures (suc n) at f k done [] e = λ s h. same s s refl refl h
closures (suc n) at f k done (v ∷ vs) e =
    let rest : Value → List Value = λ w. unvisited (done ++ v ∷ []) (source.present_items (source.items_of w) ++ vs) in
    binds (f v) (λ w. source.unless_invalid w (closure_from at f n k (done ++ v ∷ []) (rest w))) (e v)
    (λ w. unless_invalid w (closure_from at f n k (done ++ v ∷ []) (rest w)) (closures n at f k (done ++ v ∷ []) (rest w) e))

-- Late assignments: that the slot is there is asked of the target, and that the class conforms to its type where the entry is made.

module _ (o : Oid) (f : ℕ) where
  -- from a state in which the slot is there
  abbrev FitsOn : (A : Type 0) → Does E A → Type 0
  FitsOn A p = (s : State E) → AllFit s → is_slot s.store o.0 f ≡ true → Leaves s (p s).1

  on_after : {A B : Type 0} (h : A → Does E B) → ((a : A) → FitsOn B (h a)) → (s : State E) → is_slot s.store o.0 f ≡ true → (r : Result A Exit) (t : State E) → Leaves s t → Leaves s (on_outcome r t h).1
  on_after h k s e (Ok a) t l = chain s t (h a t).1 l (k a t l.fit (slot_stays s.store t.store l.stays o.0 f e))
  on_after h k s e (Err x) t l = l

  on_binds : {A B : Type 0} (p : Does E A) (h : A → Does E B) → Fits A p p → ((a : A) → FitsOn B (h a)) → FitsOn B (p >>= h)
  on_binds p h e k = λ s a i. on_after h k s i (p s).0 (p s).1 (e s a)

  module _ (adds : Bool) (form : RequestForm) (sign at : Place) (program : ProgramTerm) (fuel : ℕ) where
    abbrev enter : LateWrite → Does E (Unit {0})
    enter = entered (λ (w : LateWrite). w) program fuel

    abbrev asked : Bool → Option (Unit {0})
    asked b = if b then Some tt else None

    enters_if : (b : Bool) (os : Option (List Oid)) (s : State E) → is_class_kind s.store.metas form.class (shape_of s.store.metas f).kind ≡ b → AllFit s → is_slot s.store o.0 f ≡ true
        → Leaves s (on_outcome (found (asked b) sign s).0 (found (asked b) sign s).1 (λ (_ : Unit {0}). by.entered enter o f adds (query_of form os) sign)).1
    enters_if true os s c h i =
        let w : LateWrite = late_write o f adds (query_of form os) sign s in
        record {
          fit = every-append (IsFor s.store) s.entries (w ∷ []) h (record { slot = i; class = c }, tt);
          stays = stays_is_reflexive s.store;
        }
    enters_if false os s c h i = same s s refl refl h

    entry : (os : Option (List Oid)) → FitsOn (Unit {0}) (look (by.if_fits f form.class) sign >> by.entered enter o f adds (query_of form os) sign)
    entry os = λ s h i. enters_if (is_class_kind s.store.metas form.class (shape_of s.store.metas f).kind) os s refl h i

    finds : {A : Type 0} (x : Option A) (p : Place) → Fits A (found x p) (found x p)
    finds (Some a) p = pures a
    finds None p = λ s h. same s s refl refl h

    sources : (v : Option Value) → Fits (Option (List Oid)) (by.sources_of at v) (by.sources_of at v)
    sources None = pures {A = Option (List Oid)} None
    sources (Some v) = binds (look (λ s. by.all_live s.store (source.sources_in v)) at) (λ os. pure (Some os)) (λ s h. finds (by.all_live s.store (source.sources_in v)) at s h) (λ os. pures {A = Option (List Oid)} (Some os))

    valids : (v : Value) → Fits Value (valid v) (valid v)
    valids (Invalid r p) = λ s h. same s s refl refl h
    valids v = pures v

    valid_source : (v : Option Value) → Fits (Option Value) (by.valid_source v) (by.valid_source v)
    valid_source None = pures {A = Option Value} None
    valid_source (Some v) = binds (valid v) (λ w. pure (Some w)) (valids v) (λ w. pures {A = Option Value} (Some w))

    abbrev behind_source : Option Value → Does E (Unit {0})
    behind_source v = charge fuel 1 >> (by.sources_of at v >>= (λ os. look (by.if_fits f form.class) sign >> by.entered enter o f adds (query_of form os) sign))

    behind_target : (p : Does E (Option Value)) → Fits (Option Value) p p → FitsOn (Unit {0}) (p >>= by.valid_source >>= behind_source)
    behind_target p e = on_binds (p >>= by.valid_source) behind_source (binds p by.valid_source e valid_source)
        (λ v. on_binds (charge fuel 1) (λ _. by.sources_of at v >>= (λ os. look (by.if_fits f form.class) sign >> by.entered enter o f adds (query_of form os) sign)) (spends fuel 1)
        (λ _. on_binds (by.sources_of at v) (λ os. look (by.if_fits f form.class) sign >> by.entered enter o f adds (query_of form os) sign) (sources v) entry))

module _ (program : ProgramTerm) (fuel f : ℕ) (adds : Bool) (form : RequestForm) (sign at : Place) (p : Does E (Option Value)) (k : Fits (Option Value) p p) where
  abbrev rest : Oid → Does E (Unit {0})
  rest o = p >>= by.valid_source >>= behind_source o f adds form sign at program fuel

  with_slots : (b : Bool) (o : Oid) (s : State E) → is_slot s.store o.0 f ≡ b → AllFit s
      → Leaves s (on_outcome (found (if b then Some o else None) sign s).0 (found (if b then Some o else None) sign s).1 rest).1
  with_slots true o s e h = behind_target o f adds form sign at program fuel p k s h e
  with_slots false o s e h = same s s refl refl h

  on_target : (s : State E) (r : Result Oid Exit) (t : State E) → Leaves s t → Leaves s (on_outcome (on_outcome r t (with_slot f sign)).0 (on_outcome r t (with_slot f sign)).1 rest).1
  on_target s (Ok o) t l = chain s t (on_outcome (with_slot f sign o t).0 (with_slot f sign o t).1 rest).1 l (with_slots (is_slot t.store o.0 f) o t refl l.fit)
  on_target s (Err x) t l = l

  lates : (t : Does E Oid) → Fits Oid t t → Fits (Unit {0}) (late (charge fuel) (entered (λ (w : LateWrite). w) program fuel) (t >>= with_slot f sign) f adds p form sign at) (late (charge fuel) (entered (λ (w : LateWrite). w) program fuel) (t >>= with_slot f sign) f adds p form sign at)
  unfolding late
  lates t e = λ s h. on_target s (t s).0 (t s).1 (e s h)

module _ (program : ProgramTerm) (fuel : ℕ) where
  fits : Closed E E Fits (λ p q. Unit {0}) (setting (λ w. w) program fuel) (setting (λ w. w) program fuel)
  unfolding setting
  fits = record {
    binds = λ A B p q f g e k. binds p f e k;
    gives = λ A a. pures a;
    ends = λ A e s h. same s s refl refl h;
    spends = spends fuel;
    stores = λ A f s h. same s s refl refl h;
    variables = λ A f s h. same s s refl refl h;
    inners = λ s h. same s s refl refl h;
    pushes = pushes;
    replaces = λ v s h. same s (replace v s).1 refl refl h;
    makes = makes;
    puts = puts;
    scopes = λ A p q e. scopes p e;
    withs = λ A f p q e. withs f p e;
    insides = λ A o p q e. insides o p e;
    frames = λ A vs p q e. frames vs p e;
    owns = λ A vs p q e. owns vs p e;
    catches = λ p q e. catches p e;
    gives_back = λ p q e. gives_back p e;
    onces = λ k at p q e. onces k at p e;
    loops = λ t u at p q z d e. statements fuel (loop fuel t at p) (loops fuel t at p d e);
    closures = λ at name p q k done vs z e. closures (suc fuel) at (for_item name p) k done vs (items name p e);
    resolves = λ at q s h. answers fuel q.one (answer program s.trace s.store s.locals at q) s h;
    lates = λ f adds form sign at t u p q e k. lates program fuel f adds form sign at p k t e;
    beyonds = λ at p q e. e;
  }

pub every_fits : (p : ProgramTerm) (fuel : ℕ) (store : Contents) → Every (IsFor (request_run p fuel store).1.store) (request_run p fuel store).1.entries
unfolding main_run setting
every_fits p fuel store =
    (action.block (fits p fuel) (of_stmts (fits p fuel) p {d = all_calls (rules p fuel)} {d' = all_calls (rules p fuel)} (call.calls_to (fits p fuel) p (λ left answer e. tt) 100) (λ answer e. tt) None (main_in p.module_.units)) (state_of store [] []) tt).fit

pub requests_fit : RequestsFit
requests_fit p fuel store = all_of (IsFor (request_run p fuel store).1.store) (request_run p fuel store).1.entries (every_fits p fuel store)
