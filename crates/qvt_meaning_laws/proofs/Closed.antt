-- A relation of what two phrases do, over two kinds of entries, that holds of all that is made of the steps of a run.
use Rattle.std.proofs.Common.{◌≡◌, ℕ, zero, suc, Bool, refl, ap, List, [], ◌∷◌, length, take, drop, Option, Some, None}
use Rattle.qvt_base.specs.declared.numbers.Oid.{Oid}
use Rattle.qvt_base.specs.declared.numbers.Place.{Place}
use Rattle.qvt_slots.specs.Contents.{Contents}
use Rattle.qvt_value.specs.declared.value.Value.{Value}
use Rattle.qvt_value.specs.declared.value.Kind.{Kind}
use Rattle.qvt_run_data.specs.declared.exit.Exit.{Exit}
use Rattle.qvt_run_data.specs.declared.local.Local.{Local}
use Rattle.qvt_run_data.specs.declared.record.Key.{Key}
use Rattle.qvt_run_data.specs.declared.request.RequestForm.{RequestForm}
use Rattle.qvt_run_data.specs.declared.request.Query.{Query}
use Rattle.qvt_run_rules.specs.State.{Does, ◌>>=◌, pure, exits, ask, caught}
use Rattle.qvt_run_rules.specs.Locals.{push, replace, scoped, with_locals, inside, in_frame, in_own}
use Rattle.qvt_run_rules.specs.Store.{new_object, put}
use Rattle.qvt_run_rules.specs.Iterators.{for_item, closure_from}
use Rattle.qvt_run_rules.specs.Statements.{statement, loop, with_slot}
use Rattle.qvt_run_rules.specs.Calls.{given}
use Rattle.qvt_run_rules.specs.Mappings.{BegunCall, once}
use Rattle.qvt_run_rules.specs.Resolve.{late}
use Rattle.qvt_meaning.specs.Readings.{Setting}

abbrev pub Relation : Type 0 → Type 0 → Type 1
Relation E F = (A : Type 0) → Does E A → Does F A → Type 0

-- what is known of two expressions each of which may be the condition of a loop or the body of a closure
abbrev pub Repeated : Type 0 → Type 0 → Type 1
Repeated E F = Does E Value → Does F Value → Type 0

-- It holds of each step of a run, over these two settings, and of what is made of phrases of which it holds; T is known of what is repeated.
pub record Closed (E F : Type 0) (R : Relation E F) (T : Repeated E F) (x : Setting E) (y : Setting F) : Type 1 where
  pub binds : (A B : Type 0) (p : Does E A) (q : Does F A) (f : A → Does E B) (g : A → Does F B) → R A p q → ((a : A) → R B (f a) (g a)) → R B (p >>= f) (q >>= g)
  pub gives : (A : Type 0) (a : A) → R A (pure a) (pure a)
  pub ends : (A : Type 0) (e : Exit) → R A (exits e) (exits e)
  pub spends : (n : ℕ) → R (Unit {0}) (x.spend n) (y.spend n)
  -- what reads the state
  pub stores : (A : Type 0) (f : Contents → A) → R A (ask (λ s. f s.store)) (ask (λ s. f s.store))
  pub variables : (A : Type 0) (f : List Local → A) → R A (ask (λ s. f s.locals)) (ask (λ s. f s.locals))
  pub inners : R (Option Oid) (ask (λ s. s.inner)) (ask (λ s. s.inner))
  -- what changes it
  pub pushes : (v : Local) → R (Unit {0}) (push v) (push v)
  pub replaces : (v : Local) → R (Unit {0}) (replace v) (replace v)
  pub makes : (c e : ℕ) (at : Place) → R Oid (new_object c e at) (new_object c e at)
  pub puts : (o f : ℕ) (adds : Bool) (v : Value) (at : Place) → R (Unit {0}) (put o f adds v at) (put o f adds v at)
  -- scopes
  pub scopes : (A : Type 0) (p : Does E A) (q : Does F A) → R A p q → R A (scoped p) (scoped q)
  pub withs : (A : Type 0) (f : List Local → List Local) (p : Does E A) (q : Does F A) → R A p q → R A (λ s. with_locals (f s.locals) p s) (λ s. with_locals (f s.locals) q s)
  pub insides : (A : Type 0) (o : Oid) (p : Does E A) (q : Does F A) → R A p q → R A (inside o p) (inside o q)
  pub frames : (A : Type 0) (vs : List Local) (p : Does E A) (q : Does F A) → R A p q → R A (in_frame vs p) (in_frame vs q)
  pub owns : (A : Type 0) (vs : List Local) (p : Does E A) (q : Does F A) → R A p q → R (A × List Local) (in_own vs p) (in_own vs q)
  -- returns
  pub catches : (p : Does E (Unit {0})) (q : Does F (Unit {0})) → R (Unit {0}) p q → R Bool (caught p) (caught q)
  pub gives_back : (p : Does E (Unit {0})) (q : Does F (Unit {0})) → R (Unit {0}) p q → R Value (given p) (given q)
  -- the trace
  pub onces : (k : Key) (at : Place) (p : Does E BegunCall) (q : Does F BegunCall) → R BegunCall p q → R BegunCall (once k at p) (once k at q)
  -- loops, of at most so many turns
  pub loops : (t : Does E Value) (u : Does F Value) (at : Place) (p : Does E (Unit {0})) (q : Does F (Unit {0})) → T t u → R Value t u → R (Unit {0}) p q
      → R (Unit {0}) (statement x.spend (loop x.turns t at p)) (statement y.spend (loop y.turns u at q))
  pub closures : (at : Place) (name : Option (List ℕ)) (p : Does E Value) (q : Does F Value) (k : Kind) (done vs : List Value) → T p q → R Value p q
      → R Value (closure_from at (for_item name p) (suc x.turns) k done vs) (closure_from at (for_item name q) (suc y.turns) k done vs)
  -- what the settings tell
  pub resolves : (at : Place) (q : Query) → R Value (x.resolve at q) (y.resolve at q)
  pub lates : (f : ℕ) (adds : Bool) (form : RequestForm) (sign at : Place) (t : Does E Oid) (u : Does F Oid) (p : Does E (Option Value)) (q : Does F (Option Value)) → R Oid t u → R (Option Value) p q
      → R (Unit {0}) (late x.spend x.enter (t >>= with_slot f sign) f adds p form sign at) (late y.spend y.enter (u >>= with_slot f sign) f adds q form sign at)
  pub beyonds : (at : Place) (p : Does E Value) (q : Does F Value) → R Value p q → R Value (x.beyond at p) (y.beyond at q)

-- Lists of phrases, and phrases that may be missing, of which a relation holds one by one.

pub data Each {A B : Type 0} (P : A → B → Type 0) : List A → List B → Type 0 where
  none : Each P [] []
  more : {a : A} {b : B} {xs : List A} {ys : List B} → P a b → Each P xs ys → Each P (a ∷ xs) (b ∷ ys)

pub data Held {A B : Type 0} (P : A → B → Type 0) : Option A → Option B → Type 0 where
  held_none : Held P None None
  held_some : {a : A} {b : B} → P a b → Held P (Some a) (Some b)

module _ {A B : Type 0} {P : A → B → Type 0} where
  pub lengths : {xs : List A} {ys : List B} → Each P xs ys → length xs ≡ length ys
  lengths none = refl
  lengths (more e k) = ap suc (lengths k)

  pub takes : (n : ℕ) {xs : List A} {ys : List B} → Each P xs ys → Each P (take n xs) (take n ys)
  takes zero k = none
  takes (suc n) none = none
  takes (suc n) (more e k) = more e (takes n k)

  pub drops : (n : ℕ) {xs : List A} {ys : List B} → Each P xs ys → Each P (drop n xs) (drop n ys)
  drops zero k = k
  drops (suc n) none = none
  drops (suc n) (more e k) = drops n k
