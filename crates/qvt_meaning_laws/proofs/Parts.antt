-- What values, variables, sources and stores are made of, under a closed relation.
use Rattle.std.proofs.Common.{ℕ, Bool, true, false, if◌then◌else◌, List, [], ◌∷◌, ◌++◌, Option, Some, None}
use Rattle.qvt_base.specs.declared.numbers.Oid.{Oid}
use Rattle.qvt_base.specs.declared.numbers.Place.{Place}
use Rattle.qvt_ocl_words.specs.Lists.{is_null}
use Rattle.qvt_slots.specs.Contents.{Contents}
use Rattle.qvt_types_data.specs.declared.ty.Ty.{Ty}
use Rattle.qvt_value.specs.declared.value.Value.{Value, Null, Obj, Invalid, Coll', Row_of-Value, end_of-Value, more_of-Value}
use Rattle.qvt_value.specs.declared.value.Kind.{Kind}
use Rattle.qvt_run_data.specs.declared.exit.End.{End}
use Rattle.qvt_run_data.specs.declared.exit.Exit.TheVariants.{Ends}
use Rattle.qvt_run_data.specs.declared.local.Local.{Local}
use Rattle.qvt_run_rules.specs.State.{Does, ◌>>=◌, ◌>>◌, stop, misfit, found, look, ask}
use Rattle.qvt_run_rules.specs.Typed.{has_asked, valid, present_at, present, object_of, asked, taken}
use Rattle.qvt_run_rules.specs.Locals.{local, local_named, value_in, read_local, read, set_as, set}
use Rattle.qvt_run_rules.specs.Sources.{collected_kind, unless_invalid, over_items, gathered, as_flat, in_turn, for_items, for_row, collecting, dotted}
use Rattle.qvt_run_rules.specs.Store.{property, read_property}
use Rattle.qvt_meaning.specs.Readings.{Setting}
use Rattle.qvt_meaning_laws.proofs.Closed.{Relation, Repeated, Closed, Each, none, more, Held, held_none, held_some}

module _ {E F : Type 0} {R : Relation E F} {T : Repeated E F} {x : Setting E} {y : Setting F} (c : Closed E F R T x y) where
  pub on : {A B : Type 0} {p : Does E A} {q : Does F A} {f : A → Does E B} {g : A → Does F B} → R A p q → ((a : A) → R B (f a) (g a)) → R B (p >>= f) (q >>= g)
  on {A} {B} {p} {q} {f} {g} e k = c.binds A B p q f g e k

  pub after : {A B : Type 0} {p : Does E A} {q : Does F A} {p' : Does E B} {q' : Does F B} → R A p q → R B p' q' → R B (p >> p') (q >> q')
  after {A} {B} {p} {q} {p'} {q'} e k = c.binds A B p q (λ _. p') (λ _. q') e (λ _. k)

  -- one unit, and then the rest
  pub ticks : {B : Type 0} {p : Does E B} {q : Does F B} → R B p q → R B (x.spend 1 >> p) (y.spend 1 >> q)
  ticks {B} {p} {q} e = c.binds (Unit {0}) B (x.spend 1) (y.spend 1) (λ _. p) (λ _. q) (c.spends 1) (λ _. e)

  pub picks : {A : Type 0} (b : Bool) {p p' : Does E A} {q q' : Does F A} → R A p q → R A p' q' → R A (if b then p else p') (if b then q else q')
  picks true e k = e
  picks false e k = k

  pub stops : (A : Type 0) (e : End) → R A (stop e) (stop e)
  stops A e = c.ends A (Ends e)

  pub misfits : (A : Type 0) (at : Place) → R A (misfit at) (misfit at)
  misfits A at = c.ends A _

  pub finds : (A : Type 0) (o : Option A) (at : Place) → R A (found o at) (found o at)
  finds A (Some a) at = c.gives A a
  finds A None at = misfits A at

  -- what is found goes on alike
  pub founds : {A B C : Type 0} {P : A → B → Type 0} {o : Option A} {o' : Option B} {f : A → Does E C} {g : B → Does F C} (at : Place) → Held P o o' → ((a : A) (b : B) → P a b → R C (f a) (g b)) → R C (found o at >>= f) (found o' at >>= g)
  founds {C = C} at held_none k = misfits C at
  founds at (held_some {a} {b} e) k = k a b e

  pub looks : (A : Type 0) (f : Contents → Option A) (at : Place) → R A (look (λ s. f s.store) at) (look (λ s. f s.store) at)
  looks A f at = c.binds (Option A) A (ask (λ s. f s.store)) (ask (λ s. f s.store)) (λ o. found o at) (λ o. found o at) (c.stores (Option A) f) (λ o. finds A o at)

  pub looks_local : (A : Type 0) (f : List Local → Option A) (at : Place) → R A (look (λ s. f s.locals) at) (look (λ s. f s.locals) at)
  looks_local A f at = c.binds (Option A) A (ask (λ s. f s.locals)) (ask (λ s. f s.locals)) (λ o. found o at) (λ o. found o at) (c.variables (Option A) f) (λ o. finds A o at)

  pub looks_inner : (at : Place) → R Oid (look (λ s. s.inner) at) (look (λ s. s.inner) at)
  looks_inner at = c.binds (Option Oid) Oid (ask (λ s. s.inner)) (ask (λ s. s.inner)) (λ o. found o at) (λ o. found o at) c.inners (λ o. finds Oid o at)

  -- Values.

  pub valids : (v : Value) → R Value (valid v) (valid v)
  valids (Invalid r p) = stops Value _
  valids v = c.gives Value v

  pub presents_at : (b : Bool) (at : Place) (v : Value) → R Value (present_at b at v) (present_at b at v)
  presents_at true at v = stops Value _
  presents_at false at v = c.gives Value v

  pub presents : (at : Place) (v : Value) → R Value (present at v) (present at v)
  presents at v = presents_at (is_null v) at v

  pub objects : (at : Place) (v : Value) → R Oid (object_of at v) (object_of at v)
  objects at (Obj o) = c.gives Oid o
  objects at Null = stops Oid _
  objects at (Invalid r p) = stops Oid _
  objects at v = misfits Oid at

  pub askeds : (t : Option Ty) (at : Place) (v : Value) → R Value (asked t at v) (asked t at v)
  askeds t at v = looks Value (λ st. if has_asked st t v then Some v else None) at

  pub takens : (t : Option Ty) (at : Place) (v : Value) → R Value (taken t at v) (taken t at v)
  takens t at v = on (valids v) (λ w. askeds t at w)

  -- Variables.

  pub reads : (name : List ℕ) (at : Place) → R Value (read name at) (read name at)
  unfolding read
  reads name at = looks_local Value (λ vs. value_in (local_named name vs)) at

  pub read_locals : (name : List ℕ) (at : Place) → R Local (read_local name at) (read_local name at)
  unfolding read_local
  read_locals name at = looks_local Local (λ vs. local_named name vs) at

  pub sets_as : (old : Local) (v : Value) (at : Place) → R (Unit {0}) (set_as old v at) (set_as old v at)
  sets_as old v at = on (askeds old.asked at v) (λ w. c.replaces (local old.name old.asked w))

  pub sets : (name : List ℕ) (v : Value) (at : Place) → R (Unit {0}) (set name v at) (set name v at)
  unfolding set
  sets name v at = on (read_locals name at) (λ old. sets_as old v at)

  -- Sources.

  pub unless_invalids : (w : Value) {p : Does E Value} {q : Does F Value} → R Value p q → R Value (unless_invalid w p) (unless_invalid w q)
  unless_invalids (Invalid r p) e = c.gives Value (Invalid r p)
  unless_invalids v e = e

  pub over : (at : Place) {f : Kind → List Value → Does E Value} {g : Kind → List Value → Does F Value} (v : Value) → ((k : Kind) (vs : List Value) → R Value (f k vs) (g k vs)) → R Value (over_items at f v) (over_items at g v)
  over at (Invalid r p) e = c.gives Value (Invalid r p)
  over at (Coll' k s r) e = e k _
  over at v e = misfits Value at

  pub gathers : {h : List Value → Does E Value} {j : List Value → Does F Value} {f : Value → Does E Value} {g : Value → Does F Value} (done xs : List Value) →
      ((vs : List Value) → R Value (h vs) (j vs)) → ((v : Value) → R Value (f v) (g v)) → R Value (gathered h f done xs) (gathered j g done xs)
  gathers done [] e k = e done
  gathers done (v ∷ xs) e k = on (k v) (λ w. unless_invalids w (gathers (done ++ w ∷ []) xs e k))

  pub turns : {h : List Value → Does E Value} {j : List Value → Does F Value} (done : List Value) {ps : List (Does E Value)} {qs : List (Does F Value)} →
      ((vs : List Value) → R Value (h vs) (j vs)) → Each (R Value) ps qs → R Value (in_turn h done ps) (in_turn j done qs)
  turns done e none = e done
  turns done e (more k l) = on k (λ w. unless_invalids w (turns (done ++ w ∷ []) e l))

  pub flats : (at : Place) (k : Kind) (vs : List Value) → R Value (as_flat at k vs) (as_flat at k vs)
  flats at k vs = c.gives Value _

  module _ (at : Place) (f : Value → Does E Value) (g : Value → Does F Value) (e : (v : Value) → R Value (f v) (g v)) where
    mutual
      pub over_all : (v : Value) → R Value (for_items at f v) (for_items at g v)
      over_all (Coll' k s r) = turns [] (flats at (collected_kind k)) (over_row r)
      over_all v = e v

      over_row : {m : _} (r : Row_of-Value m) → Each (R Value) (for_row at f r) (for_row at g r)
      over_row end_of-Value = none
      over_row (more_of-Value v vs) = more (over_all v) (over_row vs)

    pub collects : (ws : List Value) (v : Value) → R Value (collecting at ws f v) (collecting at ws g v)
    collects ws Null = c.gives Value _
    collects ws (Invalid r p) = c.gives Value _
    collects ws (Coll' k s r) = over_all (Coll' k s r)
    collects ws v = misfits Value at

    pub dots : (b : Bool) (ws : List Value) (v : Value) → R Value (dotted b at ws f v) (dotted b at ws g v)
    dots true ws v = collects ws v
    dots false ws v = e v

  -- Properties.

  pub reads_property : (f : ℕ) (o : Oid) (at : Place) → R Value (read_property f o at) (read_property f o at)
  unfolding read_property
  reads_property f o at = looks Value (λ st. property at st o.0 f) at
