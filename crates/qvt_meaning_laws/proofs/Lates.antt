-- A late assignment, of what its steps are made of: the target's object, of which it was asked that it has the slot, the source, and one entry.
use Rattle.std.proofs.Common.{ℕ, Bool, List, if◌then◌else◌, Option, Some, None}
use Rattle.qvt_base.specs.declared.numbers.Oid.{Oid}
use Rattle.qvt_base.specs.declared.numbers.Place.{Place}
use Rattle.qvt_metamodel.specs.Metamodels.{shape_of}
use Rattle.qvt_metamodel.specs.Descends.{is_class_kind}
use Rattle.qvt_slots.specs.Contents.{Contents, is_slot}
use Rattle.qvt_value.specs.declared.value.Value.{Value, Invalid}
use Rattle.qvt_run_data.specs.declared.exit.Exit.{Exit}
use Rattle.qvt_run_data.specs.declared.request.RequestForm.{RequestForm}
use Rattle.qvt_run_data.specs.declared.request.Query.{Query}
use Rattle.qvt_run_rules.specs.State.{Does, ◌>>=◌, ◌>>◌, pure, exits, found, look, ask}
use Rattle.qvt_run_rules.specs.Typed.{valid}
use Rattle.qvt_run_rules.specs.Sources.{sources_in}
use Rattle.qvt_run_rules.specs.Statements.{with_slot}
use Rattle.qvt_run_rules.specs.Resolve as by
use Rattle.qvt_meaning.specs.Readings.{Setting}
use Rattle.qvt_meaning_laws.proofs.Closed.{Relation}

module _ {E F : Type 0} (R : Relation E F) (x : Setting E) (y : Setting F)
    (binds : (A B : Type 0) (p : Does E A) (q : Does F A) (f : A → Does E B) (g : A → Does F B) → R A p q → ((a : A) → R B (f a) (g a)) → R B (p >>= f) (q >>= g))
    (gives : (A : Type 0) (a : A) → R A (pure a) (pure a)) (ends : (A : Type 0) (e : Exit) → R A (exits e) (exits e)) (spends : (n : ℕ) → R (Unit {0}) (x.spend n) (y.spend n))
    (stores : (A : Type 0) (f : Contents → A) → R A (ask (λ s. f s.store)) (ask (λ s. f s.store)))
    (enters : (o : Oid) (f : ℕ) (adds : Bool) (q : Query) (at : Place) → R (Unit {0}) (by.entered x.enter o f adds q at) (by.entered y.enter o f adds q at)) where
  finds : (A : Type 0) (o : Option A) (at : Place) → R A (found o at) (found o at)
  finds A (Some a) at = gives A a
  finds A None at = ends A _

  looks : (A : Type 0) (f : Contents → Option A) (at : Place) → R A (look (λ s. f s.store) at) (look (λ s. f s.store) at)
  looks A f at = binds (Option A) A (ask (λ s. f s.store)) (ask (λ s. f s.store)) (λ o. found o at) (λ o. found o at) (stores (Option A) f) (λ o. finds A o at)

  valids : (v : Value) → R Value (valid v) (valid v)
  valids (Invalid r p) = ends Value _
  valids v = gives Value v

  valid_source : (v : Option Value) → R (Option Value) (by.valid_source v) (by.valid_source v)
  valid_source None = gives (Option Value) None
  valid_source (Some v) = binds Value (Option Value) (valid v) (valid v) (λ w. pure (Some w)) (λ w. pure (Some w)) (valids v) (λ w. gives (Option Value) (Some w))

  sources : (at : Place) (v : Option Value) → R (Option (List Oid)) (by.sources_of at v) (by.sources_of at v)
  sources at None = gives (Option (List Oid)) None
  sources at (Some v) = binds (List Oid) (Option (List Oid)) (look (λ s. by.all_live s.store (sources_in v)) at) (look (λ s. by.all_live s.store (sources_in v)) at) (λ os. pure (Some os)) (λ os. pure (Some os))
      (looks (List Oid) (λ st. by.all_live st (sources_in v)) at) (λ os. gives (Option (List Oid)) (Some os))

  fits : (f n : ℕ) (at : Place) → R (Unit {0}) (look (by.if_fits f n) at) (look (by.if_fits f n) at)
  fits f n at = looks (Unit {0}) (λ st. if is_class_kind st.metas n (shape_of st.metas f).kind then Some tt else None) at

  slots : (f : ℕ) (at : Place) (o : Oid) → R Oid (with_slot f at o) (with_slot f at o)
  slots f at o = looks Oid (λ st. if is_slot st o.0 f then Some o else None) at

  module _ (f : ℕ) (adds : Bool) (form : RequestForm) (sign at : Place) where
    abbrev entry : {G : Type 0} → Setting G → Oid → Option (List Oid) → Does G (Unit {0})
    entry z o os = look (by.if_fits f form.class) sign >> by.entered z.enter o f adds (by.query_of form os) sign

    abbrev behind_source : {G : Type 0} → Setting G → Oid → Option Value → Does G (Unit {0})
    behind_source z o v = z.spend 1 >> (by.sources_of at v >>= entry z o)

    makes_entry : (o : Oid) (os : Option (List Oid)) → R (Unit {0}) (entry x o os) (entry y o os)
    makes_entry o os = binds (Unit {0}) (Unit {0}) (look (by.if_fits f form.class) sign) (look (by.if_fits f form.class) sign) (λ _. by.entered x.enter o f adds (by.query_of form os) sign) (λ _. by.entered y.enter o f adds (by.query_of form os) sign)
        (fits f form.class sign) (λ _. enters o f adds (by.query_of form os) sign)

    goes_on : (o : Oid) (v : Option Value) → R (Unit {0}) (behind_source x o v) (behind_source y o v)
    goes_on o v = binds (Unit {0}) (Unit {0}) (x.spend 1) (y.spend 1) (λ _. by.sources_of at v >>= entry x o) (λ _. by.sources_of at v >>= entry y o) (spends 1)
        (λ _. binds (Option (List Oid)) (Unit {0}) (by.sources_of at v) (by.sources_of at v) (entry x o) (entry y o) (sources at v) (makes_entry o))

    pub lates : (t : Does E Oid) (u : Does F Oid) (p : Does E (Option Value)) (q : Does F (Option Value)) → R Oid t u → R (Option Value) p q
        → R (Unit {0}) (by.late x.spend x.enter (t >>= with_slot f sign) f adds p form sign at) (by.late y.spend y.enter (u >>= with_slot f sign) f adds q form sign at)
    unfolding by.late
    lates t u p q e k = binds Oid (Unit {0}) (t >>= with_slot f sign) (u >>= with_slot f sign) (λ o. p >>= by.valid_source >>= behind_source x o) (λ o. q >>= by.valid_source >>= behind_source y o)
        (binds Oid Oid t u (with_slot f sign) (with_slot f sign) e (slots f sign))
        (λ o. binds (Option Value) (Unit {0}) (p >>= by.valid_source) (q >>= by.valid_source) (behind_source x o) (behind_source y o)
        (binds (Option Value) (Option Value) p q by.valid_source by.valid_source k valid_source) (goes_on o))
