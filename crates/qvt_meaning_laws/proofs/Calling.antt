-- The rules of calls, under a closed relation.
use Rattle.std.proofs.Common.{ℕ, Bool, true, false, List, [], ◌∷◌, ◌++◌, Option, Some, None}
use Rattle.qvt_base.specs.declared.numbers.Oid.{Oid}
use Rattle.qvt_base.specs.declared.numbers.Place.{Place}
use Rattle.qvt_value.specs.declared.value.Value.{Value, Obj}
use Rattle.qvt_run_data.specs.declared.callee.Callee.{Callee}
use Rattle.qvt_run_data.specs.declared.callee.Callee.TheVariants.{ConstructorCall}
use Rattle.qvt_run_data.specs.declared.local.Local.{Local}
use Rattle.qvt_run_rules.specs.State.{Does}
use Rattle.qvt_run_rules.specs.Locals.{self_name, result_name, fixed}
use Rattle.qvt_run_rules.specs.Sources.{objects_in}
use Rattle.qvt_run_rules.specs.Calls as call
use Rattle.qvt_run_rules.specs.Calls.{CallRule, UnitParam, Routine}
use Rattle.qvt_meaning.specs.Readings.{Setting}
use Rattle.qvt_meaning_laws.proofs.Closed.{Relation, Repeated, Closed, Each, none, more}
use Rattle.qvt_meaning_laws.proofs.Parts.{on, after, ticks, misfits, finds, valids, presents, objects, askeds, reads, collects}

module _ {E F : Type 0} {R : Relation E F} {T : Repeated E F} {x : Setting E} {y : Setting F} (c : Closed E F R T x y) where
  -- What a unit begins with.

  pub bound : (ps : List UnitParam) (vs : List Value) (at : Place) → R (List Local) (call.bound ps vs at) (call.bound ps vs at)
  bound [] [] at = c.gives (List Local) []
  bound (p ∷ ps) (v ∷ vs) at = on c (askeds c p.type at v) (λ w. on c (bound ps vs at) (λ ls. c.gives (List Local) (fixed p.name w ∷ ls)))
  bound ps vs at = misfits c (List Local) at

  self_of : (b : Bool) (o : Option Oid) (at : Place) → R (List Local) (call.self_of b o at) (call.self_of b o at)
  self_of false o at = c.gives (List Local) []
  self_of true (Some o) at = c.gives (List Local) _
  self_of true None at = misfits c (List Local) at

  pub frame : (b : Bool) (ps : List UnitParam) (o : Option Oid) (vs : List Value) (at : Place) → R (List Local) (call.frame b ps o vs at) (call.frame b ps o vs at)
  unfolding call.frame
  frame b ps o vs at = on c (self_of b o at) (λ me. on c (bound ps vs at) (λ ls. c.gives (List Local) (me ++ ls)))

  -- two routines that differ in their bodies alone, which are alike
  pub data Routines : Routine E → Routine F → Type 0 where
    routines : (b : Bool) (ps : List UnitParam) {p : Does E (Unit {0})} {q : Does F (Unit {0})} → R (Unit {0}) p q → Routines (record { has_context = b; params = ps; body = p }) (record { has_context = b; params = ps; body = q })

  pub helper : {h : Routine E} {j : Routine F} (o : Option Oid) (vs : List Value) (at : Place) → Routines h j → R Value (call.helper h o vs at) (call.helper j o vs at)
  unfolding call.helper
  helper o vs at (routines b ps {p} {q} e) = on c (frame b ps o vs at) (λ ls. c.gives_back _ _ (c.frames (Unit {0}) ls p q e))

  pub constructor_ : {h : Routine E} {j : Routine F} (n m : ℕ) (vs : List Value) (at : Place) → Routines h j → R Value (call.constructor_ h n m vs at) (call.constructor_ j n m vs at)
  unfolding call.constructor_
  constructor_ n m vs at (routines b ps {p} {q} e) = on c (c.makes n m at) (λ o. on c (bound ps vs at) (λ ls. after c (c.catches _ _ (c.frames (Unit {0}) (fixed self_name (Obj o) ∷ fixed result_name (Obj o) ∷ ls) p q e)) (c.gives Value (Obj o))))

  -- The arguments of a call.

  arguments_onto : (done : List Value) {ps : List (Does E Value)} {qs : List (Does F Value)} → Each (R Value) ps qs → R (List Value) (call.arguments_onto done ps) (call.arguments_onto done qs)
  arguments_onto done none = c.gives (List Value) done
  arguments_onto done (more e k) = on c (on c e (λ v. valids c v)) (λ v. arguments_onto (done ++ v ∷ []) k)

  arguments : {ps : List (Does E Value)} {qs : List (Does F Value)} → Each (R Value) ps qs → R (List Value) (call.arguments ps) (call.arguments qs)
  arguments e = arguments_onto [] e

  -- calls that are alike
  abbrev pub AlikeCalls : CallRule E → CallRule F → Type 0
  AlikeCalls d d' = (n : Callee) (vs : List Value) (at : Place) → R Value (d n vs at) (d' n vs at)

  module _ {d : CallRule E} {d' : CallRule F} (k : AlikeCalls d d') where
    pub call_free : (n : Callee) {ps : List (Does E Value)} {qs : List (Does F Value)} (at : Place) → Each (R Value) ps qs → R Value (call.call_free x.spend d n ps at) (call.call_free y.spend d' n qs at)
    unfolding call.call_free
    call_free n at e = ticks c (on c (arguments e) (λ vs. k n vs at))

    pub new_by : (n m l : ℕ) {ps : List (Does E Value)} {qs : List (Does F Value)} (at : Place) → Each (R Value) ps qs → R Value (call.new_by x.spend d n m l ps at) (call.new_by y.spend d' n m l qs at)
    unfolding call.new_by
    new_by n m l at e = ticks c (on c (arguments e) (λ vs. k (ConstructorCall n m l) vs at))

    pub new_alone : (n m : ℕ) (at : Place) → R Value (call.new_alone x.spend d n m at) (call.new_alone y.spend d' n m at)
    unfolding call.new_alone
    new_alone n m at = ticks c (on c (c.makes n m at) (λ o. c.gives Value (Obj o)))

    module _ {f : Oid → Does E Callee} {g : Oid → Does F Callee} (l : (o : Oid) → R Callee (f o) (g o)) where
      call_on : (vs : List Value) (at : Place) (o : Oid) → R Value (call.call_on d f vs at o) (call.call_on d' g vs at o)
      call_on vs at o = on c (l o) (λ n. k n vs at)

      on_context : {ps : List (Does E Value)} {qs : List (Does F Value)} (at : Place) (v : Value) → Each (R Value) ps qs → R Value (call.on_context d f ps at v) (call.on_context d' g qs at v)
      on_context at v e = on c (objects c at v) (λ o. on c (arguments e) (λ vs. call_on vs at o))

      mapped_onto : (vs : List Value) (at : Place) (done : List Value) (os : List Oid) → R Value (call.mapped_onto d at done (call.call_on d f vs at) os) (call.mapped_onto d' at done (call.call_on d' g vs at) os)
      mapped_onto vs at done [] = c.gives Value _
      mapped_onto vs at done (o ∷ os) = on c (call_on vs at o) (λ v. mapped_onto vs at (call.with_result d v done) os)

      pub call_implicit : (source : List ℕ) {ps : List (Does E Value)} {qs : List (Does F Value)} (at : Place) → Each (R Value) ps qs → R Value (call.call_implicit x.spend d f source ps at) (call.call_implicit y.spend d' g source qs at)
      unfolding call.call_implicit
      call_implicit source at e = ticks c (on c (reads c source at) (λ v. on_context at v e))

      pub call_step : {ps : List (Does E Value)} {qs : List (Does F Value)} (at : Place) (v : Value) → Each (R Value) ps qs → R Value (call.call_step x.spend d f ps at v) (call.call_step y.spend d' g qs at v)
      unfolding call.call_step
      call_step at v e = on c (valids c v) (λ w. ticks c (on_context at w e))

      each_called : (vs : List Value) (at : Place) (v : Value) → R Value (call.each_called x.spend d f vs at v) (call.each_called y.spend d' g vs at v)
      each_called vs at v = collects c at _ _ (λ w. on c (objects c at w) (λ o. call_on vs at o)) [] v

      pub call_each : {ps : List (Does E Value)} {qs : List (Does F Value)} (at : Place) (v : Value) → Each (R Value) ps qs → R Value (call.call_each x.spend d f ps at v) (call.call_each y.spend d' g qs at v)
      unfolding call.call_each
      call_each at v e = on c (valids c v) (λ w. ticks c (on c (presents c at w) (λ u. on c (arguments e) (λ vs. each_called vs at u))))

      pub map_all : {ps : List (Does E Value)} {qs : List (Does F Value)} (at : Place) (v : Value) → Each (R Value) ps qs → R Value (call.map_all x.spend d f ps at v) (call.map_all y.spend d' g qs at v)
      unfolding call.map_all
      map_all at v e = on c (valids c v) (λ w. ticks c (on c (arguments e) (λ vs. on c (finds c (List Oid) (objects_in w) at) (λ os. mapped_onto vs at [] os))))
