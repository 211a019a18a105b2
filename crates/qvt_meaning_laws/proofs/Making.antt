-- The steps of a mapping call, under a closed relation.
use Rattle.std.proofs.Common.{ℕ, Bool, true, false, List, [], ◌∷◌, ◌++◌, Option, Some, None}
use Rattle.qvt_base.specs.declared.numbers.Oid.{Oid}
use Rattle.qvt_base.specs.declared.numbers.Place.{Place}
use Rattle.qvt_metamodel.specs.Metamodels.{class_at}
use Rattle.qvt_metamodel.specs.Descends.{descends}
use Rattle.qvt_slots.specs.Contents.{class_of}
use Rattle.qvt_value.specs.declared.value.Value.{Value, Null, Obj}
use Rattle.qvt_run_data.specs.declared.callee.Callee.TheVariants.{MappingCall}
use Rattle.qvt_run_data.specs.declared.callee.Way.{Way}
use Rattle.qvt_run_data.specs.declared.callee.Way.TheVariants.{Called, Chosen, Reused}
use Rattle.qvt_run_data.specs.declared.local.Local.{Local}
use Rattle.qvt_run_rules.specs.State.{Does, ◌>>◌, pure, ask, caught}
use Rattle.qvt_run_rules.specs.Locals.{result_name}
use Rattle.qvt_run_rules.specs.Calls.{CallRule, UnitParam}
use Rattle.qvt_run_rules.specs.Mappings as of
use Rattle.qvt_run_rules.specs.Mappings.{ResultClass, MappingRule, MadeResult, Known, Ended, New, BegunCall}
use Rattle.qvt_meaning.specs.Readings.{Setting}
use Rattle.qvt_meaning_laws.proofs.Closed.{Relation, Repeated, Closed, Held, held_none, held_some}
use Rattle.qvt_meaning_laws.proofs.Parts.{on, after, picks, stops, misfits, founds, reads, sets}
use Rattle.qvt_meaning_laws.proofs.Calling.{frame, AlikeCalls}

-- what a mapping has beside its phrases
pub record Frame : Type 0 where
  pub number : ℕ
  pub context : Option ℕ
  pub params : List UnitParam
  pub result : Option ResultClass
  pub inherits : List ℕ
  pub merges : List ℕ
  pub disjuncts : List ℕ
  pub place : Place

abbrev pub mapping_with : {E : Type 0} → Frame → Option (Does E Bool) → Does E (Unit {0}) → Does E (Unit {0}) → Does E (Unit {0}) → MappingRule E
mapping_with a w i p e = record {
  number = a.number;
  context = a.context;
  params = a.params;
  result = a.result;
  when = w;
  init = i;
  population = p;
  finish = e;
  inherits = a.inherits;
  merges = a.merges;
  disjuncts = a.disjuncts;
  place = a.place;
}

module _ {E F : Type 0} {R : Relation E F} {T : Repeated E F} {x : Setting E} {y : Setting F} (c : Closed E F R T x y) where
  when_holds : (ls : List Local) {w : Option (Does E Bool)} {w' : Option (Does F Bool)} → Held (R Bool) w w' → R Bool (of.when_holds w ls) (of.when_holds w' ls)
  when_holds ls held_none = c.gives Bool true
  when_holds ls (held_some {a = p} {b = q} e) = c.frames Bool ls p q e

  -- The result.

  object_in : (at : Place) (v : Value) → R (Option Oid) (of.object_in at v) (of.object_in at v)
  object_in at Null = c.gives (Option Oid) None
  object_in at (Obj o) = c.gives (Option Oid) (Some o)
  object_in at v = misfits c (Option Oid) at

  result_read : (r : Option ResultClass) (at : Place) → R (Option Oid) (of.result_read r at) (of.result_read r at)
  result_read None at = c.gives (Option Oid) None
  result_read (Some m) at = on c (reads c result_name at) (λ v. object_in at v)

  made_unless : (b : Bool) (n m : ℕ) (at : Place) → R Oid (of.made_unless b n m at) (of.made_unless b n m at)
  made_unless true n m at = stops c Oid _
  made_unless false n m at = c.makes n m at

  made_of : (n m : ℕ) (at : Place) → R Oid (of.made_of n m at) (of.made_of n m at)
  made_of n m at = on c (c.stores Bool (λ st. (class_at st.metas n).is_abstract)) (λ b. made_unless b n m at)

  completed_as : (r : Option ResultClass) (at : Place) → R MadeResult (of.completed_as r at) (of.completed_as r at)
  completed_as None at = c.gives MadeResult (New None)
  completed_as (Some m) at = on c (made_of m.class m.extent at) (λ o. after c (sets c result_name (Obj o) at) (c.gives MadeResult (New (Some o))))

  of_class_in : (n : Option ℕ) (o : Option Oid) → R Bool (ask (of.of_class_in n o)) (ask (of.of_class_in n o))
  of_class_in None o = c.gives Bool true
  of_class_in (Some n) None = c.gives Bool false
  of_class_in (Some n) (Some o) = c.stores Bool (λ st. descends st.metas (class_of st o.0) n)

  refused : (b : Bool) (at : Place) → R Value (of.refused b at) (of.refused b at)
  refused true at = stops c Value _
  refused false at = c.gives Value _

  -- two mappings that differ in their phrases alone, which are alike
  pub data Mappings : MappingRule E → MappingRule F → Type 0 where
    mappings : (a : Frame) {w : Option (Does E Bool)} {w' : Option (Does F Bool)} {i p e : Does E (Unit {0})} {i' p' e' : Does F (Unit {0})} →
        Held (R Bool) w w' → R (Unit {0}) i i' → R (Unit {0}) p p' → R (Unit {0}) e e' → Mappings (mapping_with a w i p e) (mapping_with a w' i' p' e')

  module _ {ms : ℕ → Option (MappingRule E)} {ms' : ℕ → Option (MappingRule F)} (same : (n : ℕ) → Held Mappings (ms n) (ms' n)) {d : CallRule E} {d' : CallRule F} (k : AlikeCalls c d d') where
    reuse : (ns : List ℕ) (shared o : Option Oid) (vs : List Value) (at : Place) → R (Unit {0}) (of.reuse ms d ns shared o vs at) (of.reuse ms' d' ns shared o vs at)
    reuse [] shared o vs at = c.gives (Unit {0}) tt
    reuse (n ∷ ns) shared o vs at = after c (k (MappingCall n (Reused shared) o) vs at) (reuse ns shared o vs at)

    fits : {m : MappingRule E} {m' : MappingRule F} (o : Option Oid) (vs : List Value) (at : Place) → Mappings m m' → R Bool (of.fits ms d m o vs at) (of.fits ms' d' m' o vs at)
    unfolding of.fits
    fits o vs at (mappings a ew ei ep ee) = on c (of_class_in a.context o) (λ b. picks c b (on c (frame c (of.is_there a.context) a.params o vs at) (λ ls. when_holds ls ew)) (c.gives Bool false))

    dispatch : (ns : List ℕ) (o : Option Oid) (vs : List Value) (at : Place) → R Value (of.dispatch ms d ns o vs at) (of.dispatch ms' d' ns o vs at)
    dispatch [] o vs at = c.gives Value _
    dispatch (n ∷ ns) o vs at = founds c at (same n) (λ m m' h. on c (fits o vs at h) (λ b. picks c b (k (MappingCall n Chosen o) vs at) (dispatch ns o vs at)))

    module _ (a : Frame) {w : Option (Does E Bool)} {w' : Option (Does F Bool)} {i p e : Does E (Unit {0})} {i' p' e' : Does F (Unit {0})}
        (ew : Held (R Bool) w w') (ei : R (Unit {0}) i i') (ep : R (Unit {0}) p p') (ee : R (Unit {0}) e e') where
      abbrev one : MappingRule E
      one = mapping_with a w i p e

      abbrev other : MappingRule F
      other = mapping_with a w' i' p' e'

      completed : (o : Option Oid) → R MadeResult (of.completed one o) (of.completed other o)
      completed (Some o) = c.gives MadeResult (New (Some o))
      completed None = completed_as a.result a.place

      first_inside : R MadeResult (of.first_inside one) (of.first_inside other)
      unfolding of.first_inside
      first_inside = on c (c.catches i i' ei) (λ b. on c (result_read a.result a.place) (λ r. picks c b (c.gives MadeResult (Ended r)) (completed r)))

      first : (ls : List Local) → R BegunCall (of.first one ls) (of.first other ls)
      unfolding of.first
      first ls = c.owns MadeResult (ls ++ of.result_local a.result Null) (of.first_inside one) (of.first_inside other) first_inside

      sections : (ls : List Local) → R (Unit {0}) (of.sections one ls) (of.sections other ls)
      unfolding of.sections
      sections ls = c.frames (Unit {0}) ls (caught p >> (caught e >> pure tt)) (caught p' >> (caught e' >> pure tt)) (after c (c.catches p p' ep) (after c (c.catches e e' ee) (c.gives (Unit {0}) tt)))

      body : (shared : Option Oid) (ls : List Local) (o : Option Oid) (vs : List Value) (at : Place) → R (Unit {0}) (of.body ms d one shared ls o vs at) (of.body ms' d' other shared ls o vs at)
      unfolding of.body
      body shared ls o vs at = after c (reuse a.inherits shared o vs at) (after c (sections ls) (reuse a.merges shared o vs at))

      goes_by : (o : Option Oid) (vs : List Value) (at : Place) (ls : List Local) (m : MadeResult) → R Value (of.goes_by ms d one o vs at ls m) (of.goes_by ms' d' other o vs at ls m)
      goes_by o vs at ls (Known r) = c.gives Value _
      goes_by o vs at ls (Ended r) = c.gives Value _
      goes_by o vs at ls (New r) = after c (body r ls o vs at) (c.gives Value (of.value_of r))

      made : (o : Option Oid) (vs : List Value) (ls : List Local) (at : Place) → R Value (of.made ms d one o vs ls at) (of.made ms' d' other o vs ls at)
      unfolding of.made
      made o vs ls at = on c (c.onces (of.key a.number o vs) at (of.first one ls) (of.first other ls) (first ls)) (λ z. goes_by o vs at z.1 z.0)

      chosen_by : (ns : List ℕ) (o : Option Oid) (vs : List Value) (ls : List Local) (at : Place) → R Value (of.chosen_by ms d ns one o vs ls at) (of.chosen_by ms' d' ns other o vs ls at)
      chosen_by [] o vs ls at = made o vs ls at
      chosen_by (n ∷ ns) o vs ls at = dispatch (n ∷ ns) o vs at

      chosen : (o : Option Oid) (vs : List Value) (ls : List Local) (at : Place) → R Value (of.chosen ms d one o vs ls at) (of.chosen ms' d' other o vs ls at)
      unfolding of.chosen
      chosen o vs ls at = chosen_by a.disjuncts o vs ls at

      called : (strict : Bool) (o : Option Oid) (vs : List Value) (ls : List Local) (at : Place) → R Value (of.called ms d one strict o vs ls at) (of.called ms' d' other strict o vs ls at)
      unfolding of.called
      called strict o vs ls at = on c (when_holds ls ew) (λ b. picks c b (chosen o vs ls at) (refused strict at))

      reused_on : (shared o : Option Oid) (vs : List Value) (at : Place) (z : Bool × List Local) → R Value (of.reused_on ms d one shared o vs at z) (of.reused_on ms' d' other shared o vs at z)
      reused_on shared o vs at z = picks c z.0 (c.gives Value Null) (after c (body shared z.1 o vs at) (c.gives Value Null))

      reused : (shared o : Option Oid) (vs : List Value) (ls : List Local) (at : Place) → R Value (of.reused ms d one shared o vs ls at) (of.reused ms' d' other shared o vs ls at)
      unfolding of.reused
      reused shared o vs ls at = on c (when_holds ls ew) (λ b. picks c b
          (on c (c.owns Bool (ls ++ of.result_local a.result (of.value_of shared)) (caught i) (caught i') (c.catches i i' ei)) (λ z. reused_on shared o vs at z)) (c.gives Value Null))

      by_way : (way : Way) (o : Option Oid) (vs : List Value) (at : Place) (ls : List Local) → R Value (of.by_way ms d one way o vs at ls) (of.by_way ms' d' other way o vs at ls)
      by_way (Called strict) o vs at ls = called strict o vs ls at
      by_way Chosen o vs at ls = chosen o vs ls at
      by_way (Reused shared) o vs at ls = reused shared o vs ls at

      by_mapping : (way : Way) (o : Option Oid) (vs : List Value) (at : Place) → R Value (of.mapping ms d one way o vs at) (of.mapping ms' d' other way o vs at)
      unfolding of.mapping
      by_mapping way o vs at = on c (frame c (of.is_there a.context) a.params o vs at) (λ ls. by_way way o vs at ls)

    -- the init section and the result
    pub begins : {m : MappingRule E} {m' : MappingRule F} (ls : List Local) → Mappings m m' → R BegunCall (of.first m ls) (of.first m' ls)
    begins ls (mappings a ew ei ep ee) = first a ew ei ep ee ls

    pub mapping : {m : MappingRule E} {m' : MappingRule F} (way : Way) (o : Option Oid) (vs : List Value) (at : Place) → Mappings m m' → R Value (of.mapping ms d m way o vs at) (of.mapping ms' d' m' way o vs at)
    mapping way o vs at (mappings a ew ei ep ee) = by_mapping a ew ei ep ee way o vs at
