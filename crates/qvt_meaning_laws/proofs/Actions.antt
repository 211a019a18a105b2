-- The rules of statements and of object expressions, under a closed relation.
use Rattle.std.proofs.Common.{ℕ, Bool, if◌then◌else◌, List, [], ◌∷◌, Option, Some, None}
use Rattle.std.specs.List.{list_all}
use Rattle.qvt_base.specs.declared.numbers.Oid.{Oid}
use Rattle.qvt_base.specs.declared.numbers.Place.{Place}
use Rattle.qvt_slots.specs.Contents.{is_slot}
use Rattle.qvt_types_data.specs.declared.ty.Ty.{Ty}
use Rattle.qvt_value.specs.declared.value.Value.{Value, Null, Bool as Truth, Obj, Invalid}
use Rattle.qvt_run_data.specs.declared.local.Local.{Local}
use Rattle.qvt_run_data.specs.declared.exit.Exit.TheVariants.{Returned}
use Rattle.qvt_run_rules.specs.State.{Does, ◌>>=◌}
use Rattle.qvt_run_rules.specs.Typed.{has_asked}
use Rattle.qvt_run_rules.specs.Locals.{local}
use Rattle.qvt_run_rules.specs.Sources.{items_of}
use Rattle.qvt_run_rules.specs.Statements as statement
use Rattle.qvt_meaning.specs.Readings.{Setting}
use Rattle.qvt_meaning_laws.proofs.Closed.{Relation, Repeated, Closed, Each, none, more}
use Rattle.qvt_meaning_laws.proofs.Parts.{on, after, ticks, picks, stops, misfits, looks, looks_inner, valids, objects, takens, reads, read_locals, sets}

module _ {E F : Type 0} {R : Relation E F} {T : Repeated E F} {x : Setting E} {y : Setting F} (c : Closed E F R T x y) where
  -- Conditions.

  truths : (at : Place) (v : Value) → R Bool (statement.truth at v) (statement.truth at v)
  truths at (Truth b) = c.gives Bool b
  truths at Null = stops c Bool _
  truths at (Invalid r p) = stops c Bool _
  truths at v = misfits c Bool at

  pub holds : {p : Does E Value} {q : Does F Value} (at : Place) → R Value p q → R Bool (statement.holds p at) (statement.holds q at)
  holds at e = on c e (λ v. truths at v)

  -- Targets.

  with_slot : (f : ℕ) (at : Place) (o : Oid) → R Oid (statement.with_slot f at o) (statement.with_slot f at o)
  with_slot f at o = looks c Oid (λ st. if is_slot st o.0 f then Some o else None) at

  pub member_target : {p : Does E Value} {q : Does F Value} (f : ℕ) (at : Place) → R Value p q → R Oid (statement.member_target p f at) (statement.member_target q f at)
  unfolding statement.member_target
  member_target f at e = on c (on c e (λ v. objects c at v)) (λ o. with_slot f at o)

  pub inner_target : (f : ℕ) (at : Place) → R Oid (statement.inner_target f at) (statement.inner_target f at)
  unfolding statement.inner_target
  inner_target f at = on c (looks_inner c at) (λ o. with_slot f at o)

  pub source_target : (name : List ℕ) (f : ℕ) (at : Place) → R Oid (statement.source_target name f at) (statement.source_target name f at)
  unfolding statement.source_target
  source_target name f at = on c (on c (reads c name at) (λ v. objects c at v)) (λ o. with_slot f at o)

  -- two targets that are asked for this slot
  pub data Aims (f : ℕ) (at : Place) : Does E Oid → Does F Oid → Type 0 where
    aims : {t : Does E Oid} {u : Does F Oid} → R Oid t u → Aims f at (t >>= statement.with_slot f at) (u >>= statement.with_slot f at)

  pub member_aims : {p : Does E Value} {q : Does F Value} (f : ℕ) (at : Place) → R Value p q → Aims f at (statement.member_target p f at) (statement.member_target q f at)
  unfolding statement.member_target
  member_aims f at e = aims (on c e (λ v. objects c at v))

  pub inner_aims : (f : ℕ) (at : Place) → Aims f at (statement.inner_target f at) (statement.inner_target f at)
  unfolding statement.inner_target
  inner_aims f at = aims (looks_inner c at)

  pub source_aims : (name : List ℕ) (f : ℕ) (at : Place) → Aims f at (statement.source_target name f at) (statement.source_target name f at)
  unfolding statement.source_target
  source_aims name f at = aims (on c (reads c name at) (λ v. objects c at v))

  -- Assignments.

  pub assign_property : {h : Does E Oid} {j : Does F Oid} (f : ℕ) (adds : Bool) {p : Does E Value} {q : Does F Value} (at : Place) → R Oid h j → R Value p q → R (Unit {0}) (statement.assign_property h f adds p at) (statement.assign_property j f adds q at)
  unfolding statement.assign_property
  assign_property f adds at e k = on c e (λ o. on c (on c k (λ v. valids c v)) (λ v. c.puts o.0 f adds v at))

  pub assign_variable : (name : List ℕ) {p : Does E Value} {q : Does F Value} (at : Place) → R Value p q → R (Unit {0}) (statement.assign_variable name p at) (statement.assign_variable name q at)
  unfolding statement.assign_variable
  assign_variable name at e = on c (on c e (λ v. valids c v)) (λ v. sets c name v at)

  added : (old : Local) (t : Option Ty) (v : Value) (at : Place) → R Value (statement.added old t v at) (statement.added old t v at)
  added old t v at = looks c Value (λ st. statement.added_as st at (statement.collection_type old.asked) (statement.collection_type t) old.value v) at

  pub add_variable : (name : List ℕ) (t : Option Ty) {p : Does E Value} {q : Does F Value} (at : Place) → R Value p q → R (Unit {0}) (statement.add_variable name t p at) (statement.add_variable name t q at)
  unfolding statement.add_variable
  add_variable name t at e = on c (on c e (λ v. valids c v)) (λ v. on c (read_locals c name at) (λ old. on c (on c (added old t v at) (λ w. valids c w)) (λ w. sets c name w at)))

  -- Other statements.

  pub declare : (name : List ℕ) (t : Option Ty) {p : Does E Value} {q : Does F Value} (at : Place) → R Value p q → R (Unit {0}) (statement.declare name t p at) (statement.declare name t q at)
  unfolding statement.declare
  declare name t at e = on c (on c e (λ v. takens c t at v)) (λ v. c.pushes (local name t v))

  pub discard : {p : Does E Value} {q : Does F Value} → R Value p q → R (Unit {0}) (statement.discard p) (statement.discard q)
  unfolding statement.discard
  discard e = after c e (c.gives (Unit {0}) tt)

  pub give_back : (t : Option Ty) {p : Does E Value} {q : Does F Value} (at : Place) → R Value p q → R (Unit {0}) (statement.give_back t p at) (statement.give_back t q at)
  unfolding statement.give_back
  give_back t at e = on c (on c e (λ v. takens c t at v)) (λ v. c.ends (Unit {0}) (Returned (Some v)))

  pub go_back : R (Unit {0}) statement.go_back statement.go_back
  unfolding statement.go_back
  go_back = c.ends (Unit {0}) (Returned None)

  pub in_order : {ps : List (Does E (Unit {0}))} {qs : List (Does F (Unit {0}))} → Each (R (Unit {0})) ps qs → R (Unit {0}) (statement.in_order ps) (statement.in_order qs)
  in_order none = c.gives (Unit {0}) tt
  in_order (more e k) = after c e (in_order k)

  pub block : {ps : List (Does E (Unit {0}))} {qs : List (Does F (Unit {0}))} → Each (R (Unit {0})) ps qs → R (Unit {0}) (statement.block ps) (statement.block qs)
  unfolding statement.block
  block {ps} {qs} e = c.scopes (Unit {0}) (statement.in_order ps) (statement.in_order qs) (in_order e)

  pub branch : {t : Does E Value} {u : Does F Value} (at : Place) {p p' : Does E (Unit {0})} {q q' : Does F (Unit {0})} → R Value t u → R (Unit {0}) p q → R (Unit {0}) p' q' → R (Unit {0}) (statement.branch t at p p') (statement.branch u at q q')
  unfolding statement.branch
  branch at d e k = on c (holds at d) (λ b. picks c b e k)

  for_item : (name : List ℕ) (t : Option Ty) {p : Does E (Unit {0})} {q : Does F (Unit {0})} (v : Value) → R (Unit {0}) p q → R (Unit {0}) (statement.for_item name t p v) (statement.for_item name t q v)
  unfolding statement.for_item
  for_item name t {p} {q} v e = c.withs (Unit {0}) (λ vs. local name t v ∷ []) p q e

  each_item : {f : Value → Does E (Unit {0})} {g : Value → Does F (Unit {0})} (vs : List Value) → ((v : Value) → R (Unit {0}) (f v) (g v)) → R (Unit {0}) (statement.each_item f vs) (statement.each_item g vs)
  each_item [] e = c.gives (Unit {0}) tt
  each_item (v ∷ vs) e = after c (e v) (each_item vs e)

  asked_items : (t : Option Ty) (at : Place) (vs : List Value) → R (List Value) (statement.asked_items t at vs) (statement.asked_items t at vs)
  asked_items t at vs = looks c (List Value) (λ st. if list_all (has_asked st t) vs then Some vs else None) at

  pub for_each : {h : Does E Value} {j : Does F Value} (at : Place) (name : List ℕ) (t : Option Ty) {p : Does E (Unit {0})} {q : Does F (Unit {0})} → R Value h j → R (Unit {0}) p q → R (Unit {0}) (statement.for_each h at name t p) (statement.for_each j at name t q)
  unfolding statement.for_each
  for_each at name t e k = on c (on c (on c e (λ v. valids c v)) (λ v. asked_items t at (items_of v))) (λ vs. each_item vs (λ v. for_item name t v k))

  -- Object expressions.

  on_object : {p : Does E (Unit {0})} {q : Does F (Unit {0})} (o : Oid) → R (Unit {0}) p q → R Value (statement.on_object p o) (statement.on_object q o)
  unfolding statement.on_object
  on_object {p} {q} o e = after c (c.insides (Unit {0}) o p q e) (c.gives Value (Obj o))

  set_object : (name : List ℕ) (at : Place) (o : Oid) → R Oid (statement.set_object name at o) (statement.set_object name at o)
  unfolding statement.set_object
  set_object name at o = after c (sets c name (Obj o) at) (c.gives Oid o)

  object_or_new : (name : List ℕ) (n m : ℕ) (at : Place) (v : Value) → R Oid (statement.object_or_new name n m at v) (statement.object_or_new name n m at v)
  object_or_new name n m at Null = on c (c.makes n m at) (λ o. set_object name at o)
  object_or_new name n m at (Obj o) = c.gives Oid o
  object_or_new name n m at v = misfits c Oid at

  pub statements : {p : Does E (Unit {0})} {q : Does F (Unit {0})} → R (Unit {0}) p q → R (Unit {0}) (statement.statement x.spend p) (statement.statement y.spend q)
  unfolding statement.statement
  statements e = ticks c e

  pub object : (n m : ℕ) {p : Does E (Unit {0})} {q : Does F (Unit {0})} (at : Place) → R (Unit {0}) p q → R Value (statement.object x.spend n m p at) (statement.object y.spend n m q at)
  unfolding statement.object
  object n m at e = ticks c (on c (c.makes n m at) (λ o. on_object o e))

  pub object_in : (name : List ℕ) (t : Ty) (n m : ℕ) {p : Does E (Unit {0})} {q : Does F (Unit {0})} (at : Place) → R (Unit {0}) p q → R Value (statement.object_in x.spend name t n m p at) (statement.object_in y.spend name t n m q at)
  unfolding statement.object_in
  object_in name t n m at e = ticks c (on c (on c (on c (read_locals c name at) (λ v. takens c (Some t) at v.value)) (λ v. object_or_new name n m at v)) (λ o. on_object o e))
