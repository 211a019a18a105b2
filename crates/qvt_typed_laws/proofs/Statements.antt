-- What the rules of statements keep, over what their parts keep.
use Rattle.std.proofs.Common.{◌≡◌, refl, ℕ, Bool, true, false, List, [], ◌∷◌, ◌++◌, Option, Some, None}
use Rattle.std.proofs.lemmas.Bool.{false≢true}
use Rattle.std.specs.Prelude.{is_some, if◌then◌else◌, not, ◌||◌}
use Rattle.qvt_base.specs.declared.numbers.Place.{Place}
use Rattle.qvt_metas.specs.Metamodels.{Metamodels}
use Rattle.qvt_types_data.specs.declared.refusal.RefusalKind.{RefusalKind}
use Rattle.qvt_types_data.specs.declared.ty.Ty.{Ty}
use Rattle.qvt_types_data.specs.declared.variable.VariableSort.TheVariants as sort
use Rattle.qvt_types_states.specs.Judge.{Judges, gives}
use Rattle.qvt_types_steps.specs.Iterators as iterators
use Rattle.qvt_types_words.specs.Rulings as ruling
use Rattle.qvt_typing.specs.Context.{TypingContext}
use Rattle.qvt_typing.specs.declared.parts.Given.{Given}
use Rattle.qvt_typed_laws.proofs.Every.{Every, first, others}
use Rattle.qvt_typed_laws.proofs.Keeps.{SomeTy, Anything, Keeps, weak, next, given, looked, inside, checking, declaring, blank}
use Rattle.qvt_types_words.specs.Types.{is_void}
use Rattle.qvt_types_data.specs.declared.refusal.RefusalKind.TheVariants as refusal
use Rattle.qvt_typing.specs.Aims as aims
use Rattle.qvt_typing.specs.Rules as rule
use Rattle.qvt_typing.specs.Statements as rule_of
use Rattle.qvt_typing.specs.declared.parts.Aim.{Aim}
use Rattle.qvt_typed_laws.proofs.Rules.{checked_any, marked_any, HasType, known_some}

abbrev pub Kept : Type 0 → {A : Type 0} → Judges A → Type 0
Kept P p = Keeps P Anything p

anyhow : {P A : Type 0} (a : A) → Keeps P Anything (gives a)
anyhow a = given a (λ h. tt)

pub each : {P : Type 0} (ps : List (Judges (Unit {0}))) → Every (Keeps P Anything) ps → Keeps P Anything (rule_of.each ps)
each [] k = given tt (λ h. tt)
each (p ∷ ps) k = next (first k) (λ u. weak (λ h. h.0) (each ps (others k)))

aimed : {P : Type 0} (missing : RefusalKind) (at : Place) (a : Aim) → Keeps P Anything (rule_of.aimed missing at a)
aimed missing at a = next (checked_any (aims.nowhere_told missing a) at) (λ u. next (marked_any (aims.aim_read a)) (λ o. given a (λ h. tt)))

-- the type of a variable
var_some_as : (m : Metamodels) (b : Bool) (k : Option Ty) (c : Bool) (v : Option Ty) → (not b || is_some k) ≡ true → (not c || is_some v) ≡ true → ruling.var_wrong m b k c v ≡ None → SomeTy (ruling.var_type b k v)
var_some_as m true k c v h j e = h
var_some_as m false k true None h j e = absurd (false≢true j)
var_some_as m false k true (Some t) h j e = by (is_void t) e
  where
    by : (b : Bool) → (if b then Some refusal.WrongType else None) ≡ None → SomeTy (if b then None else Some t)
    by true e = absurd (cc)
    by false e = refl
var_some_as m false k false v h j e = absurd (cc)

var_some : (m : Metamodels) (k v : Given) → HasType k → HasType v → ruling.var_wrong m k.is_given k.ty v.is_given v.ty ≡ None → SomeTy (ruling.var_type k.is_given k.ty v.ty)
var_some m k v h j e = var_some_as m k.is_given k.ty v.is_given v.ty h j e

items_some : (o : Option Ty) → SomeTy o → SomeTy (iterators.item_type o)
items_some None h = h
items_some (Some t) h = refl

module _ (x : TypingContext) where
  pub block : {P : Type 0} {ps : List (Judges (Unit {0}))} → Every (Keeps P Anything) ps → Keeps P Anything (rule_of.block x ps)
  unfolding rule_of.block
  block {ps = ps} k = inside (each ps k)

  pub value : {P : Type 0} {p : Judges (Option Ty)} → Keeps P SomeTy p → Keeps P Anything (rule_of.value x p)
  unfolding rule_of.value
  value a = next a (λ o. blank)

  declared : (name : List ℕ) (k v : Given) (at : Place) → Keeps (HasType k × HasType v) Anything (rule_of.declared x name k v at)
  unfolding rule_of.declared
  declared name k v at = next (checking (ruling.var_wrong x.heads.metas k.is_given k.ty v.is_given v.ty) at) (λ u. next (declaring name (record { sort = sort.Settable; ty = ruling.var_type k.is_given k.ty v.ty }) at (λ h. var_some x.heads.metas k v h.0.0 h.0.1 h.1)) (λ w. blank))

  pub variable : {P : Type 0} (name : List ℕ) {p q : Judges Given} (at : Place) → Keeps P HasType p → Keeps P HasType q → Keeps P Anything (rule_of.variable x name p q at)
  unfolding rule_of.variable
  variable name at a b = next a (λ k. next (weak (λ h. h.0) b) (λ v. weak (λ h. (h.0.1, h.1)) (declared name k v at)))

  pub bare_target : {P : Type 0} (name : List ℕ) (at : Place) → Keeps P Anything (rule_of.bare_target x name at)
  unfolding rule_of.bare_target
  bare_target name at = next looked (λ s. aimed refusal.UnknownName at (aims.bare_aim x s name))

  pub result_target : {P : Type 0} (at : Place) → Keeps P Anything (rule_of.result_target x at)
  unfolding rule_of.result_target
  result_target at = aimed refusal.ResultPlace at (aims.result_aim x.sets_result x.result)

  pub member_target : {P : Type 0} {p : Judges (Option Ty)} (name : List ℕ) (at : Place) → Keeps P SomeTy p → Keeps P Anything (rule_of.member_target x p name at)
  unfolding rule_of.member_target
  member_target name at a = next a (λ o. aimed refusal.UnknownName at (aims.member_aim x.heads name o))

  pub assign : {P : Type 0} {p : Judges Aim} (adds : Bool) {q : Bool → Judges (Option Ty)} (at : Place) → Keeps P Anything p → ((late : Bool) → Keeps P SomeTy (q late)) → Keeps P Anything (rule_of.assign x p adds q at)
  unfolding rule_of.assign rule_of.assigned
  assign adds at a b = next a (λ t. next (weak (λ h. h.0) (b (aims.takes_late t))) (λ v. next (checked_any (rule_of.change_told x t v) at) (λ u. next (checked_any (aims.assign_wrong x.heads adds t v) at) (λ w. blank))))

  pub return_ : {P : Type 0} {p : Judges Given} (at : Place) → Keeps P HasType p → Keeps P Anything (rule_of.return_ x p at)
  unfolding rule_of.return_ rule_of.returned
  return_ at a = next a (λ v. next (checked_any (rule_of.return_told x x.returns v.is_given v.ty) at) (λ u. blank))

  pub condition : {P : Type 0} {p : Judges (Option Ty)} (at : Place) → Keeps P SomeTy p → Keeps P Anything (rule_of.condition x p at)
  unfolding rule_of.condition
  condition at a = next a (λ c. checked_any (rule_of.condition_told x c) at)

  pub arm : {P : Type 0} {p : Judges (Option Ty)} {body : List (Judges (Unit {0}))} → Keeps P SomeTy p → Every (Keeps P Anything) body → Keeps P Anything (rule_of.arm x p body)
  unfolding rule_of.arm
  arm a b = next a (λ c. next (weak (λ h. h.0) (block b)) (λ u. given c (λ h. tt)))

  all_any : {P : Type 0} (done : List (Option Ty)) (ps : List (Judges (Option Ty))) → Every (Keeps P Anything) ps → Keeps P Anything (rule.all done ps)
  all_any done [] k = given done (λ h. tt)
  all_any done (p ∷ ps) k = next (first k) (λ a. weak (λ h. h.0) (all_any (done ++ a ∷ []) ps (others k)))

  pub if_ : {P : Type 0} {p : Judges (Option Ty)} {body : List (Judges (Unit {0}))} {arms : List (Judges (Option Ty))} {otherwise : List (Judges (Unit {0}))} (at : Place)
      → Keeps P SomeTy p → Every (Keeps P Anything) body → Every (Keeps P Anything) arms → Every (Keeps P Anything) otherwise → Keeps P Anything (rule_of.if_ x p body arms otherwise at)
  unfolding rule_of.if_
  if_ {arms = arms} at a b c d = next (arm a b) (λ o. next (weak (λ h. h.0) (all_any (o ∷ []) arms c)) (λ os. next (weak (λ h. h.0.0) (block d)) (λ u. next (checked_any (ruling.wrong_unless (rule_of.are_conditions x (rule.all_types os))) at) (λ w. blank))))

  pub while_ : {P : Type 0} {p : Judges (Option Ty)} {body : List (Judges (Unit {0}))} (at : Place) → Keeps P SomeTy p → Every (Keeps P Anything) body → Keeps P Anything (rule_of.while_ x p body at)
  unfolding rule_of.while_
  while_ at a b = next (condition at a) (λ u. next (weak (λ h. h.0) (block b)) (λ w. blank))

  settled_each : {P : Type 0} (o : Option Ty) (k v : Given) (at : Place) → Keeps P Anything (rule_of.for_each_settled x o k v at)
  settled_each o k v at = next (checked_any (rule_of.for_each_told x (iterators.item_type o) k v) at) (λ u. next (marked_any (rule_of.wraps o)) (λ w. given tt (λ h. tt)))

  pub for_each : {P : Type 0} {p : Judges (Option Ty)} (name : List ℕ) {q r : Judges Given} {body : List (Judges (Unit {0}))} (at : Place)
      → Keeps P SomeTy p → Keeps P HasType q → Keeps P HasType r → Every (Keeps P Anything) body → Keeps P Anything (rule_of.for_each x p name q r body at)
  unfolding rule_of.for_each
  for_each name at a b c d = next a (λ o. next (weak (λ h. h.0) b) (λ k.
      next (inside (next (declaring name (rule_of.for_each_known (iterators.item_type o) k) at (λ h. known_some k (iterators.item_type o) h.1 (items_some o h.0.1))) (λ u. next (weak (λ h. h.0.0.0) c) (λ v. next (weak (λ h. h.0.0.0.0) (block d)) (λ w. anyhow v)))))
      (λ v. settled_each o k v at)))
