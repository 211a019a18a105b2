-- Rules of typing, step by step: where a part does what is known of it, the rule goes on from there.
use Rattle.std.proofs.Common.{◌≡◌, ℕ, Bool, true, false, if◌then◌else◌, List, Option, None, Result, subst, sym}
use Rattle.qvt_base.specs.declared.list_fault.ListFault.{ListFault}
use Rattle.qvt_base.specs.declared.numbers.ExprNo.{ExprNo}
use Rattle.qvt_base.specs.declared.numbers.Place.{Place}
use Rattle.qvt_tree_types.specs.Tree.{FilterTerm, ResolveOf}
use Rattle.qvt_tree_types.specs.declared.types.PathTree.{PathTree}
use Rattle.qvt_tree_types.specs.declared.words.ResolveWord.{ResolveWord}
use Rattle.qvt_types_data.specs.declared.ruling.Read.{Read}
use Rattle.qvt_types_data.specs.declared.ruling.Ruling.{Ruling}
use Rattle.qvt_types_data.specs.declared.ty.Ty.{Ty}
use Rattle.qvt_types_states.specs.Does.{GivesAndLeaves}
use Rattle.qvt_types_states.specs.Judge.{Judges, ◌>>=◌, fresh, answers, marks}
use Rattle.qvt_types_states.specs.Scopes.{ScopeTerm, back_to}
use Rattle.qvt_types_states.specs.declared.state.TypingState.{TypingState}
use Rattle.qvt_types_steps.specs.Calls.{dot_call}
use Rattle.qvt_types_steps.specs.IteratorTable.{iterator_named}
use Rattle.qvt_types_steps.specs.Iterators.{item_type}
use Rattle.qvt_types_steps.specs.declared.classes.ClassPart.{ClassPart}
use Rattle.qvt_types_steps.specs.declared.heads.Heading.{Heading}
use Rattle.qvt_types_steps.specs.declared.resolves.Joint.{Joint}
use Rattle.qvt_types_steps.specs.declared.resolves.Joint.TheVariants.{Sourceless}
use Rattle.qvt_typing.specs.Calls.{called_behind, effect_of, unit_ruled}
use Rattle.qvt_typing.specs.Context.{TypingContext}
use Rattle.qvt_typing.specs.Rules as rule
use Rattle.qvt_typing.specs.Phrases as phrase
use Rattle.qvt_typing.specs.declared.parts.Called.{Called}
use Rattle.qvt_typing.specs.declared.parts.Effect.{Effect}
use Rattle.qvt_typing.specs.declared.parts.Effect.TheVariants.{PlainOne}
use Rattle.qvt_types_walk_steps.specs.Parts.{call_settled, resolve_read}

pub arrowed-steps : (x : TypingContext) (name : List ℕ) (head : Option Ty → Judges Heading) (args : List (Judges (Option Ty))) (classes : List (Judges ClassPart)) (at : Place) (o : Option Ty) (s s1 s2 : TypingState) (h : Heading) (w : Ruling) (z : ScopeTerm) (res : Result (Option Ty) ListFault) (new : TypingState)
    → head (item_type o) s ≡ (h, s1) → rule.arrow_parts x name args classes o h s1 ≡ (w, s2)
    → z ≡ back_to s.scope s2.scope
    → GivesAndLeaves (rule.stepped x w (rule.iterator_effect (iterator_named name)) at (record s2 { scope = z })) res new
    → GivesAndLeaves (rule.arrowed x name head args classes at o s) res new
unfolding rule.arrowed
arrowed-steps x name head args classes at o s s1 s2 h w z res new e1 e2 e3 k =
    let cut : GivesAndLeaves (rule.stepped x w (rule.iterator_effect (iterator_named name)) at (record s2 { scope = back_to s.scope s2.scope })) res new =
    subst (λ (y : ScopeTerm). GivesAndLeaves (rule.stepped x w (rule.iterator_effect (iterator_named name)) at (record s2 { scope = y })) res new) e3 k in
    rw (e1, e2) cut

pub operation-called : (x : TypingContext) (name : List ℕ) (us : Option (List Ty)) (at : Place) (o : Option Ty) (s : TypingState) (w : Ruling) (res : Result (Option Ty) ListFault) (new : TypingState)
    → rule.reads_operation name o ≡ true → w ≡ dot_call x.heads.metas name o us
    → GivesAndLeaves (rule.stepped x w PlainOne at s) res new
    → GivesAndLeaves (call_settled x name us at o s) res new
operation-called x name us at o s w res new e1 e2 h =
    subst (λ (b : Bool). GivesAndLeaves ((if b then rule.stepped x (dot_call x.heads.metas name o us) PlainOne at else rule.stepped x (unit_ruled x.heads o (called_behind x.heads false false name o) us) (effect_of x.heads (called_behind x.heads false false name o)) at) s) res new) (sym e1) (subst (λ (v : Ruling). GivesAndLeaves (rule.stepped x v PlainOne at s) res new) e2 h)

pub unit-called : (x : TypingContext) (name : List ℕ) (us : Option (List Ty)) (at : Place) (o : Option Ty) (s : TypingState) (c : Called) (w : Ruling) (e : Effect) (res : Result (Option Ty) ListFault) (new : TypingState)
    → rule.reads_operation name o ≡ false → c ≡ called_behind x.heads false false name o → w ≡ unit_ruled x.heads o c us → e ≡ effect_of x.heads c
    → GivesAndLeaves (rule.stepped x w e at s) res new
    → GivesAndLeaves (call_settled x name us at o s) res new
unit-called x name us at o s c w e res new e1 e2 e3 e4 h =
    let ruled : GivesAndLeaves (rule.stepped x (unit_ruled x.heads o c us) e at s) res new = subst (λ (v : Ruling). GivesAndLeaves (rule.stepped x v e at s) res new) e3 h in
    let told : GivesAndLeaves (rule.stepped x (unit_ruled x.heads o c us) (effect_of x.heads c) at s) res new = subst (λ (v : Effect). GivesAndLeaves (rule.stepped x (unit_ruled x.heads o c us) v at s) res new) e4 ruled in
    subst (λ (b : Bool). GivesAndLeaves ((if b then rule.stepped x (dot_call x.heads.metas name o us) PlainOne at else rule.stepped x (unit_ruled x.heads o (called_behind x.heads false false name o) us) (effect_of x.heads (called_behind x.heads false false name o)) at) s) res new) (sym e1)
    (subst (λ (v : Called). GivesAndLeaves (rule.stepped x (unit_ruled x.heads o v us) (effect_of x.heads v) at s) res new) e2 told)

pub resolve-judged : (x : TypingContext) (allowed late : Bool) (w : ResolveWord) (i : Option PathTree) (f : FilterTerm) (at : Place) (s s1 s2 : TypingState) (n : ExprNo) (r : Read) (res : Result (Option Ty) ListFault) (new : TypingState)
    → fresh s ≡ (n, s1) → resolve_read x allowed late Sourceless w None (phrase.within x i) (phrase.filtered x f) at s1 ≡ (r, s2)
    → GivesAndLeaves (answers n r s2) res new
    → GivesAndLeaves (phrase.resolved x allowed (ResolveOf late w i f at) s) res new
unfolding phrase.resolved rule.resolve
resolve-judged x allowed late w i f at s s1 s2 n r res new e0 e1 h =
    subst (λ (v : ExprNo × TypingState). GivesAndLeaves ((resolve_read x allowed late Sourceless w None (phrase.within x i) (phrase.filtered x f) at >>= (λ r. answers v.0 r)) v.1) res new) (sym e0)
    (subst (λ (v : Read × TypingState). GivesAndLeaves (answers n v.0 v.1) res new) (sym e1) h)

pub resolved-behind : (x : TypingContext) (allowed late : Bool) (j : Joint) (w : ResolveWord) (i : Option PathTree) (f : FilterTerm) (at : Place) (o : Option Ty) (s s1 : TypingState) (r : Read) (res : Result (Option Ty) ListFault) (new : TypingState)
    → resolve_read x allowed late j w o (phrase.within x i) (phrase.filtered x f) at s ≡ (r, s1)
    → GivesAndLeaves (marks r s1) res new
    → GivesAndLeaves (phrase.resolved_behind x allowed j (ResolveOf late w i f at) o s) res new
unfolding phrase.resolved_behind rule.resolve_step
resolved-behind x allowed late j w i f at o s s1 r res new e h = subst (λ (v : Read × TypingState). GivesAndLeaves (marks v.0 v.1) res new) (sym e) h
