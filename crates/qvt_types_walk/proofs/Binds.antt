-- Rules of typing, step by step: where a part does what is known of it, the rule goes on from there.
use Rattle.std.proofs.Common.{◌≡◌, ℕ, List, [], ◌∷◌, Option, Result, length, subst, sym, le_refl, take_all}
use Rattle.qvt_base.specs.declared.list_fault.ListFault.{ListFault}
use Rattle.qvt_base.specs.declared.numbers.Place.{Place}
use Rattle.qvt_types_data.specs.declared.ty.Ty.{Ty}
use Rattle.qvt_types_states.specs.Does.{GivesAndLeaves}
use Rattle.qvt_types_states.specs.Judge.{Judges}
use Rattle.qvt_types_states.specs.Scopes.{ScopeTerm, back_to}
use Rattle.qvt_types_states.specs.declared.state.TypingState.{TypingState}
use Rattle.qvt_typing.specs.Context.{TypingContext}
use Rattle.qvt_typing.specs.Rules as rule
use Rattle.qvt_typing.specs.Statements as rule_of
use Rattle.qvt_typing.specs.declared.parts.Given.{Given}
use Rattle.qvt_types_walk.specs.Parts.{if_settled, turn}

pub if-steps : (x : TypingContext) (p : Judges (Option Ty)) (body : List (Judges (Unit {0}))) (arms : List (Judges (Option Ty))) (otherwise : List (Judges (Unit {0}))) (at : Place) (s s1 s2 s3 s4 : TypingState) (o : Option Ty) (os : List (Option Ty)) (res : Result (Unit {0}) ListFault) (new : TypingState)
    → p s ≡ (o, s1) → rule_of.block x body s1 ≡ (tt, s2) → rule.all (o ∷ []) arms s2 ≡ (os, s3) → rule_of.block x otherwise s3 ≡ (tt, s4)
    → GivesAndLeaves (if_settled x os at s4) res new
    → GivesAndLeaves (rule_of.if_ x p body arms otherwise at s) res new
unfolding rule_of.if_ rule_of.arm
if-steps x p body arms otherwise at s s1 s2 s3 s4 o os res new e1 e2 e3 e4 h = rw (e1, e2, e3, e4) h

pub for_each-steps : (x : TypingContext) (p : Judges (Option Ty)) (name : List ℕ) (q r : Judges Given) (body : List (Judges (Unit {0}))) (at : Place) (s s1 s2 s3 s4 : TypingState) (o : Option Ty) (k d : Given) (z : ScopeTerm) (res : Result (Unit {0}) ListFault) (new : TypingState)
    → p s ≡ (o, s1) → q s1 ≡ (k, s2) → rule_of.for_each_declared x o name k at s2 ≡ (tt, s3) → turn x r body s3 ≡ (d, s4)
    → z ≡ back_to s2.scope s4.scope
    → GivesAndLeaves (rule_of.for_each_settled x o k d at (record s4 { scope = z })) res new
    → GivesAndLeaves (rule_of.for_each x p name q r body at s) res new
unfolding rule_of.for_each
for_each-steps x p name q r body at s s1 s2 s3 s4 o k d z res new e1 e2 e3 e4 e5 h =
    let cut : GivesAndLeaves (rule_of.for_each_settled x o k d at (record s4 { scope = back_to s2.scope s4.scope })) res new =
    subst (λ (y : ScopeTerm). GivesAndLeaves (rule_of.for_each_settled x o k d at (record s4 { scope = y })) res new) e5 h in
    let turned : GivesAndLeaves (rule_of.for_each_settled x o k (turn x r body s3).0 at (record (turn x r body s3).1 { scope = back_to s2.scope (turn x r body s3).1.scope })) res new =
    subst (λ (v : Given × TypingState). GivesAndLeaves (rule_of.for_each_settled x o k v.0 at (record v.1 { scope = back_to s2.scope v.1.scope })) res new) (sym e4) cut in
    rw (e1, e2) (subst (λ (w : (Unit {0}) × TypingState). GivesAndLeaves (rule_of.for_each_settled x o k (turn x r body w.1).0 at (record (turn x r body w.1).1 { scope = back_to s2.scope (turn x r body w.1).1.scope })) res new) (sym e3) turned)

-- a block without statements leaves the state as it was
pub no_block : (x : TypingContext) (s : TypingState) → rule_of.block x [] s ≡ (tt, s)
unfolding rule_of.block
no_block x s = λ i. (tt, record s { scope = record { named = take_all (length s.scope.named) s.scope.named (le_refl (length s.scope.named)) i; sources = take_all (length s.scope.sources) s.scope.sources (le_refl (length s.scope.sources)) i } })
