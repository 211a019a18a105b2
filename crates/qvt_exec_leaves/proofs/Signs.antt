-- Signs before an operand, from the inner one outwards.
use Rattle.std.proofs.Common.{◌≡◌, ◌∙◌, ℕ, suc, refl, sym, ap, List, [], ◌∷◌, ◌++◌, length, take, ◌<◌, ◌≤◌, ◌-◌, arith, Option, Result, Ok, Err, IsErrAnd}
use Rattle.std.proofs.Math.Seq.{take-suc}
use Rattle.std.proofs.Math.ListN.{get_or}
use Rattle.qvt_value.specs.declared.value.Value.{Value}
use Rattle.qvt_run_data.specs.declared.exit.Exit.{Exit}
use Rattle.qvt_run_data.specs.declared.late.LateWrite.{LateWrite}
use Rattle.qvt_run_rules.specs.State.{State, Done, Does, on_outcome, ◌>>=◌, pure, found}
use Rattle.qvt_run_rules.specs.Cost.{count, spend_of}
use Rattle.qvt_run_rules.specs.Expressions as rule
use Rattle.qvt_run_data.specs.declared.exit.Halt.{Halt}
use Rattle.qvt_exec_state.specs.Runs.{Runs, seen}
use Rattle.qvt_exec_state.specs.declared.state.RunState.{RunState}
use Rattle.qvt_exec_leaves.proofs.Ends.{ends}
use Rattle.qvt_types_nodes.specs.declared.types.TypedSign.{TypedSign}
use Rattle.qvt_exec_leaves.specs.Signs.{signed_by, ticks_of}

-- a step after two steps is a step after the first of them
pub later : {A B C : Type 0} (r : Result A Exit) (s : State LateWrite) (f : A → Does LateWrite B) (g : B → Does LateWrite C) → on_outcome (on_outcome r s f).0 (on_outcome r s f).1 g ≡ on_outcome r s (λ a. f a >>= g)
later (Ok a) s f g = refl
later (Err e) s f g = refl

pub nothing_after : {A : Type 0} (d : Done LateWrite A) → d ≡ on_outcome d.0 d.1 (λ a. pure a)
nothing_after (Ok a, s) = refl
nothing_after (Err e, s) = refl

-- a sign on a value
abbrev pub on_sign : TypedSign → Value → Does LateWrite Value
on_sign g v = found (rule.signed {E = LateWrite} count g.op g.place v) g.place

-- the innermost sign comes first
pub signed_last : (ss : List TypedSign) (g : TypedSign) (v : Value) (s : State LateWrite) → signed_by (ss ++ g ∷ []) v s ≡ on_outcome (on_sign g v s).0 (on_sign g v s).1 (signed_by ss)
signed_last [] g v s = nothing_after (on_sign g v s)
signed_last (k ∷ ss) g v s =
    ap (λ (d : Done LateWrite Value). on_outcome d.0 d.1 (on_sign k)) (signed_last ss g v s)
    ∙ later (on_sign g v s).0 (on_sign g v s).1 (signed_by ss) (on_sign k)

-- with one sign less to come
pub signed_turn : (ss : List TypedSign) (n : ℕ) (d : TypedSign) (v : Value) (s : State LateWrite) → n < length ss →
    signed_by (take (suc n) ss) v s ≡ on_outcome (on_sign (get_or ss n d) v s).0 (on_sign (get_or ss n d) v s).1 (signed_by (take n ss))
signed_turn ss n d v s h = ap (λ (ks : List TypedSign). signed_by ks v s) (take-suc ss n d h) ∙ signed_last (take n ss) (get_or ss n d) v s

signed_more : (ss : List TypedSign) (left n : ℕ) (g : TypedSign) (v : Value) (s : State LateWrite) → left ≡ suc n → n < length ss → g ≡ get_or ss n g →
    signed_by (take left ss) v s ≡ on_outcome (on_sign g v s).0 (on_sign g v s).1 (signed_by (take n ss))
signed_more ss left n g v s more within is =
    ap (λ m. signed_by (take m ss) v s) more ∙ signed_turn ss n g v s within
    ∙ ap (λ (k : TypedSign). on_outcome (on_sign k v s).0 (on_sign k v s).1 (signed_by (take n ss))) (sym is)

-- a sign ends it, where the others are to come
pub signed_end : (ss : List TypedSign) (left n : ℕ) (g : TypedSign) (v operand : Value) (h : Halt) (r : Result Value Halt) (t : RunState) → left ≡ suc n → n < length ss → g ≡ get_or ss n g →
    signed_by ss operand (seen t) ≡ signed_by (take left ss) v (seen t) → Runs (on_sign g v (seen t)) (Err h) t → IsErrAnd r (λ e. e ≡ h) → Runs (signed_by ss operand (seen t)) r t
signed_end ss left n g v operand h r t more within is before on err =
    ends (on_sign g v (seen t)) (signed_by (take n ss)) (signed_by ss operand (seen t)) h r t (before ∙ signed_more ss left n g v (seen t) more within is) on err

-- a sign gives a value, on which the others are to come
pub signed_on : (ss : List TypedSign) (left n : ℕ) (g : TypedSign) (v w operand : Value) (s : State LateWrite) → left ≡ suc n → n < length ss → g ≡ get_or ss n g →
    signed_by ss operand s ≡ signed_by (take left ss) v s → on_sign g v s ≡ (Ok w, s) → signed_by ss operand s ≡ signed_by (take n ss) w s
signed_on ss left n g v w operand s more within is before on =
    before ∙ signed_more ss left n g v s more within is ∙ ap (λ (d : Done LateWrite Value). on_outcome d.0 d.1 (signed_by (take n ss))) on

-- so many single units, the first of them first
pub ticks_more : (limit : Option ℕ) (n k : ℕ) (s : State LateWrite) → k < n →
    ticks_of limit (n - k) s ≡ on_outcome (spend_of limit 1 s).0 (spend_of limit 1 s).1 (λ _. ticks_of limit (n - suc k))
ticks_more limit n k s h = let e : n - k ≡ suc (n - suc k) = omega (arith, h) in ap (λ m. ticks_of limit m s) e

pub ticks_over : (limit : Option ℕ) (n k : ℕ) (s : State LateWrite) → n ≤ k → ticks_of limit (n - k) s ≡ (Ok tt, s)
ticks_over limit n k s h = let e : n - k ≡ 0 = omega (arith, h) in ap (λ m. ticks_of limit m s) e
