-- Steps, one after another.
use Rattle.std.proofs.Common.{◌≡◌, ◌∙◌, ℕ, ◌<◌, ◌≤◌, zero, suc, refl, sym, ap, List, [], ◌∷◌, ◌+◌, map, drop, length, Option, Result, Ok, Err, IsErrAnd, arith}
use Rattle.std.proofs.Math.Seq.{drop-cons}
use Rattle.std.proofs.Math.ListN.{get_or}
use Rattle.qvt_value.specs.declared.value.Value.{Value}
use Rattle.qvt_run_data.specs.declared.late.LateWrite.{LateWrite}
use Rattle.qvt_run_rules.specs.State.{Does, Done, State, on_outcome}
use Rattle.qvt_run_rules.specs.Expressions as rule
use Rattle.qvt_run_data.specs.declared.exit.Halt.{Halt}
use Rattle.qvt_exec_leaves.specs.Runs.{Runs}
use Rattle.qvt_exec_leaves.specs.declared.state.RunState.{RunState}
use Rattle.qvt_exec_types.specs.Post as post
use Rattle.qvt_exec_types.specs.Post.{Post}
use Rattle.qvt_exec_leaves.proofs.Ends.{ends}
use Rattle.qvt_types_data.specs.declared.ty.Ty.{Ty}
use Rattle.qvt_types_nodes.specs.declared.tree.TypedStep.{TypedStep}
use Rattle.qvt_types_nodes.specs.View.{typed_step_view}
use Rattle.qvt_exec_types.specs.Phrases as phrase
use Rattle.qvt_exec_types.specs.StepTypes.{step_type}
use Rattle.qvt_exec_types.specs.Types.{type_before}
use Rattle.qvt_exec_invocations.specs.Means.{Scene, program_of, step_of, steps_of}

-- the type before a step
abbrev pub type_at : Scene → Option Ty → List TypedStep → ℕ → Option Ty
type_at x o ss n = type_before (program_of x) o (map typed_step_view ss) n

-- the steps from a place on
pub behind : (x : Scene) (o : Option Ty) (ss : List TypedStep) (n : ℕ) → drop n (steps_of x o ss) ≡ steps_of x (type_at x o ss n) (drop n ss)
unfolding steps_of phrase.steps
behind x o [] zero = refl
behind x o (s ∷ ss) zero = refl
behind x o [] (suc n) = refl
behind x o (s ∷ ss) (suc n) = behind x (step_type (program_of x) (typed_step_view s) o) ss n

abbrev tail_or : {A : Type 0} → List A → List A → List A
tail_or l [] = l
tail_or l (a ∷ r) = r

next : {A : Type 0} (n : ℕ) (l : List A) (a : A) (r : List A) → drop n l ≡ a ∷ r → drop (suc n) l ≡ r
next zero [] a r e = ap (tail_or []) e
next zero (b ∷ l) a r e = ap (tail_or []) e
next (suc n) [] a r e = ap (tail_or []) e
next (suc n) (b ∷ l) a r e = next n l a r e

opened : (x : Scene) (o : Option Ty) (s : TypedStep) (ss : List TypedStep) → steps_of x o (s ∷ ss) ≡ step_of x o s ∷ steps_of x (step_type (program_of x) (typed_step_view s) o) ss
unfolding steps_of step_of phrase.steps
opened x o s ss = refl

-- the first of them
pub step_at : (x : Scene) (o : Option Ty) (ss : List TypedStep) (n : ℕ) (d : TypedStep) → n < length ss →
    drop n (steps_of x o ss) ≡ step_of x (type_at x o ss n) (get_or ss n d) ∷ drop (suc n) (steps_of x o ss)
step_at x o ss n d h =
    let rest : List (Value → Does LateWrite Value) = steps_of x (step_type (program_of x) (typed_step_view (get_or ss n d)) (type_at x o ss n)) (drop (suc n) ss) in
    let e : drop n (steps_of x o ss) ≡ step_of x (type_at x o ss n) (get_or ss n d) ∷ rest = behind x o ss n ∙ ap (steps_of x (type_at x o ss n)) (drop-cons ss n d h) ∙ opened x (type_at x o ss n) (get_or ss n d) (drop (suc n) ss) in
    e ∙ ap (λ (r : List (Value → Does LateWrite Value)). step_of x (type_at x o ss n) (get_or ss n d) ∷ r) (sym (next n (steps_of x o ss) (step_of x (type_at x o ss n) (get_or ss n d)) rest e))

along_step : (x : Scene) (o : Option Ty) (ss : List TypedStep) (n : ℕ) (g : TypedStep) (v : Value) (s : State LateWrite) (p : Post) → p ≡ record { program = program_of x; first = o; steps = map typed_step_view ss } → n < length ss → g ≡ get_or ss n g →
    rule.along v (drop n (steps_of x o ss)) s ≡ on_outcome (step_of x (post.type_at p n) g v s).0 (step_of x (post.type_at p n) g v s).1 (λ u. rule.along u (drop (suc n) (steps_of x o ss)))
along_step x o ss n g v s p same within is =
    ap (λ (fs : List (Value → Does LateWrite Value)). rule.along v fs s) (step_at x o ss n g within)
    ∙ ap (λ (k : TypedStep). rule.along v (step_of x (type_at x o ss n) k ∷ drop (suc n) (steps_of x o ss)) s) (sym is)
    ∙ ap (λ (q : Post). rule.along v (step_of x (post.type_at q n) g ∷ drop (suc n) (steps_of x o ss)) s) (sym same)

-- one step further
pub step_on : (x : Scene) (o : Option Ty) (ss : List TypedStep) (n : ℕ) (g : TypedStep) (v w : Value) (s t : State LateWrite) (p : Post) (d : Done LateWrite Value) → p ≡ record { program = program_of x; first = o; steps = map typed_step_view ss } → n < length ss → g ≡ get_or ss n g →
    rule.along v (drop n (steps_of x o ss)) s ≡ d → step_of x (post.type_at p n) g v s ≡ (Ok w, t) → rule.along w (drop (n + 1) (steps_of x o ss)) t ≡ d
step_on x o ss n g v w s t p d same within is before on =
    let next_is : n + 1 ≡ suc n = omega arith in
    ap (λ m. rule.along w (drop m (steps_of x o ss)) t) next_is ∙ sym (ap (λ (q : Done LateWrite Value). on_outcome q.0 q.1 (λ u. rule.along u (drop (suc n) (steps_of x o ss)))) on) ∙ sym (along_step x o ss n g v s p same within is) ∙ before

-- a step ends it
pub step_end : (x : Scene) (o : Option Ty) (ss : List TypedStep) (n : ℕ) (g : TypedStep) (v : Value) (s : State LateWrite) (p : Post) (d : Done LateWrite Value) (h : Halt) (r : Result Value Halt) (t : RunState) → p ≡ record { program = program_of x; first = o; steps = map typed_step_view ss } → n < length ss → g ≡ get_or ss n g →
    rule.along v (drop n (steps_of x o ss)) s ≡ d → Runs (step_of x (post.type_at p n) g v s) (Err h) t → IsErrAnd r (λ e. e ≡ h) → Runs d r t
step_end x o ss n g v s p d h r t same within is before on err =
    ends (step_of x (post.type_at p n) g v s) (λ u. rule.along u (drop (suc n) (steps_of x o ss))) d h r t (sym before ∙ along_step x o ss n g v s p same within is) on err

-- behind the last of them
pub steps_done : (x : Scene) (o : Option Ty) (ss : List TypedStep) (n : ℕ) (v : Value) (s : State LateWrite) → length ss ≤ n → rule.along v (drop n (steps_of x o ss)) s ≡ (Ok v, s)
unfolding steps_of phrase.steps
steps_done x o [] zero v s done = refl
steps_done x o [] (suc n) v s done = refl
steps_done x o (g ∷ ss) zero v s done = absurd (omega (arith, done))
steps_done x o (g ∷ ss) (suc n) v s done = steps_done x (step_type (program_of x) (typed_step_view g) o) ss n v s (omega (arith, done))
