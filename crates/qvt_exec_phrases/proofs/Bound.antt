-- The parameters of a unit, one after another.
use Rattle.std.proofs.Common.{◌≡◌, ◌∙◌, refl, sym, ap, List, [], ◌∷◌, ◌++◌, append_assoc, append-nil, reverse, Option, Result, Ok, Err}
use Rattle.std.proofs.lemmas.List.{reverse-append, reverse-reverse}
use Rattle.qvt_base.specs.declared.numbers.Place.{Place}
use Rattle.qvt_value.specs.declared.value.Value.{Value}
use Rattle.qvt_types_data.specs.declared.ty.Ty.{Ty}
use Rattle.qvt_types_nodes.specs.Module.{TypedMember}
use Rattle.qvt_run_data.specs.declared.exit.Exit.{Exit}
use Rattle.qvt_run_data.specs.declared.late.LateWrite.{LateWrite}
use Rattle.qvt_run_data.specs.declared.local.Local.{Local}
use Rattle.qvt_run_rules.specs.State.{State, Done, Does, ◌>>=◌, on_outcome, pure}
use Rattle.qvt_run_rules.specs.Locals.{fixed}
use Rattle.qvt_run_rules.specs.Typed.{asked}
use Rattle.qvt_run_rules.specs.Calls.{UnitParam, bound}
use Rattle.qvt_program_units.specs.Units.{params_of}
use Rattle.qvt_exec_phrases.specs.Frames.{bound_after, first_type, other_types}

pub params_next : (m : TypedMember) (ms : List TypedMember) (ts : List (Option Ty)) → params_of (m ∷ ms) ts ≡ record { name = m.name; type = first_type ts } ∷ params_of ms (other_types ts)
params_next m ms [] = refl
params_next m ms (t ∷ ts) = refl

-- arguments the other way round
pub back_again : (vs : List Value) → reverse (reverse vs) ≡ vs
back_again vs = reverse-reverse vs

pub first_again : (vs : List Value) (v : Value) → reverse (vs ++ v ∷ []) ≡ v ∷ reverse vs
first_again vs v = reverse-append vs (v ∷ [])

-- the parameters come after the variables
abbrev after : List Local → Does LateWrite (List Local) → Does LateWrite (List Local)
after ls p = p >>= (λ ms. pure (ls ++ ms))

one_after : (ls : List Local) (v : Local) (r : Result (List Local) Exit) (s : State LateWrite) →
    on_outcome r s (λ ms. pure ((ls ++ v ∷ []) ++ ms)) ≡ on_outcome (on_outcome r s (λ ms. pure (v ∷ ms))).0 (on_outcome r s (λ ms. pure (v ∷ ms))).1 (λ ms. pure (ls ++ ms))
one_after ls v (Ok ms) s = ap (λ xs. (Ok xs, s)) (append_assoc ls (v ∷ []) ms)
one_after ls v (Err e) s = refl

pub bound_is : (ls : List Local) (ps : List UnitParam) (vs : List Value) (at : Place) (s : State LateWrite) → bound_after ls ps vs at s ≡ after ls (bound ps vs at) s
bound_is ls [] [] at s = ap (λ xs. (Ok xs, s)) (sym (append-nil ls))
bound_is ls [] (v ∷ vs) at s = refl
bound_is ls (p ∷ ps) [] at s = refl
bound_is ls (p ∷ ps) (v ∷ vs) at s = on (λ w t. bound_is (ls ++ fixed p.name w ∷ []) ps vs at t) (asked p.type at v s).0 (asked p.type at v s).1
  where
    on : ((w : Value) (t : State LateWrite) → bound_after (ls ++ fixed p.name w ∷ []) ps vs at t ≡ after (ls ++ fixed p.name w ∷ []) (bound ps vs at) t) → (r : Result Value Exit) (t : State LateWrite) →
        on_outcome r t (λ w. bound_after (ls ++ fixed p.name w ∷ []) ps vs at)
        ≡ on_outcome (on_outcome r t (λ w. bound ps vs at >>= (λ ms. pure (fixed p.name w ∷ ms)))).0 (on_outcome r t (λ w. bound ps vs at >>= (λ ms. pure (fixed p.name w ∷ ms)))).1 (λ ms. pure (ls ++ ms))
    on rest (Ok w) t = rest w t ∙ one_after ls (fixed p.name w) (bound ps vs at t).0 (bound ps vs at t).1
    on rest (Err e) t = refl

all_of : (d : Done LateWrite (List Local)) → on_outcome d.0 d.1 (λ ms. pure ([] ++ ms)) ≡ d
all_of (Ok ms, s) = refl
all_of (Err e, s) = refl

pub after_none : (ps : List UnitParam) (vs : List Value) (at : Place) (s : State LateWrite) → bound_after [] ps vs at s ≡ bound ps vs at s
after_none ps vs at s = bound_is [] ps vs at s ∙ all_of (bound ps vs at s)
