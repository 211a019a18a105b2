-- What `new` makes.
use Rattle.std.proofs.Common.{◌≡◌, ◌∙◌, ◌<◌, ℕ, suc, refl, sym, ap, subst, List, [], ◌∷◌, length, Option, None, Result, Err, arith}
use Rattle.qvt_base.specs.declared.numbers.ClassNo.{ClassNo}
use Rattle.qvt_base.specs.declared.numbers.Place.{Place}
use Rattle.qvt_types_data.specs.declared.note.Reading.{Reading}
use Rattle.qvt_types_data.specs.declared.note.Reading.TheVariants as reading
use Rattle.qvt_types_nodes.specs.declared.tree.TypedExpr.{TypedExpr}
use Rattle.qvt_exec_phrases.specs.Numbers.{constructor_of}
use Rattle.qvt_value.specs.declared.value.Value.{Value}
use Rattle.qvt_run_data.specs.declared.exit.End.TheVariants.{Fault}
use Rattle.qvt_run_data.specs.declared.exit.Exit.TheVariants.{Ends}
use Rattle.qvt_run_data.specs.declared.exit.Halt.{Halt}
use Rattle.qvt_run_data.specs.declared.exit.Halt.TheVariants.{Exits}
use Rattle.qvt_run_data.specs.declared.fault.RunFault.TheVariants.{TypeFault}
use Rattle.qvt_run_rules.specs.Calls as call
use Rattle.qvt_run_rules.specs.Cost.{spend_of}
use Rattle.qvt_run_rules.specs.State.{misfit}
use Rattle.qvt_exec_phrases.specs.Phrases as phrase
use Rattle.qvt_exec_phrases.specs.Readings as by
use Rattle.qvt_exec_state.specs.Runs.{Runs, seen}
use Rattle.qvt_exec_state.specs.declared.state.RunState.{RunState}
use Rattle.qvt_exec_phrases.specs.Means.{Scene, exprs_of, program_of, setting_of}

-- a phrase for each argument
pub as_many : (x : Scene) (es : List TypedExpr) → length (exprs_of x es) ≡ length es
unfolding exprs_of phrase.exprs
as_many x [] = refl
as_many x (e ∷ es) = ap suc (as_many x es)

-- an object alone, without arguments
pub without_arguments : (x : Scene) (c e : ℕ) (es : List TypedExpr) (at : Place) → length es ≡ 0 →
    by.new_with (setting_of x) x.1.calls c e None (exprs_of x es) at ≡ call.new_alone (spend_of x.0.limit) x.1.calls c e at
unfolding exprs_of phrase.exprs
without_arguments x c e [] at none = refl
without_arguments x c e (a ∷ es) at none = absurd (omega (arith, none))

-- with arguments there is none
pub with_arguments : (x : Scene) (c e : ℕ) (es : List TypedExpr) (at : Place) (r : Result Value Halt) (t : RunState) → 0 < length es → r ≡ Err (Exits (Ends (Fault TypeFault at))) →
    Runs (by.new_with (setting_of x) x.1.calls c e None (exprs_of x es) at (seen t)) r t
unfolding exprs_of phrase.exprs
with_arguments x c e [] at r t some is = absurd (omega (arith, some))
with_arguments x c e (a ∷ es) at r t some is = subst (λ (z : Result Value Halt). Runs (misfit {A = Value} at (seen t)) z t) (sym is) refl

-- a `new` that typing read so, with this constructor
pub made_is : (x : Scene) (r : Reading) (c : ClassNo) (e : ℕ) (es : List TypedExpr) (n : Option ℕ) (at : Place) → r ≡ reading.Make c e → n ≡ constructor_of c.0 (length es) (program_of x).heads.units →
    by.new_by (setting_of x) x.1.calls r (exprs_of x es) at ≡ by.new_with (setting_of x) x.1.calls c.0 e n (exprs_of x es) at
made_is x r c e es n at is by_count =
    ap (λ (k : Reading). by.new_by (setting_of x) x.1.calls k (exprs_of x es) at) is
    ∙ ap (λ (k : ℕ). by.new_with (setting_of x) x.1.calls c.0 e (constructor_of c.0 k (program_of x).heads.units) (exprs_of x es) at) (as_many x es)
    ∙ ap (λ (k : Option ℕ). by.new_with (setting_of x) x.1.calls c.0 e k (exprs_of x es) at) (sym by_count)
