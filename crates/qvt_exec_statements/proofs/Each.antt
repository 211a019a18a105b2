-- A `forEach` once its source gave a value that is not invalid.
use Rattle.std.proofs.Common.{◌≡◌, ◌∙◌, ℕ, sym, ap, subst, List, Option, Result, Ok}
use Rattle.qvt_base.specs.declared.numbers.Place.{Place}
use Rattle.qvt_types_data.specs.declared.ty.Ty.{Ty}
use Rattle.qvt_value.specs.declared.value.Value.{Value}
use Rattle.qvt_run_data.specs.declared.exit.Halt.{Halt}
use Rattle.qvt_run_data.specs.declared.late.LateWrite.{LateWrite}
use Rattle.qvt_run_rules.specs.Sources.{items_of}
use Rattle.qvt_run_rules.specs.State.{State, Done, Does, ◌>>=◌, on_outcome}
use Rattle.qvt_run_rules.specs.Statements as statement
use Rattle.qvt_run_rules.specs.Typed.{valid}
use Rattle.qvt_exec_state.specs.Runs.{Runs}
use Rattle.qvt_exec_state.specs.declared.state.RunState.{RunState}

-- the items for a variable of this type, and then the turns
abbrev pub over : List ℕ → Option Ty → Does LateWrite (Unit {0}) → Place → Value → Does LateWrite (Unit {0})
over name t body at v = statement.asked_items t at (items_of v) >>= statement.each_item (statement.for_item name t body)

abbrev valid_on : Done LateWrite Value → Done LateWrite Value
valid_on d = on_outcome d.0 d.1 valid

abbrev asked_on : Option Ty → Place → Done LateWrite Value → Done LateWrite (List Value)
asked_on t at d = on_outcome d.0 d.1 (λ v. statement.asked_items t at (items_of v))

abbrev turns_on : List ℕ → Option Ty → Does LateWrite (Unit {0}) → Done LateWrite (List Value) → Done LateWrite (Unit {0})
turns_on name t body d = on_outcome d.0 d.1 (statement.each_item (statement.for_item name t body))

module _ (source : Does LateWrite Value) (at there : Place) (name : List ℕ) (t of : Option Ty) (body : Does LateWrite (Unit {0})) (s z : State LateWrite) (v w : Value) (given : source s ≡ (Ok v, z)) (sure : valid v z ≡ (Ok w, z)) (here : there ≡ at) (same : of ≡ t) where
  goes_over : statement.for_each source at name t body s ≡ over name of body there w z
  unfolding statement.for_each
  goes_over =
      ap (λ (d : Done LateWrite Value). turns_on name t body (asked_on t at (valid_on d))) given
      ∙ ap (λ (d : Done LateWrite Value). turns_on name t body (asked_on t at d)) sure
      ∙ sym (ap (λ (k : Option Ty). over name k body at w z) same)
      ∙ sym (ap (λ (p : Place). over name of body p w z) here)

  pub over_runs : (r : Result (Unit {0}) Halt) (u : RunState) → Runs (over name of body there w z) r u → Runs (statement.for_each source at name t body s) r u
  over_runs r u runs = subst (λ (d : Done LateWrite (Unit {0})). Runs d r u) (sym goes_over) runs
