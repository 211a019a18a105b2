-- What is told of an evaluation that has ended.
use Rattle.std.proofs.Common.{◌≡◌, ◌∙◌, ◌^◌, ◌-◌, min, sym, ap, Result, Ok, Err}
use Rattle.qvt_value.specs.declared.value.Value.{Value}
use Rattle.qvt_run_data.specs.declared.exit.Halt.{Halt}
use Rattle.qvt_run_data.specs.declared.exit.Halt.TheVariants.{Exits, NoMemory}
use Rattle.qvt_run_data.specs.declared.late.LateWrite.{LateWrite}
use Rattle.qvt_run_rules.specs.State.{Done}
use Rattle.qvt_exec_exprs.specs.Plain.{ended, evaluated}
use Rattle.qvt_exec_state.specs.Runs.{Runs}
use Rattle.qvt_exec_state.specs.declared.state.RunState.{RunState}
use Rattle.qvt_exec_plain.specs.Told.{EndsAs, TellsEvaluated}
use Rattle.qvt_exec_plain.specs.declared.told.Told.{Told}

pub told_of : (d : Done LateWrite Value) (g : Result Value Halt) (t : RunState) (a : Told) → Runs d g t → EndsAs g a.outcome → a.cost ≡ min t.cost (2 ^ 64 - 1) → TellsEvaluated (evaluated d) a
told_of d (Ok v) t a runs ends cost = record {
  outcome = ends ∙ sym (ap (λ (e : Done LateWrite Value). ended e.0) runs);
  cost = cost ∙ sym (ap (λ (e : Done LateWrite Value). min e.1.cost (2 ^ 64 - 1)) runs);
}
told_of d (Err NoMemory) t a runs ends cost = absurd ends
told_of d (Err (Exits x)) t a runs ends cost = record {
  outcome = ends ∙ sym (ap (λ (e : Done LateWrite Value). ended e.0) runs);
  cost = cost ∙ sym (ap (λ (e : Done LateWrite Value). min e.1.cost (2 ^ 64 - 1)) runs);
}
