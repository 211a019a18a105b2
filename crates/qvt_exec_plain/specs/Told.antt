-- What is told of an evaluation (OCL 2.4, 7; the cost is the engine's own).
use Rattle.std.specs.Prelude.{◌≡◌, ◌^◌, ◌-◌, min, Result, Ok, Err}
use Rattle.qvt_value.specs.declared.value.Value.{Value}
use Rattle.qvt_run_data.specs.declared.exit.End.{End}
use Rattle.qvt_run_data.specs.declared.exit.Halt.{Halt}
use Rattle.qvt_run_data.specs.declared.exit.Halt.TheVariants.{Exits, NoMemory}
use Rattle.qvt_exec_exprs.specs.Plain.{Evaluated, ended}
use Rattle.qvt_exec_plain.specs.declared.told.Told.{Told}

-- it tells what the expression gives, and what that cost, a cost beyond 64 bits as the greatest number of 64 bits
pub record TellsEvaluated (e : Evaluated) (t : Told) : Type 0 where
  pub outcome : t.outcome ≡ e.outcome
  pub cost : t.cost ≡ min e.cost (2 ^ 64 - 1)

-- what ends an evaluation tells its outcome, unless there was no memory
abbrev pub EndsAs : Result Value Halt → Result Value End → Type 0
EndsAs (Ok v) o = o ≡ Ok v
EndsAs (Err NoMemory) o = ⊥
EndsAs (Err (Exits e)) o = o ≡ ended (Err e)
