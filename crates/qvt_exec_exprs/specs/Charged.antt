-- Signs before an operand, which are all charged before it.
use Rattle.std.specs.Prelude.{ℕ, Option}
use Rattle.qvt_value.specs.declared.value.Value.{Value}
use Rattle.qvt_run_data.specs.declared.late.LateWrite.{LateWrite}
use Rattle.qvt_run_rules.specs.State.{Does, ◌>>=◌, ◌>>◌}
use Rattle.qvt_exec_leaves.specs.Signs.{ticks_of}

-- so many units first, then a phrase, then what is made of its value
abbrev pub charged_first : Option ℕ → ℕ → Does LateWrite Value → (Value → Does LateWrite Value) → Does LateWrite Value
charged_first limit n p f = ticks_of limit n >> (p >>= f)
