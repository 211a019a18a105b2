-- The first steps with the source of an operation lent, as the interpreter does them.
use Rattle.std.specs.Prelude.{ℕ, suc, List, Option}
use Rattle.qvt_types_data.specs.declared.ty.Ty.{Ty}
use Rattle.qvt_types_nodes.specs.Tree.{TypedStepTerms}
use Rattle.qvt_value.specs.declared.value.Value.{Value}
use Rattle.qvt_run_data.specs.declared.late.LateWrite.{LateWrite}
use Rattle.qvt_run_rules.specs.State.{Does, ◌>>=◌}
use Rattle.qvt_exec_quiet.specs.Lent.{LentTerm, steps_before, kind_for, args_of, lent_operation, with_done, lent_steps, or_first, along_rest}
use Rattle.qvt_exec_invocations.specs.Means.{Scene, program_of, setting_of}

abbrev pub args_in : Scene → LentTerm → Does LateWrite (List Value)
args_in x l = args_of (setting_of x) x.1.calls x.0.answer.now l

unfoldable pub lent_in : Scene → Option Ty → TypedStepTerms → LentTerm → Does LateWrite Value
lent_in x o ss l = lent_operation (setting_of x) x.1.calls x.0.answer.now (kind_for (program_of x) o ss l) l

-- the same, with how many of the steps are done then
abbrev pub done_in : Scene → Option Ty → TypedStepTerms → LentTerm → Does LateWrite (Option (ℕ × Value))
done_in x o ss l = lent_in x o ss l >>= with_done (suc (steps_before l.source))

unfoldable pub lent_steps_in : Scene → Option Ty → TypedStepTerms → Option LentTerm → Does LateWrite (Option (ℕ × Value))
lent_steps_in x o ss l = lent_steps (setting_of x) x.1.calls x.0.answer.now o ss l

unfoldable pub begun_in : Scene → Option Ty → TypedStepTerms → Option LentTerm → Does LateWrite Value → Does LateWrite (ℕ × Value)
begun_in x o ss l p = lent_steps_in x o ss l >>= or_first p

-- all the steps, behind those that are done so
unfoldable pub all_along : Scene → Option Ty → TypedStepTerms → Option LentTerm → Does LateWrite Value → List (Value → Does LateWrite Value) → Does LateWrite Value
all_along x o ss l p fs = begun_in x o ss l p >>= along_rest fs
