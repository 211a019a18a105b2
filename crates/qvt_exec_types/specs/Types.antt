-- The types of what stands before the steps of an expression.
use Rattle.std.specs.Prelude.{ℕ, List, take, Option}
use Rattle.std.specs.List.{fold}
use Rattle.qvt_types_data.specs.declared.ty.Ty.{Ty}
use Rattle.qvt_types_nodes.specs.Tree.{TypedStepTerm}
use Rattle.qvt_types_program.specs.Accepts.{ProgramTerm}
use Rattle.qvt_meaning.specs.StepTypes.{step_type}

abbrev pub next_type : ProgramTerm → Option Ty → TypedStepTerm → Option Ty
next_type p o s = step_type p s o

-- the type behind the steps, from that of what stands before the first
abbrev pub type_after : ProgramTerm → Option Ty → List TypedStepTerm → Option Ty
type_after p o ss = fold (next_type p) o ss

-- the type before step n
abbrev pub type_before : ProgramTerm → Option Ty → List TypedStepTerm → ℕ → Option Ty
type_before p o ss n = type_after p o (take n ss)
