-- An expression with steps behind it, as what the types before its steps are told of.
use Rattle.std.specs.Prelude.{ℕ, List, map, Option}
use Rattle.qvt_types_data.specs.declared.ty.Ty.{Ty}
use Rattle.qvt_types_nodes.specs.Tree.{TypedStepTerm}
use Rattle.qvt_types_nodes.specs.View.{typed_step_view}
use Rattle.qvt_types_program.specs.Program.{program_view}
use Rattle.qvt_types_program.specs.Accepts.{ProgramTerm}
use Rattle.qvt_exec_types.specs.Types.{type_before}
use Rattle.qvt_exec_types.specs.declared.before.Before.{Before}

pub record Post : Type 0 where
  pub program : ProgramTerm
  -- the type of what stands before the first step
  pub first : Option Ty
  pub steps : List TypedStepTerm

abbrev pub post_of : Before → Post
post_of b = record { program = program_view b.program.now; first = b.first.now; steps = map typed_step_view b.steps.now }

-- the type before its step n
abbrev pub type_at : Post → ℕ → Option Ty
type_at p n = type_before p.program p.first p.steps n
