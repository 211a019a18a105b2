-- The kind of what an arrow goes over, by the type before its step.
use Rattle.std.proofs.Common.{◌≡◌, ℕ, zero, suc, refl, ap, List, [], ◌∷◌, map, Option}
use Rattle.qvt_types_data.specs.declared.ty.Ty.{Ty}
use Rattle.qvt_types_nodes.specs.View.{typed_step_view, typed_steps_of}
use Rattle.qvt_types_nodes.specs.declared.tree.TypedStep.{TypedStep}
use Rattle.qvt_typing.specs.Accepts.{ProgramTerm}
use Rattle.qvt_exec_types.specs.StepTypes.{step_type, kind_before}
use Rattle.qvt_exec_types.specs.Types as types
use Rattle.qvt_exec_quiet.specs.Lent.{LentTerm, steps_before, type_before, kind_for}

types_before : (p : ProgramTerm) (o : Option Ty) (ss : List TypedStep) (n : ℕ) → types.type_before p o (map typed_step_view ss) n ≡ type_before p o (typed_steps_of (map typed_step_view ss)) n
types_before p o ss zero = refl
types_before p o [] (suc n) = refl
types_before p o (s ∷ ss) (suc n) = types_before p (step_type p (typed_step_view s) o) ss n

pub kind_is : (p : ProgramTerm) (o : Option Ty) (ss : List TypedStep) (l : LentTerm) → kind_before (types.type_before p o (map typed_step_view ss) (steps_before l.source)) ≡ kind_for p o (typed_steps_of (map typed_step_view ss)) l
kind_is p o ss l = ap kind_before (types_before p o ss (steps_before l.source))
