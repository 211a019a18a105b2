-- The type before the next step.
use Rattle.std.proofs.Common.{◌≡◌, ◌∙◌, ℕ, ◌+◌, ◌<◌, List, [], ◌∷◌, Option, length, take, get_or, ap}
use Rattle.std.proofs.lemmas.List.{take_more}
use Rattle.std.proofs.lemmas.List.Sums.{fold-append}
use Rattle.qvt_types_data.specs.declared.ty.Ty.{Ty}
use Rattle.qvt_types_nodes.specs.Tree.{TypedStepTerm}
use Rattle.qvt_types_program.specs.Accepts.{ProgramTerm}
use Rattle.qvt_meaning.specs.StepTypes.{step_type}
use Rattle.qvt_exec_types.specs.Types.{next_type, type_after, type_before}

pub type_next : (p : ProgramTerm) (o : Option Ty) (ss : List TypedStepTerm) (n : ℕ) (d : TypedStepTerm) → n < length ss
    → type_before p o ss (n + 1) ≡ step_type p (get_or ss n d) (type_before p o ss n)
type_next p o ss n d h = ap (λ ts. type_after p o ts) (take_more ss n d h) ∙ fold-append (next_type p) o (take n ss) (get_or ss n d ∷ [])
