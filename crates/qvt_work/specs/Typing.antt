-- The types of a text: its program over the metamodels of the job, or the refusal of what typing refuses of it.
use Rattle.std.specs.Prelude.{ℕ, List, Result}
use Rattle.qvt_metamodel.specs.Metamodels.{Metamodels}
use Rattle.qvt_tree_types.specs.Module.{ModuleTerm}
use Rattle.qvt_typing.specs.Accepts.{ProgramTerm, accepts}
use Rattle.qvt_outcome.specs.Outcome.{Outcome}
use Rattle.qvt_outcome.specs.Steps.{or_refused}
use Rattle.qvt_outcome.specs.declared.refusal.Refusal.TheVariants as refusal

unfoldable pub typed_in : Metamodels → List ℕ → ModuleTerm → Result ProgramTerm Outcome
typed_in metas file tree = or_refused refusal.Typing file (accepts metas tree)
