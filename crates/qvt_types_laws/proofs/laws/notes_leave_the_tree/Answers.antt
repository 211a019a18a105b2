use Rattle.qvt_types_laws.proofs.StrippedModule.{same_module}
use Rattle.qvt_types_laws.proofs.laws.notes_leave_the_tree.Goals as goal

pub returns : goal.returns
returns c = λ m ns. same_module m ns
