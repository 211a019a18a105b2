use Rattle.qvt_program_laws.proofs.Models.{models_are_declared}
use Rattle.qvt_program_laws.proofs.laws.models_are_declared.Goals as goal

pub returns : goal.returns
returns c = models_are_declared c.accepted_is_judged.ensures c.notes_leave_the_tree.ensures
