use Rattle.qvt_program_laws.proofs.Models.{models_have_metamodels}
use Rattle.qvt_program_laws.proofs.laws.models_have_metamodels.Goals as goal

pub returns : goal.returns
returns c = models_have_metamodels c.accepted_is_judged.ensures c.notes_leave_the_tree.ensures
