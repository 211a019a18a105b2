use Rattle.qvt_program_laws.proofs.Units.{units_are_signed}
use Rattle.qvt_program_laws.proofs.laws.units_are_signed.Goals as goal

pub returns : goal.returns
returns c = units_are_signed c.accepted_is_judged.ensures c.notes_leave_the_tree.ensures
