use Rattle.qvt_program_laws.proofs.Units.{mappings_are_units}
use Rattle.qvt_program_laws.proofs.laws.mappings_are_units.Goals as goal

pub returns : goal.returns
returns c = mappings_are_units c.accepted_is_judged.ensures c.notes_leave_the_tree.ensures
