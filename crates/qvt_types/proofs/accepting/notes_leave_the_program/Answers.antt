use Rattle.qvt_types.proofs.Accepted.{tree_stays}
use Rattle.qvt_types.proofs.accepting.notes_leave_the_program.Goals as goal

pub returns : goal.returns
returns c = tree_stays c.notes_leave_the_tree.ensures
