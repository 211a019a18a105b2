use Rattle.qvt_exec_visits.proofs.VisitLaw.{at_end}
use Rattle.qvt_exec_visits.proofs.laws.no_item_is_the_end.Goals as goal

pub returns : goal.returns
returns c = at_end
