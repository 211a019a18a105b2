use Rattle.qvt_exec_visits.proofs.VisitLaw.{visit}
use Rattle.qvt_exec_visits.proofs.laws.each_item_is_a_visit.Goals as goal

pub returns : goal.returns
returns c = visit
