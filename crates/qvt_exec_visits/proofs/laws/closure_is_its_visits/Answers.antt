use Rattle.qvt_exec_visits.proofs.VisitLaw.{by_visits}
use Rattle.qvt_exec_visits.proofs.laws.closure_is_its_visits.Goals as goal

pub returns : goal.returns
returns c = by_visits
