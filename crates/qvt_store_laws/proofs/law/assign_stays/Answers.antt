use Rattle.qvt_store_laws.proofs.Stays.{assign_stays}
use Rattle.qvt_store_laws.proofs.law.assign_stays.Goals as goal

pub returns : goal.returns
returns c = assign_stays
