use Rattle.qvt_store_laws.proofs.Stays.{add_stays}
use Rattle.qvt_store_laws.proofs.law.add_stays.Goals as goal

pub returns : goal.returns
returns c = add_stays
