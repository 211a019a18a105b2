use Rattle.qvt_store_laws.proofs.Stays.{append_stays}
use Rattle.qvt_store_laws.proofs.law.append_stays.Goals as goal

pub returns : goal.returns
returns c = append_stays
