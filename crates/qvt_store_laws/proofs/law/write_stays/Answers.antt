use Rattle.qvt_store_laws.proofs.Stays.{write_stays}
use Rattle.qvt_store_laws.proofs.law.write_stays.Goals as goal

pub returns : goal.returns
returns c = write_stays
