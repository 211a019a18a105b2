use Rattle.qvt_run_laws.proofs.Keys.{one_stays}
use Rattle.qvt_run_laws.proofs.records.one_stays.Goals as goal

pub returns : goal.returns
returns c = one_stays
