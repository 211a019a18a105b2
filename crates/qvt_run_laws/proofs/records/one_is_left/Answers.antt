use Rattle.qvt_run_laws.proofs.Recorded.{one_is_left}
use Rattle.qvt_run_laws.proofs.records.one_is_left.Goals as goal

pub returns : goal.returns
returns c = one_is_left
