use Rattle.qvt_run_laws.proofs.Recorded.{calls_keep}
use Rattle.qvt_run_laws.proofs.records.calls_keep_records.Goals as goal

pub returns : goal.returns
returns c = calls_keep
