use Rattle.qvt_run_laws.proofs.Recorded.{one_record}
use Rattle.qvt_run_laws.proofs.records.one_record.Goals as goal

pub returns : goal.returns
returns c = one_record
