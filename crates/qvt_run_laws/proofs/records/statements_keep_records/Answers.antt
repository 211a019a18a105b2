use Rattle.qvt_run_laws.proofs.Recorded.{statements_keep}
use Rattle.qvt_run_laws.proofs.records.statements_keep_records.Goals as goal

pub returns : goal.returns
returns c = statements_keep
