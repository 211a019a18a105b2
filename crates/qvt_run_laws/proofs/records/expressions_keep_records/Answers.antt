use Rattle.qvt_run_laws.proofs.Recorded.{expressions_keep}
use Rattle.qvt_run_laws.proofs.records.expressions_keep_records.Goals as goal

pub returns : goal.returns
returns c = expressions_keep
