use Rattle.qvt_run_laws.proofs.Recorded.{runs_are_keyed}
use Rattle.qvt_run_laws.proofs.records.runs_are_keyed.Goals as goal

pub returns : goal.returns
returns c = runs_are_keyed
