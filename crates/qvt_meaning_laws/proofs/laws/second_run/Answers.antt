use Rattle.qvt_meaning_laws.proofs.Runs.{second_run}
use Rattle.qvt_meaning_laws.proofs.laws.second_run.Goals as goal

pub returns : goal.returns
returns c = second_run
