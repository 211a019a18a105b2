use Rattle.qvt_work.proofs.Behind.{runs_are_recorded}
use Rattle.qvt_work.proofs.laws.runs_are_recorded.Goals as goal

pub returns : goal.returns
returns c = runs_are_recorded
