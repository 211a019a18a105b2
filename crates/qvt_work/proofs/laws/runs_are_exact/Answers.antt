use Rattle.qvt_work.proofs.Behind.{runs_are_exact}
use Rattle.qvt_work.proofs.laws.runs_are_exact.Goals as goal

pub returns : goal.returns
returns c = runs_are_exact
