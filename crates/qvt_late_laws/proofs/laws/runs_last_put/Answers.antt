use Rattle.qvt_late_laws.proofs.Left.{runs_last_put}
use Rattle.qvt_late_laws.proofs.laws.runs_last_put.Goals as goal

pub returns : goal.returns
returns c = runs_last_put
