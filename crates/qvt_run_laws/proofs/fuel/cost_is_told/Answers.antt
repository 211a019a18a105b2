use Rattle.qvt_run_laws.proofs.Exact.{cost_is_told}
use Rattle.qvt_run_laws.proofs.fuel.cost_is_told.Goals as goal

pub returns : goal.returns
returns c = cost_is_told
