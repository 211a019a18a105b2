use Rattle.qvt_run_laws.proofs.Exact.{exact_cost}
use Rattle.qvt_run_laws.proofs.fuel.exact_cost.Goals as goal

pub returns : goal.returns
returns c = exact_cost
