use Rattle.qvt_run_laws.proofs.Exact.{fuel_is_exact}
use Rattle.qvt_run_laws.proofs.fuel.fuel_is_exact.Goals as goal

pub returns : goal.returns
returns c = fuel_is_exact
