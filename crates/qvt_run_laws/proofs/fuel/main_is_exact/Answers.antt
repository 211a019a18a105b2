use Rattle.qvt_run_laws.proofs.Exact.{main_is_exact}
use Rattle.qvt_run_laws.proofs.fuel.main_is_exact.Goals as goal

pub returns : goal.returns
returns c = main_is_exact
