use Rattle.qvt_run_laws.proofs.Exact.{done_is_exact}
use Rattle.qvt_run_laws.proofs.fuel.done_is_exact.Goals as goal

pub returns : goal.returns
returns c = done_is_exact
