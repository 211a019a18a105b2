use Rattle.qvt_run_laws.proofs.Exact.{turns_are_no_bound}
use Rattle.qvt_run_laws.proofs.fuel.turns_are_no_bound.Goals as goal

pub returns : goal.returns
returns c = turns_are_no_bound
