use Rattle.qvt_run_rules.specs.State.{caught}
use Rattle.qvt_exec_called.proofs.routines.framed_returns.Goals as goal

pub returns : goal.returns
unfolding caught
returns g c = c.caught.ensures _ _ c.framed-done.ensures
