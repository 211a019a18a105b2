use Rattle.qvt_run_rules.specs.Calls.{given}
use Rattle.qvt_exec_called.proofs.routines.answered.Goals as goal

pub returns : goal.returns
unfolding given
returns g c = c.given.ensures _ _ c.framed-done.ensures
