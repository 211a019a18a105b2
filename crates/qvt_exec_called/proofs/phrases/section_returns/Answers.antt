use Rattle.qvt_run_rules.specs.State.{caught}
use Rattle.qvt_exec_called.proofs.phrases.section_returns.Goals as goal

pub returns : goal.returns
unfolding caught
returns g c = c.caught.ensures _ _ c.section-done.ensures
