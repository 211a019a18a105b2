use Rattle.qvt_run_laws.proofs.Leaving.{main_keeps_inputs}
use Rattle.qvt_run_laws.proofs.inputs.main_keeps_inputs.Goals as goal

pub returns : goal.returns
returns c = main_keeps_inputs
