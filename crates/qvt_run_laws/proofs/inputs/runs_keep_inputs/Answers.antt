use Rattle.qvt_run_laws.proofs.Leaving.{runs_keep_inputs}
use Rattle.qvt_run_laws.proofs.inputs.runs_keep_inputs.Goals as goal

pub returns : goal.returns
returns c = runs_keep_inputs
