use Rattle.qvt_program_inputs.proofs.Runs.{job_can_load}
use Rattle.qvt_program_inputs.proofs.laws.job_can_load.Goals as goal

pub returns : goal.returns
returns c = job_can_load c.models_are_declared.ensures c.inputs_are_apart.ensures c.parameters_have_names.ensures
