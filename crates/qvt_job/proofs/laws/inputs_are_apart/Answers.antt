use Rattle.qvt_job.proofs.Served.{inputs_are_apart}
use Rattle.qvt_job.proofs.laws.inputs_are_apart.Goals as goal

pub returns : goal.returns
returns c = inputs_are_apart
