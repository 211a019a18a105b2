use Rattle.qvt_job.proofs.Served.{parameters_have_names}
use Rattle.qvt_job.proofs.laws.parameters_have_names.Goals as goal

pub returns : goal.returns
returns c = parameters_have_names
