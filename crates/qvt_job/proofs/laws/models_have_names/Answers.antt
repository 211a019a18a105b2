use Rattle.qvt_job.proofs.Names.{models_have_names}
use Rattle.qvt_job.proofs.laws.models_have_names.Goals as goal

pub returns : goal.returns
returns c = models_have_names
