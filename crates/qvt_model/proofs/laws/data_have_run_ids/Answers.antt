use Rattle.qvt_model.proofs.RunIds.{data_have_run_ids}
use Rattle.qvt_model.proofs.laws.data_have_run_ids.Goals as goal

pub returns : goal.returns
returns c = data_have_run_ids
