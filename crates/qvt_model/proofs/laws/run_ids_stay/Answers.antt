use Rattle.qvt_model.proofs.RunIds.{run_ids_stay}
use Rattle.qvt_model.proofs.laws.run_ids_stay.Goals as goal

pub returns : goal.returns
returns c = run_ids_stay
