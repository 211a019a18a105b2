use Rattle.qvt_model.proofs.Loads.{load_each}
use Rattle.qvt_model.proofs.laws.load_each.Goals as goal

pub returns : goal.returns
returns c = load_each
