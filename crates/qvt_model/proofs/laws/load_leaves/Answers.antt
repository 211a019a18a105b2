use Rattle.qvt_model.proofs.Loads.{load_leaves}
use Rattle.qvt_model.proofs.laws.load_leaves.Goals as goal

pub returns : goal.returns
returns c = load_leaves
