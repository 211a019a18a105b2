use Rattle.qvt_work.proofs.Behind.{runs_conform}
use Rattle.qvt_work.proofs.laws.runs_conform.Goals as goal

pub returns : goal.returns
returns c = runs_conform
