use Rattle.qvt_meaning_laws.proofs.Runs.{one_pass}
use Rattle.qvt_meaning_laws.proofs.laws.one_pass.Goals as goal

pub returns : goal.returns
returns c = one_pass
