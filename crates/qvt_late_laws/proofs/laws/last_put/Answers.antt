use Rattle.qvt_late_laws.proofs.Carried.{last_put}
use Rattle.qvt_late_laws.proofs.laws.last_put.Goals as goal

pub returns : goal.returns
returns c = last_put
