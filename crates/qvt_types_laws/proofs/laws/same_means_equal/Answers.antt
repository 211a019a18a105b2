use Rattle.qvt_types_laws.proofs.SameTypes.{one, alike}
use Rattle.qvt_types_laws.proofs.laws.same_means_equal.Goals as goal

pub returns : goal.returns
returns c = λ t u. (one t u, alike t u)
