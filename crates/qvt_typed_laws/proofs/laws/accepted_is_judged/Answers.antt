use Rattle.qvt_typed_laws.proofs.Accepted.{accepted_is_judged}
use Rattle.qvt_typed_laws.proofs.laws.accepted_is_judged.Goals as goal

pub returns : goal.returns
returns c = accepted_is_judged
