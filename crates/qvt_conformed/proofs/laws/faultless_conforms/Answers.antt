use Rattle.qvt_conformed.proofs.Faults.{faultless_conforms}
use Rattle.qvt_conformed.proofs.laws.faultless_conforms.Goals as goal

pub returns : goal.returns
returns c = faultless_conforms
