use Rattle.qvt_store_laws.proofs.ReadOnly.{inputs_stay_is_reflexive}
use Rattle.qvt_store_laws.proofs.law.inputs_stay_is_reflexive.Goals as goal

pub returns : goal.returns
returns c = inputs_stay_is_reflexive
