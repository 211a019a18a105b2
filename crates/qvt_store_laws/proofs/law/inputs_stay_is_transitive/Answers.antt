use Rattle.qvt_store_laws.proofs.ReadOnly.{inputs_stay_is_transitive}
use Rattle.qvt_store_laws.proofs.law.inputs_stay_is_transitive.Goals as goal

pub returns : goal.returns
returns c = inputs_stay_is_transitive
