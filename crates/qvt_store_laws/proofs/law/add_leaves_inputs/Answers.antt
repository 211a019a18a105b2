use Rattle.qvt_store_laws.proofs.ReadOnly.{add_leaves_inputs}
use Rattle.qvt_store_laws.proofs.law.add_leaves_inputs.Goals as goal

pub returns : goal.returns
returns c = add_leaves_inputs
