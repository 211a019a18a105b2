use Rattle.qvt_store_laws.proofs.ReadOnly.{write_leaves_inputs}
use Rattle.qvt_store_laws.proofs.law.write_leaves_inputs.Goals as goal

pub returns : goal.returns
returns c = write_leaves_inputs
