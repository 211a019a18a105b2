use Rattle.qvt_inputs.proofs.Ids.{ids_come_in_order}
use Rattle.qvt_inputs.proofs.laws.ids_come_in_order.Goals as goal

pub returns : goal.returns
returns c = ids_come_in_order
