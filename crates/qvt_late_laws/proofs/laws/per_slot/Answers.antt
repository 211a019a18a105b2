use Rattle.qvt_late_laws.proofs.Carried.{per_slot}
use Rattle.qvt_late_laws.proofs.laws.per_slot.Goals as goal

pub returns : goal.returns
returns c = per_slot
