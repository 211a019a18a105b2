use Rattle.qvt_late_laws.proofs.Left.{runs_per_slot}
use Rattle.qvt_late_laws.proofs.laws.runs_per_slot.Goals as goal

pub returns : goal.returns
returns c = runs_per_slot
