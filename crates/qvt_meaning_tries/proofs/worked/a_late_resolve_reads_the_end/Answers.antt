use Rattle.qvt_meaning_tries.proofs.Comes.{late_slot, late_cost}
use Rattle.qvt_meaning_tries.proofs.worked.a_late_resolve_reads_the_end.Goals as goal

pub returns-clause-slot : goal.returns-clause-slot
returns-clause-slot c = late_slot

pub returns-clause-cost : goal.returns-clause-cost
returns-clause-cost c = late_cost
