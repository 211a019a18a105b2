use Rattle.qvt_outputs.proofs.Meant.{fault_is_left}
use Rattle.qvt_outputs.proofs.left.stopped_by.Goals as goal

pub returns-in-Ok-clause-stops : goal.returns-in-Ok-clause-stops
returns-in-Ok-clause-stops c = λ p ids.
    fault_is_left c.args.job.now p ids c.args.end c.in-Fault.field-0 c.in-Fault.field-1 c.as_str.result.now c.in-Ok.line c.in-Fault.is c.as_str.ensures (c.in-Ok.ensures ids)
