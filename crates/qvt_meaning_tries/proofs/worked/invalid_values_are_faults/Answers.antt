use Rattle.qvt_meaning_tries.proofs.Comes.{sign, step_at}
use Rattle.qvt_meaning_tries.proofs.worked.invalid_values_are_faults.Goals as goal

pub returns-clause-sign : goal.returns-clause-sign
returns-clause-sign c = sign

pub returns-clause-step : goal.returns-clause-step
returns-clause-step c = step_at
