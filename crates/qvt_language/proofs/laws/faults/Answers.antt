use Rattle.qvt_language.proofs.Starts.{faults}
use Rattle.qvt_language.proofs.Whole.{whole, part}
use Rattle.qvt_language.proofs.laws.faults.Goals as goal

pub returns-clause-whole : goal.returns-clause-whole
returns-clause-whole c = faults whole

pub returns-clause-part : goal.returns-clause-part
returns-clause-part c = faults part
