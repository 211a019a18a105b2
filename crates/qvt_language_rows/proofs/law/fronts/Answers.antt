use Rattle.qvt_language_rows.proofs.Fronts.{whole, part}
use Rattle.qvt_language_rows.proofs.law.fronts.Goals as goal

pub returns-clause-whole : goal.returns-clause-whole
returns-clause-whole c = whole

pub returns-clause-part : goal.returns-clause-part
returns-clause-part c = part
