use Rattle.qvt_language_rows.proofs.Whole.{whole, part}
use Rattle.qvt_language_rows.proofs.law.rows.Goals as goal

pub returns-clause-whole : goal.returns-clause-whole
returns-clause-whole c = whole

pub returns-clause-part : goal.returns-clause-part
returns-clause-part c = part
