use Rattle.qvt_language.proofs.Starts.{beginnings}
use Rattle.qvt_language.proofs.Whole.{whole, part}
use Rattle.qvt_language.proofs.laws.beginnings.Goals as goal

pub returns-clause-whole : goal.returns-clause-whole
returns-clause-whole c = beginnings whole

pub returns-clause-part : goal.returns-clause-part
returns-clause-part c = beginnings part
