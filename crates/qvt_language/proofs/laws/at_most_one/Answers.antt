use Rattle.qvt_language.proofs.Starts.{at_most_one}
use Rattle.qvt_language.proofs.Whole.{whole, part}
use Rattle.qvt_language.proofs.laws.at_most_one.Goals as goal

pub returns-clause-whole : goal.returns-clause-whole
returns-clause-whole c = at_most_one whole

pub returns-clause-part : goal.returns-clause-part
returns-clause-part c = at_most_one part
