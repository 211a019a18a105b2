use Rattle.qvt_parsed.proofs.Parses as law
use Rattle.qvt_parsed.proofs.law.parsing.Goals as goal

pub returns : goal.returns
returns c = law.parsing
