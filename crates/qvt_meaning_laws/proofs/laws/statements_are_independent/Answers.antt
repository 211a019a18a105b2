use Rattle.qvt_meaning_laws.proofs.Runs.{statements_independent}
use Rattle.qvt_meaning_laws.proofs.laws.statements_are_independent.Goals as goal

pub returns : goal.returns
returns c = statements_independent
