use Rattle.qvt_meaning_laws.proofs.Runs.{expressions_independent}
use Rattle.qvt_meaning_laws.proofs.laws.expressions_are_independent.Goals as goal

pub returns : goal.returns
returns c = expressions_independent
