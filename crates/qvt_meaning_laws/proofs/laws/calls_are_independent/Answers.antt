use Rattle.qvt_meaning_laws.proofs.Runs.{calls_independent}
use Rattle.qvt_meaning_laws.proofs.laws.calls_are_independent.Goals as goal

pub returns : goal.returns
returns c = calls_independent
