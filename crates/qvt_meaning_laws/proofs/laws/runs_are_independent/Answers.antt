use Rattle.qvt_meaning_laws.proofs.Runs.{independent}
use Rattle.qvt_meaning_laws.proofs.laws.runs_are_independent.Goals as goal

pub returns : goal.returns
returns c = independent
