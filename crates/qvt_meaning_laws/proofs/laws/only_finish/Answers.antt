use Rattle.qvt_meaning_laws.proofs.Runs.{only_finish}
use Rattle.qvt_meaning_laws.proofs.laws.only_finish.Goals as goal

pub returns : goal.returns
returns c = only_finish
