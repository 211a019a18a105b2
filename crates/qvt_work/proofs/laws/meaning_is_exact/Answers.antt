use Rattle.qvt_work.proofs.Meanings.{meaning_is_exact}
use Rattle.qvt_work.proofs.laws.meaning_is_exact.Goals as goal

pub returns : goal.returns
returns c = meaning_is_exact
