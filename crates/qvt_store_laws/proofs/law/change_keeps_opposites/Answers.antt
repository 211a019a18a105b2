use Rattle.qvt_store_laws.proofs.Opposites.{keeps_opposites}
use Rattle.qvt_store_laws.proofs.law.change_keeps_opposites.Goals as goal

pub returns : goal.returns
returns c = λ change made well fits old. keeps_opposites change made well fits old
