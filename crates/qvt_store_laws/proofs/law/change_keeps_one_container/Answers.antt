use Rattle.qvt_store_laws.proofs.Containers.{keeps_one_container}
use Rattle.qvt_store_laws.proofs.law.change_keeps_one_container.Goals as goal

pub returns : goal.returns
returns c = λ change made well fits old. keeps_one_container change made well fits old
