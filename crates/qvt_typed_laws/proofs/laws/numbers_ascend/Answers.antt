use Rattle.qvt_typed_laws.proofs.Bodies.{numbered}
use Rattle.qvt_typed_laws.proofs.laws.numbers_ascend.Goals as goal

pub returns : goal.returns
returns c = λ m t. numbered m t
