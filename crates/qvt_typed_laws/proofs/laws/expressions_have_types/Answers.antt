use Rattle.qvt_typed_laws.proofs.Whole.{whole_typed}
use Rattle.qvt_typed_laws.proofs.laws.expressions_have_types.Goals as goal

pub returns : goal.returns
returns c = λ m t e. whole_typed m t e
