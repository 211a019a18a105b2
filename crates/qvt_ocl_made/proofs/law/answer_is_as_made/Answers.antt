use Rattle.qvt_ocl_made.proofs.Operations.{answer_is}
use Rattle.qvt_ocl_made.proofs.law.answer_is_as_made.Goals as goal

pub returns : goal.returns
returns c = answer_is
