use Rattle.qvt_ocl_made.proofs.Collections.{made_is}
use Rattle.qvt_ocl_made.proofs.law.made_is_as_made.Goals as goal

pub returns : goal.returns
returns c = made_is
