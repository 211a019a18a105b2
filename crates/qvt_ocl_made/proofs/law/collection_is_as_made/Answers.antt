use Rattle.qvt_ocl_made.proofs.Collections.{collection_is}
use Rattle.qvt_ocl_made.proofs.law.collection_is_as_made.Goals as goal

pub returns : goal.returns
returns c = collection_is
