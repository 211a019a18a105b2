use Rattle.qvt_meaning_tries.proofs.Comes.{dot_on_null}
use Rattle.qvt_meaning_tries.proofs.worked.an_invalid_argument_decides.Goals as goal

pub returns : goal.returns
returns c = dot_on_null
