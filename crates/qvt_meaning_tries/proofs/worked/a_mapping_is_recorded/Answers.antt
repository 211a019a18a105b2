use Rattle.qvt_meaning_tries.proofs.Comes.{a_mapping}
use Rattle.qvt_meaning_tries.proofs.worked.a_mapping_is_recorded.Goals as goal

pub returns : goal.returns
returns c = a_mapping
