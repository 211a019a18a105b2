use Rattle.qvt_meaning_tries.proofs.Comes.{stops}
use Rattle.qvt_meaning_tries.proofs.worked.and_stops_at_false.Goals as goal

pub returns : goal.returns
returns c = stops
