use Rattle.qvt_exec_finish.proofs.Staying.{candidates_same}
use Rattle.qvt_exec_finish.proofs.laws.candidates_stay.Goals as goal

pub returns : goal.returns
returns c = candidates_same
