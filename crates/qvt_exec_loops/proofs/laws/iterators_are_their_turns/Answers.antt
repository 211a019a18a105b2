use Rattle.qvt_exec_loops.proofs.TurnLaw.{all_turns}
use Rattle.qvt_exec_loops.proofs.laws.iterators_are_their_turns.Goals as goal

pub returns : goal.returns
returns c = all_turns
