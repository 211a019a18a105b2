use Rattle.qvt_exec_loops.proofs.TurnLaw.{turned}
use Rattle.qvt_exec_loops.proofs.laws.each_item_is_a_turn.Goals as goal

pub returns : goal.returns
returns c = turned
