use Rattle.qvt_meaning_tries.proofs.Comes.{no_turn, no_end}
use Rattle.qvt_meaning_tries.proofs.worked.turns_are_counted.Goals as goal

pub returns-clause-none : goal.returns-clause-none
returns-clause-none c = no_turn

pub returns-clause-endless : goal.returns-clause-endless
returns-clause-endless c = no_end
