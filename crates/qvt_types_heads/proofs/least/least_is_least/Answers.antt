use Rattle.qvt_types_heads.proofs.Sooner.{some_least, none_of_none}
use Rattle.qvt_types_heads.proofs.least.least_is_least.Goals as goal

pub returns-clause-some : goal.returns-clause-some
returns-clause-some c = some_least

pub returns-clause-none : goal.returns-clause-none
returns-clause-none c = none_of_none
