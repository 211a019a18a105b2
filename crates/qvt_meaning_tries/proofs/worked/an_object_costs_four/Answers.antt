use Rattle.qvt_meaning_tries.proofs.Comes.{made, enough, less}
use Rattle.qvt_meaning_tries.proofs.worked.an_object_costs_four.Goals as goal

pub returns-clause-made : goal.returns-clause-made
returns-clause-made c = made

pub returns-clause-enough : goal.returns-clause-enough
returns-clause-enough c = enough

pub returns-clause-less : goal.returns-clause-less
returns-clause-less c = less
