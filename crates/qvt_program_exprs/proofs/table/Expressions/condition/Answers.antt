use Rattle.std.proofs.Common.{◌∙◌, ap}
use Rattle.qvt_meaning.specs.Numbered.{condition_at, condition_in}
use Rattle.qvt_program_exprs.proofs.table.Expressions.condition.Goals as goal

pub returns-in-None : goal.returns-in-None
unfolding condition_at
returns-in-None c = ap condition_in c.in-None.ensures

pub returns-in-Some : goal.returns-in-Some
unfolding condition_at
returns-in-Some c = c.condition_of.ensures ∙ ap condition_in c.in-Some.ensures
