use Rattle.std.proofs.Common.{ap}
use Rattle.qvt_meaning.specs.Numbered.{expr_at, expr_in}
use Rattle.qvt_program_exprs.proofs.table.Expressions.expr.Goals as goal

pub returns-in-None : goal.returns-in-None
unfolding expr_at
returns-in-None c = ap expr_in c.in-None.ensures

pub returns-in-Some : goal.returns-in-Some
unfolding expr_at
returns-in-Some c = ap expr_in c.in-Some.ensures
