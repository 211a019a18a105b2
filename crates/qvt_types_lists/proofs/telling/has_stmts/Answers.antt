use Rattle.qvt_types_lists.proofs.Told.{some_stmts}
use Rattle.qvt_types_lists.proofs.telling.has_stmts.Goals as goal

pub returns-in-len1-up : goal.returns-in-len1-up
returns-in-len1-up c = some_stmts c.args.stmts.now c.in-len1-up.len_at_least
