use Rattle.qvt_parser_exprs.proofs.Stepped.{makes_steps}
use Rattle.qvt_parser_exprs.proofs.made.all_steps.Goals as goal

pub returns : goal.returns
returns c = makes_steps c.args.old c.args.more _ c.joined.ensures
