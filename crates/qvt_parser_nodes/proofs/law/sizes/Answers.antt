use Rattle.qvt_parser_nodes.proofs.Whole.{at_most_two_each}
use Rattle.qvt_parser_nodes.proofs.law.sizes.Goals as goal

pub returns : goal.returns
returns c = at_most_two_each
