use Rattle.qvt_parser_nodes.proofs.Whole.{places_of_tree}
use Rattle.qvt_parser_nodes.proofs.law.places.Goals as goal

pub returns : goal.returns
returns c = places_of_tree
