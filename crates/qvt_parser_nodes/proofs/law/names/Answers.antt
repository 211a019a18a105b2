use Rattle.qvt_parser_nodes.proofs.Whole.{names_are_tokens, none_is_longer}
use Rattle.qvt_parser_nodes.proofs.law.names.Goals as goal

pub returns-clause-tokens : goal.returns-clause-tokens
returns-clause-tokens c = names_are_tokens

pub returns-clause-longest : goal.returns-clause-longest
returns-clause-longest c = none_is_longer
