use Rattle.qvt_parser_tokens.proofs.Lexings as law
use Rattle.qvt_parser_tokens.proofs.text.one_lexing.Goals as goal

pub returns : goal.returns
returns c = law.one_lexing
