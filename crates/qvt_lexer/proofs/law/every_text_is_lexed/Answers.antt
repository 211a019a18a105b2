use Rattle.qvt_lexer.proofs.Lexing.{every_text}
use Rattle.qvt_lexer.proofs.law.every_text_is_lexed.Goals as goal

pub returns : goal.returns
returns c = every_text
