use Rattle.qvt_parser_grammar.proofs.Tokens.{text_at}
use Rattle.qvt_parser_grammar.proofs.cursor.Parser.text.Goals as goal

pub returns-then-self : goal.returns-then-self
returns-then-self c = text_at c.args.self.now.tokens.now c.args.self.now.index _ c.if-self.true
