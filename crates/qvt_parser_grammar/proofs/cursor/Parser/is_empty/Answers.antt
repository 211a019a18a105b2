use Rattle.qvt_parser_grammar.proofs.Tokens.{nil_at}
use Rattle.qvt_parser_grammar.proofs.cursor.Parser.is_empty.Goals as goal

pub returns-then-self : goal.returns-then-self
returns-then-self c = nil_at c.args.self.now.tokens.now c.args.self.now.index c.if-self.true
