use Rattle.qvt_parser_grammar.proofs.Tokens.{starts_at}
use Rattle.qvt_parser_grammar.proofs.cursor.Parser.at.Goals as goal

pub returns-then-self : goal.returns-then-self
returns-then-self c = starts_at c.args.self.now.tokens.now c.args.self.now.index _ c.args.class c.if-self.true
