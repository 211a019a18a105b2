use Rattle.qvt_parser_grammar.proofs.Tokens.{head_at}
use Rattle.qvt_parser_grammar.proofs.cursor.Parser.place.Goals as goal

pub returns-then-self : goal.returns-then-self
returns-then-self c = head_at c.args.self.now.tokens.now c.args.self.now.index _ _ c.if-self.true
