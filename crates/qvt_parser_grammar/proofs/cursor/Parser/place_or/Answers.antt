use Rattle.qvt_parser_grammar.proofs.Tokens.{head_or}
use Rattle.qvt_parser_grammar.proofs.cursor.Parser.place_or.Goals as goal

pub returns-then-self : goal.returns-then-self
returns-then-self c = head_or c.args.self.now.tokens.now c.args.self.now.index _ _ c.if-self.true
