use Rattle.qvt_parser_grammar.proofs.Tokens.{taken, not_taken}
use Rattle.qvt_parser_grammar.proofs.cursor.Parser.take.Goals as goal

pub returns-then-token-class-clause-gives : goal.returns-then-token-class-clause-gives
returns-then-token-class-clause-gives c = not_taken c.args.self.now.tokens.now c.args.self.now.index _ c.args.class c.if-self.false c.if-token-class.true

pub returns-clause-gives : goal.returns-clause-gives
returns-clause-gives c = taken c.args.self.now.tokens.now c.args.self.now.index _ c.args.class c.if-self.false c.if-token-class.false
