use Rattle.qvt_parser_grammar.proofs.Tokens.{skipped_none, skipped_some}
use Rattle.qvt_parser_grammar.proofs.cursor.Parser.skip.Goals as goal

pub returns-then-token-class-clause-gives : goal.returns-then-token-class-clause-gives
returns-then-token-class-clause-gives c = skipped_none c.args.self.now.tokens.now c.args.self.now.index _ c.args.class c.if-self.false c.if-token-class.true

pub returns-clause-gives : goal.returns-clause-gives
returns-clause-gives c = skipped_some c.args.self.now.tokens.now c.args.self.now.index _ c.args.class c.if-self.false c.if-token-class.false
