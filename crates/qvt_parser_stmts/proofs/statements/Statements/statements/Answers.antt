use Rattle.std.proofs.Common.{sym, ◌∙◌, arith}
use Rattle.qvt_language.specs.Tokens.{of}
use Rattle.qvt_parser_grammar.specs.Gives.{toks}
use Rattle.qvt_language.specs.Firsts.{stmt_first}
use Rattle.qvt_language.specs.ReadingStatements.{statement_at}
use Rattle.qvt_language.specs.Nesting.{nested_at}
use Rattle.qvt_parser_grammar.proofs.LessExprs.{less_statement}
use Rattle.qvt_parser_exprs.specs.Views.{stmts_view}
use Rattle.qvt_parser_stmts.specs.Views.{turn_view}
use Rattle.qvt_parser_stmts.proofs.StmtLoops.{loop_turn}
use Rattle.qvt_parser_stmts.proofs.statements.Statements.statements.Goals as goal

pub loop-parser-preserved : goal.loop-parser-preserved
loop-parser-preserved g c = record {
  so_far = loop_turn (of stmt_first) (statement_at (nested_at (g.N.Nest.room c.args.self.now.chains.inside.nest))) (less_statement (g.N.Nest.room c.args.self.now.chains.inside.nest)) _ (stmts_view c.loop-parser.stmts) _ (toks c.loop-parser.parser) (turn_view c.in_ok-turn.turn) (toks c.statement.new.parser) c.in_ok-last.last c.loop-parser.invariant.so_far (sym c.at_stmt.ensures ∙ c.loop-parser-test.true) c.in_ok-turn.ensures.gives c.in_ok-last.ensures c.if-last.false;
  fewer = omega (arith, c.in_ok-turn.ensures.fewer);
}
