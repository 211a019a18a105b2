use Rattle.std.proofs.Common.{◌≡◌, ◌≤◌, length}
use Rattle.qvt_language.specs.Tokens.{of}
use Rattle.qvt_parser_grammar.specs.Gives.{toks}
use Rattle.qvt_language.specs.Firsts.{stmt_first}
use Rattle.qvt_language.specs.ReadingStatements.{statement_at}
use Rattle.qvt_language.specs.Nesting.{nested_at}
use Rattle.qvt_parser_grammar.proofs.LessExprs.{less_statement}
use Rattle.qvt_parser_exprs.specs.Views.{stmts_view}
use Rattle.qvt_parser_stmts.proofs.StmtLoops.{stmts_before, rest_at}
use Rattle.qvt_parser_stmts.proofs.statements.Statements.statements.Given as goal

abbrev pub invariant-loop-parser : goal.invariant-loop-parser
invariant-loop-parser g l = record {
  so_far : rest_at (of stmt_first) (statement_at (nested_at (g.N.Nest.room l.self.chains.inside.nest))) (less_statement (g.N.Nest.room l.self.chains.inside.nest)) (toks l.fn.parser) ≡ stmts_before (stmts_view l.stmts) (rest_at (of stmt_first) (statement_at (nested_at (g.N.Nest.room l.self.chains.inside.nest))) (less_statement (g.N.Nest.room l.self.chains.inside.nest)) (toks l.parser));
  fewer : length (toks l.parser) ≤ length (toks l.fn.parser);
}

abbrev pub decreases-loop-parser : goal.decreases-loop-parser
decreases-loop-parser g l = length (toks l.parser)
