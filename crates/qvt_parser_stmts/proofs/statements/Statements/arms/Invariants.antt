use Rattle.std.proofs.Common.{◌≡◌, ◌≤◌, length, map}
use Rattle.qvt_grammar.specs.Reader.{many_at, with_front}
use Rattle.qvt_language.specs.Tokens.{is}
use Rattle.qvt_parser_grammar.specs.Gives.{toks}
use Rattle.qvt_language.specs.declared.class.Class.TheVariants.{ElifWord}
use Rattle.qvt_language.specs.ReadingStatements.{arm_at}
use Rattle.qvt_language.specs.Nesting.{nested_at}
use Rattle.qvt_tree_types.specs.View.{arm_view}
use Rattle.qvt_parser_stmts.proofs.statements.Statements.arms.Given as goal

abbrev pub invariant-loop-parser : goal.invariant-loop-parser
invariant-loop-parser g l = record {
  so_far : many_at (is ElifWord) (arm_at (nested_at (g.N.Nest.room l.self.chains.inside.nest))) (toks l.fn.parser) ≡ with_front (map arm_view l.arms) (many_at (is ElifWord) (arm_at (nested_at (g.N.Nest.room l.self.chains.inside.nest))) (toks l.parser));
  fewer : length (toks l.parser) ≤ length (toks l.fn.parser);
}

abbrev pub decreases-loop-parser : goal.decreases-loop-parser
decreases-loop-parser g l = length (toks l.parser)
