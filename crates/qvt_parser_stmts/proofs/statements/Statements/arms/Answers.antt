use Rattle.std.proofs.Common.{sym, ◌∙◌, arith}
use Rattle.qvt_grammar.proofs.Loops.{loop_push}
use Rattle.qvt_language.specs.Tokens.{is}
use Rattle.qvt_parser_grammar.specs.Gives.{toks}
use Rattle.qvt_language.specs.declared.class.Class.TheVariants.{ElifWord}
use Rattle.qvt_language.specs.ReadingStatements.{arm_at}
use Rattle.qvt_language.specs.Nesting.{nested_at}
use Rattle.qvt_parser_grammar.proofs.LessExprs.{less_arm}
use Rattle.qvt_tree_types.specs.View.{arm_view}
use Rattle.qvt_parser_stmts.proofs.statements.Statements.arms.Goals as goal

pub loop-parser-preserved : goal.loop-parser-preserved
loop-parser-preserved g c = record {
  so_far = loop_push (is ElifWord) (arm_at (nested_at (g.N.Nest.room c.args.self.now.chains.inside.nest))) (less_arm (g.N.Nest.room c.args.self.now.chains.inside.nest)) arm_view _ c.loop-parser.arms _ c.in_ok-arm.arm (toks c.loop-parser.parser) (toks c.arm.new.parser) c.loop-parser.invariant.so_far (sym c.at.ensures ∙ c.loop-parser-test.true) c.in_ok-arm.ensures.gives c.in_ok-push.ensures.ok;
  fewer = omega (arith, c.in_ok-arm.ensures.fewer);
}
