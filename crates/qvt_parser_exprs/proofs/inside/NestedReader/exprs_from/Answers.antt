use Rattle.std.proofs.Common.{[], ◌∷◌, ◌++◌, sym, ap, ◌∙◌, arith}
use Rattle.qvt_grammar.specs.Reader.{made_at, then_at}
use Rattle.qvt_grammar.proofs.Loops.{loop_push}
use Rattle.qvt_language.specs.Tokens.{is}
use Rattle.qvt_language.specs.Readers.{the_at}
use Rattle.qvt_language.specs.Trees.{second}
use Rattle.qvt_parser_grammar.specs.Gives.{toks}
use Rattle.qvt_language.specs.declared.class.Class.TheVariants.{Comma}
use Rattle.qvt_language.specs.Reading.{expr_at}
use Rattle.qvt_language.specs.Nesting.{nested_at}
use Rattle.qvt_parser_grammar.proofs.LessExprs.{less_expr}
use Rattle.qvt_tree_types.specs.View.{expr_view}
use Rattle.qvt_parser_exprs.proofs.inside.NestedReader.exprs_from.Goals as goal

pub loop-parser-preserved : goal.loop-parser-preserved
loop-parser-preserved g c = record {
  so_far = loop_push (is Comma) (made_at second (then_at (the_at Comma) (expr_at (nested_at (g.N.Nest.room c.args.self.now.nest))))) (less_expr (g.N.Nest.room c.args.self.now.nest)) expr_view _ c.loop-parser.exprs _ c.in_ok-next.next.value (toks c.loop-parser.parser) (toks c.expr_past.new.parser) c.loop-parser.invariant.so_far (sym c.at.ensures ∙ c.loop-parser-test.true) c.in_ok-next.ensures.gives (c.in_ok-push-2.ensures.ok ∙ ap (λ e. c.loop-parser.exprs ++ e ∷ []) c.into_inner-expr.ensures);
  fewer = omega (arith, c.in_ok-next.ensures.fewer);
}
