use Rattle.std.proofs.Common.{sym, ◌∙◌, arith}
use Rattle.qvt_grammar.proofs.Loops.{loop_push}
use Rattle.qvt_language.specs.Tokens.{of}
use Rattle.qvt_parser_grammar.specs.Gives.{toks}
use Rattle.qvt_language.specs.Firsts.{step_first}
use Rattle.qvt_language.specs.Reading.{step_at}
use Rattle.qvt_language.specs.Nesting.{nested_at}
use Rattle.qvt_parser_grammar.proofs.LessExprs.{less_step}
use Rattle.qvt_tree_types.specs.View.{step_view}
use Rattle.qvt_parser_chains.proofs.chains.Chains.steps.Goals as goal

pub loop-parser-preserved : goal.loop-parser-preserved
loop-parser-preserved g c = record {
  so_far = loop_push (of step_first) (step_at (nested_at (g.N.Nest.room c.args.self.now.inside.nest))) (less_step (g.N.Nest.room c.args.self.now.inside.nest)) step_view _ c.loop-parser.steps _ c.in_ok-step.step (toks c.loop-parser.parser) (toks c.step.new.parser) c.loop-parser.invariant.so_far (sym c.at_step.ensures ∙ c.loop-parser-test.true) c.in_ok-step.ensures.gives c.in_ok-push.ensures.ok;
  fewer = omega (arith, c.in_ok-step.ensures.fewer);
}
