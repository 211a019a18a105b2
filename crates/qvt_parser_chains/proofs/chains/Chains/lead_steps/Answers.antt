use Rattle.std.proofs.Common.{sym, ap, ◌∙◌, arith, map, Ok}
use Rattle.qvt_tree_types.specs.View.{step_view}
use Rattle.qvt_language.specs.Tokens.{of}
use Rattle.qvt_parser_grammar.specs.Gives.{toks}
use Rattle.qvt_language.specs.Firsts.{step_first}
use Rattle.qvt_language.specs.Reading.{lead_step_at}
use Rattle.qvt_language.specs.Nesting.{nested_at}
use Rattle.qvt_parser_grammar.proofs.LessExprs.{less_lead_step}
use Rattle.qvt_parser_grammar.proofs.EndedLoops.{loop_pushed, loop_last}
use Rattle.qvt_parser_exprs.specs.Views.{lead_step_view, held_each_view}
use Rattle.qvt_parser_chains.proofs.chains.Chains.lead_steps.Goals as goal

pub loop-parser-preserved : goal.loop-parser-preserved
loop-parser-preserved g c = record {
  so_far = loop_pushed (of step_first) (lead_step_at (nested_at (g.N.Nest.room c.args.self.now.inside.nest))) (less_lead_step (g.N.Nest.room c.args.self.now.inside.nest)) step_view _ c.loop-parser.steps _ c.in-Step.step (toks c.loop-parser.parser) (toks c.lead_step.new.parser) c.loop-parser.invariant.so_far (sym c.at_step.ensures ∙ c.loop-parser-test.true) (c.in_ok-step.ensures.gives ∙ ap (λ z. Ok (lead_step_view z, toks c.lead_step.new.parser)) c.in-Step.is) c.in_ok-push-in-Step.ensures.ok;
  fewer = omega (arith, c.in_ok-step.ensures.fewer);
}

pub returns-in-Each-clause-gives : goal.returns-in-Each-clause-gives
returns-in-Each-clause-gives g c = loop_last (of step_first) (lead_step_at (nested_at (g.N.Nest.room c.args.self.now.inside.nest))) (less_lead_step (g.N.Nest.room c.args.self.now.inside.nest)) _ (map step_view c.loop-parser.steps) (toks c.loop-parser.parser) (held_each_view c.in-Each.part) (toks c.lead_step.new.parser) c.loop-parser.invariant.so_far (sym c.at_step.ensures ∙ c.loop-parser-test.true) (c.in_ok-step.ensures.gives ∙ ap (λ z. Ok (lead_step_view z, toks c.lead_step.new.parser)) c.in-Each.is)
