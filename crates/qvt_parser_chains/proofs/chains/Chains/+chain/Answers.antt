use Rattle.std.proofs.Common.{sym, ◌∙◌, refl, arith}
use Rattle.qvt_grammar.proofs.Loops.{loop_push}
use Rattle.qvt_language.specs.Tokens.{of}
use Rattle.qvt_parser_grammar.specs.Gives.{toks}
use Rattle.qvt_language.specs.Reading.{pre_at, link_at, chain_at, operators}
use Rattle.qvt_language.specs.Nesting.{nested_at}
use Rattle.qvt_parser_exprs.specs.Views.{lead_view}
use Rattle.qvt_parser_chains.proofs.Levels.{unread, no_level, all_levels, next_level, faulty_level, first_fault}
use Rattle.qvt_parser_grammar.proofs.LessExprs.{less_link}
use Rattle.qvt_tree_types.specs.View.{link_view}
use Rattle.qvt_parser_chains.proofs.chains.Chains.+chain.Goals as goal

pub operands-loop-parser-preserved : goal.operands-loop-parser-preserved
operands-loop-parser-preserved t g c = record {
  so_far = loop_push (of (operators c.args.level)) (link_at c.args.level (chain_at c.args.level (pre_at (nested_at (t.N.Nest.room c.args.self.now.inside.nest))) (pre_at (nested_at (t.N.Nest.room c.args.self.now.inside.nest))))) (less_link c.args.level (t.N.Nest.room c.args.self.now.inside.nest)) link_view _ c.loop-parser.links _ c.in_ok-link.link (toks c.loop-parser.parser) (toks c.link.new.parser) c.loop-parser.invariant.so_far (sym c.at_operator.ensures ∙ c.loop-parser-test.true) c.in_ok-link.ensures.gives c.in_ok-push.ensures.ok;
  fewer = omega (arith, c.in_ok-link.ensures.fewer);
}

pub chain-loop-below-init : goal.chain-loop-below-init
chain-loop-below-init t g c = record {
  so_far = no_level (pre_at (nested_at (t.N.Nest.room c.args.self.now.inside.nest))) (pre_at (nested_at (t.N.Nest.room c.args.self.now.inside.nest))) (toks c.args.parser.now) _ _ c.in_ok-lead.ensures.gives;
  less = c.in_ok-lead.ensures.less;
}

pub chain-loop-below-preserved : goal.chain-loop-below-preserved
chain-loop-below-preserved t g c = record {
  so_far = next_level c.loop-below.below (pre_at (nested_at (t.N.Nest.room c.args.self.now.inside.nest))) (pre_at (nested_at (t.N.Nest.room c.args.self.now.inside.nest))) (toks c.args.parser.now) (toks c.loop-below.parser) (lead_view c.loop-below.lead) c.place-place.result c.place-place.ensures c.loop-below.invariant.so_far _ _ _ refl c.in-Ok.ensures.gives;
  less = omega (arith, c.loop-below.invariant.less, c.in-Ok.ensures.fewer);
}

pub chain-returns-in-Err-clause-gives : goal.chain-returns-in-Err-clause-gives
chain-returns-in-Err-clause-gives t g c = faulty_level c.loop-below.below (pre_at (nested_at (t.N.Nest.room c.args.self.now.inside.nest))) (pre_at (nested_at (t.N.Nest.room c.args.self.now.inside.nest))) (toks c.args.parser.now) (toks c.loop-below.parser) (lead_view c.loop-below.lead) c.place-place.result c.place-place.ensures c.loop-below.invariant.so_far c.args.level (toks c.raised.new.parser) c.in-Err.fault (omega (arith, c.loop-below-test.true)) c.in-Err.ensures.gives

pub chain-returns-clause-gives : goal.chain-returns-clause-gives
chain-returns-clause-gives t g c = all_levels c.loop-below.below c.args.level (pre_at (nested_at (t.N.Nest.room c.args.self.now.inside.nest))) (pre_at (nested_at (t.N.Nest.room c.args.self.now.inside.nest))) (toks c.args.parser.now) _ _ (omega (arith, c.loop-below-test.false)) (omega (arith, c.loop-below.auto.below-end)) c.loop-below.invariant.so_far

pub chain-returns-in_err-lead-clause-gives : goal.chain-returns-in_err-lead-clause-gives
chain-returns-in_err-lead-clause-gives t g c = first_fault c.args.level (pre_at (nested_at (t.N.Nest.room c.args.self.now.inside.nest))) (pre_at (nested_at (t.N.Nest.room c.args.self.now.inside.nest))) (toks c.args.parser.now) (toks c.pre.new.parser) c.in_err-lead.field-0.0 c.from_residual.result c.from_residual.ensures.1 c.in_err-lead.ensures.gives

pub raised-returns-then-not-at_operator-clause-gives : goal.raised-returns-then-not-at_operator-clause-gives
raised-returns-then-not-at_operator-clause-gives t g c = unread c.args.below (pre_at (nested_at (t.N.Nest.room c.args.self.now.inside.nest))) (less_link c.args.below (t.N.Nest.room c.args.self.now.inside.nest)) c.args.place (lead_view c.args.first) (toks c.args.parser.now) (sym c.at_operator.ensures ∙ c.if-not-at_operator.true)
