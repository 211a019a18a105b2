use Rattle.std.proofs.Common.{refl, arith}
use Rattle.qvt_parser_grammar.specs.Gives.{toks}
use Rattle.qvt_language.specs.Nesting.{nested_at}
use Rattle.qvt_language.specs.Reading.{pre_at, lead_pre_at, lead_at}
use Rattle.qvt_parser_exprs.specs.Views.{lead_view}
use Rattle.qvt_parser_chains.proofs.Levels.{no_level, all_levels, next_level, faulty_level, first_fault}
use Rattle.qvt_parser_chains.proofs.chains.Chains.lead.Goals as goal

pub loop-below-init : goal.loop-below-init
loop-below-init g c = record {
  so_far = no_level (lead_pre_at (nested_at (g.N.Nest.room c.args.self.now.inside.nest))) (pre_at (nested_at (g.N.Nest.room c.args.self.now.inside.nest))) (toks c.args.parser.now) _ _ c.in_ok-lead.ensures.gives;
  less = c.in_ok-lead.ensures.less;
}

pub loop-below-preserved : goal.loop-below-preserved
loop-below-preserved g c = record {
  so_far = next_level c.loop-below.below (lead_pre_at (nested_at (g.N.Nest.room c.args.self.now.inside.nest))) (pre_at (nested_at (g.N.Nest.room c.args.self.now.inside.nest))) (toks c.args.parser.now) (toks c.loop-below.parser) (lead_view c.loop-below.lead) c.place-place.result c.place-place.ensures c.loop-below.invariant.so_far _ _ _ refl c.in-Ok.ensures.gives;
  less = omega (arith, c.loop-below.invariant.less, c.in-Ok.ensures.fewer);
}

pub returns-in-Err-clause-gives : goal.returns-in-Err-clause-gives
unfolding lead_at
returns-in-Err-clause-gives g c = faulty_level c.loop-below.below (lead_pre_at (nested_at (g.N.Nest.room c.args.self.now.inside.nest))) (pre_at (nested_at (g.N.Nest.room c.args.self.now.inside.nest))) (toks c.args.parser.now) (toks c.loop-below.parser) (lead_view c.loop-below.lead) c.place-place.result c.place-place.ensures c.loop-below.invariant.so_far 8 (toks c.raised.new.parser) c.in-Err.fault (omega (arith, c.loop-below-test.true)) c.in-Err.ensures.gives

pub returns-clause-gives : goal.returns-clause-gives
unfolding lead_at
returns-clause-gives g c = all_levels c.loop-below.below 8 (lead_pre_at (nested_at (g.N.Nest.room c.args.self.now.inside.nest))) (pre_at (nested_at (g.N.Nest.room c.args.self.now.inside.nest))) (toks c.args.parser.now) _ _ (omega (arith, c.loop-below-test.false)) (omega (arith, c.loop-below.auto.below-end)) c.loop-below.invariant.so_far

pub returns-in_err-lead-clause-gives : goal.returns-in_err-lead-clause-gives
unfolding lead_at
returns-in_err-lead-clause-gives g c = first_fault 8 (lead_pre_at (nested_at (g.N.Nest.room c.args.self.now.inside.nest))) (pre_at (nested_at (g.N.Nest.room c.args.self.now.inside.nest))) (toks c.args.parser.now) (toks c.lead_pre.new.parser) c.in_err-lead.field-0.0 c.from_residual.result c.from_residual.ensures.1 c.in_err-lead.ensures.gives
