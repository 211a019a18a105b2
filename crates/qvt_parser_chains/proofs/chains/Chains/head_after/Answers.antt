use Rattle.std.proofs.Common.{sym, ◌∙◌, subst}
use Rattle.qvt_parser_grammar.specs.Gives.{Gives, toks}
use Rattle.qvt_language.specs.Nesting.{nested_at}
use Rattle.qvt_parser_exprs.specs.Views.{lead_view, arrow_args_view}
use Rattle.qvt_parser_chains.proofs.Heads.{after_headless}
use Rattle.qvt_parser_chains.proofs.chains.Chains.head_after.Goals as goal

pub returns-clause-gives : goal.returns-clause-gives
returns-clause-gives g c =
    subst (λ a. Gives arrow_args_view c.exprs_after.result (toks c.exprs_after.new.parser) a)
    (sym (after_headless (nested_at (g.N.Nest.room c.args.self.now.inside.nest)) (toks c.args.parser.now) (lead_view c.args.lead) _ c.in_ok-first.ensures (sym c.is_head.ensures ∙ c.if-is_head.false))) c.exprs_after.ensures.gives
