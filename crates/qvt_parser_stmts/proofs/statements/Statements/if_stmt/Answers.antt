use Rattle.std.proofs.Common.{sym, subst}
use Rattle.qvt_parser_grammar.specs.Gives.{Gives, toks}
use Rattle.qvt_language.specs.Nesting.{nested_at}
use Rattle.qvt_parser_stmts.specs.Views.{held_view}
use Rattle.qvt_parser_exprs.specs.Views.{lead_view}
use Rattle.qvt_parser_stmts.proofs.AfterIf.{if_then}
use Rattle.qvt_parser_stmts.proofs.statements.Statements.if_stmt.Goals as goal

pub returns-clause-gives : goal.returns-clause-gives
returns-clause-gives g c =
    subst (λ a. Gives held_view c.if_rest.result (toks c.if_rest.new.parser) a)
    (sym (if_then (nested_at (g.N.Nest.room c.args.self.now.chains.inside.nest)) c.place-place.result (toks c.args.parser.now) _ _ (lead_view c.in_ok-condition.condition) _ c.place-place.ensures c.in_ok-take.ensures.gives c.in_ok-condition.ensures.gives)) c.if_rest.ensures.gives
