use Rattle.std.proofs.Common.{sym, ◌∙◌, subst}
use Rattle.qvt_parser_grammar.specs.Gives.{Gives, toks}
use Rattle.qvt_language.specs.Nesting.{nested_at}
use Rattle.qvt_parser_stmts.specs.Views.{held_view}
use Rattle.qvt_parser_exprs.specs.Views.{boxed_view, lead_view}
use Rattle.qvt_parser_stmts.proofs.AfterIf.{bracketed_rest, other_rest}
use Rattle.qvt_parser_stmts.proofs.statements.Statements.if_rest.Goals as goal

pub returns-then-alone-clause-gives : goal.returns-then-alone-clause-gives
returns-then-alone-clause-gives g c =
    subst (λ a. Gives held_view c.branches_or_choice.result (toks c.branches_or_choice.new.parser) a)
    (sym (bracketed_rest (nested_at (g.N.Nest.room c.args.self.now.chains.inside.nest)) c.args.place (toks c.args.parser.now) (lead_view c.args.condition) (boxed_view c.in_ok-condition.condition) c.in_ok-condition.ensures (sym c.is_bracketed-alone.ensures ∙ c.if-alone.true))) c.branches_or_choice.ensures.gives

pub returns-clause-gives : goal.returns-clause-gives
returns-clause-gives g c =
    subst (λ a. Gives held_view c.then_chosen.result (toks c.then_chosen.new.parser) a)
    (sym (other_rest (nested_at (g.N.Nest.room c.args.self.now.chains.inside.nest)) c.args.place (toks c.args.parser.now) (lead_view c.args.condition) (boxed_view c.in_ok-condition.condition) c.in_ok-condition.ensures (sym c.is_bracketed-alone.ensures ∙ c.if-alone.false))) c.then_chosen.ensures.gives
