use Rattle.std.proofs.Common.{inr, sym, subst}
use Rattle.qvt_parser_grammar.specs.Gives.{Gives, toks}
use Rattle.qvt_language.specs.Nesting.{nested_at}
use Rattle.qvt_language.specs.StmtTrees.{if_made}
use Rattle.qvt_language.specs.ReadingStatements.{choice_at}
use Rattle.qvt_parser_stmts.specs.Views.{held_view}
use Rattle.qvt_parser_exprs.specs.Views.{boxed_view}
use Rattle.qvt_parser_stmts.proofs.AfterIf.{after_then}
use Rattle.qvt_parser_stmts.proofs.statements.Statements.then_chosen.Goals as goal

pub returns-clause-gives : goal.returns-clause-gives
returns-clause-gives g c =
    subst (λ a. Gives held_view c.chosen.result (toks c.chosen.new.parser) a)
    (sym (after_then (λ x. inr x) (if_made c.args.place (boxed_view c.args.condition)) (choice_at (nested_at (g.N.Nest.room c.args.self.now.chains.inside.nest))) (toks c.args.parser.now) _ _ c.in_ok-take.ensures.gives)) c.chosen.ensures.gives
