use Rattle.std.proofs.Common.{sym, ap, ◌∙◌}
use Rattle.qvt_tree_types.specs.View.{expr_view}
use Rattle.qvt_parser_grammar.specs.Gives.{toks}
use Rattle.qvt_language.specs.Nesting.{nested_at}
use Rattle.qvt_parser_exprs.specs.Views.{lead_view}
use Rattle.qvt_parser_stmts.proofs.Tails.{closing, tail_plain}
use Rattle.qvt_parser_stmts.proofs.statements.Statements.written.Goals as goal

pub returns-clause-gives : goal.returns-clause-gives
returns-clause-gives g c = tail_plain c.args.place (nested_at (g.N.Nest.room c.args.self.now.chains.inside.nest)) (lead_view c.args.lead) (expr_view c.in_ok-value.value) (toks c.args.parser.now) c.in_ok-value.ensures c.requires.plain (sym c.assigns.ensures ∙ c.if-assigns.false) ∙ ap (λ s. closing s (toks c.args.parser.now)) (sym (c.in_ok-stmt.ensures ∙ c.evaluate.ensures)) ∙ c.ended.ensures.gives
