use Rattle.std.proofs.Common.{sym, ap, ◌∙◌}
use Rattle.qvt_tree_types.specs.View.{expr_view, target_view}
use Rattle.qvt_language.specs.Tokens.{tok_of}
use Rattle.qvt_parser_grammar.specs.Gives.{toks}
use Rattle.qvt_language.specs.Nesting.{nested_at}
use Rattle.qvt_parser_exprs.specs.Views.{lead_view}
use Rattle.qvt_parser_stmts.proofs.Tails.{closing, tail_assigned}
use Rattle.qvt_parser_stmts.proofs.statements.Statements.assigned.Goals as goal

pub returns-clause-gives : goal.returns-clause-gives
returns-clause-gives g c = tail_assigned c.args.place (nested_at (g.N.Nest.room c.args.self.now.chains.inside.nest)) (lead_view c.args.lead) (target_view c.in_ok-target.target) (toks c.args.parser.now) (tok_of c.in_ok-pair.pair.0) (expr_view c.in_ok-pair.pair.1.value) (toks c.assignment.new.parser) c.in_ok-target.ensures c.requires.sign c.in_ok-pair.ensures.gives ∙ ap (λ s. closing s (toks c.assignment.new.parser)) (sym (c.in_ok-stmt.ensures ∙ c.assign.ensures)) ∙ c.ended.ensures.gives
