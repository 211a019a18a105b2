use Rattle.std.proofs.Common.{inl, inr, sym, ◌∙◌, subst}
use Rattle.qvt_grammar.specs.Reader.{made_at, choose_at}
use Rattle.qvt_language.specs.Tokens.{is}
use Rattle.qvt_language.specs.declared.class.Class.TheVariants.{OpenBrace, ThenWord}
use Rattle.qvt_parser_grammar.specs.Gives.{Gives, toks}
use Rattle.qvt_language.specs.Nesting.{nested_at}
use Rattle.qvt_language.specs.StmtTrees.{if_made}
use Rattle.qvt_language.specs.ReadingStatements.{branches_at, choice_at}
use Rattle.qvt_parser_stmts.specs.Views.{held_view}
use Rattle.qvt_parser_exprs.specs.Views.{boxed_view}
use Rattle.qvt_parser_stmts.proofs.AfterIf.{after_word}
use Rattle.qvt_parser_stmts.proofs.statements.Statements.branches_or_choice.Goals as goal

pub returns-clause-gives : goal.returns-clause-gives
returns-clause-gives g c =
    let r = nested_at (g.N.Nest.room c.args.self.now.chains.inside.nest) in
    subst (λ a. Gives held_view c.after_then.result (toks c.after_then.new.parser) a) (sym (after_word (if_made c.args.place (boxed_view c.args.condition)) (is OpenBrace) ThenWord (made_at inl (branches_at r)) (choose_at (is OpenBrace) (made_at inl (branches_at r)) (made_at inr (choice_at r))) (toks c.args.parser.now) _ _ (sym c.at.ensures ∙ c.if-at.false) c.in_ok-take.ensures.gives)) c.after_then.ensures.gives
