use Rattle.std.proofs.Common.{IsTrue, Some, sym, subst}
use Rattle.qvt_tree_types.specs.View.{target_view}
use Rattle.qvt_parser_grammar.specs.Gives.{Makes}
use Rattle.qvt_parser_exprs.specs.Views.{boxed_view}
use Rattle.qvt_language.specs.Trees as trees
use Rattle.qvt_parser_stmts.proofs.Members.{member_last}
use Rattle.qvt_parser_stmts.proofs.made.member.Goals as goal

pub member_at-requires : goal.member_at-requires
member_at-requires c = subst (λ z. IsTrue (trees.is_there z)) (member_last c.args.place (boxed_view c.args.first) c.args.steps c.pop.new.self c.in-Some.step c.in-Some.ensures) c.requires

pub returns-in-Some : goal.returns-in-Some
returns-in-Some c = subst (λ z. Makes (λ t. Some (target_view t)) c.member_at.result z) (sym (member_last c.args.place (boxed_view c.args.first) c.args.steps c.pop.new.self c.in-Some.step c.in-Some.ensures)) c.member_at.ensures
