use Rattle.std.proofs.Common.{sym, ap, ◌∙◌}
use Rattle.qvt_language.specs.Trees.{is_there, member_target}
use Rattle.qvt_language.specs.StmtTrees.{target_in}
use Rattle.qvt_parser_exprs.specs.Views.{boxed_view, lead_view, steps_view}
use Rattle.qvt_parser_stmts.proofs.made.has_target.Goals as goal

pub returns-in-Post : goal.returns-in-Post
returns-in-Post c =
    c.ends_in_member.ensures c.in-Post.place (boxed_view c.in-Post.first)
    ∙ ap (λ z. is_there (member_target c.in-Post.place (boxed_view c.in-Post.first) (steps_view z))) c.as_slice.ensures
    ∙ ap (λ z. is_there (target_in (lead_view z))) (sym c.in-Post.is)
