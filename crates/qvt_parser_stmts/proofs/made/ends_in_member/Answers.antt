use Rattle.std.proofs.Common.{sym, ap, ◌∙◌, map}
use Rattle.qvt_tree_types.specs.View.{step_view}
use Rattle.qvt_language.specs.Trees as trees
use Rattle.qvt_parser_stmts.proofs.Members.{member_last}
use Rattle.qvt_parser_stmts.proofs.made.ends_in_member.Goals as goal

pub returns-in-Some : goal.returns-in-Some
returns-in-Some c place e = c.is_member.ensures place e (map step_view c.in-Some.field-0-1.now) ∙ ap trees.is_there (sym (member_last place e c.args.steps.now c.in-Some.field-0-1.now c.in-Some.last.now c.in-Some.ensures.cases.0))
