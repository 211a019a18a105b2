-- The readers of statements and blocks, production by production.
use Rattle.std.specs.Prelude.{List, Option, Some, None, ◌⊎◌}
use Rattle.std.proofs.Common.{inl, inr}
use Rattle.qvt_tree_types.specs.Tree.{ExprTerm, StmtTerm, ArmTerm}
use Rattle.qvt_grammar.specs.Reader.{then_at, choose_at, follow_at, many_at, made_at, empty_at, maybe_at, ended_at}
use Rattle.qvt_words.specs.declared.class.Class.TheVariants.{OpenRound, CloseRound, OpenBrace, CloseBrace, Semicolon, Colon, Becomes, PlusEqual, ElifWord, ElseWord, EndifWord, IfWord, ReturnWord, ThenWord, VarWord, WhileWord}
use Rattle.qvt_language.specs.Tokens.{Tok, of, is}
use Rattle.qvt_language.specs.Readers.{Reader, the_at, placed_at}
use Rattle.qvt_language.specs.Firsts.{expr_first, step_first, stmt_first, assign_first}
use Rattle.qvt_language.specs.Series.{finished_at}
use Rattle.qvt_language.specs.Leads.{Lead, Plain, Bracketed, Each, EndedBlock}
use Rattle.qvt_language.specs.Trees.{second, inner}
use Rattle.qvt_language.specs.Reading.{NestedAt, name_at, expr_at, colon_type_at, lead_step_at, lead_at}
use Rattle.qvt_language.specs.StmtTrees.{var_of, return_of, arm_of, Branches, Choice, if_stmt_of, while_of, TurnTree, empty_turn, closed_turn, simple_turn, Tail, no_tail, plain_tail, lead_turn, ended_of, block_of}

unfoldable pub condition_at : NestedAt → Reader ExprTerm
condition_at r = made_at inner (then_at (the_at OpenRound) (then_at (expr_at r) (the_at CloseRound)))

unfoldable pub var_stmt_at : NestedAt → Reader StmtTerm
var_stmt_at r = made_at var_of (placed_at (then_at (the_at VarWord) (then_at name_at (then_at (maybe_at (is Colon) (colon_type_at r)) (maybe_at (is Becomes) (made_at second (then_at (the_at Becomes) (expr_at r))))))))

unfoldable pub return_stmt_at : NestedAt → Reader StmtTerm
return_stmt_at r = made_at return_of (placed_at (then_at (the_at ReturnWord) (maybe_at (of expr_first) (expr_at r))))

unfoldable pub arm_at : NestedAt → Reader ArmTerm
arm_at r = made_at arm_of (then_at (the_at ElifWord) (then_at (condition_at r) (then_at (maybe_at (is ThenWord) (the_at ThenWord)) r.block)))

unfoldable pub else_part_at : NestedAt → Reader ((List StmtTerm))
else_part_at r = made_at second (then_at (the_at ElseWord) r.block)

unfoldable pub branches_at : NestedAt → Reader Branches
branches_at r = then_at r.block (then_at (many_at (is ElifWord) (arm_at r)) (then_at (maybe_at (is ElseWord) (else_part_at r)) (maybe_at (is EndifWord) (the_at EndifWord))))

unfoldable pub choice_at : NestedAt → Reader Choice
choice_at r = then_at (then_at (expr_at r) (made_at inner (then_at (the_at ElseWord) (then_at (expr_at r) (the_at EndifWord))))) (finished_at (of step_first) (lead_step_at r))

abbrev pub if_rest_at : NestedAt → Lead → Reader (Branches ⊎ Choice)
if_rest_at r (Bracketed c) = choose_at (is OpenBrace) (made_at inl (branches_at r)) (made_at second (then_at (the_at ThenWord) (choose_at (is OpenBrace) (made_at inl (branches_at r)) (made_at inr (choice_at r)))))
if_rest_at r x = made_at second (then_at (the_at ThenWord) (made_at inr (choice_at r)))

unfoldable pub if_stmt_at : NestedAt → Reader StmtTerm
if_stmt_at r = made_at if_stmt_of (placed_at (then_at (the_at IfWord) (follow_at r.flagged (if_rest_at r))))

unfoldable pub while_stmt_at : NestedAt → Reader StmtTerm
while_stmt_at r = made_at while_of (placed_at (then_at (the_at WhileWord) (then_at (condition_at r) r.block)))

unfoldable pub assignment_at : NestedAt → Reader ((Tok × ExprTerm))
assignment_at r = then_at (choose_at (is Becomes) (the_at Becomes) (the_at PlusEqual)) (expr_at r)

unfoldable pub semicolon_at : Reader ((Option Tok))
semicolon_at = maybe_at (is Semicolon) (the_at Semicolon)

abbrev pub lead_tail_at : NestedAt → Lead → Reader Tail
lead_tail_at r (Plain e None) = made_at plain_tail semicolon_at
lead_tail_at r (Plain e (Some target)) = then_at (maybe_at (of assign_first) (assignment_at r)) semicolon_at
lead_tail_at r (Bracketed e) = made_at plain_tail semicolon_at
lead_tail_at r (Each e part) = made_at no_tail empty_at

unfoldable pub lead_stmt_at : NestedAt → Reader TurnTree
lead_stmt_at r = made_at lead_turn (placed_at (follow_at (lead_at r) (lead_tail_at r)))

unfoldable pub statement_at : NestedAt → Reader TurnTree
statement_at r = choose_at (is Semicolon) (made_at empty_turn (the_at Semicolon)) (choose_at (is IfWord) (made_at closed_turn (if_stmt_at r)) (choose_at (is WhileWord) (made_at closed_turn (while_stmt_at r)) (choose_at (is VarWord) (made_at simple_turn (then_at (var_stmt_at r) semicolon_at)) (choose_at (is ReturnWord) (made_at simple_turn (then_at (return_stmt_at r) semicolon_at)) (lead_stmt_at r)))))

unfoldable pub statements_at : NestedAt → Reader EndedBlock
statements_at r = made_at ended_of (ended_at (of stmt_first) (statement_at r))

unfoldable pub block_at : NestedAt → Reader (List StmtTerm)
block_at r = made_at block_of (then_at (the_at OpenBrace) (then_at (statements_at r) (the_at CloseBrace)))
