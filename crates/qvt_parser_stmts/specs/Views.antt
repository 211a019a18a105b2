-- What clauses see of the parts of statements.
use Rattle.std.specs.Prelude.{Box, List, [], ◌∷◌, map}
use Rattle.std.proofs.Common.{inl, inr}
use Rattle.std.specs.declared.alloc.Global.{Global}
use Rattle.qvt_tree_types.specs.Tree.{ExprTerm, ArmTerm, StmtTerm}
use Rattle.qvt_tree_types.specs.View.{expr_view, stmt_view, arm_view}
use Rattle.qvt_tree_types.specs.declared.tree.Arm.{Arm}
use Rattle.qvt_tree_types.specs.declared.tree.Expr.{Expr}
use Rattle.qvt_tree_types.specs.declared.tree.Stmt.{Stmt}
use Rattle.qvt_language.specs.declared.token.SyntaxToken.{SyntaxToken}
use Rattle.qvt_language.specs.Tokens.{Tok, tok_of}
use Rattle.qvt_language.specs.Leads.{EndedBlock}
use Rattle.qvt_language.specs.StmtTrees.{TurnTree}
use Rattle.qvt_parser_exprs.specs.Views.{stmts_view}
use Rattle.qvt_parser_stmts.specs.declared.turns.Turn.{Turn as CodeTurn}
use Rattle.qvt_parser_stmts.specs.declared.turns.Turn.TheVariants.{Empty, Closed, Last}
use Rattle.qvt_parser_stmts.specs.declared.turns.EndedStmts.{EndedStmts}

abbrev pub arms_view : List Arm → List ArmTerm
arms_view = map arm_view

abbrev pub held_view : Box Stmt Global → StmtTerm
held_view s = stmt_view s.value

abbrev pub turn_view : CodeTurn → TurnTree
turn_view Empty = inl []
turn_view (Closed s) = inl (held_view s ∷ [])
turn_view (Last s) = inr (held_view s)

abbrev pub ended_view : EndedStmts → EndedBlock
ended_view e = record { stmts = stmts_view e.stmts; open_end = e.open_end }

abbrev pub assigned_view : SyntaxToken × Box Expr Global → Tok × ExprTerm
assigned_view (sign, value) = (tok_of sign, expr_view value.value)
