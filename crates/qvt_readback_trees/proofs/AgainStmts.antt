-- Statements that begin with a word are read again.
use Rattle.std.proofs.Common.{◌≡◌, List, [], ◌∷◌, ◌++◌, map, refl, sym, ap, ◌∙◌, append-nil, Option, Some, None, option_map}
use Rattle.qvt_tree_types.specs.Tree.{ExprTerm, StmtTerm, VarStmt, ReturnStmt, WhileStmt, ElseOf, ArmTerm, ArmOf, MoreArms}
use Rattle.qvt_tree_types.specs.View.{stmts_of, arms_of, optional_expr, optional_else}
use Rattle.qvt_tree.specs.Shape.{nowhere, erase_expr, erase_stmt, erase_arm, erase_arms, erase_else}
use Rattle.qvt_language.specs.declared.class.Class.TheVariants as class
use Rattle.qvt_language.specs.Readers.{the}
use Rattle.qvt_language.specs.Trees.{second, inner}
use Rattle.qvt_language.specs.Grammar.{NestedLanguages}
use Rattle.qvt_language.specs.Statements.{branches, condition, var_stmt, return_stmt, arm, else_part, while_stmt}
use Rattle.qvt_language.specs.StmtTrees.{Branches, var_of, return_of, arm_of, while_of}
use Rattle.qvt_printer_layout.specs.declared.piece.PrintPiece.{PrintPiece}
use Rattle.qvt_printer_layout.specs.declared.piece.PrintPiece.TheVariants as piece
use Rattle.qvt_printer.specs.Expressions as print
use Rattle.qvt_readback_tokens.specs.Spelled.{all_spelled}
use Rattle.qvt_readback_trees.specs.Printable.{IsPrintableExpr, IsPrintableStmt, ArePrintableStmts, IsPrintableArm, ArePrintableArms, IsPrintableElse}
use Rattle.qvt_readback_trees.proofs.Spelling.{plain, plain_name, rest_spelled}
use Rattle.qvt_readback_trees.proofs.Again.{again_as, Again, again_the, again_then, again_made, again_many, again_maybe, again_placed, again_left_out, optional_ok, if_there}
use Rattle.qvt_readback_trees.proofs.AgainNames.{again_name, again_colon_type}
use Rattle.qvt_readback_trees.proofs.AgainExprs.{AgainNested, bare_stmts, bare_optional, ok_optional, optional_any, again_expr}
use Rattle.qvt_readback_trees.proofs.AgainSteps.{type_same, type_bare, same_front}

-- a simple statement without its `;`
abbrev pub unended : StmtTerm → List PrintPiece
unended (VarStmt name kind value place) = piece.Plain class.VarWord ∷ piece.Name name ∷ (print.typed_if kind ++ print.first_value value)
unended (ReturnStmt value place) = piece.Plain class.ReturnWord ∷ print.optional value
unended s = []

value_same : (x : Option ExprTerm) → all_spelled (print.first_value (optional_expr x)) ≡ all_spelled (if_there (λ (e : ExprTerm). piece.Plain class.Becomes ∷ print.expr e) x)
value_same None = refl
value_same (Some e) = refl

optional_same : (x : Option ExprTerm) → all_spelled (print.optional (optional_expr x)) ≡ all_spelled (if_there print.expr x)
optional_same None = refl
optional_same (Some e) = refl

pub bare_arms : (arms : List ArmTerm) → erase_arms (arms_of arms) ≡ arms_of (map erase_arm arms)
bare_arms [] = refl
bare_arms (a ∷ arms) = ap (MoreArms (erase_arm a)) (bare_arms arms)

abbrev Stmts : List StmtTerm → Type 0
Stmts ss = ArePrintableStmts (stmts_of ss)

abbrev else_pieces : List StmtTerm → List PrintPiece
else_pieces ss = piece.Plain class.ElseWord ∷ print.block (stmts_of ss)

else_ok : (x : Option (List StmtTerm)) → IsPrintableElse (optional_else x) → optional_ok Stmts x
else_ok None o = tt
else_ok (Some ss) o = o

else_same : (x : Option (List StmtTerm)) → print.else_if (optional_else x) ≡ if_there else_pieces x
else_same None = refl
else_same (Some ss) = refl

pub else_bare : (x : Option (List StmtTerm)) → erase_else (optional_else x) ≡ optional_else (option_map (map erase_stmt) x)
else_bare None = refl
else_bare (Some ss) = ap ElseOf (bare_stmts ss)

-- the blocks of a conditional statement

abbrev pub branch_ok : Branches → Type 0
branch_ok x = ArePrintableStmts (stmts_of x.0) × ArePrintableArms (arms_of x.1.0) × IsPrintableElse (optional_else x.1.1.0)

abbrev pub branch_pieces : Branches → List PrintPiece
branch_pieces x = print.block (stmts_of x.0) ++ (print.arms (arms_of x.1.0) ++ print.else_if (optional_else x.1.1.0))

abbrev pub bare_branches : Branches → Branches
bare_branches x = (map erase_stmt x.0, (map erase_arm x.1.0, (option_map (map erase_stmt) x.1.1.0, None)))

branch_same : (b arms e e2 : List PrintPiece) → e ≡ e2 → all_spelled (b ++ (arms ++ e)) ≡ all_spelled (b ++ (arms ++ (e2 ++ [])))
branch_same b arms e e2 q = ap (λ z. all_spelled (b ++ (arms ++ z))) (q ∙ sym (append-nil e2))

module _ {i : NestedLanguages} (h : AgainNested i) where
  pub again_condition : Again IsPrintableExpr (λ e. print.in_round (print.expr e)) erase_expr (condition i) (condition i)
  unfolding condition
  again_condition = again_made inner (again_then (again_the class.OpenRound) (again_then (again_expr h) (again_the class.CloseRound))) (λ a o. (tt, (o, tt))) (λ a. refl) (λ a. refl)

  pub again_var_stmt : Again IsPrintableStmt unended erase_stmt (var_stmt i) (var_stmt i)
  unfolding var_stmt
  again_var_stmt = again_made var_of (again_placed (again_then (again_the class.VarWord) (again_then again_name (again_then (again_maybe (again_colon_type i h.kind))
      (again_maybe (again_made {ok2 = IsPrintableExpr} {p2 = λ e. piece.Plain class.Becomes ∷ print.expr e} {b2 = erase_expr} second (again_then (again_the class.Becomes) (again_expr h)) (λ a o. (tt, o)) (λ a. refl) (λ a. refl)))))))
      (λ a o. (tt, (tt, (optional_any a.1.1.1.0, ok_optional a.1.1.1.1 o))))
      (λ a. ap (λ z. plain class.VarWord ∷ plain_name a.1.1.0.text ∷ z) (rest_spelled (print.typed_if a.1.1.1.0) (print.first_value (optional_expr a.1.1.1.1)) _ (value_same a.1.1.1.1) ∙ same_front (print.typed_if a.1.1.1.0) (if_there print.typed a.1.1.1.0) _ (type_same a.1.1.1.0)))
      (λ a j. VarStmt a.1.1.0.text (type_bare a.1.1.1.0 j) (bare_optional a.1.1.1.1 j) nowhere)

  pub again_return_stmt : Again IsPrintableStmt unended erase_stmt (return_stmt i) (return_stmt i)
  unfolding return_stmt
  again_return_stmt = again_made return_of (again_placed (again_then (again_the class.ReturnWord) (again_maybe (again_expr h))))
      (λ a o. (tt, ok_optional a.1.1 o)) (λ a. ap (λ z. plain class.ReturnWord ∷ z) (optional_same a.1.1)) (λ a. ap (λ z. ReturnStmt z nowhere) (bare_optional a.1.1))

  pub again_arm : Again IsPrintableArm print.arm erase_arm (arm i) (arm i)
  unfolding arm
  again_arm = again_made arm_of (again_then (again_the class.ElifWord) (again_then again_condition (again_then (again_left_out {l = the class.ThenWord} {m = the class.ThenWord}) h.block)))
      (λ a o. (tt, (o.0, (tt, o.1)))) (λ a. refl) (λ a. ap (ArmOf (erase_expr a.1.0)) (bare_stmts a.1.1.1))

  pub again_else_part : Again Stmts else_pieces (map erase_stmt) (else_part i) (else_part i)
  unfolding else_part
  again_else_part = again_made second (again_then (again_the class.ElseWord) h.block) (λ a o. (tt, o)) (λ a. refl) (λ a. refl)

  pub again_branches : Again branch_ok branch_pieces bare_branches (branches i) (branches i)
  unfolding branches
  again_branches = again_as (again_then h.block (again_then (again_many again_arm (λ arms. ArePrintableArms (arms_of arms)) (λ a more o. o) (λ arms. print.arms (arms_of arms)) refl (λ a more. refl))
      (again_then (again_maybe again_else_part) (again_left_out {l = the class.EndifWord} {m = the class.EndifWord}))))
      (λ x o. (o.0, (o.1, (else_ok x.1.1.0 o.2, tt))))
      (λ x. branch_same (print.block (stmts_of x.0)) (print.arms (arms_of x.1.0)) (print.else_if (optional_else x.1.1.0)) (if_there else_pieces x.1.1.0) (else_same x.1.1.0))
      (λ x. refl)

  pub again_while_stmt : Again IsPrintableStmt print.stmt erase_stmt (while_stmt i) (while_stmt i)
  unfolding while_stmt
  again_while_stmt = again_made while_of (again_placed (again_then (again_the class.WhileWord) (again_then again_condition h.block)))
      (λ a o. (tt, (o.0, o.1))) (λ a. refl) (λ a. ap (λ z. WhileStmt (erase_expr a.1.1.0) z nowhere) (bare_stmts a.1.1.1))
