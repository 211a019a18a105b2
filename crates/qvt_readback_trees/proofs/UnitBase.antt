-- What the units stand on: parts that are read with some nestings are read again with one more.
use Rattle.std.proofs.Common.{ℕ, zero, suc, List, [], ◌∷◌, map, inl, refl, Some}
use Rattle.qvt_base.specs.declared.numbers.Place.{Place}
use Rattle.qvt_tree_types.specs.Tree.{ExprTerm, StmtTerm, ReturnStmt, SomeExpr}
use Rattle.qvt_tree_types.specs.View.{stmts_of}
use Rattle.qvt_tree.specs.Shape.{nowhere, erase_expr, erase_type, erase_stmt}
use Rattle.qvt_language.specs.Tokens.{Tok}
use Rattle.qvt_language.specs.declared.class.Class.TheVariants as class
use Rattle.qvt_language.specs.Leads.{EndedBlock}
use Rattle.qvt_language.specs.Grammar.{NestedLanguages, expr, colon_type}
use Rattle.qvt_language.specs.Statements.{statements, return_stmt}
use Rattle.qvt_language.specs.Nesting.{nested}
use Rattle.qvt_language.proofs.EveryExprs.{k_expr as good_expr, k_colon_type as good_colon_type}
use Rattle.qvt_language.proofs.Good.{loose_statements}
use Rattle.qvt_language.proofs.GoodNesting.{good_nested}
use Rattle.qvt_printer.specs.Expressions as print
use Rattle.qvt_readback_tokens.specs.Spelled.{all_spelled}
use Rattle.qvt_readback_trees.specs.Printable.{IsPrintableExpr, ArePrintableStmts}
use Rattle.qvt_readback_trees.proofs.Spelling.{plain}
use Rattle.qvt_readback_trees.proofs.Again.{Again, any, again_sub}
use Rattle.qvt_readback_trees.proofs.AgainNames.{again_colon_type}
use Rattle.qvt_readback_trees.proofs.AgainExprs.{again_expr}
use Rattle.qvt_readback_trees.proofs.AgainNesting.{again_nested}
use Rattle.qvt_readback_trees.proofs.Statements.{GoodStmts, statements_good, block_good, statements_again, block_again, return_good, bare_ended}

abbrev pub Stmts : List StmtTerm → Type 0
Stmts ss = ArePrintableStmts (stmts_of ss)

-- statements that are read again as a block, and without its braces
pub record AgainBlock (j : NestedLanguages) (ss : List StmtTerm) : Type 0 where
  pub block : Stmts ss → j.block.reads (all_spelled (print.block (stmts_of ss))) (map erase_stmt ss)
  pub list : Stmts ss → (statements j).reads (all_spelled (print.stmts (stmts_of ss))) (bare_ended ss)

pub record AgainUnits (i j : NestedLanguages) : Type 0 where
  pub value : Again IsPrintableExpr print.expr erase_expr (expr i) (expr j)
  pub kind : Again any print.typed erase_type (colon_type i) (colon_type j)
  pub block : (ts : List Tok) (ss : List StmtTerm) → i.block.reads ts ss → AgainBlock j ss
  pub list : (ts : List Tok) (x : EndedBlock) → (statements i).reads ts x → AgainBlock j x.stmts
  pub nothing : AgainBlock j []
  -- the block of one return
  pub returned : (ts : List Tok) (e : ExprTerm) (place : Place) → (expr i).reads ts e → AgainBlock j (ReturnStmt (SomeExpr e) place ∷ [])

module _ (n : ℕ) where
  of_good : (ss : List StmtTerm) → GoodStmts (nested n) ss → AgainBlock (nested (suc n)) ss
  unfolding nested
  of_good ss g = record {
    block = λ o. block_again (nested n) ss g o;
    list = λ o. (loose_statements (good_nested n)).sub.reads _ _ (statements_again (nested n) ss g o);
  }

  one_return : (ts : List Tok) (e : ExprTerm) (place : Place) → (expr (nested n)).reads ts e → GoodStmts (nested n) (ReturnStmt (SomeExpr e) place ∷ [])
  unfolding return_stmt
  one_return ts e place rd = (return_good (again_nested n) (plain class.ReturnWord ∷ ts) (ReturnStmt (SomeExpr e) nowhere) ((nowhere, (plain class.ReturnWord, Some e)), ((plain class.ReturnWord ∷ [], ts, refl, (refl, refl), inl (e, rd, refl)), refl), refl), tt)

inner_block : (n : ℕ) (ts : List Tok) (ss : List StmtTerm) → (nested n).block.reads ts ss → AgainBlock (nested (suc n)) ss
unfolding nested
inner_block zero ts ss rd = absurd rd
inner_block (suc n) ts ss rd = let w = of_good n ss (block_good (again_nested n) ts ss rd) in record {
  block = λ o. (good_nested (suc n)).block.loose.sub.reads _ _ (w.block o);
  list = λ o. (loose_statements (good_nested (suc n))).sub.reads _ _ (w.list o);
}

pub again_units : (n : ℕ) → AgainUnits (nested n) (nested (suc n))
again_units n =
    let h = again_nested n in
    record {
      value = again_sub (good_expr (good_nested n)).loose.sub (again_expr h);
      kind = again_sub (good_colon_type (good_nested n)).loose.sub (again_colon_type (nested n) h.kind);
      block = inner_block n;
      list = λ ts x rd. of_good n x.stmts (statements_good h ts x rd);
      nothing = of_good n [] tt;
      returned = λ ts e place rd. of_good n (ReturnStmt (SomeExpr e) place ∷ []) (one_return n ts e place rd);
    }
