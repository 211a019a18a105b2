-- Values on the way to the tree: expressions that may be targets, and the parts of statements.
use Rattle.std.specs.Prelude.{ℕ, Bool, List, Option}
use Rattle.qvt_tree_types.specs.Tree.{TypeTerm, ExprTerm, OptionalExpr, StmtTerm, TargetTerm}

-- after the source of a `forEach`: the variable with its type, the condition and the body
pub record EachPart : Type 0 where
  pub name : List ℕ
  pub kind : Option TypeTerm
  pub condition : OptionalExpr
  pub body : List StmtTerm

-- an expression with the target that it also is, one that stands in brackets alone, or the source and the rest of a
-- `forEach`
pub data Lead : Type 0 where
  Plain : ExprTerm → Option TargetTerm → Lead
  Bracketed : ExprTerm → Lead
  Each : ExprTerm → EachPart → Lead

-- the statements of a block, and whether the last one has no `;`
pub record EndedBlock : Type 0 where
  pub stmts : List StmtTerm
  pub open_end : Bool
