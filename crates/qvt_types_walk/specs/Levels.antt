-- What functions give that judge phrases, where so many levels are left.
use Rattle.std.specs.Prelude.{ℕ, Bool, List, map, Option, Result}
use denote.Ref.{Bor, MutBor}
use Rattle.qvt_base.specs.declared.list_fault.ListFault.{ListFault}
use Rattle.qvt_tree_types.specs.View.{expr_view, stmt_view, stmts_of}
use Rattle.qvt_tree_types.specs.declared.tree.Expr.{Expr}
use Rattle.qvt_tree_types.specs.declared.tree.Stmt.{Stmt}
use Rattle.qvt_types_data.specs.declared.ty.Ty.{Ty}
use Rattle.qvt_types_rules.specs.Seen.{seen}
use Rattle.qvt_types_rules.specs.declared.context.Context.{Context}
use Rattle.qvt_types_states.specs.Does.{GivesAndLeaves}
use Rattle.qvt_types_states.specs.declared.state.TypingState.{TypingState}
use Rattle.qvt_typing.specs.Phrases.{expr, stmts}
use Rattle.qvt_typing.specs.Statements.{block}

-- a function gives what expressions give
pub record JudgesExpr (left : ℕ) (pre : ℕ → Bor Context → Bool → Bor Expr → MutBor TypingState → Type 0)
    (post : ℕ → Bor Context → Bool → Bor Expr → MutBor TypingState → Result (Option Ty) ListFault → MutBor TypingState → Type 0) : Type 0 where
  pub callable : (x : Bor Context) (late : Bool) (e : Bor Expr) (old : MutBor TypingState) → pre left x late e old
  pub gives : (x : Bor Context) (late : Bool) (e : Bor Expr) (old new : MutBor TypingState) (r : Result (Option Ty) ListFault)
      → post left x late e old r new → GivesAndLeaves (expr (seen x.now) late (expr_view e.now) old.now) r new.now

-- a function does what blocks do
pub record JudgesBlock (left : ℕ) (pre : ℕ → Bor Context → Bor (List Stmt) → MutBor TypingState → Type 0)
    (post : ℕ → Bor Context → Bor (List Stmt) → MutBor TypingState → Result (Unit {0}) ListFault → MutBor TypingState → Type 0) : Type 0 where
  pub callable : (x : Bor Context) (ss : Bor (List Stmt)) (old : MutBor TypingState) → pre left x ss old
  pub gives : (x : Bor Context) (ss : Bor (List Stmt)) (old new : MutBor TypingState) (r : Result (Unit {0}) ListFault)
      → post left x ss old r new → GivesAndLeaves (block (seen x.now) (stmts (seen x.now) (stmts_of (map stmt_view ss.now))) old.now) r new.now
