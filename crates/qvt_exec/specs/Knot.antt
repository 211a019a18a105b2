-- Functions that run the phrases of a run and call its units, where so many calls may be open and so many phrases are left.
use Rattle.std.specs.Prelude.{◌≡◌, ℕ, List, Result}
use denote.Ref.{Bor, MutBor}
use Rattle.qvt_base.specs.declared.numbers.Place.{Place}
use Rattle.qvt_value.specs.declared.value.Value.{Value}
use Rattle.qvt_types_nodes.specs.declared.tree.TypedExpr.{TypedExpr}
use Rattle.qvt_types_nodes.specs.declared.tree.TypedStmt.{TypedStmt}
use Rattle.qvt_run_data.specs.declared.callee.Callee.{Callee}
use Rattle.qvt_run_data.specs.declared.exit.Halt.{Halt}
use Rattle.qvt_exec_answers.specs.Table.{IsTable}
use Rattle.qvt_exec_phrases.specs.Means.{block_of, expr_of}
use Rattle.qvt_exec_phrases.specs.declared.engine.Engine.{Engine}
use Rattle.qvt_exec_state.specs.Runs.{Runs, seen}
use Rattle.qvt_exec_state.specs.declared.state.RunState.{RunState}
use Rattle.qvt_exec_answers.specs.declared.answering.Answering.{Answering}
use Rattle.qvt_exec.specs.Calls.{calls_of, units_of}

-- a function does what expressions mean
pub record GivesExpr (a : Answering) (calls left : ℕ) (pre : Bor Answering → ℕ → ℕ → Bor Engine → Bor TypedExpr → MutBor RunState → Type 0)
    (post : Bor Answering → ℕ → ℕ → Bor Engine → Bor TypedExpr → MutBor RunState → Result Value Halt → MutBor RunState → Type 0) : Type 0 where
  pub callable : (b : Bor Answering) (x : Bor Engine) (e : Bor TypedExpr) (old : MutBor RunState) → b.now ≡ a → IsTable b.now.expressions.now → pre b calls left x e old
  pub gives : (b : Bor Answering) (x : Bor Engine) (e : Bor TypedExpr) (old new : MutBor RunState) (r : Result Value Halt) → b.now ≡ a
      → post b calls left x e old r new → Runs (expr_of (x.now, units_of a calls) e.now (seen old.now)) r new.now

-- what blocks mean
pub record GivesBlock (a : Answering) (calls left : ℕ) (pre : Bor Answering → ℕ → ℕ → Bor Engine → Bor (List TypedStmt) → MutBor RunState → Type 0)
    (post : Bor Answering → ℕ → ℕ → Bor Engine → Bor (List TypedStmt) → MutBor RunState → Result (Unit {0}) Halt → MutBor RunState → Type 0) : Type 0 where
  pub callable : (b : Bor Answering) (x : Bor Engine) (ss : Bor (List TypedStmt)) (old : MutBor RunState) → b.now ≡ a → IsTable b.now.expressions.now → pre b calls left x ss old
  pub gives : (b : Bor Answering) (x : Bor Engine) (ss : Bor (List TypedStmt)) (old new : MutBor RunState) (r : Result (Unit {0}) Halt) → b.now ≡ a
      → post b calls left x ss old r new → Runs (block_of (x.now, units_of a calls) ss.now (seen old.now)) r new.now

-- what calls mean
pub record GivesCall (a : Answering) (calls left : ℕ) (pre : Bor Answering → ℕ → ℕ → Callee → List Value → Place → MutBor RunState → Type 0)
    (post : Bor Answering → ℕ → ℕ → Callee → List Value → Place → MutBor RunState → Result Value Halt → MutBor RunState → Type 0) : Type 0 where
  pub callable : (b : Bor Answering) (c : Callee) (vs : List Value) (at : Place) (old : MutBor RunState) → b.now ≡ a → IsTable b.now.expressions.now → pre b calls left c vs at old
  pub gives : (b : Bor Answering) (c : Callee) (vs : List Value) (at : Place) (old new : MutBor RunState) (r : Result Value Halt) → b.now ≡ a
      → post b calls left c vs at old r new → Runs (calls_of a calls c vs at (seen old.now)) r new.now
