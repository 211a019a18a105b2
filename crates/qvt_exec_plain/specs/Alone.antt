-- Phrases that stand alone: no unit is behind their calls, and no trace behind their resolves.
use Rattle.std.specs.Prelude.{◌≡◌, ℕ, List, Result}
use denote.Ref.{Bor, MutBor}
use Rattle.qvt_value.specs.declared.value.Value.{Value}
use Rattle.qvt_types_nodes.specs.declared.tree.TypedExpr.{TypedExpr}
use Rattle.qvt_types_nodes.specs.declared.tree.TypedStmt.{TypedStmt}
use Rattle.qvt_program_exprs.specs.Program.{program_view}
use Rattle.qvt_program_exprs.specs.declared.program.Program.{Program}
use Rattle.qvt_exec_exprs.specs.Accepts.{ProgramTerm}
use Rattle.qvt_run_data.specs.declared.exit.Halt.{Halt}
use Rattle.qvt_exec_exprs.specs.Plain.{no_calls, no_resolve}
use Rattle.qvt_exec_exprs.specs.Units.{UnitMeanings}
use Rattle.qvt_exec_exprs.specs.Means.{block_of, expr_of}
use Rattle.qvt_exec_exprs.specs.declared.engine.Engine.{Engine}
use Rattle.qvt_exec_state.specs.Runs.{Runs, seen}
use Rattle.qvt_exec_state.specs.declared.state.RunState.{RunState}

abbrev pub alone_in : ProgramTerm → UnitMeanings
alone_in p = record { program = p; calls = no_calls; resolves = no_resolve }

-- a function gives what expressions give, where so many phrases are left
pub record GivesExprAlone (p : Program) (left : ℕ) (pre : Bor Program → ℕ → Bor Engine → Bor TypedExpr → MutBor RunState → Type 0)
    (post : Bor Program → ℕ → Bor Engine → Bor TypedExpr → MutBor RunState → Result Value Halt → MutBor RunState → Type 0) : Type 0 where
  pub callable : (b : Bor Program) (x : Bor Engine) (e : Bor TypedExpr) (old : MutBor RunState) → b.now ≡ p → pre b left x e old
  pub gives : (b : Bor Program) (x : Bor Engine) (e : Bor TypedExpr) (old new : MutBor RunState) (r : Result Value Halt) → b.now ≡ p
      → post b left x e old r new → Runs (expr_of (x.now, alone_in (program_view p)) e.now (seen old.now)) r new.now

-- a function does what blocks do, where so many phrases are left
pub record GivesBlockAlone (p : Program) (left : ℕ) (pre : Bor Program → ℕ → Bor Engine → Bor (List TypedStmt) → MutBor RunState → Type 0)
    (post : Bor Program → ℕ → Bor Engine → Bor (List TypedStmt) → MutBor RunState → Result (Unit {0}) Halt → MutBor RunState → Type 0) : Type 0 where
  pub callable : (b : Bor Program) (x : Bor Engine) (ss : Bor (List TypedStmt)) (old : MutBor RunState) → b.now ≡ p → pre b left x ss old
  pub gives : (b : Bor Program) (x : Bor Engine) (ss : Bor (List TypedStmt)) (old new : MutBor RunState) (r : Result (Unit {0}) Halt) → b.now ≡ p
      → post b left x ss old r new → Runs (block_of (x.now, alone_in (program_view p)) ss.now (seen old.now)) r new.now
