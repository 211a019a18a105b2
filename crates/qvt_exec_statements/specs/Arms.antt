-- The arms of an `if`, one after another (QVT 1.3, 8.2.2.8 SwitchExp), and what stands behind a condition alone.
use Rattle.std.specs.Prelude.{Bool, List}
use Rattle.qvt_types_nodes.specs.Tree.{TypedArmTerm, TypedArmOf}
use Rattle.qvt_types_nodes.specs.View.{typed_expr_view}
use Rattle.qvt_types_nodes.specs.declared.tree.TypedExpr.{TypedExpr}
use Rattle.qvt_types_nodes.specs.declared.tree.TypedStmt.{TypedStmt}
use Rattle.qvt_run_data.specs.declared.late.LateWrite.{LateWrite}
use Rattle.qvt_run_rules.specs.State.{Does, pure}
use Rattle.qvt_run_rules.specs.Statements as statement
use Rattle.qvt_exec_resolves.specs.Nodes.{place_of}
use Rattle.qvt_exec_resolves.specs.Phrases.{expr, stmts}
use Rattle.qvt_exec_phrases.specs.Means.{Scene, block_of, expr_of, setting_of}

-- an arm alone: whether its condition was true
abbrev pub arm_turn : Scene → TypedArmTerm → Does LateWrite Bool
arm_turn x (TypedArmOf c ss) = statement.turn (expr (setting_of x) x.1.calls x.0.answer.now c) (place_of c) (statement.block (stmts (setting_of x) x.1.calls x.0.answer.now ss))

-- a block where a condition is true, and nothing where it is not
abbrev pub if_true : Scene → TypedExpr → List TypedStmt → Does LateWrite (Unit {0})
if_true x c ss = statement.branch (expr_of x c) (place_of (typed_expr_view c)) (block_of x ss) (pure tt)
