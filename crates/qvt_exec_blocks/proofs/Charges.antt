-- A statement is its unit, and then what it does.
use Rattle.std.proofs.Common.{◌≡◌, refl}
use Rattle.qvt_run_rules.specs.Cost.{spend_of}
use Rattle.qvt_run_rules.specs.State.{◌>>◌}
use Rattle.qvt_run_rules.specs.Statements as rule
use Rattle.qvt_types_nodes.specs.Tree.{TypedStmtTerm, TypedVarStmt, TypedAssignStmt, TypedReturnStmt, TypedValueStmt, TypedIfStmt, TypedWhileStmt, TypedForEachStmt}
use Rattle.qvt_types_nodes.specs.View.{typed_stmt_view}
use Rattle.qvt_types_nodes.specs.declared.tree.TypedStmt.{TypedStmt}
use Rattle.qvt_exec_resolves.specs.Phrases as phrase
use Rattle.qvt_exec_phrases.specs.Means.{Scene, does_of, setting_of, stmt_of}

unit_of : (x : Scene) (t : TypedStmtTerm) → phrase.stmt (setting_of x) x.1.calls x.0.answer.now t ≡ (spend_of x.0.limit 1 >> does_of x t)
unfolding phrase.stmt rule.statement
unit_of x (TypedVarStmt name t v at n) = refl
unit_of x (TypedAssignStmt t adds v at n) = refl
unit_of x (TypedReturnStmt v at n) = refl
unit_of x (TypedValueStmt e at n) = refl
unit_of x (TypedIfStmt c ss more other at n) = refl
unit_of x (TypedWhileStmt c ss at n) = refl
unit_of x (TypedForEachStmt e name t c ss at n) = refl

pub unit_first : (x : Scene) (s : TypedStmt) → stmt_of x s ≡ (spend_of x.0.limit 1 >> does_of x (typed_stmt_view s))
unfolding stmt_of
unit_first x s = unit_of x (typed_stmt_view s)
