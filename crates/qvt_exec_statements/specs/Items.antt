-- What a `forEach` does with the value that its source gave (QVT 1.3, 8.2.2.6 ForExp).
use Rattle.std.specs.Prelude.{ℕ, List, Option, Box}
use Rattle.std.specs.declared.alloc.Global.{Global}
use Rattle.qvt_base.specs.declared.numbers.Place.{Place}
use Rattle.qvt_types_data.specs.declared.ty.Ty.{Ty}
use Rattle.qvt_value.specs.declared.value.Value.{Value}
use Rattle.qvt_run_data.specs.declared.late.LateWrite.{LateWrite}
use Rattle.qvt_run_rules.specs.Sources.{items_of}
use Rattle.qvt_run_rules.specs.State.{Does, ◌>>=◌}
use Rattle.qvt_run_rules.specs.Statements as statement
use Rattle.qvt_types_nodes.specs.declared.tree.TypedExpr.{TypedExpr}
use Rattle.qvt_types_nodes.specs.declared.tree.TypedStmt.{TypedStmt}
use Rattle.qvt_exec_phrases.specs.Means.{Scene, for_each_item}

-- its items are of the type of the variable, and then each has its turn
abbrev pub over_items : Scene → List ℕ → Option Ty → Option (Box TypedExpr Global) → List TypedStmt → Place → Value → Does LateWrite (Unit {0})
over_items x name t c ss at v = statement.asked_items t at (items_of v) >>= statement.each_item (for_each_item x name t c ss)
