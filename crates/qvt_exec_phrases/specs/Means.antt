-- What the phrases of a program mean.
use Rattle.std.specs.Prelude.{ℕ, Bool, true, false, List, [], ◌∷◌, ◌++◌, map, option_map, Option, Some, None, Box}
use Rattle.std.specs.declared.alloc.Global.{Global}
use Rattle.qvt_base.specs.declared.numbers.Place.{Place}
use Rattle.qvt_value.specs.declared.value.Value.{Value}
use Rattle.qvt_run_data.specs.declared.late.LateWrite.{LateWrite}
use Rattle.qvt_run_rules.specs.State.{Does, ◌>>=◌, ◌>>◌, turn_to}
use Rattle.qvt_run_rules.specs.Typed.{valid}
use Rattle.qvt_run_rules.specs.Expressions as rule
use Rattle.qvt_run_rules.specs.Statements as statement
use Rattle.qvt_types_data.specs.declared.ty.Ty.{Ty}
use Rattle.qvt_types_nodes.specs.Tree.{TypedStepTerms, TypedStmtTerm, TypedVarStmt, TypedAssignStmt, TypedReturnStmt, TypedValueStmt, TypedIfStmt, TypedWhileStmt, TypedForEachStmt}
use Rattle.qvt_types_nodes.specs.declared.tree.TypedArm.{TypedArm}
use Rattle.qvt_types_nodes.specs.declared.tree.TypedExpr.{TypedExpr}
use Rattle.qvt_types_nodes.specs.declared.tree.TypedHead.{TypedHead}
use Rattle.qvt_types_nodes.specs.declared.tree.TypedItem.{TypedItem}
use Rattle.qvt_types_nodes.specs.declared.tree.TypedLink.{TypedLink}
use Rattle.qvt_types_nodes.specs.declared.tree.TypedMapCall.{TypedMapCall}
use Rattle.qvt_types_nodes.specs.declared.tree.TypedStep.{TypedStep}
use Rattle.qvt_types_nodes.specs.declared.tree.TypedStmt.{TypedStmt}
use Rattle.qvt_types_nodes.specs.declared.tree.TypedTarget.{TypedTarget}
use Rattle.qvt_types_nodes.specs.View.{typed_arm_view, typed_arms_of, typed_boxed_view, typed_expr_view, typed_exprs_of, typed_item_view, typed_items_of, typed_link_view, typed_links_of, typed_map_view, typed_optional_else, typed_optional_expr, typed_step_view, typed_steps_of, typed_stmt_view, typed_stmts_of, typed_target_view, typed_head_view, typed_optional_head}
use Rattle.qvt_program_units.specs.Accepts.{ProgramTerm}
use Rattle.qvt_program_units.specs.Nodes.{late_of, optional_place, place_of, type_of}
use Rattle.qvt_program_units.specs.Phrases.{arm, arms, each_type, expr, exprs, guarded, head, item, items, late_source, link, links, map_alone, map_step, optional, otherwise, return_, step, steps, stmt, stmts, target, variable_type}
use Rattle.qvt_run_rules.specs.Cost.{spend_of}
use Rattle.qvt_program_units.specs.Plain.{no_entry, nothing_beyond}
use Rattle.qvt_program_units.specs.Readings as by
use Rattle.qvt_program_units.specs.Readings.{Setting, HeadDoes, TargetDoes}
use Rattle.qvt_exec_phrases.specs.Units.{UnitMeanings}
use Rattle.qvt_exec_phrases.specs.declared.engine.Engine.{Engine}

-- what the interpreter reads, and the units that stand behind calls
abbrev pub Scene : Type 0
Scene = Engine × UnitMeanings

abbrev pub program_of : Scene → ProgramTerm
program_of x = x.1.program

-- a loop of a run has at most as many turns as units of fuel
abbrev pub turns_of : Option ℕ → ℕ
turns_of None = 0
turns_of (Some fuel) = fuel

-- what becomes of a phrase that no plain expression has
abbrev pub barred_in : Bool → Place → Does LateWrite Value → Does LateWrite Value
barred_in true = nothing_beyond
barred_in false = λ at p. p

-- what a late assignment does with what it keeps
abbrev pub enters_in : Bool → LateWrite → Does LateWrite (Unit {0})
enters_in true = no_entry
enters_in false = λ w. turn_to (λ s. record s { entries = s.entries ++ w ∷ [] })

abbrev pub setting_of : Scene → Setting LateWrite
setting_of x = record { program = program_of x; spend = spend_of x.0.limit; turns = turns_of x.0.limit; resolve = x.1.resolves; enter = enters_in x.0.is_plain; beyond = barred_in x.0.is_plain }

unfoldable pub expr_of : Scene → TypedExpr → Does LateWrite Value
expr_of x e = expr (setting_of x) x.1.calls x.0.answer.now (typed_expr_view e)

unfoldable pub exprs_of : Scene → List TypedExpr → List (Does LateWrite Value)
exprs_of x es = exprs (setting_of x) x.1.calls x.0.answer.now (typed_exprs_of (map typed_expr_view es))

unfoldable pub link_of : Scene → TypedLink → Value → Does LateWrite Value
link_of x l = link (setting_of x) x.1.calls x.0.answer.now (typed_link_view l)

unfoldable pub links_of : Scene → List TypedLink → List (Value → Does LateWrite Value)
links_of x ls = links (setting_of x) x.1.calls x.0.answer.now (typed_links_of (map typed_link_view ls))

unfoldable pub item_of : Scene → TypedItem → Does LateWrite (List Value)
item_of x i = item (setting_of x) x.1.calls x.0.answer.now (typed_item_view i)

unfoldable pub items_of : Scene → List TypedItem → List (Does LateWrite (List Value))
items_of x is = items (setting_of x) x.1.calls x.0.answer.now (typed_items_of (map typed_item_view is))

unfoldable pub head_of : Scene → Option TypedHead → HeadDoes LateWrite
head_of x h = head (setting_of x) x.1.calls x.0.answer.now (typed_optional_head (option_map typed_head_view h))

abbrev pub all_steps : List TypedStep → TypedStepTerms
all_steps ss = typed_steps_of (map typed_step_view ss)

unfoldable pub step_of : Scene → Option Ty → TypedStep → Value → Does LateWrite Value
step_of x o s = step (setting_of x) x.1.calls x.0.answer.now o (typed_step_view s)

unfoldable pub steps_of : Scene → Option Ty → List TypedStep → List (Value → Does LateWrite Value)
steps_of x o ss = steps (setting_of x) x.1.calls x.0.answer.now o (all_steps ss)

-- Statements.

unfoldable pub stmt_of : Scene → TypedStmt → Does LateWrite (Unit {0})
stmt_of x s = stmt (setting_of x) x.1.calls x.0.answer.now (typed_stmt_view s)

unfoldable pub stmts_of : Scene → List TypedStmt → List (Does LateWrite (Unit {0}))
stmts_of x ss = stmts (setting_of x) x.1.calls x.0.answer.now (typed_stmts_of (map typed_stmt_view ss))

abbrev pub block_of : Scene → List TypedStmt → Does LateWrite (Unit {0})
block_of x ss = statement.block (stmts_of x ss)

unfoldable pub arm_of : Scene → TypedArm → Does LateWrite (Unit {0}) → Does LateWrite (Unit {0})
arm_of x a other = arm (setting_of x) x.1.calls x.0.answer.now (typed_arm_view a) other

unfoldable pub arms_of : Scene → List TypedArm → Does LateWrite (Unit {0}) → Does LateWrite (Unit {0})
arms_of x arms_there other = arms (setting_of x) x.1.calls x.0.answer.now (typed_arms_of (map typed_arm_view arms_there)) other

unfoldable pub otherwise_of : Scene → Option (List TypedStmt) → Does LateWrite (Unit {0})
otherwise_of x o = otherwise (setting_of x) x.1.calls x.0.answer.now (typed_optional_else (option_map (map typed_stmt_view) o))

unfoldable pub optional_of : Scene → Option TypedExpr → Does LateWrite Value
optional_of x o = optional (setting_of x) x.1.calls x.0.answer.now (typed_optional_expr (option_map typed_expr_view o))

unfoldable pub return_of : Scene → Option TypedExpr → Does LateWrite (Unit {0})
return_of x o = return_ (setting_of x) x.1.calls x.0.answer.now (typed_optional_expr (option_map typed_expr_view o))

unfoldable pub guarded_of : Scene → Option (Box TypedExpr Global) → Does LateWrite (Unit {0}) → Does LateWrite (Unit {0})
guarded_of x o body = guarded (setting_of x) x.1.calls x.0.answer.now (typed_boxed_view o) body

unfoldable pub target_of : Scene → TypedTarget → TargetDoes LateWrite
target_of x t = target (setting_of x) x.1.calls x.0.answer.now (typed_target_view t)

-- what a statement does behind its unit
abbrev pub does_of : Scene → TypedStmtTerm → Does LateWrite (Unit {0})
does_of x (TypedVarStmt name t v at n) = statement.declare name (variable_type t v) (optional (setting_of x) x.1.calls x.0.answer.now v) (optional_place at v)
does_of x (TypedAssignStmt t adds v at n) = by.assigned (setting_of x) (late_of v) (target (setting_of x) x.1.calls x.0.answer.now t) adds (type_of v) (expr (setting_of x) x.1.calls x.0.answer.now v) (late_source (setting_of x) x.1.calls x.0.answer.now v) at
does_of x (TypedReturnStmt v at n) = return_ (setting_of x) x.1.calls x.0.answer.now v
does_of x (TypedValueStmt e at n) = statement.discard (expr (setting_of x) x.1.calls x.0.answer.now e)
does_of x (TypedIfStmt c ss more other at n) = statement.branch (expr (setting_of x) x.1.calls x.0.answer.now c) (place_of c) (statement.block (stmts (setting_of x) x.1.calls x.0.answer.now ss)) (arms (setting_of x) x.1.calls x.0.answer.now more (otherwise (setting_of x) x.1.calls x.0.answer.now other))
does_of x (TypedWhileStmt c ss at n) = statement.loop (turns_of x.0.limit) (expr (setting_of x) x.1.calls x.0.answer.now c) (place_of c) (statement.block (stmts (setting_of x) x.1.calls x.0.answer.now ss))
does_of x (TypedForEachStmt e name t c ss at n) = statement.for_each (expr (setting_of x) x.1.calls x.0.answer.now e) (place_of e) name (each_type t e) (guarded (setting_of x) x.1.calls x.0.answer.now c (statement.block (stmts (setting_of x) x.1.calls x.0.answer.now ss)))

-- a condition at the place of its expression
abbrev pub holds_of : Scene → TypedExpr → Does LateWrite Bool
holds_of x c = statement.holds (expr_of x c) (place_of (typed_expr_view c))

-- a value that is not invalid
abbrev pub valid_of : Scene → TypedExpr → Does LateWrite Value
valid_of x e = expr_of x e >>= valid

-- what stands before the late resolve that ends an expression
unfoldable pub late_source_of : Scene → TypedExpr → Does LateWrite (Option Value)
late_source_of x e = late_source (setting_of x) x.1.calls x.0.answer.now (typed_expr_view e)

unfoldable pub map_alone_of : Scene → TypedMapCall → Does LateWrite Value
map_alone_of x m = map_alone (setting_of x) x.1.calls x.0.answer.now (typed_map_view m)

unfoldable pub map_step_of : Scene → Bool → TypedMapCall → Value → Does LateWrite Value
map_step_of x all m = map_step (setting_of x) x.1.calls x.0.answer.now all (typed_map_view m)

-- a turn of a `forEach`
abbrev pub for_each_item : Scene → List ℕ → Option Ty → Option (Box TypedExpr Global) → List TypedStmt → Value → Does LateWrite (Unit {0})
for_each_item x name t c ss v = statement.for_item name t (guarded_of x c (block_of x ss)) v
