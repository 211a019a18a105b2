-- The sizes of a tree's parts.
use Rattle.std.proofs.Common.{ℕ, suc, ◌+◌, ◌≤◌, ◌≡◌, List, [], ◌∷◌, length, length-append, arith, Option, Some, None}
use Rattle.qvt_base.specs.declared.numbers.Place.{Place}
use Rattle.qvt_tree_types.specs.Tree.{TypeTerm, ExprTerm, LinkTerm, ItemTerm, RangeTerm, FilterTerm, AccumulatorTerm, StepTerm, StepTerms, StmtTerm, ArmTerm}
use Rattle.qvt_tree_types.specs.Tree.{PrefixExpr, PostExpr, NoSteps, MoreSteps}
use Rattle.qvt_tree_types.specs.View.{exprs_of, links_of, items_of, steps_of, stmts_of, arms_of, optional_expr, optional_args, optional_range, optional_filter, optional_accumulator, optional_else}
use Rattle.qvt_tree_types.specs.Module.{UnitTerm}
use Rattle.qvt_tree_types.specs.declared.types.PathTree.{PathTree}
use Rattle.qvt_tree_types.specs.declared.module.ResultDecl.{ResultDecl}
use Rattle.qvt_tree_types.specs.declared.words.Sign.{Sign}
use Rattle.qvt_language.specs.Trees.{more_steps, stepped, signed, post_of}
use Rattle.qvt_language.specs.StmtTrees.{concat, last_of}
use Rattle.qvt_language.specs.UnitTrees.{paths_or_none, stmts_or_none, units_of}
use Rattle.qvt_parser_nodes.specs.Nodes.{total, one_if, type_nodes, type_nodes_if, expr_nodes, exprs_nodes, optional_nodes, args_nodes, link_nodes, links_nodes, item_nodes, items_nodes, range_nodes, filter_nodes, accumulator_nodes, step_nodes, steps_nodes, stmt_nodes, stmts_nodes, else_nodes, arm_nodes, arms_nodes, unit_nodes}
use Rattle.qvt_parser_nodes.proofs.SizeForms.{two, if_there, total_append}

-- an expression, a type, a step or a link is read from one node's tokens more than it has
abbrev pub typed_size : TypeTerm → ℕ
typed_size t = suc (type_nodes t)

abbrev pub expr_size : ExprTerm → ℕ
expr_size e = suc (expr_nodes e)

abbrev pub step_size : StepTerm → ℕ
step_size s = suc (step_nodes s)

abbrev pub link_size : LinkTerm → ℕ
link_size l = suc (link_nodes l)

abbrev pub stmts_size : List StmtTerm → ℕ
stmts_size ss = total stmt_nodes ss

-- a block has its brackets too
abbrev pub block_size : List StmtTerm → ℕ
block_size ss = suc (suc (stmts_size ss))

pub exprs_le : (es : List ExprTerm) → exprs_nodes (exprs_of es) ≤ total expr_size es
exprs_le [] = omega arith
exprs_le (e ∷ es) = omega (arith, exprs_le es)

pub items_le : (is : List ItemTerm) → items_nodes (items_of is) ≤ total item_nodes is
items_le [] = omega arith
items_le (i ∷ is) = omega (arith, items_le is)

pub stmts_le : (ss : List StmtTerm) → stmts_nodes (stmts_of ss) ≤ stmts_size ss
stmts_le [] = omega arith
stmts_le (s ∷ ss) = omega (arith, stmts_le ss)

pub links_le : (ls : List LinkTerm) → length ls + links_nodes (links_of ls) ≤ total link_size ls
links_le [] = omega arith
links_le (l ∷ ls) = omega (arith, links_le ls)

pub steps_le : (ss : List StepTerm) → length ss + steps_nodes (steps_of ss) ≤ total step_size ss
steps_le [] = omega arith
steps_le (s ∷ ss) = omega (arith, steps_le ss)

pub arms_le : (as_ : List ArmTerm) → arms_nodes (arms_of as_) ≤ total arm_nodes as_
arms_le [] = omega arith
arms_le (a ∷ as_) = omega (arith, arms_le as_)

pub optional_le : (e : Option ExprTerm) → optional_nodes (optional_expr e) ≤ if_there expr_size e
optional_le None = omega arith
optional_le (Some e) = omega arith

pub type_le : (t : Option TypeTerm) → type_nodes_if t ≤ if_there typed_size t
type_le None = omega arith
type_le (Some t) = omega arith

pub range_le : (r : Option RangeTerm) → range_nodes (optional_range r) ≤ if_there range_nodes r
range_le None = omega arith
range_le (Some r) = omega arith

pub filter_le : (f : Option FilterTerm) → filter_nodes (optional_filter f) ≤ if_there filter_nodes f
filter_le None = omega arith
filter_le (Some f) = omega arith

pub args_le : (es : Option (List ExprTerm)) → args_nodes (optional_args es) ≤ if_there (total expr_size) es
args_le None = omega arith
args_le (Some es) = omega (arith, exprs_le es)

pub accumulator_le : (a : Option AccumulatorTerm) → accumulator_nodes (optional_accumulator a) ≤ if_there accumulator_nodes a
accumulator_le None = omega arith
accumulator_le (Some a) = omega arith

pub else_le : (ss : Option (List StmtTerm)) → else_nodes (optional_else ss) ≤ if_there block_size ss
else_le None = omega arith
else_le (Some ss) = omega (arith, stmts_le ss)

pub paths_le : (ps : Option (List PathTree)) → length (paths_or_none ps) ≤ if_there length ps
paths_le None = omega arith
paths_le (Some ps) = omega arith

pub optional_stmts_le : (ss : Option (List StmtTerm)) → stmts_size (stmts_or_none ss) ≤ if_there block_size ss
optional_stmts_le None = omega arith
optional_stmts_le (Some ss) = omega arith

pub result_le : (r : Option ResultDecl) → one_if r + one_if r ≤ if_there two r
result_le None = omega arith
result_le (Some r) = omega arith

pub more_le : (old : StepTerms) (ss : List StepTerm) → steps_nodes (more_steps old ss) ≤ steps_nodes old + steps_nodes (steps_of ss)
more_le NoSteps ss = omega arith
more_le (MoreSteps s old) ss = omega (arith, more_le old ss)

pub stepped_le : (place : Place) (e : ExprTerm) (ss : List StepTerm) → expr_nodes (stepped place e ss) ≤ suc (expr_nodes e + steps_nodes (steps_of ss))
stepped_le place (PostExpr e old p) ss = omega (arith, more_le old ss)
stepped_le place e ss = omega arith

pub post_le : (place : Place) (e : ExprTerm) (ss : List StepTerm) → expr_size (post_of place e ss) ≤ expr_size e + total step_size ss
post_le place e [] = omega arith
post_le place e (s ∷ ss) = omega (arith, stepped_le place e (s ∷ ss), steps_le ss)

pub signed_le : (place : Place) (ss : List Sign) (e : ExprTerm) → expr_nodes (signed place ss e) ≤ suc (length ss + expr_nodes e)
signed_le place ss (PrefixExpr old e p) = omega (arith, length-append ss old)
signed_le place ss e = omega arith

pub twice_length : {A : Type 0} (as_ : List A) → total two as_ ≡ length as_ + length as_
twice_length [] = omega arith
twice_length (a ∷ as_) = omega (arith, twice_length as_)

pub concat_le : (sss : List (List StmtTerm)) → stmts_size (concat sss) ≤ total stmts_size sss
concat_le [] = omega arith
concat_le (ss ∷ sss) = omega (arith, total_append stmt_nodes ss (concat sss), concat_le sss)

pub last_le : (s : Option StmtTerm) → stmts_size (last_of s) ≤ if_there stmt_nodes s
last_le None = omega arith
last_le (Some s) = omega arith

pub units_le : (uss : List (List UnitTerm)) → total unit_nodes (units_of uss) ≤ total (total unit_nodes) uss
units_le [] = omega arith
units_le (us ∷ uss) = omega (arith, total_append unit_nodes us (units_of uss), units_le uss)
