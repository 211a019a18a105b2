-- What clauses see of the values on the way to the tree.
use Rattle.std.specs.Prelude.{ℕ, Bool, Box, List, map, Option, None, ◌⊎◌}
use Rattle.std.specs.declared.alloc.Global.{Global}
use Rattle.std.proofs.Common.{inl, inr}
use Rattle.qvt_tree_types.specs.Tree.{TypeTerm, ExprTerm, HeadTerm, ItemTerm, LinkTerm, StepTerm, FilterTerm, AccumulatorTerm, StmtTerm}
use Rattle.qvt_tree_types.specs.View.{type_view, optional_type, optional_expr, expr_view, item_view, link_view, step_view, filter_view, accumulator_view, head_view, optional_head, stmt_view}
use Rattle.qvt_tree_types.specs.declared.types.TypeTree.{TypeTree}
use Rattle.qvt_tree_types.specs.declared.tree.Expr.{Expr}
use Rattle.qvt_tree_types.specs.declared.tree.Item.{Item}
use Rattle.qvt_tree_types.specs.declared.tree.Link.{Link}
use Rattle.qvt_tree_types.specs.declared.tree.Step.{Step}
use Rattle.qvt_tree_types.specs.declared.tree.Stmt.{Stmt}
use Rattle.qvt_tree_types.specs.declared.tree.Filter.{Filter}
use Rattle.qvt_tree_types.specs.declared.tree.Head.{Head}
use Rattle.qvt_tree_types.specs.declared.tree.Accumulator.{Accumulator}
use Rattle.qvt_tree_types.specs.declared.types.PathTree.{PathTree}
use Rattle.qvt_tree_types.specs.declared.words.ResolveWord.{ResolveWord}
use Rattle.qvt_parser_exprs.specs.declared.leading.LeadStep.{LeadStep}
use Rattle.qvt_parser_exprs.specs.declared.leading.LeadStep.TheVariants.{Step as OneStep, Each as EachStep}
use Rattle.qvt_parser_exprs.specs.declared.leading.First.{First}
use Rattle.qvt_parser_exprs.specs.declared.leading.Leading.{Leading}
use Rattle.qvt_parser_exprs.specs.declared.leading.Leading.TheVariants.{Bare, Post, Bracketed as InBrackets, Done, Each as EachLead}
use Rattle.qvt_parser_exprs.specs.declared.leading.EachTail.{EachTail}
use Rattle.qvt_parser_grammar.specs.Options.{option_view}
use Rattle.qvt_language.specs.Leads.{Lead, Plain, Bracketed, Each, EachPart}
use Rattle.qvt_language.specs.Trees.{bare_target, post_of, member_target}

abbrev pub exprs_view : List Expr → List ExprTerm
exprs_view = map expr_view

abbrev pub items_view : List Item → List ItemTerm
items_view = map item_view

abbrev pub links_view : List Link → List LinkTerm
links_view = map link_view

abbrev pub steps_view : List Step → List StepTerm
steps_view = map step_view

abbrev pub stmts_view : List Stmt → List StmtTerm
stmts_view = map stmt_view

abbrev pub boxed_view : Box Expr Global → ExprTerm
boxed_view b = expr_view b.value

abbrev pub first_view : First → ExprTerm × Bool
first_view f = (boxed_view f.expr, f.bare)

abbrev pub each_view : EachTail → EachPart
each_view e = record { name = e.name; kind = optional_type e.kind; condition = optional_expr (option_view expr_view e.condition); body = stmts_view e.body }

abbrev pub held_each_view : Box EachTail Global → EachPart
held_each_view e = each_view e.value

abbrev pub lead_view : Leading → Lead
lead_view (Bare e) = Plain (boxed_view e) (bare_target (boxed_view e))
lead_view (Post first steps place) = Plain (post_of place (boxed_view first) (steps_view steps)) (member_target place (boxed_view first) (steps_view steps))
lead_view (InBrackets e) = Bracketed (boxed_view e)
lead_view (Done e) = Plain (boxed_view e) None
lead_view (EachLead source part) = Each (boxed_view source) (held_each_view part)

abbrev pub filter_head_view : Option (List ℕ) × TypeTree → Option (List ℕ) × TypeTerm
filter_head_view (name, kind) = (name, type_view kind)

abbrev pub form_view : ResolveWord × (Option PathTree × Option Filter) → ResolveWord × (Option PathTree × Option FilterTerm)
form_view (word, (path, filter)) = (word, (path, option_view filter_view filter))

abbrev pub head_rest_view : Option TypeTree × (Option Accumulator × Box Expr Global) → Option TypeTerm × (Option AccumulatorTerm × ExprTerm)
head_rest_view (kind, (accumulator, body)) = (optional_type kind, (option_view accumulator_view accumulator, boxed_view body))

abbrev pub arrow_args_view : Option Head × List Expr → HeadTerm × List ExprTerm
arrow_args_view (head, args) = (optional_head (option_view head_view head), exprs_view args)

abbrev pub lead_step_view : LeadStep → StepTerm ⊎ EachPart
lead_step_view (OneStep s) = inl (step_view s)
lead_step_view (EachStep part) = inr (held_each_view part)

abbrev pub lead_steps_view : List Step × Option (Box EachTail Global) → List StepTerm × Option EachPart
lead_steps_view (steps, part) = (steps_view steps, option_view held_each_view part)
