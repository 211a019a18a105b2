-- The size of each kind of value, and of what the rows make of their parts.
use Rattle.std.proofs.Common.{ℕ, suc, ◌+◌, ◌≤◌, List, [], ◌∷◌, length, arith, Option, Some, None, ◌⊎◌, inl, inr}
use Rattle.qvt_base.specs.declared.numbers.Place.{Place}
use Rattle.qvt_tree_types.specs.Tree.{ExprTerm, HeadTerm, LinkTerm, StmtTerm}
use Rattle.qvt_tree_types.specs.declared.types.PathTree.{PathTree}
use Rattle.qvt_tree_types.specs.declared.words.Sign.{Sign}
use Rattle.qvt_tree_types.specs.declared.words.Level.{Level}
use Rattle.qvt_language.specs.declared.class.Class.TheVariants.{Str}
use Rattle.qvt_language.specs.Leads.{EachPart}
use Rattle.qvt_language.specs.StmtTrees.{last_of}
use Rattle.qvt_language.specs.UnitTrees.{ClauseTree, ClausesTree, InheritsClause, MergesClause, DisjunctsClause, WhenClause, with_clause, no_clauses, BodyTree}
use Rattle.qvt_language_rows.specs.Values.{signed_of, chained, or_no_args, with_clauses, open_sections}
use Rattle.qvt_language_rows.proofs.Every.{Said, Makers}
use Rattle.qvt_parser_nodes.specs.Nodes.{total, one_if, type_nodes_if, optional_nodes, range_nodes, item_nodes, map_nodes, resolve_nodes, filter_nodes, head_nodes, accumulator_nodes, target_nodes, stmt_nodes, arm_nodes, typed_nodes, unit_nodes, nodes}
use Rattle.qvt_parser_nodes.proofs.SizeForms.{Size, two, uncounted, sum, if_there, token_of, many_of, forms, length_total, total_append}
use Rattle.qvt_parser_nodes.proofs.SizeParts.{typed_size, expr_size, step_size, link_size, stmts_size, block_size, exprs_le, items_le, stmts_le, links_le, arms_le, optional_le, type_le, range_le, filter_le, args_le, accumulator_le, else_le, paths_le, optional_stmts_le, result_le, post_le, signed_le, twice_length, concat_le, last_le, units_le}

abbrev part_size : EachPart → ℕ
part_size p = type_nodes_if p.kind + (optional_nodes p.condition + stmts_size p.body)

abbrev args_size : HeadTerm × List ExprTerm → ℕ
args_size a = head_nodes a.0 + total expr_size a.1

abbrev ending_size : Option StmtTerm ⊎ List StmtTerm → ℕ
ending_size (inl last) = if_there stmt_nodes last
ending_size (inr finish) = stmts_size finish

abbrev sections_size : List StmtTerm × List StmtTerm → ℕ
sections_size = sum stmts_size stmts_size

abbrev body_size : BodyTree → ℕ
body_size b = stmts_size b.init + (stmts_size b.population + stmts_size b.finish)

abbrev clause_size : ClauseTree → ℕ
clause_size (InheritsClause paths) = length paths
clause_size (MergesClause paths) = length paths
clause_size (DisjunctsClause paths) = length paths
clause_size (WhenClause e) = expr_size e

abbrev clauses_size : ClausesTree → ℕ
clauses_size x = if_there length x.inherits + (if_there length x.merges + (if_there length x.disjuncts + if_there expr_size x.condition))

abbrev said : Said Size
said = record {
  named = two;
  name = uncounted;
  string = uncounted;
  uri = uncounted;
  source = uncounted;
  path = two;
  kind = typed_size;
  expr = expr_size;
  range = range_nodes;
  item = item_nodes;
  filter = filter_nodes;
  form = λ x. suc (suc (one_if x.1.0 + if_there filter_nodes x.1.1));
  resolve = λ r. suc (resolve_nodes r);
  accumulator = accumulator_nodes;
  map = λ c. suc (map_nodes c);
  args = args_size;
  step = step_size;
  dot = step_size;
  arrow = step_size;
  dot_call = step_size;
  arrow_call = step_size;
  variable = λ v. 1;
  sign = two;
  link = link_size;
  target = target_nodes;
  stmt = stmt_nodes;
  compound = stmt_nodes;
  items = stmts_size;
  inside = stmts_size;
  block = block_size;
  turn = stmts_size;
  helper_body = stmts_size;
  arm = arm_nodes;
  each = part_size;
  unit_path = two;
  typed = typed_nodes;
  feature = typed_nodes;
  result = two;
  guard_end = uncounted;
  guard = expr_size;
  clause = clause_size;
  clauses = clauses_size;
  ending = ending_size;
  sections = sections_size;
  body = body_size;
  unit = unit_nodes;
  turn_units = total unit_nodes;
  model_type = two;
  model_param = two;
  model_params = total two;
  whole = nodes;
}

args_or_none : (a : Option (HeadTerm × List ExprTerm)) → args_size (or_no_args a) ≤ if_there args_size a
args_or_none None = omega arith
args_or_none (Some a) = omega arith

variable_le : {A : Type 0} (v : Option A) → one_if v ≤ if_there (λ x. 1) v
variable_le None = omega arith
variable_le (Some v) = omega arith

signs_le : (a : Place × (List Sign × ExprTerm)) → expr_size (signed_of a) ≤ total two a.1.0 + expr_size a.1.1
signs_le (place, ([], e)) = omega arith
signs_le (place, ((s ∷ ss), e)) = omega (arith, signed_le place (s ∷ ss) e, twice_length (s ∷ ss))

chain_le : (level : Level) (a : Place × (ExprTerm × List LinkTerm)) → expr_size (chained level a) ≤ expr_size a.1.0 + total link_size a.1.1
chain_le level (place, (e, [])) = omega arith
chain_le level (place, (e, (l ∷ ls))) = omega (arith, links_le ls)

paths_if_le : (ps : Option (List PathTree)) → if_there length ps ≤ if_there (total two) ps
paths_if_le None = omega arith
paths_if_le (Some ps) = omega (arith, twice_length ps)

with_le : (x : ClausesTree) (c : ClauseTree) → clauses_size (with_clause x c) ≤ clauses_size x + clause_size c
with_le x (InheritsClause paths) = omega arith
with_le x (MergesClause paths) = omega arith
with_le x (DisjunctsClause paths) = omega arith
with_le x (WhenClause e) = omega arith

clauses_le : (x : ClausesTree) (cs : List ClauseTree) → clauses_size (with_clauses x cs) ≤ clauses_size x + total clause_size cs
clauses_le x [] = omega arith
clauses_le x (c ∷ cs) = omega (arith, clauses_le (with_clause x c) cs, with_le x c)

sections_le : (a : List StmtTerm × (Option StmtTerm ⊎ List StmtTerm)) → sections_size (open_sections a) ≤ stmts_size a.0 + ending_size a.1
sections_le (all, (inl last)) = omega (arith, total_append stmt_nodes all (last_of last), last_le last)
sections_le (all, (inr finish)) = omega arith

pub makers : Makers forms said
unfolding nodes
makers = record {
  named_of = λ t. omega arith;
  name_of = λ t. omega arith;
  string_of = λ t. omega arith;
  path_of = λ a. omega arith;
  unit_path_of = λ a. omega arith;
  coll_type_of = λ a. omega arith;
  path_type = λ a. omega arith;
  range_of = λ a. omega arith;
  item_of = λ a. omega (arith, range_le a.1.1);
  filter_of = λ a. omega (arith, optional_le a.1.1.1);
  all_of = λ a. omega arith;
  in_of = λ a. omega arith;
  resolve_of = λ a. omega (arith, filter_le a.1.1.1.1);
  accumulator_of = λ a. omega arith;
  map_of = λ a. omega (arith, exprs_le a.1.1);
  dot_of = λ a. omega (arith, args_le a.1);
  headed_body = λ a. omega (arith, type_le a.0.1.0, accumulator_le a.0.1.1);
  without_head = λ a. omega arith;
  or_no_args = args_or_none;
  arrow_of = λ a. omega (arith, exprs_le a.1.1);
  dot_map = λ a. omega arith;
  dot_resolve = λ a. omega arith;
  arrow_map = λ a. omega arith;
  arrow_resolve = λ a. omega arith;
  after_dot = λ a. omega arith;
  after_arrow = λ a. omega arith;
  call_after_dot = λ a. omega arith;
  call_after_arrow = λ a. omega arith;
  int_of = λ t. omega arith;
  str_of = λ t. omega arith;
  true_of = λ t. omega arith;
  false_of = λ t. omega arith;
  null_of = λ t. omega arith;
  self_of = λ t. omega arith;
  result_of = λ t. omega arith;
  path_expr = λ a. omega arith;
  call_of = λ a. omega (arith, exprs_le a.1);
  coll_of = λ a. omega (arith, items_le a.1);
  if_of = λ a. omega arith;
  named_var = λ a. omega arith;
  result_var = λ a. omega arith;
  object_of = λ a. omega (arith, variable_le a.1.0, stmts_le a.1.1.1.1);
  new_of = λ a. omega (arith, exprs_le a.1.1.1);
  map_expr = λ a. omega arith;
  resolve_expr = λ a. omega arith;
  brackets = λ a. omega arith;
  stepped_of = λ a. post_le a.0 a.1.0 a.1.1;
  not_of = λ t. omega arith;
  minus_of = λ t. omega arith;
  signed_of = signs_le;
  linked = λ level a. omega arith;
  chained = chain_le;
  named_target = λ a. omega arith;
  result_target = λ a. omega arith;
  feature_target = λ a. omega arith;
  var_of = λ a. omega (arith, type_le a.1.1.1.0, optional_le a.1.1.1.1);
  assign_of = λ a. omega arith;
  return_of = λ a. omega (arith, optional_le a.1.1);
  value_of = λ a. omega arith;
  arm_of = λ a. omega (arith, stmts_le a.1.1.1);
  block_form_of = λ a. omega (arith, stmts_le a.1.1.1.1.0, arms_le a.1.1.1.1.1.0, else_le a.1.1.1.1.1.1.0);
  while_of = λ a. omega (arith, stmts_le a.1.1.1);
  each_of = λ a. omega (arith, type_le a.1.1.1.0, optional_le a.1.1.1.1.0);
  loop_of = λ a. omega (arith, stmts_le a.1.1.body);
  no_stmts = λ a. omega arith;
  simple_turn = λ a. omega arith;
  compound_turn = λ a. omega arith;
  concat = concat_le;
  with_last = λ a. omega (arith, total_append stmt_nodes a.0 (last_of a.1), last_le a.1);
  braces = λ a. omega arith;
  param_of = λ a. omega arith;
  typed_name_of = λ a. omega arith;
  class_of = λ a. omega (arith, paths_le a.1.1.0, paths_if_le a.1.1.0);
  main_of = λ a. omega (arith, stmts_le a.1);
  return_body = λ a. omega arith;
  block_body = λ a. omega arith;
  helper_of = λ a. omega (arith, type_le a.1.1.1.0, stmts_le a.1.1.1.1);
  constructor_of = λ a. omega (arith, stmts_le a.1.1);
  result_decl_of = λ a. omega arith;
  inherits = λ a. omega (arith, twice_length a);
  merges = λ a. omega (arith, twice_length a);
  disjuncts = λ a. omega (arith, twice_length a);
  guard_end = λ a. omega arith;
  guard = λ a. omega arith;
  condition = λ a. omega arith;
  clauses_of = λ a. omega (arith, clauses_le no_clauses a);
  sections_of = λ a. omega (arith, optional_stmts_le a.1);
  ends_in_simple = λ a. omega arith;
  ends_in_block = λ a. omega arith;
  open_sections = sections_le;
  empty_body = λ a. omega arith;
  body_of = λ a. omega (arith, optional_stmts_le a.1.0);
  mapping_of = λ a. omega (arith, result_le a.1.1.0, paths_le a.1.1.1.0.inherits, paths_le a.1.1.1.0.merges, paths_le a.1.1.1.0.disjuncts, optional_le a.1.1.1.0.condition, stmts_le a.1.1.1.1.init, stmts_le a.1.1.1.1.population, stmts_le a.1.1.1.1.finish);
  some_unit = λ a. omega arith;
  no_units = λ a. omega arith;
  uri_text = λ a. omega arith;
  uri_named = λ a. omega arith;
  source = λ a. omega arith;
  model_type_of = λ a. omega arith;
  model_param_of = λ a. omega arith;
  model_params = λ a. omega arith;
  module_of = λ a. omega (arith, length_total {s = two} (λ p. omega arith) a.0, length_total {s = two} (λ p. omega arith) a.1.0.1, units_le a.1.1);
  strict = record { all = λ ts a rd. (let k = token_of (Str ∷ []) in k.all ts a rd.0) };
  once = λ j h. record { all = λ ts a rd. (let k = many_of h in k.all ts a rd.0) };
}
