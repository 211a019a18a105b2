-- What the rows make of parts without places is what they make of the parts, without places.
use Rattle.qvt_base.specs.declared.numbers.Place.{Place}
use Rattle.qvt_language.specs.Leads.{EachPart}
use Rattle.qvt_language.specs.Same.{unplaced}
use Rattle.qvt_language.specs.StmtTrees.{concat, last_of, for_each_of}
use Rattle.qvt_language.specs.Tokens.{Tok}
use Rattle.qvt_language.specs.Trees.{coll_kind, is_strict, stepped, post_of, signed}
use Rattle.qvt_language.specs.UnitTrees.{is_query, ClausesTree, no_clauses, ClauseTree, InheritsClause, MergesClause, DisjunctsClause, WhenClause, with_clause, stmts_or_none, units_of}
use Rattle.qvt_language.specs.Units.{is_strictness}
use Rattle.qvt_language.specs.declared.class.Class.TheVariants.{Str}
use Rattle.qvt_language.specs.declared.named.Named.{Named}
use Rattle.qvt_language_rows.proofs.Every.{Said, Makers}
use Rattle.qvt_language_rows.specs.Phrase.{the, such_that}
use Rattle.qvt_language_rows.specs.Values.{name_text, signed_of, chained, or_no_args, open_sections, with_clauses, kind_of, IsOther, AreOnce}
use Rattle.qvt_readback_trees.proofs.AgainClauses.{bare_clauses}
use Rattle.qvt_readback_trees.proofs.AgainExprs.{bare_exprs, bare_items, bare_stmts, bare_optional, range_bare, bare_resolved, there_same, filter_erased}
use Rattle.qvt_readback_trees.proofs.AgainMappings.{bare_body}
use Rattle.qvt_readback_trees.proofs.AgainNames.{bare_named, bare_texts, bare_last, bare_unit_path}
use Rattle.qvt_readback_trees.proofs.AgainSteps.{type_bare, args_bare, headed_bare, bare_part, bare_body as bare_arrow}
use Rattle.qvt_readback_trees.proofs.AgainStmts.{bare_arms, else_bare}
use Rattle.qvt_readback_trees.proofs.AgainUnits.{result_bare, paths_bare}
use Rattle.qvt_readback_trees.proofs.Good.{bare_steps, joined_bare}
use Rattle.qvt_readback_trees.proofs.Lifts.{Bare, both, one_token, turns, forms}
use Rattle.qvt_readback_trees.proofs.Read.{bare_links}
use Rattle.qvt_tree.specs.ModuleShape.{erase_typed, erase_unit, erase_result, erase_model_type, erase_model_param, shape}
use Rattle.qvt_tree.specs.Shape.{nowhere, erase_path, erase_optional_path, erase_optional_variable, erase_type, erase_expr, erase_item, erase_range, erase_map_call, erase_resolve, erase_filter, erase_accumulator, erase_stmt, erase_target, erase_head, erase_step, erase_sign, erase_signs, erase_link, erase_arm, erase_variable}
use Rattle.qvt_tree_types.specs.Module.{UnitTerm, ClassOf, MainOf, HelperOf, ConstructorOf, MappingOf}
use Rattle.qvt_tree_types.specs.Tree.{ExprTerm, CollExpr, ObjectExpr, NewExpr, MapOf, ItemOf, ResolveOf, FilterOf, LinkTerm, StepTerm, ChainExpr, PrefixExpr, PostExpr, DotStep, ArrowStep, StmtTerm, VarStmt, ReturnStmt, IfStmt, WhileStmt, ForEachStmt, ArmOf, HeadTerm, CallExpr}
use Rattle.qvt_tree_types.specs.declared.types.ObjectVar.{ObjectVar}
use Rattle.qvt_tree_types.specs.declared.words.Level.{Level}
use Rattle.qvt_tree_types.specs.declared.words.Sign.{Sign}
use Rattle.std.proofs.Common.{◌≡◌, ℕ, List, ◌∷◌, map, inl, inr, refl, sym, ap, Option, Some, None, option_map, [], ◌++◌, false, ◌∙◌, ◌⊎◌, IsTrue, subst}

extent_same : (x : Option (List ℕ)) → x ≡ option_map (λ (n : List ℕ). n) x
extent_same None = refl
extent_same (Some n) = refl

-- the builders, without places

stepped_bare : (place : Place) (e : ExprTerm) (ss : List StepTerm) → erase_expr (stepped place e ss) ≡ stepped nowhere (erase_expr e) (map erase_step ss)
stepped_bare place (PostExpr e old p) ss = ap (λ z. PostExpr (erase_expr e) z nowhere) (sym (joined_bare old ss))
stepped_bare place e ss = ap (λ z. PostExpr (erase_expr e) z nowhere) (sym (bare_steps ss))

post_bare : (place : Place) (e : ExprTerm) (ss : List StepTerm) → erase_expr (post_of place e ss) ≡ post_of nowhere (erase_expr e) (map erase_step ss)
post_bare place e [] = refl
post_bare place e (s ∷ ss) = stepped_bare place e (s ∷ ss)

signs_bare : (ss : List Sign) → erase_signs ss ≡ map erase_sign ss
signs_bare [] = refl
signs_bare (s ∷ ss) = ap (λ z. erase_sign s ∷ z) (signs_bare ss)

signs_joined : (ss old : List Sign) → erase_signs (ss ++ old) ≡ map erase_sign ss ++ erase_signs old
signs_joined [] old = refl
signs_joined (s ∷ ss) old = ap (λ z. erase_sign s ∷ z) (signs_joined ss old)

signed_bare : (place : Place) (ss : List Sign) (e : ExprTerm) → erase_expr (signed place ss e) ≡ signed nowhere (map erase_sign ss) (erase_expr e)
signed_bare place ss (PrefixExpr old e p) = ap (λ z. PrefixExpr z (erase_expr e) nowhere) (signs_joined ss old)
signed_bare place ss e = ap (λ z. PrefixExpr z (erase_expr e) nowhere) (signs_bare ss)

map_joined : (xs ys : List StmtTerm) → map erase_stmt (xs ++ ys) ≡ map erase_stmt xs ++ map erase_stmt ys
map_joined [] ys = refl
map_joined (x ∷ xs) ys = ap (λ z. erase_stmt x ∷ z) (map_joined xs ys)

concat_bare : (all : List (List StmtTerm)) → map erase_stmt (concat all) ≡ concat (map (map erase_stmt) all)
concat_bare [] = refl
concat_bare (ss ∷ all) = map_joined ss (concat all) ∙ ap (λ z. map erase_stmt ss ++ z) (concat_bare all)

last_bare : (last : Option StmtTerm) → map erase_stmt (last_of last) ≡ last_of (option_map erase_stmt last)
last_bare None = refl
last_bare (Some s) = refl

each_stmt_bare : (place : Place) (e : ExprTerm) (part : EachPart) → erase_stmt (for_each_of e part place) ≡ for_each_of (erase_expr e) (bare_part part) nowhere
each_stmt_bare place e part = ap (λ z. ForEachStmt (erase_expr e) part.name (bare_part part).kind (bare_part part).condition z nowhere) (bare_stmts part.body)

stmts_bare : (x : Option (List StmtTerm)) → map erase_stmt (stmts_or_none x) ≡ stmts_or_none (option_map (map erase_stmt) x)
stmts_bare None = refl
stmts_bare (Some ss) = refl

abbrev bare_clause : ClauseTree → ClauseTree
bare_clause (InheritsClause ps) = InheritsClause (map erase_path ps)
bare_clause (MergesClause ps) = MergesClause (map erase_path ps)
bare_clause (DisjunctsClause ps) = DisjunctsClause (map erase_path ps)
bare_clause (WhenClause e) = WhenClause (erase_expr e)

clause_bare : (x : ClausesTree) (c : ClauseTree) → bare_clauses (with_clause x c) ≡ with_clause (bare_clauses x) (bare_clause c)
clause_bare x (InheritsClause ps) = refl
clause_bare x (MergesClause ps) = refl
clause_bare x (DisjunctsClause ps) = refl
clause_bare x (WhenClause e) = refl

units_joined : (xs ys : List UnitTerm) → map erase_unit (xs ++ ys) ≡ map erase_unit xs ++ map erase_unit ys
units_joined [] ys = refl
units_joined (x ∷ xs) ys = ap (λ z. erase_unit x ∷ z) (units_joined xs ys)

units_bare : (all : List (List UnitTerm)) → map erase_unit (units_of all) ≡ units_of (map (map erase_unit) all)
units_bare [] = refl
units_bare (us ∷ all) = units_joined us (units_of all) ∙ ap (λ z. map erase_unit us ++ z) (units_bare all)

name_bare : (n : Option Named) → name_text n ≡ name_text (option_map bare_named n)
name_bare None = refl
name_bare (Some n) = refl

variable_bare : (v : Option ObjectVar) → erase_optional_variable v ≡ option_map erase_variable v
variable_bare None = refl
variable_bare (Some v) = refl

args_or_none : (a : Option (HeadTerm × List ExprTerm)) → bare_arrow (or_no_args a) ≡ or_no_args (option_map bare_arrow a)
args_or_none None = refl
args_or_none (Some a) = refl

signs_are : (a : Place × (List Sign × ExprTerm)) → erase_expr (signed_of a) ≡ signed_of (nowhere, (map erase_sign a.1.0, erase_expr a.1.1))
signs_are (place, ([], e)) = refl
signs_are (place, ((s ∷ ss), e)) = signed_bare place (s ∷ ss) e

chain_bare : (level : Level) (a : Place × (ExprTerm × List LinkTerm)) → erase_expr (chained level a) ≡ chained level (nowhere, (erase_expr a.1.0, map erase_link a.1.1))
chain_bare level (place, (e, [])) = refl
chain_bare level (place, (e, (l ∷ ls))) = ap (λ z. ChainExpr level (erase_expr e) z nowhere) (sym (bare_links (l ∷ ls)))

clauses_bare : (x : ClausesTree) (cs : List ClauseTree) → bare_clauses (with_clauses x cs) ≡ with_clauses (bare_clauses x) (map bare_clause cs)
clauses_bare x [] = refl
clauses_bare x (c ∷ cs) = clauses_bare (with_clause x c) cs ∙ ap (λ z. with_clauses z (map bare_clause cs)) (clause_bare x c)

abbrev bare_ending : Option StmtTerm ⊎ List StmtTerm → Option StmtTerm ⊎ List StmtTerm
bare_ending (inl last) = inl (option_map erase_stmt last)
bare_ending (inr finish) = inr (map erase_stmt finish)

abbrev bare_stmts_of : List StmtTerm → List StmtTerm
bare_stmts_of = map erase_stmt

sections_bare : (a : List StmtTerm × (Option StmtTerm ⊎ List StmtTerm)) → both bare_stmts_of bare_stmts_of (open_sections a) ≡ open_sections (map erase_stmt a.0, bare_ending a.1)
sections_bare (all, (inl last)) = λ i. ((map_joined all (last_of last) ∙ ap (λ z. map erase_stmt all ++ z) (last_bare last)) i, [])
sections_bare (all, (inr finish)) = refl

-- an Extra without places is of the same kind
same_kind : (c : ClauseTree) → kind_of (bare_clause c) ≡ kind_of c
same_kind (InheritsClause ps) = refl
same_kind (MergesClause ps) = refl
same_kind (DisjunctsClause ps) = refl
same_kind (WhenClause e) = refl

other_too : (c : ClauseTree) (cs : List ClauseTree) → IsOther (bare_clause c) (map bare_clause cs) → IsOther c cs
other_too c [] h = tt
other_too c (d ∷ cs) h = ((λ e. h.0 (same_kind c ∙ e ∙ sym (same_kind d))), other_too c cs h.1)

once_too : (cs : List ClauseTree) → AreOnce (map bare_clause cs) → AreOnce cs
once_too [] h = tt
once_too (c ∷ cs) h = (other_too c cs h.0, once_too cs h.1)

strict_too : (us : List Tok) (t : Tok) → such_that (λ t. IsTrue (is_strictness t)) (the Str) (map unplaced us) t → (s : Tok) × such_that (λ t. IsTrue (is_strictness t)) (the Str) us s × (unplaced s ≡ t)
strict_too us t rd = let w = one_token Str us t rd.0 in (w.0, (w.1, subst (λ x. IsTrue (is_strictness x)) (sym w.2) rd.1), w.2)

abbrev said : Said Bare
said = record {
  named = bare_named;
  name = λ x. x;
  string = λ x. x;
  uri = λ x. x;
  source = λ x. x;
  path = erase_path;
  kind = erase_type;
  expr = erase_expr;
  range = erase_range;
  item = erase_item;
  filter = erase_filter;
  form = bare_resolved;
  resolve = erase_resolve;
  accumulator = erase_accumulator;
  map = erase_map_call;
  args = bare_arrow;
  step = erase_step;
  dot = erase_step;
  arrow = erase_step;
  dot_call = erase_step;
  arrow_call = erase_step;
  variable = erase_variable;
  sign = erase_sign;
  link = erase_link;
  target = erase_target;
  stmt = erase_stmt;
  compound = erase_stmt;
  items = bare_stmts_of;
  inside = bare_stmts_of;
  block = bare_stmts_of;
  turn = bare_stmts_of;
  helper_body = bare_stmts_of;
  arm = erase_arm;
  each = bare_part;
  unit_path = bare_unit_path;
  typed = erase_typed;
  feature = erase_typed;
  result = erase_result;
  guard_end = unplaced;
  guard = erase_expr;
  clause = bare_clause;
  clauses = bare_clauses;
  ending = bare_ending;
  sections = both bare_stmts_of bare_stmts_of;
  body = bare_body;
  unit = erase_unit;
  turn_units = map erase_unit;
  model_type = erase_model_type;
  model_param = erase_model_param;
  model_params = map erase_model_param;
  whole = shape;
}

pub makers : Makers forms said
unfolding shape
makers = record {
  named_of = λ t. refl;
  name_of = λ t. refl;
  string_of = λ t. refl;
  path_of = λ a i. record { names = a.0.text ∷ sym (bare_texts a.1) i; place = nowhere };
  unit_path_of = λ a i. record { names = a.0.text ∷ sym (bare_texts a.1) i; place = sym (bare_last a.1) i };
  coll_type_of = λ a. refl;
  path_type = λ a. refl;
  range_of = λ a. refl;
  item_of = λ a. ap (λ z. ItemOf (erase_expr a.1.0) z nowhere) (range_bare a.1.1);
  filter_of = λ a i. FilterOf (name_bare a.1.0 i) (erase_type a.1.1.0) (bare_optional a.1.1.1 i) nowhere;
  all_of = λ a. refl;
  in_of = λ a. refl;
  resolve_of = λ a i. ResolveOf (there_same unplaced a.1.0 i) a.1.1.0 (erase_optional_path a.1.1.1.0) (filter_erased a.1.1.1.1 i) nowhere;
  accumulator_of = λ a. refl;
  map_of = λ a. ap (λ z. MapOf (is_strict a.0.class) a.1.0.text z nowhere) (bare_exprs a.1.1);
  dot_of = λ a. ap (λ z. DotStep a.0.text z nowhere) (args_bare a.1);
  headed_body = λ a. headed_bare a.0.0.text a.0.0.place (a.0.1.0, (a.0.1.1, a.1));
  without_head = λ a. refl;
  or_no_args = args_or_none;
  arrow_of = λ a. ap (λ z. ArrowStep a.0.text (erase_head a.1.0) z nowhere) (bare_exprs a.1.1);
  dot_map = λ a. refl;
  dot_resolve = λ a. refl;
  arrow_map = λ a. refl;
  arrow_resolve = λ a. refl;
  after_dot = λ a. refl;
  after_arrow = λ a. refl;
  call_after_dot = λ a. refl;
  call_after_arrow = λ a. refl;
  int_of = λ t. refl;
  str_of = λ t. refl;
  true_of = λ t. refl;
  false_of = λ t. refl;
  null_of = λ t. refl;
  self_of = λ t. refl;
  result_of = λ t. refl;
  path_expr = λ a. refl;
  call_of = λ a. ap (λ z. CallExpr a.0.text z nowhere) (bare_exprs a.1);
  coll_of = λ a. ap (λ z. CollExpr (coll_kind a.0.class) z nowhere) (bare_items a.1);
  if_of = λ a. refl;
  named_var = λ a. refl;
  result_var = λ a. refl;
  object_of = λ a i. ObjectExpr (variable_bare a.1.0 i) (erase_path a.1.1.0) (extent_same a.1.1.1.0 i) (bare_stmts a.1.1.1.1 i) nowhere;
  new_of = λ a i. NewExpr (erase_path a.1.0) (extent_same a.1.1.0 i) (bare_exprs a.1.1.1 i) nowhere;
  map_expr = λ a. refl;
  resolve_expr = λ a. refl;
  brackets = λ a. refl;
  stepped_of = λ a. post_bare a.0 a.1.0 a.1.1;
  not_of = λ t. refl;
  minus_of = λ t. refl;
  signed_of = signs_are;
  linked = λ level a. refl;
  chained = chain_bare;
  named_target = λ a. refl;
  result_target = λ a. refl;
  feature_target = λ a. refl;
  var_of = λ a i. VarStmt a.1.1.0.text (type_bare a.1.1.1.0 i) (bare_optional a.1.1.1.1 i) nowhere;
  assign_of = λ a. refl;
  return_of = λ a. ap (λ z. ReturnStmt z nowhere) (bare_optional a.1.1);
  value_of = λ a. refl;
  arm_of = λ a. ap (ArmOf (erase_expr a.1.0)) (bare_stmts a.1.1.1);
  block_form_of = λ a i. IfStmt (erase_expr a.1.1.0) (bare_stmts a.1.1.1.1.0 i) (bare_arms a.1.1.1.1.1.0 i) (else_bare a.1.1.1.1.1.1.0 i) nowhere;
  while_of = λ a. ap (λ z. WhileStmt (erase_expr a.1.1.0) z nowhere) (bare_stmts a.1.1.1);
  each_of = λ a i. record { name = a.1.1.0.text; kind = type_bare a.1.1.1.0 i; condition = bare_optional a.1.1.1.1.0 i; body = map erase_stmt a.1.1.1.1.1.1 };
  loop_of = λ a. each_stmt_bare a.0 a.1.0 a.1.1;
  no_stmts = λ a. refl;
  simple_turn = λ a. refl;
  compound_turn = λ a. refl;
  concat = concat_bare;
  with_last = λ a. map_joined a.0 (last_of a.1) ∙ ap (λ z. map erase_stmt a.0 ++ z) (last_bare a.1);
  braces = λ a. refl;
  param_of = λ a. refl;
  typed_name_of = λ a. refl;
  class_of = λ a. ap (λ z. ClassOf (record { name = a.1.0.text; supers = z; features = map erase_typed a.1.1.1; place = nowhere })) (paths_bare a.1.1.0);
  main_of = λ a. ap (λ z. MainOf z nowhere) (bare_stmts a.1);
  return_body = λ a. refl;
  block_body = λ a. refl;
  helper_of = λ a i. HelperOf (record { pure = is_query a.0.class; path = a.1.0.names; params = map erase_typed a.1.1.0; answer = type_bare a.1.1.1.0 i; body = bare_stmts a.1.1.1.1 i; place = nowhere });
  constructor_of = λ a. ap (λ z. ConstructorOf (record { pure = false; path = a.0.names; params = map erase_typed a.1.0; answer = None; body = z; place = nowhere })) (bare_stmts a.1.1);
  result_decl_of = λ a. ap (λ z. record { path = erase_path a.0; extent = z; place = nowhere }) (extent_same a.1);
  inherits = λ a. refl;
  merges = λ a. refl;
  disjuncts = λ a. refl;
  guard_end = λ a. refl;
  guard = λ a. refl;
  condition = λ a. refl;
  clauses_of = clauses_bare no_clauses;
  sections_of = λ a. ap (λ z. (map erase_stmt a.0, z)) (stmts_bare a.1);
  ends_in_simple = λ a. refl;
  ends_in_block = λ a. refl;
  open_sections = sections_bare;
  empty_body = λ a. refl;
  body_of = λ a. ap (λ z. record { init = z; population = map erase_stmt a.1.1.0.0; finish = map erase_stmt a.1.1.0.1 }) (stmts_bare a.1.0);
  mapping_of = λ a i. MappingOf (record {
    path = a.0.names;
    params = map erase_typed a.1.0;
    result_decl = result_bare a.1.1.0 i;
    inherits = paths_bare a.1.1.1.0.inherits i;
    merges = paths_bare a.1.1.1.0.merges i;
    disjuncts = paths_bare a.1.1.1.0.disjuncts i;
    condition = bare_optional a.1.1.1.0.condition i;
    init = bare_stmts a.1.1.1.1.init i;
    population = bare_stmts a.1.1.1.1.population i;
    finish = bare_stmts a.1.1.1.1.finish i;
    place = nowhere;
  });
  some_unit = λ a. refl;
  no_units = λ a. refl;
  uri_text = λ a. refl;
  uri_named = λ a. refl;
  source = λ a. refl;
  model_type_of = λ a. refl;
  model_param_of = λ a. refl;
  model_params = λ a. refl;
  module_of = λ a. ap (λ z. record { model_types = map erase_model_type a.0; name = a.1.0.0; params = map erase_model_param a.1.0.1; units = z; end = nowhere }) (units_bare a.1.1);
  strict = record { lift = strict_too };
  once = λ j k. record { lift = λ us cs rd. (let w = turns k cs us rd.0 in (w.0, (w.1, once_too w.0 (subst AreOnce (sym w.2) rd.1)), w.2)) };
}
