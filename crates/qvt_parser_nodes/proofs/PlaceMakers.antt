-- The places of each kind of value, and of what the rows make of their parts.
use Rattle.std.proofs.Common.{◌≡◌, List, [], ◌∷◌, ◌++◌, refl, sym, ap, ◌∙◌, subst, append-nil, Option, Some, None, false, ◌⊎◌, inl, inr}
use Rattle.qvt_base.specs.declared.numbers.Place.{Place}
use Rattle.qvt_tree_types.specs.Tree.{ExprTerm, HeadTerm, LinkTerm, StmtTerm}
use Rattle.qvt_tree_types.specs.View.{stmts_of, optional_expr}
use Rattle.qvt_tree_types.specs.Module.{TypedName, MappingTerm}
use Rattle.qvt_tree_types.specs.declared.module.ResultDecl.{ResultDecl}
use Rattle.qvt_tree_types.specs.declared.words.Sign.{Sign}
use Rattle.qvt_tree_types.specs.declared.words.Level.{Level}
use Rattle.qvt_language.specs.declared.named.UnitPath.{UnitPath}
use Rattle.qvt_language.specs.declared.class.Class.TheVariants.{Str}
use Rattle.qvt_language.specs.Tokens.{Tok}
use Rattle.qvt_language.specs.StmtTrees.{last_of}
use Rattle.qvt_language.specs.UnitTrees.{ClauseTree, ClausesTree, InheritsClause, MergesClause, DisjunctsClause, WhenClause, with_clause, no_clauses, paths_or_none, BodyTree, mapping_of}
use Rattle.qvt_language_rows.specs.Values.{signed_of, chained, or_no_args, with_clauses, open_sections}
use Rattle.qvt_language_rows.proofs.Every.{Said, Makers}
use Rattle.qvt_parser_nodes.specs.Places as places_of
use Rattle.qvt_parser_nodes.specs.Places.{all_places, places_if, path_places, type_places, variable_places, sign_places, expr_places, link_places, item_places, range_places, map_places, resolve_places, filter_places, accumulator_places, step_places, target_places, stmt_places, arm_places, typed_places, result_places, clause_places, unit_places, type_place, param_place, places}
use Rattle.qvt_parser_nodes.proofs.Along.{Along, Less, same, is_same, none_of, at, over, past, parts, front, less_trans}
use Rattle.qvt_parser_nodes.proofs.PlaceForms.{Spots, firm, loose, both, firmly, loosely, token_place, token_of, many_of, forms}
use Rattle.qvt_parser_nodes.proofs.PlaceParts.{named_places, part_places, args_of_arrow, all_append, exprs_are, items_are, stmts_are, links_are, arms_are, optional_is, range_is, filter_is, args_are, accumulator_is, else_is, none_or, no_stmts_or, last_thin, each_is, all_in, the_last, all_units, post_less, signed_less}

abbrev none : {A : Type 0} → A → List Place
none a = []

abbrev stmts_in : List StmtTerm → List Place
stmts_in = all_places stmt_places

abbrev body_places : BodyTree → List Place
body_places x = stmts_in x.init ++ (stmts_in x.population ++ stmts_in x.finish)

abbrev ending_places : Option StmtTerm ⊎ List StmtTerm → List Place
ending_places (inl last) = places_if stmt_places last
ending_places (inr finish) = stmts_in finish

abbrev unit_path_places : UnitPath → List Place
unit_path_places p = p.place ∷ []

-- those of one clause, where it is there
abbrev written_places : places_of.ClauseKind → ClausesTree → List Place
written_places places_of.Inherits x = places_if (all_places path_places) x.inherits
written_places places_of.Merges x = places_if (all_places path_places) x.merges
written_places places_of.Disjuncts x = places_if (all_places path_places) x.disjuncts
written_places places_of.When x = places_if expr_places x.condition

abbrev one_places : ClauseTree → List Place
one_places (InheritsClause paths) = all_places path_places paths
one_places (MergesClause paths) = all_places path_places paths
one_places (DisjunctsClause paths) = all_places path_places paths
one_places (WhenClause e) = expr_places e

-- a clause that is read is the one that is asked for, or leaves that one as it was
with_is : (c : places_of.ClauseKind) (x : ClausesTree) (y : ClauseTree) → (written_places c (with_clause x y) ≡ one_places y) ⊎ (written_places c (with_clause x y) ≡ written_places c x)
with_is places_of.Inherits x (InheritsClause ps) = inl refl
with_is places_of.Merges x (MergesClause ps) = inl refl
with_is places_of.Disjuncts x (DisjunctsClause ps) = inl refl
with_is places_of.When x (WhenClause e) = inl refl
with_is places_of.Inherits x (MergesClause ps) = inr refl
with_is places_of.Inherits x (DisjunctsClause ps) = inr refl
with_is places_of.Inherits x (WhenClause e) = inr refl
with_is places_of.Merges x (InheritsClause ps) = inr refl
with_is places_of.Merges x (DisjunctsClause ps) = inr refl
with_is places_of.Merges x (WhenClause e) = inr refl
with_is places_of.Disjuncts x (InheritsClause ps) = inr refl
with_is places_of.Disjuncts x (MergesClause ps) = inr refl
with_is places_of.Disjuncts x (WhenClause e) = inr refl
with_is places_of.When x (InheritsClause ps) = inr refl
with_is places_of.When x (MergesClause ps) = inr refl
with_is places_of.When x (DisjunctsClause ps) = inr refl

clauses_less : (c : places_of.ClauseKind) (x : ClausesTree) (ys : List ClauseTree) → Less (written_places c (with_clauses x ys)) (written_places c x ++ all_places one_places ys)
clauses_less c x [] = front (written_places c x) []
clauses_less c x (y ∷ ys) = by (with_is c x y) (clauses_less c (with_clause x y) ys) where
  by : (written_places c (with_clause x y) ≡ one_places y) ⊎ (written_places c (with_clause x y) ≡ written_places c x) → Less (written_places c (with_clauses (with_clause x y) ys)) (written_places c (with_clause x y) ++ all_places one_places ys)
      → Less (written_places c (with_clauses (with_clause x y) ys)) (written_places c x ++ (one_places y ++ all_places one_places ys))
  by (inl e) later = past (written_places c x) (subst (λ z. Less (written_places c (with_clauses (with_clause x y) ys)) (z ++ all_places one_places ys)) e later)
  by (inr e) later =
      less_trans (subst (λ z. Less (written_places c (with_clauses (with_clause x y) ys)) (z ++ all_places one_places ys)) e later)
      (parts {ps = written_places c x} {qs = written_places c x} {xs = all_places one_places ys} {ys = one_places y ++ all_places one_places ys} same (past (one_places y) same))

none_written : (c : places_of.ClauseKind) → written_places c no_clauses ≡ []
none_written places_of.Inherits = refl
none_written places_of.Merges = refl
none_written places_of.Disjuncts = refl
none_written places_of.When = refl

-- the parts of a mapping as they are read, and the mapping
abbrev Parts : Type 0
Parts = UnitPath × (List TypedName × (Option ResultDecl × (ClausesTree × BodyTree)))

abbrev parts_places : places_of.ClauseKind → Parts → List Place
parts_places c a = a.0.place ∷ (all_places typed_places a.1.0 ++ (places_if result_places a.1.1.0 ++ (written_places c a.1.1.1.0 ++ body_places a.1.1.1.1)))

abbrev mapping_term : Parts → MappingTerm
mapping_term (path, (params, (answer, (clauses, body)))) = record {
  path = path.names;
  params = params;
  result_decl = answer;
  inherits = paths_or_none clauses.inherits;
  merges = paths_or_none clauses.merges;
  disjuncts = paths_or_none clauses.disjuncts;
  condition = optional_expr clauses.condition;
  init = stmts_of body.init;
  population = stmts_of body.population;
  finish = stmts_of body.finish;
  place = path.place;
}

clause_is : (c : places_of.ClauseKind) (a : Parts) → clause_places c (mapping_term a) ≡ written_places c a.1.1.1.0
clause_is places_of.Inherits a = none_or a.1.1.1.0.inherits
clause_is places_of.Merges a = none_or a.1.1.1.0.merges
clause_is places_of.Disjuncts a = none_or a.1.1.1.0.disjuncts
clause_is places_of.When a = optional_is a.1.1.1.0.condition

mapping_is : (c : places_of.ClauseKind) (a : Parts) → unit_places (λ m. c) (mapping_of a) ≡ parts_places c a
mapping_is c a =
    let body = a.1.1.1.1 in
    λ k. a.0.place ∷ (all_places typed_places a.1.0 ++ (places_if result_places a.1.1.0 ++ (clause_is c a k ++ (stmts_are body.init k ++ (stmts_are body.population k ++ stmts_are body.finish k)))))

args_or_none : (a : Option (HeadTerm × List ExprTerm)) → Less (args_of_arrow (or_no_args a)) (places_if args_of_arrow a)
args_or_none None = none_of
args_or_none (Some a) = same

signs_less : (a : Place × (List Sign × ExprTerm)) → Less (expr_places (signed_of a)) (a.0 ∷ (all_places sign_places a.1.0 ++ expr_places a.1.1))
signs_less (place, ([], e)) = over place same
signs_less (place, ((s ∷ ss), e)) = signed_less place (s ∷ ss) e

chain_less : (level : Level) (a : Place × (ExprTerm × List LinkTerm)) → Less (expr_places (chained level a)) (a.0 ∷ (expr_places a.1.0 ++ all_places link_places a.1.1))
chain_less level (place, (e, [])) = over place (front (expr_places e) [])
chain_less level (place, (e, (l ∷ ls))) = is_same (ap (λ z. place ∷ (expr_places e ++ z)) (links_are (l ∷ ls)))

sections_less : (a : List StmtTerm × (Option StmtTerm ⊎ List StmtTerm)) → Less (both stmts_in stmts_in (open_sections a)) (stmts_in a.0 ++ ending_places a.1)
sections_less (all, (inl last)) = is_same (append-nil (stmts_in (all ++ last_of last)) ∙ all_append stmt_places all (last_of last) ∙ ap (λ z. stmts_in all ++ z) (the_last last))
sections_less (all, (inr finish)) = same

twice : (p : Place) (qs : List Place) (ts : List Tok) → Along (p ∷ qs) ts → Along (p ∷ p ∷ []) ts
twice p qs ts k = (k.0, k.1, k.2, k.3, k.4, ([], k.1, k.2, refl, k.4, tt))

module _ (choice : MappingTerm → places_of.ClauseKind) where
  abbrev said : Said Spots
  said = record {
    named = firmly named_places;
    name = loosely none;
    string = loosely none;
    uri = loosely none;
    source = loosely none;
    path = firmly path_places;
    kind = firmly type_places;
    expr = firmly expr_places;
    range = loosely range_places;
    item = loosely item_places;
    filter = loosely filter_places;
    form = firmly (λ x. places_if path_places x.1.0 ++ places_if filter_places x.1.1);
    resolve = firmly resolve_places;
    accumulator = loosely accumulator_places;
    map = firmly map_places;
    args = loosely args_of_arrow;
    step = loosely step_places;
    dot = loosely step_places;
    arrow = loosely step_places;
    dot_call = loosely step_places;
    arrow_call = loosely step_places;
    variable = loosely variable_places;
    sign = loosely sign_places;
    link = loosely link_places;
    target = loosely target_places;
    stmt = loosely stmt_places;
    compound = loosely stmt_places;
    items = loosely stmts_in;
    inside = loosely stmts_in;
    block = loosely stmts_in;
    turn = loosely stmts_in;
    helper_body = loosely stmts_in;
    arm = loosely arm_places;
    each = loosely part_places;
    unit_path = loosely unit_path_places;
    typed = loosely typed_places;
    feature = loosely typed_places;
    result = loosely result_places;
    guard_end = loosely none;
    guard = loosely expr_places;
    clause = loosely one_places;
    clauses = record { of = written_places; solid = false };
    ending = loosely ending_places;
    sections = loosely (both stmts_in stmts_in);
    body = loosely body_places;
    unit = loosely (unit_places choice);
    turn_units = loosely (all_places (unit_places choice));
    model_type = loosely type_place;
    model_param = loosely param_place;
    model_params = loosely (all_places param_place);
    whole = loosely (places choice);
  }

  pub makers : Makers forms said
  unfolding places
  makers = record {
    named_of = firm refl (λ c t. same);
    name_of = loose refl (λ c t. none_of);
    string_of = loose refl (λ c t. none_of);
    path_of = firm refl (λ c a. at a.0.place none_of);
    unit_path_of = loose refl (λ c a. record { thin = last_thin a.0.place a.1 });
    coll_type_of = firm refl (λ c a. same);
    path_type = firm refl (λ c a. same);
    range_of = loose refl (λ c a. same);
    item_of = loose refl (λ c a. is_same (ap (λ z. a.0 ∷ (expr_places a.1.0 ++ z)) (range_is a.1.1)));
    filter_of = loose refl (λ c a. at a.0 (past (places_if named_places a.1.0) (is_same (ap (λ z. type_places a.1.1.0 ++ z) (optional_is a.1.1.1)))));
    all_of = firm refl (λ c a. over a.0.place same);
    in_of = firm refl (λ c a. over a.0.place (over a.1.0.place (at a.1.1.0.place (front _ _))));
    resolve_of = firm refl (λ c a. at a.0 (past (places_if token_place a.1.0) (is_same (ap (λ z. places_if path_places a.1.1.1.0 ++ z) (filter_is a.1.1.1.1)))));
    accumulator_of = loose refl (λ c a. same);
    map_of = firm refl (λ c a. over a.0.place (is_same (ap (λ z. a.1.0.place ∷ z) (exprs_are a.1.1))));
    dot_of = loose refl (λ c a. is_same (ap (λ z. a.0.place ∷ z) (args_are a.1)));
    headed_body = loose refl (λ c a. is_same (λ i. a.0.0.place ∷ ((places_if type_places a.0.1.0 ++ accumulator_is a.0.1.1 i) ++ append-nil (expr_places a.1) i)));
    without_head = loose refl (λ c a. same);
    or_no_args = loose refl (λ c a. args_or_none a);
    arrow_of = loose refl (λ c a. is_same (ap (λ z. a.0.place ∷ (places_of.head_places a.1.0 ++ z)) (exprs_are a.1.1)));
    dot_map = loose refl (λ c a. same);
    dot_resolve = loose refl (λ c a. same);
    arrow_map = loose refl (λ c a. same);
    arrow_resolve = loose refl (λ c a. same);
    after_dot = loose refl (λ c a. same);
    after_arrow = loose refl (λ c a. same);
    call_after_dot = loose refl (λ c a. same);
    call_after_arrow = loose refl (λ c a. same);
    int_of = firm refl (λ c t. same);
    str_of = firm refl (λ c t. same);
    true_of = firm refl (λ c t. same);
    false_of = firm refl (λ c t. same);
    null_of = firm refl (λ c t. same);
    self_of = firm refl (λ c t. same);
    result_of = firm refl (λ c t. same);
    path_expr = firm refl (λ c a. same);
    call_of = firm refl (λ c a. is_same (ap (λ z. a.0.place ∷ z) (exprs_are a.1)));
    coll_of = firm refl (λ c a. is_same (ap (λ z. a.0.place ∷ z) (items_are a.1)));
    if_of = firm refl (λ c a. at a.0 (over a.1.0.place same));
    named_var = loose refl (λ c a. same);
    result_var = loose refl (λ c a. same);
    object_of = firm refl (λ c a. at a.0.place (parts {ps = places_if variable_places a.1.0} {qs = places_if variable_places a.1.0} same (at a.1.1.0.place (past (places_if none a.1.1.1.0) (is_same (stmts_are a.1.1.1.1))))));
    new_of = firm refl (λ c a. at a.0.place (at a.1.0.place (past (places_if none a.1.1.0) (is_same (exprs_are a.1.1.1)))));
    map_expr = firm refl (λ c a. same);
    resolve_expr = firm refl (λ c a. same);
    brackets = firm refl (λ c a. same);
    stepped_of = firm refl (λ c a. post_less a.0 a.1.0 a.1.1);
    not_of = loose refl (λ c t. same);
    minus_of = loose refl (λ c t. same);
    signed_of = firm refl (λ c a. signs_less a);
    linked = λ level. loose refl (λ c a. same);
    chained = λ level. firm refl (λ c a. chain_less level a);
    named_target = loose refl (λ c a. same);
    result_target = loose refl (λ c a. same);
    feature_target = loose refl (λ c a. same);
    var_of = loose refl (λ c a. at a.0 (over a.1.0.place (over a.1.1.0.place (is_same (ap (λ z. places_if type_places a.1.1.1.0 ++ z) (optional_is a.1.1.1.1))))));
    assign_of = loose refl (λ c a. same);
    return_of = loose refl (λ c a. at a.0 (over a.1.0.place (is_same (optional_is a.1.1))));
    value_of = loose refl (λ c a. same);
    arm_of = loose refl (λ c a. over a.0.place (parts {ps = expr_places a.1.0} {qs = expr_places a.1.0} same (past (places_if token_place a.1.1.0) (is_same (stmts_are a.1.1.1)))));
    block_form_of = loose refl (λ c a. at a.0 (over a.1.0.place (parts {ps = expr_places a.1.1.0} {qs = expr_places a.1.1.0} same (past (places_if token_place a.1.1.1.0)
        (parts (is_same (stmts_are a.1.1.1.1.0)) (parts (is_same (arms_are a.1.1.1.1.1.0)) (less_trans (is_same (else_is a.1.1.1.1.1.1.0)) (front _ (places_if token_place a.1.1.1.1.1.1.1)))))))));
    while_of = loose refl (λ c a. at a.0 (over a.1.0.place (is_same (ap (λ z. expr_places a.1.1.0 ++ z) (stmts_are a.1.1.1)))));
    each_of = loose refl (λ c a. over a.0.place (over a.1.0.place (over a.1.1.0.place (parts {ps = places_if type_places a.1.1.1.0} {qs = places_if type_places a.1.1.1.0} same (parts (is_same (optional_is a.1.1.1.1.0)) (over a.1.1.1.1.1.0.place same))))));
    loop_of = loose refl (λ c a. is_same (each_is a.1.0 a.1.1 a.0));
    no_stmts = loose refl (λ c a. none_of);
    simple_turn = loose refl (λ c a. is_same (append-nil (stmt_places a)));
    compound_turn = loose refl (λ c a. is_same (append-nil (stmt_places a)));
    concat = loose refl (λ c a. is_same (all_in a));
    with_last = loose refl (λ c a. is_same (all_append stmt_places a.0 (last_of a.1) ∙ ap (λ z. stmts_in a.0 ++ z) (the_last a.1)));
    braces = loose refl (λ c a. same);
    param_of = loose refl (λ c a. at a.0 (past (places_if token_place a.1.0) (over a.1.1.0.place same)));
    typed_name_of = loose refl (λ c a. same);
    class_of = loose refl (λ c a. at a.0 (over a.1.0.place (is_same (ap (λ z. z ++ all_places typed_places a.1.1.1) (none_or a.1.1.0)))));
    main_of = loose refl (λ c a. is_same (ap (λ z. a.0 ∷ z) (stmts_are a.1)));
    return_body = loose refl (λ c a. is_same (append-nil (a.0.place ∷ expr_places a.1)));
    block_body = loose refl (λ c a. same);
    helper_of = loose refl (λ c a. over a.0.place (is_same (ap (λ z. a.1.0.place ∷ (all_places typed_places a.1.1.0 ++ (places_if type_places a.1.1.1.0 ++ z))) (stmts_are a.1.1.1.1))));
    constructor_of = loose refl (λ c a. is_same (ap (λ z. a.0.place ∷ (all_places typed_places a.1.0 ++ z)) (stmts_are a.1.1)));
    result_decl_of = record {
      solid = λ e. refl;
      along = λ c a. (c, λ ts k. twice a.0.place (places_if none a.1) ts k);
    };
    inherits = loose refl (λ c a. same);
    merges = loose refl (λ c a. same);
    disjuncts = loose refl (λ c a. same);
    guard_end = loose refl (λ c a. none_of);
    guard = loose refl (λ c a. over a.0.place (front _ _));
    condition = loose refl (λ c a. same);
    clauses_of = loose refl (λ c a. subst (λ z. Less (written_places c (with_clauses no_clauses a)) (z ++ all_places one_places a)) (none_written c) (clauses_less c no_clauses a));
    sections_of = loose refl (λ c a. is_same (ap (λ z. stmts_in a.0 ++ z) (no_stmts_or a.1)));
    ends_in_simple = loose refl (λ c a. same);
    ends_in_block = loose refl (λ c a. same);
    open_sections = loose refl (λ c a. sections_less a);
    empty_body = loose refl (λ c a. none_of);
    body_of = loose refl (λ c a. over a.0.place (parts (is_same (no_stmts_or a.1.0)) (front _ (a.1.1.1.place ∷ []))));
    mapping_of = record {
      solid = λ e. refl;
      along = λ c a. (choice (mapping_term a), λ ts k. subst (λ z. Along z ts) (sym (mapping_is (choice (mapping_term a)) a)) k);
    };
    some_unit = loose refl (λ c a. is_same (append-nil (unit_places choice a)));
    no_units = loose refl (λ c a. none_of);
    uri_text = loose refl (λ c a. none_of);
    uri_named = loose refl (λ c a. none_of);
    source = loose refl (λ c a. none_of);
    model_type_of = loose refl (λ c a. at a.0 none_of);
    model_param_of = loose refl (λ c a. at a.0.place none_of);
    model_params = loose refl (λ c a. over a.0.place (front _ _));
    module_of = loose refl (λ c a. is_same (ap (λ z. all_places type_place a.0 ++ (all_places param_place a.1.0.1 ++ z)) (all_units choice a.1.1)));
    strict = record { all = λ c ts a rd. (let k = token_of (Str ∷ []) in k.all c ts a rd.0); some = λ e a rd. (let k = token_of (Str ∷ []) in k.some e a rd.0) };
    once = λ j h. record { all = λ c ts a rd. (let k = many_of h in k.all c ts a rd.0); some = λ e a rd. (let k = many_of h in k.some e a rd.0) };
  }
