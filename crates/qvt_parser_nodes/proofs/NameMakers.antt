-- What is told of names and texts, said of each kind of value, and kept by what the rows make of their parts.
use Rattle.std.proofs.Common.{List, [], ◌∷◌, Option, Some, None, ◌⊎◌, inl, inr, IsTrue}
use Rattle.qvt_base.specs.declared.numbers.Place.{Place}
use Rattle.qvt_tree_types.specs.Tree.{ExprTerm, HeadTerm, LinkTerm, StmtTerm}
use Rattle.qvt_tree_types.specs.declared.words.Sign.{Sign}
use Rattle.qvt_tree_types.specs.declared.words.Level.{Level}
use Rattle.qvt_language.specs.declared.named.Named.{Named}
use Rattle.qvt_language.specs.declared.class.Class.TheVariants.{Name, Str}
use Rattle.qvt_language.specs.Tokens.{Tok, is}
use Rattle.qvt_language.specs.Leads.{EachPart}
use Rattle.qvt_language.specs.StmtTrees.{last_of}
use Rattle.qvt_language.specs.UnitTrees.{ClauseTree, ClausesTree, InheritsClause, MergesClause, DisjunctsClause, WhenClause, with_clause, no_clauses, BodyTree}
use Rattle.qvt_language_rows.specs.Lists.{AllOf, IfThere}
use Rattle.qvt_language_rows.specs.Values.{name_text, signed_of, chained, or_no_args, with_clauses, open_sections}
use Rattle.qvt_language_rows.proofs.Every.{Said, Makers}
use Rattle.qvt_language_rows.proofs.Gives.{Predicate, Any, Both, forms, all_and, token_of, many_of, such}
use Rattle.qvt_parser_nodes.specs.Names.{NameConditions, NamesHold, PathHolds, VariableHolds, TypeHolds, ExprHolds, OptionalHolds, LinkHolds, ItemHolds, RangeHolds, MapHolds, ResolveHolds, FilterHolds, HeadHolds, AccumulatorHolds, StepHolds, TargetHolds, StmtHolds, ArmHolds, TypedHolds, ResultHolds, UnitHolds, ModelTypeHolds, ModelParamHolds, HasNames}
use Rattle.qvt_parser_nodes.proofs.NameParts.{NamedP, texts, exprs_are, items_are, links_are, stmts_are, arms_are, optional_is, args_are, range_is, filter_is, accumulator_is, else_is, none_or, no_stmts_or, post_is, signed_is, all_in, the_last, all_units}

-- what is told of names holds of a token that is a name, and what is told of texts of a token that is a text
abbrev pub Tells : NameConditions → Tok → Type 0
Tells N t = (IsTrue (is Name t) → N.name t.text) × (IsTrue (is Str t) → N.text t.text)

-- after a `forEach`
abbrev PartP : NameConditions → EachPart → Type 0
PartP N p = N.name p.name × IfThere (TypeHolds N) p.kind × OptionalHolds N p.condition × AllOf (StmtHolds N) p.body

abbrev ArgsP : NameConditions → HeadTerm × List ExprTerm → Type 0
ArgsP N x = HeadHolds N x.0 × AllOf (ExprHolds N) x.1

abbrev ClauseP : NameConditions → ClauseTree → Type 0
ClauseP N (InheritsClause paths) = AllOf (PathHolds N) paths
ClauseP N (MergesClause paths) = AllOf (PathHolds N) paths
ClauseP N (DisjunctsClause paths) = AllOf (PathHolds N) paths
ClauseP N (WhenClause e) = ExprHolds N e

pub record ClausesP (N : NameConditions) (x : ClausesTree) : Type 0 where
  inherits : IfThere (AllOf (PathHolds N)) x.inherits
  merges : IfThere (AllOf (PathHolds N)) x.merges
  disjuncts : IfThere (AllOf (PathHolds N)) x.disjuncts
  condition : IfThere (ExprHolds N) x.condition

pub record BodyP (N : NameConditions) (x : BodyTree) : Type 0 where
  init : AllOf (StmtHolds N) x.init
  population : AllOf (StmtHolds N) x.population
  finish : AllOf (StmtHolds N) x.finish

abbrev EndingP : NameConditions → Option StmtTerm ⊎ List StmtTerm → Type 0
EndingP N (inl last) = IfThere (StmtHolds N) last
EndingP N (inr finish) = AllOf (StmtHolds N) finish

abbrev said : NameConditions → Said Predicate
said N = record {
  named = NamedP N;
  name = N.name;
  string = N.text;
  uri = N.text;
  source = N.text;
  path = PathHolds N;
  kind = TypeHolds N;
  expr = ExprHolds N;
  range = RangeHolds N;
  item = ItemHolds N;
  filter = FilterHolds N;
  form = Both Any (Both (IfThere (PathHolds N)) (IfThere (FilterHolds N)));
  resolve = ResolveHolds N;
  accumulator = AccumulatorHolds N;
  map = MapHolds N;
  args = ArgsP N;
  step = StepHolds N;
  dot = StepHolds N;
  arrow = StepHolds N;
  dot_call = StepHolds N;
  arrow_call = StepHolds N;
  variable = VariableHolds N;
  sign = Any;
  link = LinkHolds N;
  target = TargetHolds N;
  stmt = StmtHolds N;
  compound = StmtHolds N;
  items = AllOf (StmtHolds N);
  inside = AllOf (StmtHolds N);
  block = AllOf (StmtHolds N);
  turn = AllOf (StmtHolds N);
  helper_body = AllOf (StmtHolds N);
  arm = ArmHolds N;
  each = PartP N;
  unit_path = λ p. NamesHold N p.names;
  typed = TypedHolds N;
  feature = TypedHolds N;
  result = ResultHolds N;
  guard_end = Any;
  guard = ExprHolds N;
  clause = ClauseP N;
  clauses = ClausesP N;
  ending = EndingP N;
  sections = Both (AllOf (StmtHolds N)) (AllOf (StmtHolds N));
  body = BodyP N;
  unit = UnitHolds N;
  turn_units = AllOf (UnitHolds N);
  model_type = ModelTypeHolds N;
  model_param = ModelParamHolds N;
  model_params = AllOf (ModelParamHolds N);
  whole = HasNames N;
}

module _ (N : NameConditions) where
  name_is : (n : Option Named) → IfThere (NamedP N) n → IfThere N.name (name_text n)
  name_is None h = tt
  name_is (Some n) h = h

  args_or_none : (a : Option (HeadTerm × List ExprTerm)) → IfThere (ArgsP N) a → ArgsP N (or_no_args a)
  args_or_none None h = (tt, tt)
  args_or_none (Some a) h = h

  signs_is : (a : Place × (List Sign × ExprTerm)) → ExprHolds N a.1.1 → ExprHolds N (signed_of a)
  signs_is (place, ([], e)) h = h
  signs_is (place, ((s ∷ ss), e)) h = signed_is N place (s ∷ ss) e h

  chain_is : (level : Level) (a : Place × (ExprTerm × List LinkTerm)) → ExprHolds N a.1.0 → AllOf (LinkHolds N) a.1.1 → ExprHolds N (chained level a)
  chain_is level (place, (e, [])) h k = h
  chain_is level (place, (e, (l ∷ ls))) h k = (h, links_are N (l ∷ ls) k)

  with_is : (x : ClausesTree) (c : ClauseTree) → ClausesP N x → ClauseP N c → ClausesP N (with_clause x c)
  with_is x (InheritsClause paths) h k = record { inherits = k; merges = h.merges; disjuncts = h.disjuncts; condition = h.condition }
  with_is x (MergesClause paths) h k = record { inherits = h.inherits; merges = k; disjuncts = h.disjuncts; condition = h.condition }
  with_is x (DisjunctsClause paths) h k = record { inherits = h.inherits; merges = h.merges; disjuncts = k; condition = h.condition }
  with_is x (WhenClause e) h k = record { inherits = h.inherits; merges = h.merges; disjuncts = h.disjuncts; condition = k }

  clauses_are : (x : ClausesTree) (cs : List ClauseTree) → ClausesP N x → AllOf (ClauseP N) cs → ClausesP N (with_clauses x cs)
  clauses_are x [] h k = h
  clauses_are x (c ∷ cs) h k = clauses_are (with_clause x c) cs (with_is x c h k.0) k.1

  sections_are : (a : List StmtTerm × (Option StmtTerm ⊎ List StmtTerm)) → AllOf (StmtHolds N) a.0 → EndingP N a.1 → Both (AllOf (StmtHolds N)) (AllOf (StmtHolds N)) (open_sections a)
  sections_are (all, (inl last)) h k = (all_and (StmtHolds N) all (last_of last) h (the_last N last k), tt)
  sections_are (all, (inr finish)) h k = (h, k)

  pub makers : Makers (forms (Tells N)) (said N)
  makers = record {
    named_of = λ t h. h.0.0 h.1;
    name_of = λ t h. h.0.0 h.1;
    string_of = λ t h. h.0.1 h.1;
    path_of = λ a h. (h.0, texts N a.1 h.1);
    unit_path_of = λ a h. (h.0, texts N a.1 h.1);
    coll_type_of = λ a h. h.1;
    path_type = λ a h. h;
    range_of = λ a h. h.1;
    item_of = λ a h. (h.0, range_is N a.1.1 h.1);
    filter_of = λ a h. (name_is a.1.0 h.0, h.1.0, optional_is N a.1.1.1 h.1.1);
    all_of = λ a h. (tt, (tt, h.1));
    in_of = λ a h. (tt, (h.1.1.0, h.1.1.1.0));
    resolve_of = λ a h. (h.1.1.0, filter_is N a.1.1.1.1 h.1.1.1);
    accumulator_of = λ a h. (h.0, h.1.0, h.1.1);
    map_of = λ a h. (h.1.0, exprs_are N a.1.1 h.1.1);
    dot_of = λ a h. (h.0, args_are N a.1 h.1);
    headed_body = λ a h. ((h.0.0, h.0.1.0, accumulator_is N a.0.1.1 h.0.1.1), (h.1, tt));
    without_head = λ a h. (tt, h);
    or_no_args = args_or_none;
    arrow_of = λ a h. (h.0, h.1.0, exprs_are N a.1.1 h.1.1);
    dot_map = λ a h. h;
    dot_resolve = λ a h. h;
    arrow_map = λ a h. h;
    arrow_resolve = λ a h. h;
    after_dot = λ a h. h;
    after_arrow = λ a h. h;
    call_after_dot = λ a h. h;
    call_after_arrow = λ a h. h;
    int_of = λ t h. tt;
    str_of = λ t h. h.0.1 h.1;
    true_of = λ t h. tt;
    false_of = λ t h. tt;
    null_of = λ t h. tt;
    self_of = λ t h. tt;
    result_of = λ t h. tt;
    path_expr = λ a h. h;
    call_of = λ a h. (h.0, exprs_are N a.1 h.1);
    coll_of = λ a h. items_are N a.1 h.1;
    if_of = λ a h. (h.1.0, h.1.1.0, h.1.1.1);
    named_var = λ a h. h;
    result_var = λ a h. tt;
    object_of = λ a h. (h.1.0, h.1.1.0, h.1.1.1.0, stmts_are N a.1.1.1.1 h.1.1.1.1);
    new_of = λ a h. (h.1.0, h.1.1.0, exprs_are N a.1.1.1 h.1.1.1);
    map_expr = λ a h. h;
    resolve_expr = λ a h. h;
    brackets = λ a h. h;
    stepped_of = λ a h. post_is N a.0 a.1.0 a.1.1 h.0 h.1;
    not_of = λ t h. tt;
    minus_of = λ t h. tt;
    signed_of = λ a h. signs_is a h.1;
    linked = λ level a h. h.1;
    chained = λ level a h. chain_is level a h.0 h.1;
    named_target = λ a h. h;
    result_target = λ a h. tt;
    feature_target = λ a h. (h.0, h.1);
    var_of = λ a h. (h.1.0, h.1.1.0, optional_is N a.1.1.1.1 h.1.1.1);
    assign_of = λ a h. (h.0, h.1.1);
    return_of = λ a h. optional_is N a.1.1 h.1;
    value_of = λ a h. h;
    arm_of = λ a h. (h.1.0, stmts_are N a.1.1.1 h.1.1.1);
    block_form_of = λ a h. (h.1.0, stmts_are N a.1.1.1.1.0 h.1.1.1.0, arms_are N a.1.1.1.1.1.0 h.1.1.1.1.0, else_is N a.1.1.1.1.1.1.0 h.1.1.1.1.1.0);
    while_of = λ a h. (h.1.0, stmts_are N a.1.1.1 h.1.1);
    each_of = λ a h. (h.1.1.0, h.1.1.1.0, optional_is N a.1.1.1.1.0 h.1.1.1.1.0, h.1.1.1.1.1.1);
    loop_of = λ a h. (h.0, h.1.0, h.1.1, h.1.2, stmts_are N a.1.1.body h.1.3);
    no_stmts = λ a h. tt;
    simple_turn = λ a h. (h, tt);
    compound_turn = λ a h. (h, tt);
    concat = all_in N;
    with_last = λ a h. all_and (StmtHolds N) a.0 (last_of a.1) h.0 (the_last N a.1 h.1);
    braces = λ a h. h;
    param_of = λ a h. h.1;
    typed_name_of = λ a h. h;
    class_of = λ a h. (h.0, none_or N a.1.1.0 h.1.0, h.1.1);
    main_of = λ a h. stmts_are N a.1 h;
    return_body = λ a h. (h.1, tt);
    block_body = λ a h. h;
    helper_of = λ a h. (h.1.0, h.1.1.0, h.1.1.1.0, stmts_are N a.1.1.1.1 h.1.1.1.1);
    constructor_of = λ a h. (h.0, h.1.0, tt, stmts_are N a.1.1 h.1.1);
    result_decl_of = λ a h. h;
    inherits = λ a h. h;
    merges = λ a h. h;
    disjuncts = λ a h. h;
    guard_end = λ a h. tt;
    guard = λ a h. h.1.0;
    condition = λ a h. h;
    clauses_of = λ a h. clauses_are no_clauses a (record { inherits = tt; merges = tt; disjuncts = tt; condition = tt }) h;
    sections_of = λ a h. (h.0, no_stmts_or N a.1 h.1);
    ends_in_simple = λ a h. h;
    ends_in_block = λ a h. h;
    open_sections = λ a h. sections_are a h.0 h.1;
    empty_body = λ a h. record { init = tt; population = tt; finish = tt };
    body_of = λ a h. record { init = no_stmts_or N a.1.0 h.1.0; population = h.1.1.0.0; finish = h.1.1.0.1 };
    mapping_of = λ a h. record {
      path = h.0;
      params = h.1.0;
      result_decl = h.1.1.0;
      inherits = none_or N a.1.1.1.0.inherits h.1.1.1.0.inherits;
      merges = none_or N a.1.1.1.0.merges h.1.1.1.0.merges;
      disjuncts = none_or N a.1.1.1.0.disjuncts h.1.1.1.0.disjuncts;
      condition = optional_is N a.1.1.1.0.condition h.1.1.1.0.condition;
      init = stmts_are N a.1.1.1.1.init h.1.1.1.1.init;
      population = stmts_are N a.1.1.1.1.population h.1.1.1.1.population;
      finish = stmts_are N a.1.1.1.1.finish h.1.1.1.1.finish;
    };
    some_unit = λ a h. (h, tt);
    no_units = λ a h. tt;
    uri_text = λ a h. h;
    uri_named = λ a h. h;
    source = λ a h. h.1;
    model_type_of = λ a h. h;
    model_param_of = λ a h. h.1;
    model_params = λ a h. h.1.0;
    module_of = λ a h. record { model_types = h.0; name = h.1.0.0; params = h.1.0.1; units = all_units N a.1.1 h.1.1 };
    strict = such (token_of (Str ∷ [])) _;
    once = λ j h. such (many_of h) _;
  }
