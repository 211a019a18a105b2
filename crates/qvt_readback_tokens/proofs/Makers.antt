-- That the pieces are sound, said of each kind of value, and kept by what the rows make of their parts.
use Rattle.qvt_base.specs.declared.numbers.Place.{Place}
use Rattle.qvt_language.specs.StmtTrees.{is_adding, last_of}
use Rattle.qvt_language.specs.Trees.{arrow_of, binary_op, coll_kind, is_strict, is_there}
use Rattle.qvt_language.specs.UnitTrees.{paths_or_none, is_query, ClausesTree, no_clauses, ClauseTree, InheritsClause, MergesClause, DisjunctsClause, WhenClause, with_clause, stmts_or_none}
use Rattle.qvt_language.specs.declared.class.Class.TheVariants as class
use Rattle.qvt_language.specs.declared.class.Class.TheVariants.{Str}
use Rattle.qvt_language.specs.declared.named.Named.{Named}
use Rattle.qvt_language_rows.proofs.Every.{Said, Makers}
use Rattle.qvt_language_rows.proofs.Gives.{Both, all_and, Predicate, Any, forms, token_of, many_of, such}
use Rattle.qvt_language_rows.specs.Lists.{AllOf, IfThere}
use Rattle.qvt_language_rows.specs.Values.{name_text, signed_of, chained, feature_target, or_no_args, with_clauses, open_sections}
use Rattle.qvt_printer.specs.Expressions as print
use Rattle.qvt_printer.specs.Levels.{is_as_loose, is_chain_or_prefix}
use Rattle.qvt_printer_layout.specs.declared.piece.PrintPiece.TheVariants as piece
use Rattle.qvt_readback_tokens.proofs.Made.{path_is, range_is, conditional_is, object_is, new_is, filter_condition, filter_is, args_if, headed_is, post_is, signed_is, var_is, return_is, arm_is, if_is, while_is, each_is, assign_is, value_stmt, all_in, the_last, none_or, class_is, main_is, helper_is, constructor_is, mapping_is, all_units, NamedP, UnitPathP, ArrowP, TypedP, UnitP, ResultP, ModelTypeP, ModelParamP, PartP, ClausesP, BodyP, ModuleP}
use Rattle.qvt_readback_tokens.proofs.Parts as sound
use Rattle.qvt_readback_tokens.proofs.Parts.{PathP, TypeP, ExprP, LinkP, MapP, ResolveP, TargetP, StepP, AccumulatorP, StmtP, VariableP, ItemP, RangeP, FilterP, ArmP}
use Rattle.qvt_readback_tokens.proofs.Sound.{held_free}
use Rattle.qvt_readback_tokens.specs.Told.{IsName, IsEncoded, IsTold}
use Rattle.qvt_tree_types.specs.Tree.{ExprTerm, StmtTerm, LinkTerm, HeadTerm}
use Rattle.qvt_tree_types.specs.View.{exprs_of, items_of, stmts_of, optional_expr, optional_range, optional_filter, links_of}
use Rattle.qvt_tree_types.specs.declared.words.Level.{Level}
use Rattle.qvt_tree_types.specs.declared.words.Sign.{Sign}
use Rattle.std.proofs.Common.{List, [], ◌∷◌, ◌++◌, false, ◌⊎◌, inl, inr, refl, Option, Some, None}

abbrev ClauseP : ClauseTree → Type 0
ClauseP (InheritsClause ps) = AllOf PathP ps
ClauseP (MergesClause ps) = AllOf PathP ps
ClauseP (DisjunctsClause ps) = AllOf PathP ps
ClauseP (WhenClause e) = ExprP e

abbrev EndingP : Option StmtTerm ⊎ List StmtTerm → Type 0
EndingP (inl last) = IfThere StmtP last
EndingP (inr finish) = AllOf StmtP finish

abbrev SectionsP : List StmtTerm × List StmtTerm → Type 0
SectionsP = Both (AllOf StmtP) (AllOf StmtP)

abbrev said : Said Predicate
said = record {
  named = NamedP;
  name = IsName;
  string = IsEncoded;
  uri = IsEncoded;
  source = IsEncoded;
  path = PathP;
  kind = TypeP;
  expr = ExprP;
  range = RangeP;
  item = ItemP;
  filter = FilterP;
  form = Both Any (Both (IfThere PathP) (IfThere FilterP));
  resolve = ResolveP;
  accumulator = AccumulatorP;
  map = MapP;
  args = ArrowP;
  step = StepP;
  dot = StepP;
  arrow = StepP;
  dot_call = StepP;
  arrow_call = StepP;
  variable = VariableP;
  sign = Any;
  link = LinkP;
  target = TargetP;
  stmt = StmtP;
  compound = StmtP;
  items = AllOf StmtP;
  inside = AllOf StmtP;
  block = AllOf StmtP;
  turn = AllOf StmtP;
  helper_body = AllOf StmtP;
  arm = ArmP;
  each = PartP;
  unit_path = UnitPathP;
  typed = TypedP;
  feature = TypedP;
  result = ResultP;
  guard_end = Any;
  guard = ExprP;
  clause = ClauseP;
  clauses = ClausesP;
  ending = EndingP;
  sections = SectionsP;
  body = BodyP;
  unit = UnitP;
  turn_units = AllOf UnitP;
  model_type = ModelTypeP;
  model_param = ModelParamP;
  model_params = AllOf ModelParamP;
  whole = ModuleP;
}

name_is : (n : Option Named) → IfThere NamedP n → IfThere IsName (name_text n)
name_is None h = tt
name_is (Some n) h = h

args_or_none : (a : Option (HeadTerm × List ExprTerm)) → IfThere ArrowP a → ArrowP (or_no_args a)
args_or_none None h = refl
args_or_none (Some a) h = h

arrow_is : (a : Named × (HeadTerm × List ExprTerm)) → NamedP a.0 → ArrowP a.1 → StepP (arrow_of a)
arrow_is a h k =
    let inside = print.head a.1.0 ++ print.exprs false (exprs_of a.1.1) in
    (refl, (h, refl, held_free (print.in_round inside) (sound.in_round inside k)))

signs_are : (a : Place × (List Sign × ExprTerm)) → ExprP a.1.1 → ExprP (signed_of a)
signs_are (place, ([], e)) h = h
signs_are (place, ((s ∷ ss), e)) h = signed_is place (s ∷ ss) e h

chain_is : (level : Level) (a : Place × (ExprTerm × List LinkTerm)) → ExprP a.1.0 → AllOf LinkP a.1.1 → ExprP (chained level a)
chain_is level (place, (e, [])) h k = h
chain_is level (place, (e, (l ∷ ls))) h k =
    let first = print.round_if (is_as_loose level e) (print.expr e) in
    sound.then_more first (print.links level (links_of (l ∷ ls))) (sound.round_if (is_as_loose level e) (print.expr e) h) (sound.links level (l ∷ ls) k)

target_is : (e : ExprTerm) (n : Named) → ExprP e → NamedP n → TargetP (feature_target (e, n))
target_is e n h k =
    let first = print.round_if (is_chain_or_prefix e) (print.expr e) in
    sound.then_more first (piece.Plain class.Dot ∷ piece.Name n.text ∷ []) (sound.round_if (is_chain_or_prefix e) (print.expr e) h) (refl, (k, refl, refl))

some_stmts : (ss : Option (List StmtTerm)) → IfThere (AllOf StmtP) ss → AllOf StmtP (stmts_or_none ss)
some_stmts None k = tt
some_stmts (Some ss) k = k

with_is : (x : ClausesTree) (c : ClauseTree) → ClausesP x → ClauseP c → ClausesP (with_clause x c)
with_is x (InheritsClause ps) k j = record { inherits = j; merges = k.merges; disjuncts = k.disjuncts; condition = k.condition }
with_is x (MergesClause ps) k j = record { inherits = k.inherits; merges = j; disjuncts = k.disjuncts; condition = k.condition }
with_is x (DisjunctsClause ps) k j = record { inherits = k.inherits; merges = k.merges; disjuncts = j; condition = k.condition }
with_is x (WhenClause e) k j = record { inherits = k.inherits; merges = k.merges; disjuncts = k.disjuncts; condition = j }

clauses_are : (x : ClausesTree) (cs : List ClauseTree) → ClausesP x → AllOf ClauseP cs → ClausesP (with_clauses x cs)
clauses_are x [] h k = h
clauses_are x (c ∷ cs) h k = clauses_are (with_clause x c) cs (with_is x c h k.0) k.1

sections_are : (a : List StmtTerm × (Option StmtTerm ⊎ List StmtTerm)) → AllOf StmtP a.0 → EndingP a.1 → SectionsP (open_sections a)
sections_are (all, (inl last)) h k = (all_and StmtP all (last_of last) h (the_last last k), tt)
sections_are (all, (inr finish)) h k = (h, k)

pub makers : Makers (forms IsTold) said
makers = record {
  named_of = λ t h. h.0.name h.1;
  name_of = λ t h. h.0.name h.1;
  string_of = λ t h. h.0.text h.1;
  path_of = λ a h. path_is a.0 a.1 h.0 h.1;
  unit_path_of = λ a h. path_is a.0 a.1 h.0 h.1;
  coll_type_of = λ a h. sound.coll_type (coll_kind a.0.class) a.1 a.0.place h.1;
  path_type = λ a h. h;
  range_of = λ a h. (refl, held_free (print.expr a.1) h.1);
  item_of = λ a h. sound.item a.1.0 (optional_range a.1.1) a.0 h.0 (range_is a.1.1 h.1);
  filter_of = λ a h. sound.filter (name_text a.1.0) a.1.1.0 (optional_expr a.1.1.1) a.0 (name_is a.1.0 h.0) h.1.0 (filter_condition a.1.1.1 h.1.1);
  all_of = λ a h. (tt, (tt, h.1));
  in_of = λ a h. (tt, (h.1.1.0, h.1.1.1.0));
  resolve_of = λ a h. sound.resolve_call (is_there a.1.0) a.1.1.0 a.1.1.1.0 (optional_filter a.1.1.1.1) a.0 h.1.1.0 (filter_is a.1.1.1.1 h.1.1.1);
  accumulator_of = λ a h. sound.accumulator a.0.text a.1.0 a.1.1 a.0.place h.0 h.1.0 h.1.1;
  map_of = λ a h. sound.map_word (is_strict a.0.class) (piece.Name a.1.0.text ∷ print.in_round (print.exprs false (exprs_of a.1.1))) (h.1.0, refl, sound.args a.1.1 h.1.1);
  dot_of = λ a h. (refl, (h.0, refl, args_if a.1 h.1));
  headed_body = λ a h. headed_is a.0.0.text a.0.0.place (a.0.1.0, (a.0.1.1, a.1)) h.0.0 (h.0.1.0, (h.0.1.1, h.1));
  without_head = λ a h. sound.exprs a h;
  or_no_args = args_or_none;
  arrow_of = λ a h. arrow_is a h.0 h.1;
  dot_map = λ a h. (refl, h);
  dot_resolve = λ a h. (refl, h);
  arrow_map = λ a h. (refl, held_free (print.map_call a) h);
  arrow_resolve = λ a h. (refl, held_free (print.resolve a) h);
  after_dot = λ a h. h;
  after_arrow = λ a h. h;
  call_after_dot = λ a h. h;
  call_after_arrow = λ a h. h;
  int_of = λ t h. (h.0.integer h.1, refl, refl);
  str_of = λ t h. (h.0.text h.1, refl, refl);
  true_of = λ t h. (refl, refl);
  false_of = λ t h. (refl, refl);
  null_of = λ t h. (refl, refl);
  self_of = λ t h. (refl, refl);
  result_of = λ t h. (refl, refl);
  path_expr = λ a h. h;
  call_of = λ a h. (h.0, refl, sound.args a.1 h.1);
  coll_of = λ a h. sound.kind_word (coll_kind a.0.class) (print.in_items (print.all_items false (items_of a.1))) (sound.in_items (print.all_items false (items_of a.1)) (sound.items a.1 h.1));
  if_of = λ a h. conditional_is a.1.1.0 a.1.1.1.0 a.1.1.1.1 h.1.0 h.1.1.0 h.1.1.1;
  named_var = λ a h. h;
  result_var = λ a h. tt;
  object_of = λ a h. object_is a.1.0 a.1.1.0 a.1.1.1.0 a.1.1.1.1 h.1.0 h.1.1.0 h.1.1.1.0 h.1.1.1.1;
  new_of = λ a h. new_is a.1.0 a.1.1.0 a.1.1.1 h.1.0 h.1.1.0 h.1.1.1;
  map_expr = λ a h. h;
  resolve_expr = λ a h. h;
  brackets = λ a h. h;
  stepped_of = λ a h. post_is a.0 a.1.0 a.1.1 h.0 h.1;
  not_of = λ t h. tt;
  minus_of = λ t h. tt;
  signed_of = λ a h. signs_are a h.1;
  linked = λ level a h. sound.link (binary_op a.0.class) a.1 a.0.place h.1;
  chained = λ level a h. chain_is level a h.0 h.1;
  named_target = λ a h. (h, refl, refl);
  result_target = λ a h. (refl, refl);
  feature_target = λ a h. target_is a.0 a.1 h.0 h.1;
  var_of = λ a h. var_is a.1.1.0.text a.1.1.1.0 a.1.1.1.1 a.0 h.1.0 h.1.1.0 h.1.1.1;
  assign_of = λ a h. assign_is a.0 (is_adding a.1.0.class) a.1.1 a.1.0.place h.0 h.1.1;
  return_of = λ a h. return_is a.1.1 a.0 h.1;
  value_of = λ a h. value_stmt a.1 a.0 h;
  arm_of = λ a h. arm_is a.1.0 a.1.1.1 h.1.0 h.1.1.1;
  block_form_of = λ a h. if_is a.1.1.0 a.1.1.1.1.0 a.1.1.1.1.1.0 a.1.1.1.1.1.1.0 a.0 h.1.0 h.1.1.1.0 h.1.1.1.1.0 h.1.1.1.1.1.0;
  while_of = λ a h. while_is a.1.1.0 a.1.1.1 a.0 h.1.0 h.1.1;
  each_of = λ a h. record { name = h.1.1.0; kind = h.1.1.1.0; condition = filter_condition a.1.1.1.1.0 h.1.1.1.1.0; body = h.1.1.1.1.1.1 };
  loop_of = λ a h. each_is a.1.0 a.1.1 a.0 h.0 h.1;
  no_stmts = λ a h. tt;
  simple_turn = λ a h. (h, tt);
  compound_turn = λ a h. (h, tt);
  concat = all_in;
  with_last = λ a h. all_and StmtP a.0 (last_of a.1) h.0 (the_last a.1 h.1);
  braces = λ a h. h;
  param_of = λ a h. (h.1.0, refl, (refl, h.1.1));
  typed_name_of = λ a h. (h.0, refl, (refl, h.1));
  class_of = λ a h. class_is (record { name = a.1.0.text; supers = paths_or_none a.1.1.0; features = a.1.1.1; place = a.0 }) h.0 (none_or a.1.1.0 h.1.0) h.1.1;
  main_of = λ a h. main_is a.1 a.0 h;
  return_body = λ a h. (sound.ended (piece.Plain class.ReturnWord ∷ print.expr a.1) (refl, held_free (print.expr a.1) h.1), tt);
  block_body = λ a h. h;
  helper_of = λ a h. helper_is (record { pure = is_query a.0.class; path = a.1.0.names; params = a.1.1.0; answer = a.1.1.1.0; body = stmts_of a.1.1.1.1; place = a.1.0.place }) a.1.1.1.1 refl h.1.0 h.1.1.0 h.1.1.1.0 h.1.1.1.1;
  constructor_of = λ a h. constructor_is a.0.names a.1.0 a.1.1 a.0.place h.0 h.1.0 h.1.1;
  result_decl_of = λ a h. (h.0, h.1);
  inherits = λ a h. h;
  merges = λ a h. h;
  disjuncts = λ a h. h;
  guard_end = λ a h. tt;
  guard = λ a h. h.1.0;
  condition = λ a h. h;
  clauses_of = λ a h. clauses_are no_clauses a (record { inherits = tt; merges = tt; disjuncts = tt; condition = tt }) h;
  sections_of = λ a h. (h.0, some_stmts a.1 h.1);
  ends_in_simple = λ a h. h;
  ends_in_block = λ a h. h;
  open_sections = λ a h. sections_are a h.0 h.1;
  empty_body = λ a h. record { init = tt; population = tt; finish = tt };
  body_of = λ a h. record { init = some_stmts a.1.0 h.1.0; population = h.1.1.0.0; finish = h.1.1.0.1 };
  mapping_of = λ a h. mapping_is a.0 a.1.0 a.1.1.0 a.1.1.1.0 a.1.1.1.1 h.0 h.1.0 h.1.1.0 h.1.1.1.0 h.1.1.1.1;
  some_unit = λ a h. (h, tt);
  no_units = λ a h. tt;
  uri_text = λ a h. h;
  uri_named = λ a h. h;
  source = λ a h. h.1;
  model_type_of = λ a h. (h.0, h.1);
  model_param_of = λ a h. (h.1.0, h.1.1);
  model_params = λ a h. h.1.0;
  module_of = λ a h. record { model_types = h.0; name = h.1.0.0; params = h.1.0.1; units = all_units a.1.1 h.1.1 };
  strict = such (token_of (Str ∷ [])) _;
  once = λ j h. such (many_of h) _;
}
