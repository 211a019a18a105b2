-- What is kept holds of the productions of names, types, expressions and steps.
use Rattle.std.specs.Prelude.{[], ◌∷◌, Some}
use Rattle.std.proofs.Common.{inl, inr, refl}
use Rattle.qvt_tree_types.specs.Tree.{PathType, MapExpr, ResolveExpr, DotMapStep, DotResolveStep, ArrowMapStep, ArrowResolveStep, BareTarget}
use Rattle.qvt_language.specs.Tokens.{code_of}
use Rattle.qvt_language.specs.Firsts.{kind_first, map_first, all_first, resolve_first, literal_first, word_first, primary_first, expr_first, expr_next, head_first, step_first, sign_first}
use Rattle.qvt_language.specs.Grammar.{NestedLanguages, name, more_names, path, paths, unit_path, extent, kind_word, coll_type, typed, colon_type, expr, exprs, args, literal, word, named_expr, item, coll, if_expr, colon_path, object_head, object, new_expr, map_call, filter_head, bar_expr, filter, all_word, in_word, all_form, in_form, resolve, brackets, longer, bare_expr, other_primary, primary, dot_rest, dot_step, accumulator, head_rest, more_exprs, arrow_body, arrow_args, arrow_rest, step, post, sign, more_signs, signs, signed_post, pre, each_tail, after_first}
use Rattle.qvt_language.specs.Reading.{NestedAt, name_at, more_names_at, path_at, paths_at, unit_path_at, extent_at, kind_word_at, coll_type_at, typed_at, colon_type_at, expr_at, exprs_at, args_at, literal_at, word_at, named_expr_at, item_at, coll_at, if_expr_at, colon_path_at, object_head_at, object_at, new_expr_at, map_call_at, filter_head_at, bar_expr_at, filter_at, all_word_at, in_word_at, all_form_at, in_form_at, resolve_at, brackets_at, longer_at, bare_expr_at, other_primary_at, primary_at, dot_rest_at, dot_step_at, accumulator_at, head_rest_at, more_exprs_at, arrow_body_at, arrow_args_at, arrow_rest_at, step_at, post_at, sign_at, more_signs_at, signs_at, signed_post_at, pre_at, each_tail_at, after_first_at}
use Rattle.qvt_language.specs.Trees.{second, first, cons_of, nothing, inner, text_of, named_of, path_of, unit_path_of, coll_type_of, int_of, str_of, true_of, false_of, null_of, self_of, result_of, named_expr_of, coll_of, range_of, item_of, if_of, result_head, named_head, object_of, new_of, map_of, all_of, in_of, resolve_of, no_name, named_type, filter_of, bare, bracketed, dot_of, accumulator_of, expr_of, no_args, arrow_of, headed, with_first, post_lead, not_of, minus_of, prefix_lead, each_of}
use Rattle.qvt_words.specs.declared.class.Class.TheVariants.{Name, Integer, Str, OpenRound, CloseRound, OpenBrace, CloseBrace, Comma, Semicolon, Colon, DoubleColon, Dot, DotDot, Bar, AtSign, EqualSign, BagWord, ElseWord, EndifWord, FalseWord, IfWord, InvResolveWord, InvResolveInWord, InvResolveOneWord, InvResolveOneInWord, LateWord, MapWord, NewWord, NullWord, ObjectWord, OrderedSetWord, ResolveAllWord, ResolveInWord, ResolveOneWord, ResolveOneInWord, ResultWord, SelfWord, SequenceWord, SetWord, ThenWord, TrueWord, XmapWord, Arrow, MinusSign, ForEachWord, NotWord}
use Rattle.qvt_language.specs.Leads.{Lead, Plain}
use Rattle.qvt_language.proofs.Every.{solid, loose, later, fits, Keeping, Valuing, Forms, Inside}

module _ {K KB : Keeping} {KV : Valuing} (F : Forms K KB KV) where
  pub k_name : K _ (solid (0 ∷ []) []) name name name_at
  unfolding name name_at
  k_name = F.wider (fits refl) (F.gives named_of (F.token Name))

  pub k_more_names : K _ (loose (10 ∷ []) (10 ∷ [])) more_names more_names more_names_at
  unfolding more_names more_names_at
  k_more_names = F.wider (fits refl) (F.turns (code_of DoubleColon ∷ []) refl refl (F.gives second (F.both (F.token DoubleColon) k_name refl)))

  pub k_path : K _ (solid (0 ∷ []) (10 ∷ [])) path path path_at
  unfolding path path_at
  k_path = F.wider (fits refl) (F.gives path_of (F.both k_name k_more_names refl))

  pub k_paths : K _ (solid (0 ∷ []) (7 ∷ 10 ∷ [])) paths paths paths_at
  unfolding paths paths_at
  k_paths = F.wider (fits refl) (F.gives cons_of (F.both k_path (F.turns (code_of Comma ∷ []) refl refl (F.gives second (F.both (F.token Comma) k_path refl))) refl))

  pub k_unit_path : K _ (solid (0 ∷ []) (10 ∷ [])) unit_path unit_path unit_path_at
  unfolding unit_path unit_path_at
  k_unit_path = F.wider (fits refl) (F.gives unit_path_of (F.both k_name k_more_names refl))

  pub k_extent : K _ (loose (15 ∷ []) (15 ∷ [])) extent extent extent_at
  unfolding extent extent_at
  k_extent = F.wider (fits refl) (F.perhaps (code_of AtSign ∷ []) refl (F.gives second (F.both (F.token AtSign) (F.gives text_of (F.token Name)) refl)))

  pub k_kind_word : K _ (solid (30 ∷ 66 ∷ 77 ∷ 78 ∷ []) []) kind_word kind_word kind_word_at
  unfolding kind_word kind_word_at
  k_kind_word = F.wider (fits refl) (F.one_of (code_of SetWord ∷ []) (F.token SetWord) (F.one_of (code_of BagWord ∷ []) (F.token BagWord) (F.one_of (code_of SequenceWord ∷ []) (F.token SequenceWord) (F.token OrderedSetWord) refl refl) refl refl) refl refl)

  pub k_colon_path : K _ (solid (9 ∷ []) (10 ∷ [])) colon_path colon_path colon_path_at
  unfolding colon_path colon_path_at
  k_colon_path = F.wider (fits refl) (F.gives second (F.both (F.token Colon) k_path refl))

  pub k_object_head : K _ (solid (0 ∷ 74 ∷ []) (9 ∷ 10 ∷ [])) object_head object_head object_head_at
  unfolding object_head object_head_at
  k_object_head = F.wider (fits refl) (F.one_of (code_of ResultWord ∷ []) (F.gives result_head (F.both (F.token ResultWord) k_colon_path refl)) (F.gives named_head (F.both k_name (F.one_of (code_of Colon ∷ []) (F.gives inl k_colon_path) (F.gives inr k_more_names) refl refl) refl)) refl refl)

  pub k_all_word : K _ (solid (50 ∷ 52 ∷ 70 ∷ 72 ∷ []) []) all_word all_word all_word_at
  unfolding all_word all_word_at
  k_all_word = F.wider (fits refl) (F.one_of (code_of ResolveAllWord ∷ []) (F.token ResolveAllWord) (F.one_of (code_of ResolveOneWord ∷ []) (F.token ResolveOneWord) (F.one_of (code_of InvResolveWord ∷ []) (F.token InvResolveWord) (F.token InvResolveOneWord) refl refl) refl refl) refl refl)

  pub k_in_word : K _ (solid (51 ∷ 53 ∷ 71 ∷ 73 ∷ []) []) in_word in_word in_word_at
  unfolding in_word in_word_at
  k_in_word = F.wider (fits refl) (F.one_of (code_of ResolveInWord ∷ []) (F.token ResolveInWord) (F.one_of (code_of ResolveOneInWord ∷ []) (F.token ResolveOneInWord) (F.one_of (code_of InvResolveInWord ∷ []) (F.token InvResolveInWord) (F.token InvResolveOneInWord) refl refl) refl refl) refl refl)

  pub k_sign : K _ (solid (25 ∷ 62 ∷ []) []) sign sign sign_at
  unfolding sign sign_at
  k_sign = F.wider (fits refl) (F.one_of (code_of NotWord ∷ []) (F.gives not_of (F.token NotWord)) (F.gives minus_of (F.token MinusSign)) refl refl)

  pub k_more_signs : K _ (loose (25 ∷ 62 ∷ []) (25 ∷ 62 ∷ [])) more_signs more_signs more_signs_at
  unfolding more_signs more_signs_at
  k_more_signs = F.wider (fits refl) (F.turns sign_first refl refl k_sign)

  pub k_signs : K _ (solid (25 ∷ 62 ∷ []) (25 ∷ 62 ∷ [])) signs signs signs_at
  unfolding signs signs_at
  k_signs = F.wider (fits refl) (F.both k_sign k_more_signs refl)

module _ {K KB : Keeping} {KV : Valuing} {F : Forms K KB KV} {i j : NestedLanguages} {r : NestedAt} (h : Inside F i j r) where
  pub k_coll_type : K _ (solid (30 ∷ 66 ∷ 77 ∷ 78 ∷ []) []) (coll_type i) (coll_type j) (coll_type_at r)
  unfolding coll_type coll_type_at
  k_coll_type = F.wider (fits refl) (F.gives coll_type_of (F.both (k_kind_word F) (F.gives inner (F.both (F.token OpenRound) (F.both h.kind (F.token CloseRound) refl) refl)) refl))

  pub k_typed : K _ (solid (0 ∷ 30 ∷ 66 ∷ 77 ∷ 78 ∷ []) (10 ∷ [])) (typed i) (typed j) (typed_at r)
  unfolding typed typed_at
  k_typed = F.wider (fits refl) (F.one_of kind_first k_coll_type (F.gives PathType (k_path F)) refl refl)

  pub k_colon_type : K _ (solid (9 ∷ []) (10 ∷ [])) (colon_type i) (colon_type j) (colon_type_at r)
  unfolding colon_type colon_type_at
  k_colon_type = F.wider (fits refl) (F.gives second (F.both (F.token Colon) k_typed refl))

  pub k_expr : K _ (later expr_first expr_next) (expr i) (expr j) (expr_at r)
  unfolding expr expr_at
  k_expr = F.wider (fits refl) (F.gives expr_of h.flagged)

  pub k_exprs : K _ (later expr_first (7 ∷ expr_next)) (exprs i) (exprs j) (exprs_at r)
  unfolding exprs exprs_at
  k_exprs = F.wider (fits refl) (F.gives cons_of (F.both k_expr (F.turns (code_of Comma ∷ []) refl refl (F.gives second (F.both (F.token Comma) k_expr refl))) refl))

  pub k_args : K _ (solid (3 ∷ []) []) (args i) (args j) (args_at r)
  unfolding args args_at
  k_args = F.wider (fits refl) (F.gives second (F.both (F.token OpenRound) (F.one_of (code_of CloseRound ∷ []) (F.gives nothing (F.token CloseRound)) (F.gives first (F.both k_exprs (F.token CloseRound) refl)) refl refl) refl))

  pub k_literal : K _ (solid (1 ∷ 2 ∷ 39 ∷ 81 ∷ []) []) literal literal literal_at
  unfolding literal literal_at
  k_literal = F.wider (fits refl) (F.one_of (code_of Integer ∷ []) (F.gives int_of (F.token Integer)) (F.one_of (code_of Str ∷ []) (F.gives str_of (F.token Str)) (F.one_of (code_of TrueWord ∷ []) (F.gives true_of (F.token TrueWord)) (F.gives false_of (F.token FalseWord)) refl refl) refl refl) refl refl)

  pub k_word : K _ (solid (63 ∷ 74 ∷ 76 ∷ []) []) word word word_at
  unfolding word word_at
  k_word = F.wider (fits refl) (F.one_of (code_of NullWord ∷ []) (F.gives null_of (F.token NullWord)) (F.one_of (code_of SelfWord ∷ []) (F.gives self_of (F.token SelfWord)) (F.gives result_of (F.token ResultWord)) refl refl) refl refl)

  pub k_named_expr : K _ (solid (0 ∷ []) (3 ∷ 10 ∷ [])) (named_expr i) (named_expr j) (named_expr_at r)
  unfolding named_expr named_expr_at
  k_named_expr = F.wider (fits refl) (F.gives named_expr_of (F.both (k_name F) (F.one_of (code_of OpenRound ∷ []) (F.gives inl k_args) (F.gives inr (k_more_names F)) refl refl) refl))

  pub k_item : K _ (later expr_first (12 ∷ expr_next)) (item i) (item j) (item_at r)
  unfolding item item_at
  k_item = F.wider (fits refl) (F.gives item_of (F.at (F.both k_expr (F.perhaps (code_of DotDot ∷ []) refl (F.gives range_of (F.both (F.token DotDot) k_expr refl))) refl)))

  pub k_coll : K _ (solid (30 ∷ 66 ∷ 77 ∷ 78 ∷ []) []) (coll i) (coll j) (coll_at r)
  unfolding coll coll_at
  k_coll = F.wider (fits refl) (F.gives coll_of (F.both (k_kind_word F) (F.gives second (F.both (F.token OpenBrace) (F.one_of (code_of CloseBrace ∷ []) (F.gives nothing (F.token CloseBrace)) (F.gives first (F.both (F.gives cons_of (F.both k_item (F.turns (code_of Comma ∷ []) refl refl (F.gives second (F.both (F.token Comma) k_item refl))) refl)) (F.token CloseBrace) refl)) refl refl) refl)) refl))

  pub k_if_expr : K _ (solid (42 ∷ []) []) (if_expr i) (if_expr j) (if_expr_at r)
  unfolding if_expr if_expr_at
  k_if_expr = F.wider (fits refl) (F.gives if_of (F.at (F.both (F.token IfWord) (F.both k_expr (F.both (F.gives second (F.both (F.token ThenWord) k_expr refl)) (F.gives inner (F.both (F.token ElseWord) (F.both k_expr (F.token EndifWord) refl) refl)) refl) refl) refl)))

  pub k_object : K _ (solid (64 ∷ []) []) (object i) (object j) (object_at r)
  unfolding object object_at
  k_object = F.wider (fits refl) (F.gives object_of (F.both (F.token ObjectWord) (F.both (k_object_head F) (F.both (k_extent F) h.block refl) refl) refl))

  pub k_new_expr : K _ (solid (61 ∷ []) []) (new_expr i) (new_expr j) (new_expr_at r)
  unfolding new_expr new_expr_at
  k_new_expr = F.wider (fits refl) (F.gives new_of (F.both (F.token NewWord) (F.both (k_path F) (F.both (k_extent F) k_args refl) refl) refl))

  pub k_map_call : K _ (solid (57 ∷ 86 ∷ []) []) (map_call i) (map_call j) (map_call_at r)
  unfolding map_call map_call_at
  k_map_call = F.wider (fits refl) (F.gives map_of (F.both (F.one_of (code_of MapWord ∷ []) (F.token MapWord) (F.token XmapWord) refl refl) (F.both (k_name F) k_args refl) refl))

  pub k_filter_head : K _ (solid (0 ∷ 30 ∷ 66 ∷ 77 ∷ 78 ∷ []) (9 ∷ 10 ∷ [])) (filter_head i) (filter_head j) (filter_head_at r)
  unfolding filter_head filter_head_at
  k_filter_head = F.wider (fits refl) (F.one_of kind_first (F.gives no_name k_coll_type) (F.gives named_type (F.both (k_name F) (F.one_of (code_of Colon ∷ []) (F.gives inl k_colon_type) (F.gives inr (k_more_names F)) refl refl) refl)) refl refl)

  pub k_bar_expr : K _ (solid (14 ∷ []) expr_next) (bar_expr i) (bar_expr j) (bar_expr_at r)
  unfolding bar_expr bar_expr_at
  k_bar_expr = F.wider (fits refl) (F.gives second (F.both (F.token Bar) k_expr refl))

  pub k_filter : K _ (solid (0 ∷ 30 ∷ 66 ∷ 77 ∷ 78 ∷ []) (9 ∷ 14 ∷ expr_next)) (filter i) (filter j) (filter_at r)
  unfolding filter filter_at
  k_filter = F.wider (fits refl) (F.gives filter_of (F.at (F.both k_filter_head (F.perhaps (code_of Bar ∷ []) refl k_bar_expr) refl)))

  pub k_all_form : K _ (solid (50 ∷ 52 ∷ 70 ∷ 72 ∷ []) []) (all_form i) (all_form j) (all_form_at r)
  unfolding all_form all_form_at
  k_all_form = F.wider (fits refl) (F.gives all_of (F.both (k_all_word F) (F.gives inner (F.both (F.token OpenRound) (F.both k_filter (F.token CloseRound) refl) refl)) refl))

  pub k_in_form : K _ (solid (51 ∷ 53 ∷ 71 ∷ 73 ∷ []) []) (in_form i) (in_form j) (in_form_at r)
  unfolding in_form in_form_at
  k_in_form = F.wider (fits refl) (F.gives in_of (F.both (k_in_word F) (F.both (F.token OpenRound) (F.both (k_path F) (F.both (F.perhaps (code_of Comma ∷ []) refl (F.gives second (F.both (F.token Comma) k_filter refl))) (F.token CloseRound) refl) refl) refl) refl))

  pub k_resolve : K _ (solid resolve_first []) (resolve i) (resolve j) (resolve_at r)
  unfolding resolve resolve_at
  k_resolve = F.wider (fits refl) (F.gives resolve_of (F.at (F.both (F.perhaps (code_of LateWord ∷ []) refl (F.token LateWord)) (F.one_of all_first k_all_form k_in_form refl refl) refl)))

  pub k_brackets : K _ (solid (3 ∷ []) []) (brackets i) (brackets j) (brackets_at r)
  unfolding brackets brackets_at
  k_brackets = F.wider (fits refl) (F.gives inner (F.both (F.token OpenRound) (F.both k_expr (F.token CloseRound) refl) refl))

  pub k_longer : K _ (solid (30 ∷ 57 ∷ 61 ∷ 64 ∷ 66 ∷ 77 ∷ 78 ∷ 86 ∷ resolve_first) []) (longer i) (longer j) (longer_at r)
  unfolding longer longer_at
  k_longer = F.wider (fits refl) (F.one_of kind_first k_coll (F.one_of (code_of ObjectWord ∷ []) k_object (F.one_of (code_of NewWord ∷ []) k_new_expr (F.one_of map_first (F.gives MapExpr k_map_call) (F.gives ResolveExpr k_resolve) refl refl) refl refl) refl refl) refl refl)

  pub k_bare_expr : K _ (solid (0 ∷ 1 ∷ 2 ∷ 30 ∷ 39 ∷ 57 ∷ 61 ∷ 63 ∷ 64 ∷ 66 ∷ 74 ∷ 76 ∷ 77 ∷ 78 ∷ 81 ∷ 86 ∷ resolve_first) (3 ∷ 10 ∷ [])) (bare_expr i) (bare_expr j) (bare_expr_at r)
  unfolding bare_expr bare_expr_at
  k_bare_expr = F.wider (fits refl) (F.one_of literal_first k_literal (F.one_of word_first k_word (F.one_of (code_of Name ∷ []) k_named_expr k_longer refl refl) refl refl) refl refl)

  pub k_other_primary : K _ (solid primary_first (3 ∷ 10 ∷ [])) (other_primary i) (other_primary j) (other_primary_at r)
  unfolding other_primary other_primary_at
  k_other_primary = F.wider (fits refl) (F.one_of (code_of OpenRound ∷ []) (F.gives bracketed k_brackets) (F.gives bare k_bare_expr) refl refl)

  pub k_primary : K _ (solid (42 ∷ primary_first) (3 ∷ 10 ∷ [])) (primary i) (primary j) (primary_at r)
  unfolding primary primary_at
  k_primary = F.wider (fits refl) (F.one_of (code_of IfWord ∷ []) (F.gives bare k_if_expr) k_other_primary refl refl)

  pub k_dot_rest : K _ (solid (0 ∷ 57 ∷ 86 ∷ resolve_first) (3 ∷ [])) (dot_rest i) (dot_rest j) (dot_rest_at r)
  unfolding dot_rest dot_rest_at
  k_dot_rest = F.wider (fits refl) (F.one_of (code_of Name ∷ []) (F.gives dot_of (F.both (k_name F) (F.perhaps (code_of OpenRound ∷ []) refl k_args) refl)) (F.one_of map_first (F.gives DotMapStep k_map_call) (F.gives DotResolveStep k_resolve) refl refl) refl refl)

  pub k_dot_step : K _ (solid (11 ∷ []) (3 ∷ [])) (dot_step i) (dot_step j) (dot_step_at r)
  unfolding dot_step dot_step_at
  k_dot_step = F.wider (fits refl) (F.gives second (F.both (F.token Dot) k_dot_rest refl))

  pub k_accumulator : K _ (solid (8 ∷ []) expr_next) (accumulator i) (accumulator j) (accumulator_at r)
  unfolding accumulator accumulator_at
  k_accumulator = F.wider (fits refl) (F.gives accumulator_of (F.gives second (F.both (F.token Semicolon) (F.both (k_name F) (F.both k_colon_type (F.gives second (F.both (F.token EqualSign) k_expr refl)) refl) refl) refl)))

  pub k_head_rest : K _ (solid (8 ∷ 9 ∷ 14 ∷ []) expr_next) (head_rest i) (head_rest j) (head_rest_at r)
  unfolding head_rest head_rest_at
  k_head_rest = F.wider (fits refl) (F.both (F.perhaps (code_of Colon ∷ []) refl k_colon_type) (F.both (F.perhaps (code_of Semicolon ∷ []) refl k_accumulator) k_bar_expr refl) refl)

  pub k_more_exprs : K _ (loose (7 ∷ []) (7 ∷ expr_next)) (more_exprs i) (more_exprs j) (more_exprs_at r)
  unfolding more_exprs more_exprs_at
  k_more_exprs = F.wider (fits refl) (F.turns (code_of Comma ∷ []) refl refl (F.gives second (F.both (F.token Comma) k_expr refl)))

  k_after_first : (x : Lead) → K _ (loose (7 ∷ 8 ∷ 9 ∷ 14 ∷ []) (7 ∷ 8 ∷ 9 ∷ 14 ∷ expr_next)) (after_first i x) (after_first j x) (after_first_at r x)
  k_after_first (Plain e (Some (BareTarget name place))) = F.wider (fits refl) (F.one_of head_first (F.gives (headed name place) k_head_rest) (F.gives (with_first e) k_more_exprs) refl refl)
  k_after_first x = F.wider (fits refl) (F.gives (with_first (expr_of x)) k_more_exprs)

  pub k_arrow_body : K _ (later expr_first (7 ∷ 8 ∷ 9 ∷ 14 ∷ expr_next)) (arrow_body i) (arrow_body j) (arrow_body_at r)
  unfolding arrow_body arrow_body_at
  k_arrow_body = F.wider (fits refl) (F.gives second (F.depending h.flagged k_after_first refl))

  pub k_arrow_args : K _ (solid (3 ∷ []) []) (arrow_args i) (arrow_args j) (arrow_args_at r)
  unfolding arrow_args arrow_args_at
  k_arrow_args = F.wider (fits refl) (F.gives second (F.both (F.token OpenRound) (F.one_of (code_of CloseRound ∷ []) (F.gives no_args (F.token CloseRound)) (F.gives first (F.both k_arrow_body (F.token CloseRound) refl)) refl refl) refl))

  pub k_arrow_rest : K _ (solid (0 ∷ 57 ∷ 86 ∷ resolve_first) []) (arrow_rest i) (arrow_rest j) (arrow_rest_at r)
  unfolding arrow_rest arrow_rest_at
  k_arrow_rest = F.wider (fits refl) (F.one_of (code_of Name ∷ []) (F.gives arrow_of (F.both (k_name F) k_arrow_args refl)) (F.one_of map_first (F.gives ArrowMapStep k_map_call) (F.gives ArrowResolveStep k_resolve) refl refl) refl refl)

  pub k_step : K _ (solid (11 ∷ 13 ∷ []) (3 ∷ [])) (step i) (step j) (step_at r)
  unfolding step step_at
  k_step = F.wider (fits refl) (F.one_of (code_of Dot ∷ []) k_dot_step (F.gives second (F.both (F.token Arrow) k_arrow_rest refl)) refl refl)

  pub k_post : K _ (solid (42 ∷ primary_first) (3 ∷ 10 ∷ 11 ∷ 13 ∷ [])) (post i) (post j) (post_at r)
  unfolding post post_at
  k_post = F.wider (fits refl) (F.gives post_lead (F.at (F.both k_primary (F.turns step_first refl refl k_step) refl)))

  pub k_signed_post : K _ (solid (25 ∷ 62 ∷ []) (3 ∷ 10 ∷ 11 ∷ 13 ∷ [])) (signed_post i) (signed_post j) (signed_post_at r)
  unfolding signed_post signed_post_at
  k_signed_post = F.wider (fits refl) (F.gives prefix_lead (F.at (F.both (k_signs F) k_post refl)))

  pub k_pre : K _ (solid expr_first (3 ∷ 10 ∷ 11 ∷ 13 ∷ [])) (pre i) (pre j) (pre_at r)
  unfolding pre pre_at
  k_pre = F.wider (fits refl) (F.one_of sign_first k_signed_post k_post refl refl)

  pub k_each_tail : K _ (solid (40 ∷ []) []) (each_tail i) (each_tail j) (each_tail_at r)
  unfolding each_tail each_tail_at
  k_each_tail = F.wider (fits refl) (F.gives each_of (F.both (F.token ForEachWord) (F.both (F.token OpenRound) (F.both (k_name F) (F.both (F.perhaps (code_of Colon ∷ []) refl k_colon_type) (F.both (F.perhaps (code_of Bar ∷ []) refl k_bar_expr) (F.both (F.token CloseRound) h.block refl) refl) refl) refl) refl) refl))
