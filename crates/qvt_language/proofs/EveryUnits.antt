-- What is kept holds of the productions of units and of the module.
use Rattle.std.specs.Prelude.{ℕ, zero, suc, Bool, true, false}
use Rattle.std.proofs.Common.{refl, [], ◌∷◌, ◌++◌}
use Rattle.qvt_grammar.specs.Language.{follow}
use Rattle.qvt_grammar.specs.Reader.{follow_at}
use Rattle.qvt_language.specs.Tokens.{of, code_of}
use Rattle.qvt_language.specs.Firsts.{stmt_first, clause_first, unit_first}
use Rattle.qvt_language.specs.Trees.{first, second, inner, nothing, cons_of, text_of}
use Rattle.qvt_language.specs.Grammar.{NestedLanguages}
use Rattle.qvt_language.specs.Reading.{NestedAt}
use Rattle.qvt_language.specs.Statements.{statements}
use Rattle.qvt_language.specs.ReadingStatements.{statements_at}
use Rattle.qvt_language.specs.Units.{param, params, feature, features, class_unit, main_unit, helper_body, helper_unit, constructor_unit, result_decl, when_clause, clause, init_part, end_part, sections, body, mapping_unit, unit, uri, model_type, model_param, header, transformation, end_unless, end_after, fresh, clauses}
use Rattle.qvt_language.specs.ReadingUnits.{param_at, params_at, feature_at, features_at, class_unit_at, main_unit_at, helper_body_at, helper_unit_at, constructor_unit_at, result_decl_at, when_clause_at, clause_at, init_part_at, end_part_at, sections_at, body_at, mapping_unit_at, unit_at, uri_at, model_type_at, model_param_at, header_at, transformation_at, end_unless_at, end_after_at, fresh_at, clauses_at}
use Rattle.qvt_language.specs.UnitTrees.{typed_name_of, param_of, class_unit_of, main_of, return_body, helper_of, constructor_of, result_decl_of, ClausesTree, no_clauses, InheritsClause, MergesClause, DisjunctsClause, WhenClause, with_clause, read_words, or_same, empty_body, body_of, sections_of, open_sections_of, mapping_of, some_unit, model_type_of, model_param_of, module_of, kept, no_end}
use Rattle.qvt_words.specs.declared.class.Class.TheVariants.{Name, Str, OpenRound, CloseRound, OpenBrace, CloseBrace, Comma, Semicolon, Colon, EqualSign, ClassWord, ConstructorWord, DisjunctsWord, EndWord, ExtendsWord, HelperWord, InWord, InheritsWord, InitWord, InoutWord, IntermediateWord, MainWord, MappingWord, MergesWord, ModelTypeWord, OutWord, PopulationWord, QueryWord, TransformationWord, UsesWord, WhenWord}
use Rattle.qvt_language.proofs.Every.{solid, loose, later, fits, Keeping, Valuing, Forms, Inside}
use Rattle.qvt_language.proofs.EveryExprs.{k_name, k_path, k_paths, k_unit_path, k_extent, k_colon_type, k_expr}
use Rattle.qvt_language.proofs.EveryBlocks.{stmts_next, k_statements}

module _ {K KB : Keeping} {KV : Valuing} (F : Forms K KB KV) where
  pub k_result_decl : K _ (solid (9 ∷ []) (10 ∷ 15 ∷ [])) result_decl result_decl result_decl_at
  unfolding result_decl result_decl_at
  k_result_decl = F.wider (fits refl) (F.gives second (F.both (F.token Colon) (F.gives result_decl_of (F.both (k_path F) (k_extent F) refl)) refl))

  pub k_uri : K _ (solid (0 ∷ 2 ∷ []) []) uri uri uri_at
  unfolding uri uri_at
  k_uri = F.wider (fits refl) (F.one_of (code_of Str ∷ []) (F.gives text_of (F.token Str)) (F.gives second (F.both (F.token Name) (F.gives inner (F.both (F.token OpenRound) (F.both (F.gives text_of (F.token Str)) (F.token CloseRound) refl) refl)) refl)) refl refl)

  pub k_model_type : K _ (solid (60 ∷ []) []) model_type model_type model_type_at
  unfolding model_type model_type_at
  k_model_type = F.wider (fits refl) (F.gives model_type_of (F.at (F.gives second (F.both (F.token ModelTypeWord) (F.both (k_name F) (F.gives second (F.both (F.perhaps (code_of Str ∷ []) refl F.strict) (F.gives inner (F.both (F.token UsesWord) (F.both k_uri (F.token Semicolon) refl) refl)) refl)) refl) refl))))

  pub k_model_param : K _ (solid (45 ∷ 48 ∷ 67 ∷ []) []) model_param model_param model_param_at
  unfolding model_param model_param_at
  k_model_param = F.wider (fits refl) (F.gives model_param_of (F.both (F.one_of (code_of InWord ∷ []) (F.token InWord) (F.one_of (code_of OutWord ∷ []) (F.token OutWord) (F.token InoutWord) refl refl) refl refl) (F.both (k_name F) (F.gives second (F.both (F.token Colon) (k_name F) refl)) refl) refl))

  pub k_header : K _ (solid (80 ∷ []) []) header header header_at
  unfolding header header_at
  k_header = F.wider (fits refl) (F.gives second (F.both (F.token TransformationWord) (F.both (F.gives text_of (F.token Name)) (F.gives inner (F.both (F.token OpenRound) (F.both (F.gives cons_of (F.both k_model_param (F.turns (code_of Comma ∷ []) refl refl (F.gives second (F.both (F.token Comma) k_model_param refl))) refl)) (F.gives first (F.both (F.token CloseRound) (F.token Semicolon) refl)) refl) refl)) refl) refl))

module _ {K KB : Keeping} {KV : Valuing} {F : Forms K KB KV} {i j : NestedLanguages} {r : NestedAt} (h : Inside F i j r) where
  pub k_param : K _ (solid (0 ∷ 45 ∷ []) (10 ∷ [])) (param i) (param j) (param_at r)
  unfolding param param_at
  k_param = F.wider (fits refl) (F.gives param_of (F.at (F.both (F.perhaps (code_of InWord ∷ []) refl (F.token InWord)) (F.both (k_name F) (k_colon_type h) refl) refl)))

  pub k_params : K _ (solid (3 ∷ []) []) (params i) (params j) (params_at r)
  unfolding params params_at
  k_params = F.wider (fits refl) (F.gives second (F.both (F.token OpenRound) (F.one_of (code_of CloseRound ∷ []) (F.gives nothing (F.token CloseRound)) (F.gives first (F.both (F.gives cons_of (F.both k_param (F.turns (code_of Comma ∷ []) refl refl (F.gives second (F.both (F.token Comma) k_param refl))) refl)) (F.token CloseRound) refl)) refl refl) refl))

  pub k_feature : K _ (solid (0 ∷ []) []) (feature i) (feature j) (feature_at r)
  unfolding feature feature_at
  k_feature = F.wider (fits refl) (F.gives first (F.both (F.gives typed_name_of (F.both (k_name F) (k_colon_type h) refl)) (F.token Semicolon) refl))

  pub k_features : K _ (solid (5 ∷ []) []) (features i) (features j) (features_at r)
  unfolding features features_at
  k_features = F.wider (fits refl) (F.gives inner (F.both (F.token OpenBrace) (F.both (F.turns (code_of Name ∷ []) refl refl k_feature) (F.token CloseBrace) refl) refl))

  pub k_class_unit : K _ (solid (49 ∷ []) []) (class_unit i) (class_unit j) (class_unit_at r)
  unfolding class_unit class_unit_at
  k_class_unit = F.wider (fits refl) (F.gives class_unit_of (F.at (F.gives second (F.both (F.token IntermediateWord) (F.gives second (F.both (F.token ClassWord) (F.both (k_name F) (F.both (F.perhaps (code_of ExtendsWord ∷ []) refl (F.gives second (F.both (F.token ExtendsWord) (k_paths F) refl))) k_features refl) refl) refl)) refl))))

  pub k_main_unit : K _ (solid (56 ∷ []) []) (main_unit i) (main_unit j) (main_unit_at r)
  unfolding main_unit main_unit_at
  k_main_unit = F.wider (fits refl) (F.gives main_of (F.at (F.gives second (F.both (F.token MainWord) (F.gives second (F.both (F.token OpenRound) (F.gives second (F.both (F.token CloseRound) h.block refl)) refl)) refl))))

  pub k_helper_body : K _ (later (5 ∷ 16 ∷ []) []) (helper_body i) (helper_body j) (helper_body_at r)
  unfolding helper_body helper_body_at
  k_helper_body = F.wider (fits refl) (F.one_of (code_of EqualSign ∷ []) (F.gives return_body (F.gives first (F.both (F.both (F.token EqualSign) (k_expr h) refl) (F.token Semicolon) refl))) h.block refl refl)

  pub k_helper_unit : K _ (solid (41 ∷ 69 ∷ []) []) (helper_unit i) (helper_unit j) (helper_unit_at r)
  unfolding helper_unit helper_unit_at
  k_helper_unit = F.wider (fits refl) (F.gives helper_of (F.both (F.one_of (code_of HelperWord ∷ []) (F.token HelperWord) (F.token QueryWord) refl refl) (F.both (k_unit_path F) (F.both k_params (F.both (F.perhaps (code_of Colon ∷ []) refl (k_colon_type h)) k_helper_body refl) refl) refl) refl))

  pub k_constructor_unit : K _ (solid (32 ∷ []) []) (constructor_unit i) (constructor_unit j) (constructor_unit_at r)
  unfolding constructor_unit constructor_unit_at
  k_constructor_unit = F.wider (fits refl) (F.gives constructor_of (F.gives second (F.both (F.token ConstructorWord) (F.both (k_unit_path F) (F.both k_params h.block refl) refl) refl)))

  pub k_when_clause : K _ (solid (84 ∷ []) []) (when_clause i) (when_clause j) (when_clause_at r)
  unfolding when_clause when_clause_at
  k_when_clause = F.wider (fits refl) (F.gives second (F.both (F.token WhenWord) (F.gives inner (F.both (F.token OpenBrace) (F.both (k_expr h) (F.gives second (F.both (F.perhaps (code_of Semicolon ∷ []) refl (F.token Semicolon)) (F.token CloseBrace) refl)) refl) refl)) refl))

  pub k_clause : K _ (solid (33 ∷ 46 ∷ 59 ∷ 84 ∷ []) (7 ∷ 10 ∷ [])) (clause i) (clause j) (clause_at r)
  unfolding clause clause_at
  k_clause = F.wider (fits refl) (F.one_of (code_of InheritsWord ∷ []) (F.gives InheritsClause (F.gives second (F.both (F.token InheritsWord) (k_paths F) refl))) (F.one_of (code_of MergesWord ∷ []) (F.gives MergesClause (F.gives second (F.both (F.token MergesWord) (k_paths F) refl))) (F.one_of (code_of DisjunctsWord ∷ []) (F.gives DisjunctsClause (F.gives second (F.both (F.token DisjunctsWord) (k_paths F) refl))) (F.gives WhenClause k_when_clause) refl refl) refl refl) refl refl)

  pub k_init_part : K _ (solid (47 ∷ []) []) (init_part i) (init_part j) (init_part_at r)
  unfolding init_part init_part_at
  k_init_part = F.wider (fits refl) (F.gives second (F.both (F.token InitWord) h.block refl))

  pub k_end_part : K _ (solid (36 ∷ []) []) (end_part i) (end_part j) (end_part_at r)
  unfolding end_part end_part_at
  k_end_part = F.wider (fits refl) (F.gives second (F.both (F.token EndWord) h.block refl))

  k_end : (open_end : Bool) → K _ (loose (36 ∷ []) (36 ∷ [])) (end_unless i open_end) (end_unless j open_end) (end_unless_at r open_end)
  k_end true = F.wider (fits refl) (F.gives no_end F.no_token)
  k_end false = F.wider (fits refl) (F.perhaps (code_of EndWord ∷ []) refl k_end_part)

  k_open_sections : K _ (loose (stmt_first ++ (36 ∷ [])) (stmts_next ++ (36 ∷ []))) (follow (statements i) (end_after i)) (follow (statements j) (end_after j)) (follow_at (statements_at r) (end_after_at r))
  k_open_sections = F.depending (k_statements h) (λ x. k_end x.open_end) refl

  pub k_sections : K _ (loose (36 ∷ 68 ∷ stmt_first) (9 ∷ 10 ∷ 11 ∷ 13 ∷ 16 ∷ 17 ∷ 18 ∷ 19 ∷ 20 ∷ 21 ∷ 22 ∷ 23 ∷ 24 ∷ 26 ∷ 27 ∷ 28 ∷ 29 ∷ 34 ∷ 35 ∷ 36 ∷ 37 ∷ 43 ∷ 65 ∷ 68 ∷ 87 ∷ stmt_first)) (sections i) (sections j) (sections_at r)
  unfolding sections sections_at
  k_sections = F.wider (fits refl) (F.one_of (code_of PopulationWord ∷ []) (F.gives sections_of (F.gives second (F.both (F.token PopulationWord) (F.both h.block (F.perhaps (code_of EndWord ∷ []) refl k_end_part) refl) refl))) (F.gives open_sections_of k_open_sections) refl refl)

  pub k_body : K _ (solid (5 ∷ 8 ∷ []) []) (body i) (body j) (body_at r)
  unfolding body body_at
  k_body = F.wider (fits refl) (F.one_of (code_of Semicolon ∷ []) (F.gives empty_body (F.token Semicolon)) (F.gives body_of (F.both (F.token OpenBrace) (F.both (F.perhaps (code_of InitWord ∷ []) refl k_init_part) (F.both k_sections (F.token CloseBrace) refl) refl) refl)) refl refl)

  k_fresh : (x : ClausesTree) → KB _ (solid (33 ∷ 46 ∷ 59 ∷ 84 ∷ []) (7 ∷ 10 ∷ [])) (fresh i x) (fresh j x) (fresh_at r x)
  k_fresh x = F.barred_gives (with_clause x) (F.barred (of (read_words x)) k_clause)

  k_clauses : (k : ℕ) (x : ClausesTree) → K _ (loose (33 ∷ 46 ∷ 59 ∷ 84 ∷ []) (7 ∷ 10 ∷ 33 ∷ 46 ∷ 59 ∷ 84 ∷ [])) (clauses i k x) (clauses j k x) (clauses_at r k x)
  k_clauses zero x = F.wider (fits refl) (F.gives (kept x) F.no_token)
  k_clauses (suc k) x = F.wider (fits refl) (F.gives (or_same x) (F.barred_perhaps clause_first refl (F.barred_gives second (F.barred_depending (k_fresh x) (k_clauses k) refl))))

  pub k_mapping_unit : K _ (solid (58 ∷ []) []) (mapping_unit i) (mapping_unit j) (mapping_unit_at r)
  unfolding mapping_unit mapping_unit_at
  k_mapping_unit = F.wider (fits refl) (F.gives mapping_of (F.gives second (F.both (F.token MappingWord) (F.both (k_unit_path F) (F.both k_params (F.both (F.perhaps (code_of Colon ∷ []) refl (k_result_decl F)) (F.both (k_clauses 4 no_clauses) k_body refl) refl) refl) refl) refl)))

  pub k_unit : K _ (solid (32 ∷ 41 ∷ 49 ∷ 56 ∷ 58 ∷ 69 ∷ []) []) (unit i) (unit j) (unit_at r)
  unfolding unit unit_at
  k_unit = F.wider (fits refl) (F.one_of (code_of IntermediateWord ∷ []) k_class_unit (F.one_of (code_of MainWord ∷ []) k_main_unit (F.one_of (code_of ConstructorWord ∷ []) k_constructor_unit (F.one_of (code_of MappingWord ∷ []) k_mapping_unit k_helper_unit refl refl) refl refl) refl refl) refl refl)

  pub k_transformation : K _ (solid (60 ∷ 80 ∷ []) unit_first) (transformation i) (transformation j) (transformation_at r)
  unfolding transformation transformation_at
  k_transformation = F.wider (fits refl) (F.gives module_of (F.both (F.turns (code_of ModelTypeWord ∷ []) refl refl (k_model_type F)) (F.both (k_header F) (F.turns unit_first refl refl (F.one_of (code_of Semicolon ∷ []) (F.gives nothing (F.token Semicolon)) (F.gives some_unit k_unit) refl refl)) refl) refl))
