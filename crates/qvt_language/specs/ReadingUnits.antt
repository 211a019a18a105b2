-- The readers of units and of the module, production by production.
use Rattle.std.specs.Prelude.{ℕ, zero, suc, Bool, true, false, List, Option}
use Rattle.qvt_tree_types.specs.Tree.{ExprTerm, StmtTerm}
use Rattle.qvt_tree_types.specs.Module.{TypedName, UnitTerm, ModuleTerm}
use Rattle.qvt_tree_types.specs.declared.module.ResultDecl.{ResultDecl}
use Rattle.qvt_tree_types.specs.declared.module.ModelType.{ModelType}
use Rattle.qvt_tree_types.specs.declared.module.ModelParam.{ModelParam}
use Rattle.qvt_language.specs.Leads.{EndedBlock}
use Rattle.qvt_grammar.specs.Reader.{token_at, then_at, choose_at, follow_at, many_at, made_at, empty_at, maybe_at}
use Rattle.qvt_words.specs.declared.class.Class.TheVariants.{Name, Str, OpenRound, CloseRound, OpenBrace, CloseBrace, Comma, Semicolon, Colon, EqualSign, ClassWord, ConstructorWord, DisjunctsWord, EndWord, ExtendsWord, HelperWord, InWord, InheritsWord, InitWord, InoutWord, IntermediateWord, MainWord, MappingWord, MergesWord, ModelTypeWord, OutWord, PopulationWord, QueryWord, TransformationWord, UsesWord, WhenWord}
use Rattle.qvt_language.specs.Tokens.{Tok, of, is}
use Rattle.qvt_language.specs.Readers.{Reader, the_at, placed_at}
use Rattle.qvt_language.specs.Series.{barring_at}
use Rattle.qvt_language.specs.Firsts.{clause_first, unit_first}
use Rattle.qvt_language.specs.Trees.{first, second, inner, nothing, cons_of, text_of}
use Rattle.qvt_language.specs.Reading.{NestedAt, name_at, path_at, paths_at, unit_path_at, extent_at, colon_type_at, expr_at}
use Rattle.qvt_language.specs.ReadingStatements.{statements_at}
use Rattle.qvt_language.specs.Units.{is_strictness}
use Rattle.qvt_language.specs.UnitTrees.{typed_name_of, param_of, class_unit_of, main_of, return_body, helper_of, constructor_of, result_decl_of, ClausesTree, no_clauses, ClauseTree, InheritsClause, MergesClause, DisjunctsClause, WhenClause, with_clause, read_words, or_same, BodyTree, empty_body, body_of, sections_of, open_sections_of, mapping_of, some_unit, model_type_of, model_param_of, module_of, kept, no_end}

unfoldable pub param_at : NestedAt → Reader TypedName
param_at r = made_at param_of (placed_at (then_at (maybe_at (is InWord) (the_at InWord)) (then_at name_at (colon_type_at r))))

unfoldable pub params_at : NestedAt → Reader ((List TypedName))
params_at r = made_at second (then_at (the_at OpenRound) (choose_at (is CloseRound) (made_at nothing (the_at CloseRound)) (made_at first (then_at (made_at cons_of (then_at (param_at r) (many_at (is Comma) (made_at second (then_at (the_at Comma) (param_at r)))))) (the_at CloseRound)))))

unfoldable pub feature_at : NestedAt → Reader TypedName
feature_at r = made_at first (then_at (made_at typed_name_of (then_at name_at (colon_type_at r))) (the_at Semicolon))

unfoldable pub features_at : NestedAt → Reader ((List TypedName))
features_at r = made_at inner (then_at (the_at OpenBrace) (then_at (many_at (is Name) (feature_at r)) (the_at CloseBrace)))

unfoldable pub class_unit_at : NestedAt → Reader UnitTerm
class_unit_at r = made_at class_unit_of (placed_at (made_at second (then_at (the_at IntermediateWord) (made_at second (then_at (the_at ClassWord) (then_at name_at (then_at (maybe_at (is ExtendsWord) (made_at second (then_at (the_at ExtendsWord) paths_at))) (features_at r))))))))

unfoldable pub main_unit_at : NestedAt → Reader UnitTerm
main_unit_at r = made_at main_of (placed_at (made_at second (then_at (the_at MainWord) (made_at second (then_at (the_at OpenRound) (made_at second (then_at (the_at CloseRound) r.block)))))))

unfoldable pub helper_body_at : NestedAt → Reader ((List StmtTerm))
helper_body_at r = choose_at (is EqualSign) (made_at return_body (made_at first (then_at (then_at (the_at EqualSign) (expr_at r)) (the_at Semicolon)))) r.block

unfoldable pub helper_unit_at : NestedAt → Reader UnitTerm
helper_unit_at r = made_at helper_of (then_at (choose_at (is HelperWord) (the_at HelperWord) (the_at QueryWord)) (then_at unit_path_at (then_at (params_at r) (then_at (maybe_at (is Colon) (colon_type_at r)) (helper_body_at r)))))

unfoldable pub constructor_unit_at : NestedAt → Reader UnitTerm
constructor_unit_at r = made_at constructor_of (made_at second (then_at (the_at ConstructorWord) (then_at unit_path_at (then_at (params_at r) r.block))))

unfoldable pub result_decl_at : Reader ResultDecl
result_decl_at = made_at second (then_at (the_at Colon) (made_at result_decl_of (then_at path_at extent_at)))

unfoldable pub when_clause_at : NestedAt → Reader ExprTerm
when_clause_at r = made_at second (then_at (the_at WhenWord) (made_at inner (then_at (the_at OpenBrace) (then_at (expr_at r) (made_at second (then_at (maybe_at (is Semicolon) (the_at Semicolon)) (the_at CloseBrace)))))))

unfoldable pub clause_at : NestedAt → Reader ClauseTree
clause_at r = choose_at (is InheritsWord) (made_at InheritsClause (made_at second (then_at (the_at InheritsWord) paths_at))) (choose_at (is MergesWord) (made_at MergesClause (made_at second (then_at (the_at MergesWord) paths_at))) (choose_at (is DisjunctsWord) (made_at DisjunctsClause (made_at second (then_at (the_at DisjunctsWord) paths_at))) (made_at WhenClause (when_clause_at r))))

unfoldable pub init_part_at : NestedAt → Reader ((List StmtTerm))
init_part_at r = made_at second (then_at (the_at InitWord) r.block)

unfoldable pub end_part_at : NestedAt → Reader ((List StmtTerm))
end_part_at r = made_at second (then_at (the_at EndWord) r.block)

abbrev pub end_unless_at : NestedAt → Bool → Reader (Option (List StmtTerm))
end_unless_at r true = made_at no_end empty_at
end_unless_at r false = maybe_at (is EndWord) (end_part_at r)

abbrev pub end_after_at : NestedAt → EndedBlock → Reader (Option (List StmtTerm))
end_after_at r x = end_unless_at r x.open_end

unfoldable pub sections_at : NestedAt → Reader ((List StmtTerm × List StmtTerm))
sections_at r = choose_at (is PopulationWord) (made_at sections_of (made_at second (then_at (the_at PopulationWord) (then_at r.block (maybe_at (is EndWord) (end_part_at r)))))) (made_at open_sections_of (follow_at (statements_at r) (end_after_at r)))

unfoldable pub body_at : NestedAt → Reader BodyTree
body_at r = choose_at (is Semicolon) (made_at empty_body (the_at Semicolon)) (made_at body_of (then_at (the_at OpenBrace) (then_at (maybe_at (is InitWord) (init_part_at r)) (then_at (sections_at r) (the_at CloseBrace)))))

abbrev pub fresh_at : NestedAt → ClausesTree → Reader ClausesTree
fresh_at r x = made_at (with_clause x) (barring_at (of (read_words x)) (clause_at r))

abbrev pub clauses_at : NestedAt → ℕ → ClausesTree → Reader ClausesTree
clauses_at r zero x = made_at (kept x) empty_at
clauses_at r (suc n) x = made_at (or_same x) (maybe_at (of clause_first) (made_at second (follow_at (fresh_at r x) (clauses_at r n))))

unfoldable pub mapping_unit_at : NestedAt → Reader UnitTerm
mapping_unit_at r = made_at mapping_of (made_at second (then_at (the_at MappingWord) (then_at unit_path_at (then_at (params_at r) (then_at (maybe_at (is Colon) result_decl_at) (then_at (clauses_at r 4 no_clauses) (body_at r)))))))

unfoldable pub unit_at : NestedAt → Reader UnitTerm
unit_at r = choose_at (is IntermediateWord) (class_unit_at r) (choose_at (is MainWord) (main_unit_at r) (choose_at (is ConstructorWord) (constructor_unit_at r) (choose_at (is MappingWord) (mapping_unit_at r) (helper_unit_at r))))

abbrev pub strictness_at : Reader Tok
strictness_at = token_at is_strictness

unfoldable pub uri_at : Reader ((List ℕ))
uri_at = choose_at (is Str) (made_at text_of (the_at Str)) (made_at second (then_at (the_at Name) (made_at inner (then_at (the_at OpenRound) (then_at (made_at text_of (the_at Str)) (the_at CloseRound))))))

unfoldable pub model_type_at : Reader ModelType
model_type_at = made_at model_type_of (placed_at (made_at second (then_at (the_at ModelTypeWord) (then_at name_at (made_at second (then_at (maybe_at (is Str) strictness_at) (made_at inner (then_at (the_at UsesWord) (then_at uri_at (the_at Semicolon))))))))))

unfoldable pub model_param_at : Reader ModelParam
model_param_at = made_at model_param_of (then_at (choose_at (is InWord) (the_at InWord) (choose_at (is OutWord) (the_at OutWord) (the_at InoutWord))) (then_at name_at (made_at second (then_at (the_at Colon) name_at))))

unfoldable pub header_at : Reader ((List ℕ × List ModelParam))
header_at = made_at second (then_at (the_at TransformationWord) (then_at (made_at text_of (the_at Name)) (made_at inner (then_at (the_at OpenRound) (then_at (made_at cons_of (then_at model_param_at (many_at (is Comma) (made_at second (then_at (the_at Comma) model_param_at))))) (made_at first (then_at (the_at CloseRound) (the_at Semicolon))))))))

unfoldable pub transformation_at : NestedAt → Reader ModuleTerm
transformation_at r = made_at module_of (then_at (many_at (is ModelTypeWord) model_type_at) (then_at header_at (many_at (of unit_first) (choose_at (is Semicolon) (made_at nothing (the_at Semicolon)) (made_at some_unit (unit_at r))))))
