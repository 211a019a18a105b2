-- The productions of units and of the module (QVT 1.3, 8.2.1 and 8.4).
use Rattle.std.specs.Prelude.{ℕ, zero, suc, Bool, true, false, ◌&&◌, ◌||◌, List, Option, codes}
use Rattle.std.specs.Str.{bytes_eq}
use Rattle.qvt_tree_types.specs.Tree.{ExprTerm, StmtTerm}
use Rattle.qvt_tree_types.specs.Module.{TypedName, UnitTerm, ModuleTerm}
use Rattle.qvt_tree_types.specs.declared.module.ResultDecl.{ResultDecl}
use Rattle.qvt_tree_types.specs.declared.module.ModelType.{ModelType}
use Rattle.qvt_tree_types.specs.declared.module.ModelParam.{ModelParam}
use Rattle.qvt_language.specs.Leads.{EndedBlock}
use Rattle.qvt_grammar.specs.Language.{Language, token, then, either, follow, many, made, empty, maybe}
use Rattle.qvt_words.specs.declared.class.Class.TheVariants.{Name, Str, OpenRound, CloseRound, OpenBrace, CloseBrace, Comma, Semicolon, Colon, EqualSign, ClassWord, ConstructorWord, DisjunctsWord, EndWord, ExtendsWord, HelperWord, InWord, InheritsWord, InitWord, InoutWord, IntermediateWord, MainWord, MappingWord, MergesWord, ModelTypeWord, OutWord, PopulationWord, QueryWord, TransformationWord, UsesWord, WhenWord}
use Rattle.qvt_language.specs.Tokens.{Tok, of, is}
use Rattle.qvt_language.specs.Readers.{the, placed}
use Rattle.qvt_language.specs.Series.{barring}
use Rattle.qvt_language.specs.Trees.{first, second, inner, nothing, cons_of, text_of}
use Rattle.qvt_language.specs.Grammar.{NestedLanguages, name, path, paths, unit_path, extent, colon_type, expr}
use Rattle.qvt_language.specs.Statements.{statements}
use Rattle.qvt_language.specs.UnitTrees.{typed_name_of, param_of, class_unit_of, main_of, return_body, helper_of, constructor_of, result_decl_of, ClausesTree, no_clauses, ClauseTree, InheritsClause, MergesClause, DisjunctsClause, WhenClause, with_clause, read_words, or_same, BodyTree, empty_body, body_of, sections_of, open_sections_of, mapping_of, some_unit, model_type_of, model_param_of, module_of, kept, no_end}

-- ["in"] Name ":" Type
unfoldable pub param : NestedLanguages → Language Tok TypedName
param i = made param_of (placed (then (maybe (the InWord)) (then name (colon_type i))))

-- "(" [Param {"," Param}] ")"
unfoldable pub params : NestedLanguages → Language Tok ((List TypedName))
params i = made second (then (the OpenRound) (either (made nothing (the CloseRound)) (made first (then (made cons_of (then (param i) (many (made second (then (the Comma) (param i)))))) (the CloseRound)))))

-- Name ":" Type ";"
unfoldable pub feature : NestedLanguages → Language Tok TypedName
feature i = made first (then (made typed_name_of (then name (colon_type i))) (the Semicolon))

-- "{" {Name ":" Type ";"} "}"
unfoldable pub features : NestedLanguages → Language Tok ((List TypedName))
features i = made inner (then (the OpenBrace) (then (many (feature i)) (the CloseBrace)))

-- "intermediate" "class" Name ["extends" Paths] "{" {Name ":" Type ";"} "}"
unfoldable pub class_unit : NestedLanguages → Language Tok UnitTerm
class_unit i = made class_unit_of (placed (made second (then (the IntermediateWord) (made second (then (the ClassWord) (then name (then (maybe (made second (then (the ExtendsWord) paths))) (features i))))))))

-- "main" "(" ")" Block
unfoldable pub main_unit : NestedLanguages → Language Tok UnitTerm
main_unit i = made main_of (placed (made second (then (the MainWord) (made second (then (the OpenRound) (made second (then (the CloseRound) i.block)))))))

-- Block | "=" Expr ";"
unfoldable pub helper_body : NestedLanguages → Language Tok ((List StmtTerm))
helper_body i = either (made return_body (made first (then (then (the EqualSign) (expr i)) (the Semicolon)))) i.block

-- ("helper" | "query") Path "(" [Params] ")" [":" Type] (Block | "=" Expr ";")
unfoldable pub helper_unit : NestedLanguages → Language Tok UnitTerm
helper_unit i = made helper_of (then (either (the HelperWord) (the QueryWord)) (then unit_path (then (params i) (then (maybe (colon_type i)) (helper_body i)))))

-- "constructor" Path "(" [Params] ")" Block
unfoldable pub constructor_unit : NestedLanguages → Language Tok UnitTerm
constructor_unit i = made constructor_of (made second (then (the ConstructorWord) (then unit_path (then (params i) i.block))))

-- ":" Path ["@" Name]
unfoldable pub result_decl : Language Tok ResultDecl
result_decl = made second (then (the Colon) (made result_decl_of (then path extent)))

-- "when" "{" Expr [";"] "}"
unfoldable pub when_clause : NestedLanguages → Language Tok ExprTerm
when_clause i = made second (then (the WhenWord) (made inner (then (the OpenBrace) (then (expr i) (made second (then (maybe (the Semicolon)) (the CloseBrace)))))))

-- "inherits" Paths | "merges" Paths | "disjuncts" Paths | "when" "{" Expr [";"] "}"
unfoldable pub clause : NestedLanguages → Language Tok ClauseTree
clause i = either (made InheritsClause (made second (then (the InheritsWord) paths))) (either (made MergesClause (made second (then (the MergesWord) paths))) (either (made DisjunctsClause (made second (then (the DisjunctsWord) paths))) (made WhenClause (when_clause i))))

-- "init" Block
unfoldable pub init_part : NestedLanguages → Language Tok ((List StmtTerm))
init_part i = made second (then (the InitWord) i.block)

-- "end" Block
unfoldable pub end_part : NestedLanguages → Language Tok ((List StmtTerm))
end_part i = made second (then (the EndWord) i.block)

-- after a statement without `;` no end section stands
abbrev pub end_unless : NestedLanguages → Bool → Language Tok (Option (List StmtTerm))
end_unless i true = made no_end empty
end_unless i false = maybe (end_part i)

abbrev pub end_after : NestedLanguages → EndedBlock → Language Tok (Option (List StmtTerm))
end_after i x = end_unless i x.open_end

-- "population" Block ["end" Block] | Items ([Simple] | "end" Block)
unfoldable pub sections : NestedLanguages → Language Tok ((List StmtTerm × List StmtTerm))
sections i = either (made sections_of (made second (then (the PopulationWord) (then i.block (maybe (end_part i)))))) (made open_sections_of (follow (statements i) (end_after i)))

-- ";" | "{" ["init" Block] Sections "}"
unfoldable pub body : NestedLanguages → Language Tok BodyTree
body i = either (made empty_body (the Semicolon)) (made body_of (then (the OpenBrace) (then (maybe (init_part i)) (then (sections i) (the CloseBrace)))))

-- a clause of a kind that was not read yet
abbrev pub fresh : NestedLanguages → ClausesTree → Language Tok ClausesTree
fresh i x = made (with_clause x) (barring (of (read_words x)) (clause i))

-- n more clauses at most, each kind once
abbrev pub clauses : NestedLanguages → ℕ → ClausesTree → Language Tok ClausesTree
clauses i zero x = made (kept x) empty
clauses i (suc n) x = made (or_same x) (maybe (made second (follow (fresh i x) (clauses i n))))

-- "mapping" Path "(" [Params] ")" [":" Path ["@" Name]] {Clause} (Body | ";")
unfoldable pub mapping_unit : NestedLanguages → Language Tok UnitTerm
mapping_unit i = made mapping_of (made second (then (the MappingWord) (then unit_path (then (params i) (then (maybe result_decl) (then (clauses i 4 no_clauses) (body i)))))))

unfoldable pub unit : NestedLanguages → Language Tok UnitTerm
unit i = either (class_unit i) (either (main_unit i) (either (constructor_unit i) (either (mapping_unit i) (helper_unit i))))

-- whether the text is one of the words for the strictness of a model type
abbrev pub is_strictness : Tok → Bool
is_strictness t = is Str t && (bytes_eq t.text (codes "strict") || bytes_eq t.text (codes "effective"))

abbrev pub strictness : Language Tok Tok
strictness = token is_strictness

-- String | Name "(" String ")"
unfoldable pub uri : Language Tok ((List ℕ))
uri = either (made text_of (the Str)) (made second (then (the Name) (made inner (then (the OpenRound) (then (made text_of (the Str)) (the CloseRound))))))

-- "modeltype" Name [String] "uses" (String | Name "(" String ")") ";"
unfoldable pub model_type : Language Tok ModelType
model_type = made model_type_of (placed (made second (then (the ModelTypeWord) (then name (made second (then (maybe strictness) (made inner (then (the UsesWord) (then uri (the Semicolon))))))))))

-- ("in" | "out" | "inout") Name ":" Name
unfoldable pub model_param : Language Tok ModelParam
model_param = made model_param_of (then (either (the InWord) (either (the OutWord) (the InoutWord))) (then name (made second (then (the Colon) name))))

-- "transformation" Name "(" ModelParam {"," ModelParam} ")" ";"
unfoldable pub header : Language Tok ((List ℕ × List ModelParam))
header = made second (then (the TransformationWord) (then (made text_of (the Name)) (made inner (then (the OpenRound) (then (made cons_of (then model_param (many (made second (then (the Comma) model_param))))) (made first (then (the CloseRound) (the Semicolon))))))))

-- {ModelType} Header {Unit | ";"}
unfoldable pub transformation : NestedLanguages → Language Tok ModuleTerm
transformation i = made module_of (then (many model_type) (then header (many (either (made nothing (the Semicolon)) (made some_unit (unit i))))))
