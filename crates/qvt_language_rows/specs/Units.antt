-- The rows of the grammar, as docs/LANGUAGE.md shows them: units and the module (QVT 1.3, 8.2.1 and 8.4).
use Rattle.std.specs.Prelude.{ℕ, List, IsTrue}
use Rattle.std.proofs.Common.{inl, inr}
use Rattle.qvt_tree_types.specs.Module.{TypedName, UnitTerm, ModuleTerm}
use Rattle.qvt_tree_types.specs.declared.module.ModelType.{ModelType as ModelTypeTree}
use Rattle.qvt_tree_types.specs.declared.module.ModelParam.{ModelParam as ModelParamTree}
use Rattle.qvt_language.specs.declared.named.UnitPath.{UnitPath as UnitPathTree}
use Rattle.qvt_language.specs.declared.class.Class.TheVariants.{Name as NameToken, Str as StringToken, OpenRound, CloseRound, OpenBrace, CloseBrace, Semicolon, Colon, DoubleColon, EqualSign, ClassWord, ConstructorWord, DisjunctsWord, EndWord, ExtendsWord, HelperWord, InWord, InheritsWord, InitWord, InoutWord, IntermediateWord, MainWord, MappingWord, MergesWord, ModelTypeWord, OutWord, PopulationWord, QueryWord, TransformationWord, UsesWord, WhenWord}
use Rattle.qvt_language.specs.Trees.{inner, second, text_of, unit_path_of}
use Rattle.qvt_language.specs.Units.{is_strictness}
use Rattle.qvt_language.specs.UnitTrees.{typed_name_of, param_of, class_unit_of, main_of, return_body, helper_of, constructor_of, result_decl_of, ClauseTree, InheritsClause, MergesClause, DisjunctsClause, WhenClause, BodyTree as BodyParts, empty_body, body_of, sections_of, mapping_of, some_unit, model_type_of, model_param_of, module_of}
use Rattle.qvt_language_rows.specs.Phrase.{Phrase, ◌or◌, ◌gives◌, ◌then◌, the, many, maybe, placed, after, before, between, commas, listed, such_that}
use Rattle.qvt_language_rows.specs.Values.{open_sections, no_units, AreOnce, clauses_of}
use Rattle.qvt_language_rows.specs.Rows.{NestedRows, NameRow, PathRow, PathsRow, ExtentRow, TypeRow, SimpleRow, ItemsRow}

-- a Path whose place is that of its last name
unfoldable pub UnitPathRow : Phrase UnitPathTree
UnitPathRow = NameRow then many (after DoubleColon NameRow) gives unit_path_of

-- the String before `uses` is `strict` or `effective`
unfoldable pub ModelTypeRow : Phrase ModelTypeTree
ModelTypeRow = placed (after ModelTypeWord (NameRow then
    (maybe (such_that (λ t. IsTrue (is_strictness t)) (the StringToken)) then
    between UsesWord (the StringToken gives text_of or after NameToken (between OpenRound (the StringToken gives text_of) CloseRound)) Semicolon gives second))) gives model_type_of

unfoldable pub ModelParamRow : Phrase ModelParamTree
ModelParamRow = (the InWord or the OutWord or the InoutWord) then NameRow then after Colon NameRow gives model_param_of

unfoldable pub HeaderRow : Phrase (List ℕ × List ModelParamTree)
HeaderRow = after TransformationWord ((the NameToken gives text_of) then (the OpenRound then commas ModelParamRow then before (the CloseRound) Semicolon gives inner))

module _ (inside : NestedRows) where
  unfoldable pub ParamRow : Phrase TypedName
  ParamRow = placed (maybe (the InWord) then NameRow then after Colon (TypeRow inside)) gives param_of

  unfoldable pub ParamsRow : Phrase (List TypedName)
  ParamsRow = commas ParamRow

  unfoldable pub ExtraRow : Phrase ClauseTree
  ExtraRow = after InheritsWord PathsRow gives InheritsClause
      or after MergesWord PathsRow gives MergesClause
      or after DisjunctsWord PathsRow gives DisjunctsClause
      or after WhenWord (the OpenBrace then inside.expr then (maybe (the Semicolon) then the CloseBrace gives second) gives inner) gives WhenClause

  unfoldable pub BodyRow : Phrase BodyParts
  BodyRow = the OpenBrace then maybe (after InitWord inside.block) then
      (after PopulationWord (inside.block then maybe (after EndWord inside.block)) gives sections_of
      or ItemsRow inside then (maybe (SimpleRow inside) gives inl or after EndWord inside.block gives inr) gives open_sections)
      then the CloseBrace gives body_of

  -- each kind of Extra comes at most once
  unfoldable pub UnitRow : Phrase UnitTerm
  UnitRow = placed (after IntermediateWord (after ClassWord (NameRow then maybe (after ExtendsWord PathsRow) then
      (the OpenBrace then many (before (NameRow then after Colon (TypeRow inside) gives typed_name_of) Semicolon) then the CloseBrace gives inner)))) gives class_unit_of
      or placed (after MainWord (after OpenRound (after CloseRound inside.block))) gives main_of
      or (the HelperWord or the QueryWord) then UnitPathRow then listed OpenRound ParamsRow CloseRound then maybe (after Colon (TypeRow inside)) then
      (inside.block or before (the EqualSign then inside.expr) Semicolon gives return_body) gives helper_of
      or after ConstructorWord (UnitPathRow then listed OpenRound ParamsRow CloseRound then inside.block) gives constructor_of
      or after MappingWord (UnitPathRow then listed OpenRound ParamsRow CloseRound then maybe (after Colon (PathRow then maybe ExtentRow gives result_decl_of)) then
      (such_that AreOnce (many ExtraRow) gives clauses_of) then (BodyRow or the Semicolon gives empty_body)) gives mapping_of

  unfoldable pub ModuleRow : Phrase ModuleTerm
  ModuleRow = many ModelTypeRow then HeaderRow then many (UnitRow gives some_unit or the Semicolon gives no_units) gives module_of
