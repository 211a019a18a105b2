-- The rows of the grammar, as docs/LANGUAGE.md shows them: names, types, expressions and statements (OCL 2.4, 7 and 9; QVT 1.3,
-- 8.2.2 and 8.4). A row is a phrase of the name that it has there; what stands inside is written small.
use Rattle.std.specs.Prelude.{ℕ, List, Option}
use Rattle.qvt_tree_types.specs.Tree.{TypeTerm, PathType, ExprTerm, PathExpr, MapExpr, ResolveExpr, ItemTerm, MapTerm, ResolveTerm, FilterTerm, AccumulatorTerm, StepTerm, DotMapStep, DotResolveStep, ArrowMapStep, ArrowResolveStep, TargetTerm, StmtTerm}
use Rattle.qvt_tree_types.specs.declared.types.PathTree.{PathTree}
use Rattle.qvt_tree_types.specs.declared.words.Level.{Level}
use Rattle.qvt_tree_types.specs.declared.words.Level.TheVariants as levels
use Rattle.qvt_language.specs.declared.named.Named.{Named}
use Rattle.qvt_language.specs.declared.class.Class.TheVariants.{Name as NameToken, Integer as IntegerToken, Str as StringToken, OpenRound, CloseRound, OpenBrace, CloseBrace, Comma, Semicolon, Colon, DoubleColon, Dot, DotDot, Arrow, Bar, AtSign, EqualSign, DoubleEqual, Diamond, BangEqual, LessSign, AtMost, GreaterSign, AtLeast, PlusSign, MinusSign, Star, Becomes, PlusEqual, AndWord, BagWord, ElifWord, ElseWord, EndifWord, FalseWord, ForEachWord, IfWord, ImpliesWord, InvResolveWord, InvResolveInWord, InvResolveOneWord, InvResolveOneInWord, LateWord, MapWord, NewWord, NotWord, NullWord, ObjectWord, OrWord, OrderedSetWord, ResolveAllWord, ResolveInWord, ResolveOneWord, ResolveOneInWord, ResultWord, ReturnWord, SelfWord, SequenceWord, SetWord, ThenWord, TrueWord, VarWord, WhileWord, XmapWord, XorWord}
use Rattle.qvt_language.specs.Tokens.{Tok}
use Rattle.qvt_language.specs.Trees.{named_of, path_of, text_of, coll_type_of, int_of, str_of, true_of, false_of, null_of, self_of, result_of, coll_of, range_of, item_of, if_of, new_of, map_of, all_of, in_of, resolve_of, dot_of, arrow_of, accumulator_of, not_of, minus_of, each_of}
use Rattle.qvt_language.specs.StmtTrees.{var_of, return_of, arm_of, while_of, concat}
use Rattle.qvt_language.specs.Conditionals.{block_form_of}
use Rattle.qvt_language_rows.specs.Phrase.{Phrase, ◌or◌, ◌gives◌, ◌then◌, the, many, maybe, placed, after, before, between, commas, listed, barring}
use Rattle.qvt_language_rows.specs.Values.{call_of, named_var, result_var, object_of, filter_of, headed_body, without_head, or_no_args, stepped_of, signed_of, linked, chained, named_target, result_target, feature_target, assign_of, value_of, loop_of, no_stmts, single, with_last}

-- types, expressions and blocks that stand inside others
pub record NestedRows : Type 1 where
  pub type : Phrase TypeTerm
  pub expr : Phrase ExprTerm
  pub block : Phrase (List StmtTerm)

-- names

unfoldable pub NameRow : Phrase Named
NameRow = the NameToken gives named_of

unfoldable pub PathRow : Phrase PathTree
PathRow = NameRow then many (after DoubleColon NameRow) gives path_of

unfoldable pub PathsRow : Phrase (List PathTree)
PathsRow = commas PathRow

-- "@" Name
unfoldable pub ExtentRow : Phrase (List ℕ)
ExtentRow = after AtSign (the NameToken gives text_of)

unfoldable pub KindRow : Phrase Tok
KindRow = the SetWord or the BagWord or the SequenceWord or the OrderedSetWord

unfoldable pub AllRow : Phrase Tok
AllRow = the ResolveAllWord or the ResolveOneWord or the InvResolveWord or the InvResolveOneWord

unfoldable pub InRow : Phrase Tok
InRow = the ResolveInWord or the ResolveOneInWord or the InvResolveInWord or the InvResolveOneInWord

-- operands of one level with its signs between them
abbrev pub chain : Level → Phrase Tok → Phrase ExprTerm → Phrase ExprTerm
chain level sign operand = placed (operand then many (sign then operand gives linked)) gives chained level

module _ (inside : NestedRows) where
  -- types

  unfoldable pub TypeRow : Phrase TypeTerm
  TypeRow = KindRow then between OpenRound inside.type CloseRound gives coll_type_of
      or PathRow gives PathType

  -- expressions

  unfoldable pub ExprsRow : Phrase (List ExprTerm)
  ExprsRow = commas inside.expr

  unfoldable pub ItemRow : Phrase ItemTerm
  ItemRow = placed (inside.expr then maybe (the DotDot then inside.expr gives range_of)) gives item_of

  unfoldable pub FilterRow : Phrase FilterTerm
  FilterRow = placed (maybe (before NameRow Colon) then TypeRow then maybe (after Bar inside.expr)) gives filter_of

  unfoldable pub ResolveRow : Phrase ResolveTerm
  ResolveRow = placed (maybe (the LateWord) then
      (AllRow then between OpenRound FilterRow CloseRound gives all_of
      or InRow then the OpenRound then PathRow then maybe (after Comma FilterRow) then the CloseRound gives in_of)) gives resolve_of

  unfoldable pub HeadRow : Phrase (Named × (Option TypeTerm × Option AccumulatorTerm))
  HeadRow = NameRow then maybe (after Colon TypeRow) then maybe (after Semicolon (NameRow then after Colon TypeRow then after EqualSign inside.expr) gives accumulator_of)

  unfoldable pub MapRow : Phrase MapTerm
  MapRow = (the MapWord or the XmapWord) then NameRow then listed OpenRound ExprsRow CloseRound gives map_of

  unfoldable pub StepRow : Phrase StepTerm
  StepRow = after Dot (NameRow then maybe (listed OpenRound ExprsRow CloseRound) gives dot_of)
      or after Arrow (NameRow then between OpenRound (maybe (HeadRow then after Bar inside.expr gives headed_body or ExprsRow gives without_head) gives or_no_args) CloseRound gives arrow_of)
      or after Dot (MapRow gives DotMapStep or ResolveRow gives DotResolveStep)
      or after Arrow (MapRow gives ArrowMapStep or ResolveRow gives ArrowResolveStep)

  unfoldable pub PrimaryRow : Phrase ExprTerm
  PrimaryRow = the IntegerToken gives int_of
      or the StringToken gives str_of
      or the TrueWord gives true_of
      or the FalseWord gives false_of
      or the NullWord gives null_of
      or the SelfWord gives self_of
      or the ResultWord gives result_of
      or PathRow gives PathExpr
      or NameRow then listed OpenRound ExprsRow CloseRound gives call_of
      or KindRow then listed OpenBrace (commas ItemRow) CloseBrace gives coll_of
      or placed (the IfWord then inside.expr then after ThenWord inside.expr then between ElseWord inside.expr EndifWord) gives if_of
      or the ObjectWord then maybe (before (NameRow gives named_var or the ResultWord gives result_var) Colon) then PathRow then maybe ExtentRow then inside.block gives object_of
      or the NewWord then PathRow then maybe ExtentRow then listed OpenRound ExprsRow CloseRound gives new_of
      or MapRow gives MapExpr
      or ResolveRow gives ResolveExpr
      or between OpenRound inside.expr CloseRound

  unfoldable pub PostRow : Phrase ExprTerm
  PostRow = placed (PrimaryRow then many StepRow) gives stepped_of

  unfoldable pub PreRow : Phrase ExprTerm
  PreRow = placed (many (the NotWord gives not_of or the MinusSign gives minus_of) then PostRow) gives signed_of

  unfoldable pub MulRow : Phrase ExprTerm
  MulRow = chain levels.Product (the Star) PreRow

  unfoldable pub AddRow : Phrase ExprTerm
  AddRow = chain levels.Sum (the PlusSign or the MinusSign) MulRow

  unfoldable pub RelRow : Phrase ExprTerm
  RelRow = chain levels.Relation (the LessSign or the AtMost or the GreaterSign or the AtLeast) AddRow

  unfoldable pub EqRow : Phrase ExprTerm
  EqRow = chain levels.Equality (the EqualSign or the DoubleEqual or the Diamond or the BangEqual) RelRow

  unfoldable pub AndRow : Phrase ExprTerm
  AndRow = chain levels.And (the AndWord) EqRow

  unfoldable pub OrRow : Phrase ExprTerm
  OrRow = chain levels.Or (the OrWord) AndRow

  unfoldable pub XorRow : Phrase ExprTerm
  XorRow = chain levels.Xor (the XorWord) OrRow

  unfoldable pub ExprRow : Phrase ExprTerm
  ExprRow = chain levels.Implies (the ImpliesWord) XorRow

  -- statements

  unfoldable pub TargetRow : Phrase TargetTerm
  TargetRow = NameRow gives named_target
      or the ResultWord gives result_target
      or PostRow then after Dot NameRow gives feature_target

  -- a Simple never begins with `if`
  unfoldable pub SimpleRow : Phrase StmtTerm
  SimpleRow = barring IfWord (
      placed (the VarWord then NameRow then maybe (after Colon TypeRow) then maybe (after Becomes inside.expr)) gives var_of
      or TargetRow then (the Becomes or the PlusEqual) then inside.expr gives assign_of
      or placed (the ReturnWord then maybe inside.expr) gives return_of
      or placed ExprRow gives value_of)

  unfoldable pub CompoundRow : Phrase StmtTerm
  CompoundRow = placed (the IfWord then between OpenRound inside.expr CloseRound then maybe (the ThenWord) then inside.block
      then many (the ElifWord then between OpenRound inside.expr CloseRound then maybe (the ThenWord) then inside.block gives arm_of)
      then maybe (after ElseWord inside.block) then maybe (the EndifWord)) gives block_form_of
      or placed (the WhileWord then between OpenRound inside.expr CloseRound then inside.block) gives while_of
      or placed (PostRow then after Arrow (the ForEachWord then the OpenRound then NameRow then maybe (after Colon TypeRow) then maybe (after Bar inside.expr) then the CloseRound then inside.block gives each_of)) gives loop_of

  unfoldable pub ItemsRow : Phrase (List StmtTerm)
  ItemsRow = many (the Semicolon gives no_stmts or before SimpleRow Semicolon gives single or CompoundRow gives single) gives concat

  unfoldable pub BlockRow : Phrase (List StmtTerm)
  BlockRow = between OpenBrace (ItemsRow then maybe SimpleRow gives with_last) CloseBrace
