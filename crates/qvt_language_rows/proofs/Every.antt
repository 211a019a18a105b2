-- What is kept by the forms of the grammar, and by what the rows make of their parts, holds of every row.
use Rattle.std.proofs.Common.{ℕ, zero, suc, List, [], ◌∷◌, Option, ◌⊎◌, IsTrue, inl, inr}
use Rattle.qvt_tree_types.specs.Tree.{TypeTerm, PathType, ExprTerm, PathExpr, MapExpr, ResolveExpr, RangeTerm, ItemTerm, MapTerm, ResolveTerm, FilterTerm, HeadTerm, AccumulatorTerm, LinkTerm, StepTerm, DotMapStep, DotResolveStep, ArrowMapStep, ArrowResolveStep, TargetTerm, StmtTerm, ArmTerm}
use Rattle.qvt_tree_types.specs.Module.{TypedName, UnitTerm, ModuleTerm}
use Rattle.qvt_tree_types.specs.declared.types.PathTree.{PathTree}
use Rattle.qvt_tree_types.specs.declared.types.ObjectVar.{ObjectVar}
use Rattle.qvt_tree_types.specs.declared.module.ResultDecl.{ResultDecl}
use Rattle.qvt_tree_types.specs.declared.module.ModelType.{ModelType as ModelTypeTree}
use Rattle.qvt_tree_types.specs.declared.module.ModelParam.{ModelParam as ModelParamTree}
use Rattle.qvt_tree_types.specs.declared.words.Sign.{Sign}
use Rattle.qvt_tree_types.specs.declared.words.ResolveWord.{ResolveWord}
use Rattle.qvt_tree_types.specs.declared.words.Level.{Level}
use Rattle.qvt_tree_types.specs.declared.words.Level.TheVariants as levels
use Rattle.qvt_base.specs.declared.numbers.Place.{Place}
use Rattle.qvt_language.specs.declared.named.Named.{Named}
use Rattle.qvt_language.specs.declared.named.UnitPath.{UnitPath as UnitPathTree}
use Rattle.qvt_language.specs.Tokens.{Tok}
use Rattle.qvt_language.specs.declared.class.Class.{Class}
use Rattle.qvt_language.specs.declared.class.Class.TheVariants as class
use Rattle.qvt_language.specs.Leads.{EachPart}
use Rattle.qvt_language.specs.Trees.{second, inner, named_of, path_of, unit_path_of, text_of, coll_type_of, int_of, str_of, true_of, false_of, null_of, self_of, result_of, coll_of, range_of, item_of, if_of, new_of, map_of, all_of, in_of, resolve_of, dot_of, arrow_of, accumulator_of, not_of, minus_of, each_of}
use Rattle.qvt_language.specs.StmtTrees.{var_of, return_of, arm_of, while_of, concat}
use Rattle.qvt_language.specs.Conditionals.{block_form_of}
use Rattle.qvt_language.specs.Units.{is_strictness}
use Rattle.qvt_language.specs.UnitTrees.{typed_name_of, param_of, class_unit_of, main_of, return_body, helper_of, constructor_of, result_decl_of, ClauseTree, ClausesTree, InheritsClause, MergesClause, DisjunctsClause, WhenClause, BodyTree as BodyParts, empty_body, body_of, sections_of, mapping_of, some_unit, model_type_of, model_param_of, module_of}
use Rattle.qvt_language_rows.specs.Phrase.{Phrase, ◌or◌, ◌gives◌, ◌then◌, nothing, the, many, maybe, placed, after, before, between, commas, listed, barring, such_that}
use Rattle.qvt_language_rows.specs.Values.{call_of, named_var, result_var, object_of, filter_of, headed_body, without_head, or_no_args, stepped_of, signed_of, linked, chained, named_target, result_target, feature_target, assign_of, value_of, loop_of, no_stmts, single, with_last, open_sections, no_units, AreOnce, clauses_of}
use Rattle.qvt_language_rows.specs.Rows.{NestedRows, NameRow, PathRow, PathsRow, ExtentRow, KindRow, AllRow, InRow, chain, TypeRow, ExprsRow, ItemRow, FilterRow, ResolveRow, HeadRow, MapRow, StepRow, PrimaryRow, PostRow, PreRow, MulRow, AddRow, RelRow, EqRow, AndRow, OrRow, XorRow, ExprRow, TargetRow, SimpleRow, CompoundRow, ItemsRow, BlockRow}
use Rattle.qvt_language_rows.specs.Units.{UnitPathRow, ModelTypeRow, ModelParamRow, HeaderRow, ParamRow, ParamsRow, ExtraRow, BodyRow, UnitRow, ModuleRow}
use Rattle.qvt_language_rows.specs.Language.{inside}

-- a token of one of the classes
abbrev pub any_of : List Class → Phrase Tok
any_of [] = nothing
any_of (c ∷ []) = the c
any_of (c ∷ d ∷ cs) = the c or any_of (d ∷ cs)

-- the classes of the rows that are a choice of tokens
abbrev pub kinds : List Class
kinds = class.SetWord ∷ class.BagWord ∷ class.SequenceWord ∷ class.OrderedSetWord ∷ []

abbrev pub alls : List Class
alls = class.ResolveAllWord ∷ class.ResolveOneWord ∷ class.InvResolveWord ∷ class.InvResolveOneWord ∷ []

abbrev pub ins : List Class
ins = class.ResolveInWord ∷ class.ResolveOneInWord ∷ class.InvResolveInWord ∷ class.InvResolveOneInWord ∷ []

abbrev pub operators : Level → List Class
operators levels.Product = class.Star ∷ []
operators levels.Sum = class.PlusSign ∷ class.MinusSign ∷ []
operators levels.Relation = class.LessSign ∷ class.AtMost ∷ class.GreaterSign ∷ class.AtLeast ∷ []
operators levels.Equality = class.EqualSign ∷ class.DoubleEqual ∷ class.Diamond ∷ class.BangEqual ∷ []
operators levels.And = class.AndWord ∷ []
operators levels.Or = class.OrWord ∷ []
operators levels.Xor = class.XorWord ∷ []
operators levels.Implies = class.ImpliesWord ∷ []

-- The forms of the grammar: I is what can be said of the values of a type, and K that it is so of all that a phrase is.
pub record Forms {ℓ} (I : Type 0 → Type ℓ) (K : (A : Type 0) → I A → Phrase A → Type 0) : Type (ℓ ⊔ 1) where
  -- what is said of a token of one of the classes, of a sequence, of a list, of what may be missing, of a value with a place
  pub token : List Class → I Tok
  pub pair : {A B : Type 0} → I A → I B → I (A × B)
  pub list : {A : Type 0} → I A → I (List A)
  pub option : {A : Type 0} → I A → I (Option A)
  pub marked : {A : Type 0} → I A → I (Place × A)
  -- of what stands after a token, before one, between two, of a list with commas, and of a list between two tokens
  pub after_a : {A : Type 0} → Class → I A → I A
  pub before_a : {A : Type 0} → I A → Class → I A
  pub in_two : {A : Type 0} → Class → I A → Class → I A
  pub in_commas : {A : Type 0} → I A → I (List A)
  pub in_list : {A : Type 0} → Class → I A → Class → I (List A)
  -- where the one is said of a value, the other is so of what is made of it
  pub Makes : {A B : Type 0} → I A → I B → (A → B) → Type 0
  pub no_list : {A : Type 0} {i : I A} → K A i nothing
  pub choice : (cs : List Class) → K Tok (token cs) (any_of cs)
  pub both : {A B : Type 0} {i : I A} {j : I B} {p : Phrase A} {q : Phrase B} → K A i p → K B j q → K (A × B) (pair i j) (p then q)
  pub one_of : {A : Type 0} {i : I A} {p q : Phrase A} → K A i p → K A i q → K A i (p or q)
  pub made : {A B : Type 0} {i : I A} {j : I B} {p : Phrase A} {f : A → B} → Makes i j f → K A i p → K B j (p gives f)
  pub turns : {A : Type 0} {i : I A} {p : Phrase A} → K A i p → K (List A) (list i) (many p)
  pub perhaps : {A : Type 0} {i : I A} {p : Phrase A} → K A i p → K (Option A) (option i) (maybe p)
  pub at : {A : Type 0} {i : I A} {p : Phrase A} → K A i p → K (Place × A) (marked i) (placed p)
  pub barred : {A : Type 0} {i : I A} {p : Phrase A} (c : Class) → K A i p → K A i (barring c p)
  pub behind : {A : Type 0} {i : I A} {p : Phrase A} (c : Class) → K A i p → K A (after_a c i) (after c p)
  pub ahead : {A : Type 0} {i : I A} {p : Phrase A} → K A i p → (c : Class) → K A (before_a i c) (before p c)
  pub round : {A : Type 0} {i : I A} {p : Phrase A} (c : Class) → K A i p → (d : Class) → K A (in_two c i d) (between c p d)
  pub series : {A : Type 0} {i : I A} {p : Phrase A} → K A i p → K (List A) (in_commas i) (commas p)
  pub lists : {A : Type 0} {i : I A} {p : Phrase A} (c : Class) → K A i p → (d : Class) → K (List A) (in_list c i d) (listed c (commas p) d)
  -- what is said of all values of a phrase may be said in another way
  pub also : {A : Type 0} {i j : I A} {p : Phrase A} → Makes i j (λ a. a) → K A i p → K A j p

-- what is said of each kind of value
pub record Said {ℓ} (I : Type 0 → Type ℓ) : Type ℓ where
  pub named : I Named
  pub name : I (List ℕ)
  pub string : I (List ℕ)
  pub uri : I (List ℕ)
  pub source : I (List ℕ)
  pub path : I PathTree
  pub kind : I TypeTerm
  pub expr : I ExprTerm
  pub range : I RangeTerm
  pub item : I ItemTerm
  pub filter : I FilterTerm
  pub form : I (ResolveWord × (Option PathTree × Option FilterTerm))
  pub resolve : I ResolveTerm
  pub accumulator : I AccumulatorTerm
  pub map : I MapTerm
  pub args : I (HeadTerm × List ExprTerm)
  pub step : I StepTerm
  pub dot : I StepTerm
  pub arrow : I StepTerm
  pub dot_call : I StepTerm
  pub arrow_call : I StepTerm
  pub variable : I ObjectVar
  pub sign : I Sign
  pub link : I LinkTerm
  pub target : I TargetTerm
  pub stmt : I StmtTerm
  pub compound : I StmtTerm
  pub items : I (List StmtTerm)
  pub inside : I (List StmtTerm)
  pub block : I (List StmtTerm)
  pub turn : I (List StmtTerm)
  pub helper_body : I (List StmtTerm)
  pub arm : I ArmTerm
  pub each : I EachPart
  pub unit_path : I UnitPathTree
  pub typed : I TypedName
  pub feature : I TypedName
  pub result : I ResultDecl
  pub guard_end : I Tok
  pub guard : I ExprTerm
  pub clause : I ClauseTree
  pub clauses : I ClausesTree
  pub ending : I (Option StmtTerm ⊎ List StmtTerm)
  pub sections : I (List StmtTerm × List StmtTerm)
  pub body : I BodyParts
  pub unit : I UnitTerm
  pub turn_units : I (List UnitTerm)
  pub model_type : I ModelTypeTree
  pub model_param : I ModelParamTree
  pub model_params : I (List ModelParamTree)
  pub whole : I ModuleTerm

-- what is said at a level of the operands of the next looser one; of the loosest there is none
module _ {ℓ} {A : Type ℓ} where
  abbrev pub loosened : (Level → A) → A → Level → A
  loosened operand last levels.Product = operand levels.Sum
  loosened operand last levels.Sum = operand levels.Relation
  loosened operand last levels.Relation = operand levels.Equality
  loosened operand last levels.Equality = operand levels.And
  loosened operand last levels.And = operand levels.Or
  loosened operand last levels.Or = operand levels.Xor
  loosened operand last levels.Xor = operand levels.Implies
  loosened operand last levels.Implies = last

module _ {ℓ} {I : Type 0 → Type ℓ} {K : (A : Type 0) → I A → Phrase A → Type 0} (F : Forms I K) (S : Said I) where
  -- what is said of an expression by its row, of a link by its level, and of a unit that is read, where that is more than of
  -- expressions, links and units as such
  pub record ByRow : Type (ℓ ⊔ 1) where
    pub primary : I ExprTerm
    pub post : I ExprTerm
    pub operand : Level → I ExprTerm
    pub chain : Level → I ExprTerm
    pub link : Level → I LinkTerm
    pub read : I UnitTerm
    pub climbs : (level : Level) {p : Phrase ExprTerm} → K ExprTerm (chain level) p → K ExprTerm (loosened operand S.expr level) p
    pub reads : (n : ℕ) → K UnitTerm S.unit (UnitRow (inside n)) → K UnitTerm read (UnitRow (inside n))

  pub same_climbs : (level : Level) {p : Phrase ExprTerm} → K ExprTerm S.expr p → K ExprTerm (loosened (λ l. S.expr) S.expr level) p
  same_climbs levels.Product h = h
  same_climbs levels.Sum h = h
  same_climbs levels.Relation h = h
  same_climbs levels.Equality h = h
  same_climbs levels.And h = h
  same_climbs levels.Or h = h
  same_climbs levels.Xor h = h
  same_climbs levels.Implies h = h

  -- no more of any
  abbrev pub alike : ByRow
  alike = record { primary = S.expr; post = S.expr; operand = λ l. S.expr; chain = λ l. S.expr; link = λ l. S.link; read = S.unit; climbs = same_climbs; reads = λ n h. h }

  abbrev one : Class → I Tok
  one c = F.token (c ∷ [])

  abbrev args : I (List ExprTerm)
  args = F.in_list class.OpenRound S.expr class.CloseRound

  abbrev after_colon : I TypeTerm
  after_colon = F.after_a class.Colon S.kind

  abbrev colon_type : I (Option TypeTerm)
  colon_type = F.option after_colon

  abbrev bar_expr : I (Option ExprTerm)
  bar_expr = F.option (F.after_a class.Bar S.expr)

  abbrev condition : I ExprTerm
  condition = F.in_two class.OpenRound S.expr class.CloseRound

  abbrev paths : I (List PathTree)
  paths = F.in_commas S.path

  abbrev extent : I (Option (List ℕ))
  extent = F.option (F.after_a class.AtSign S.name)

  abbrev names : I (Named × List Named)
  names = F.pair S.named (F.list (F.after_a class.DoubleColon S.named))

  abbrev params : I (List TypedName)
  params = F.in_list class.OpenRound S.typed class.CloseRound

  abbrev features : I (List TypedName)
  features = F.in_two class.OpenBrace (F.list (F.before_a S.feature class.Semicolon)) class.CloseBrace

  -- what the rows make of their parts
  pub record MakersBy (R : ByRow) : Type 1 where
    -- names
    pub named_of : F.Makes (one class.Name) S.named named_of
    pub name_of : F.Makes (one class.Name) S.name text_of
    pub string_of : F.Makes (one class.Str) S.string text_of
    pub path_of : F.Makes names S.path path_of
    pub unit_path_of : F.Makes names S.unit_path unit_path_of
    -- types
    pub coll_type_of : F.Makes (F.pair (F.token kinds) (F.in_two class.OpenRound S.kind class.CloseRound)) S.kind coll_type_of
    pub path_type : F.Makes S.path S.kind PathType
    -- expressions
    pub range_of : F.Makes (F.pair (one class.DotDot) S.expr) S.range range_of
    pub item_of : F.Makes (F.marked (F.pair S.expr (F.option S.range))) S.item item_of
    pub filter_of : F.Makes (F.marked (F.pair (F.option (F.before_a S.named class.Colon)) (F.pair S.kind bar_expr))) S.filter filter_of
    pub all_of : F.Makes (F.pair (F.token alls) (F.in_two class.OpenRound S.filter class.CloseRound)) S.form all_of
    pub in_of : F.Makes (F.pair (F.token ins) (F.pair (one class.OpenRound) (F.pair S.path (F.pair (F.option (F.after_a class.Comma S.filter)) (one class.CloseRound))))) S.form in_of
    pub resolve_of : F.Makes (F.marked (F.pair (F.option (one class.LateWord)) S.form)) S.resolve resolve_of
    pub accumulator_of : F.Makes (F.after_a class.Semicolon (F.pair S.named (F.pair after_colon (F.after_a class.EqualSign S.expr)))) S.accumulator accumulator_of
    pub map_of : F.Makes (F.pair (F.token (class.MapWord ∷ class.XmapWord ∷ [])) (F.pair S.named args)) S.map map_of
    pub dot_of : F.Makes (F.pair S.named (F.option args)) S.dot dot_of
    pub headed_body : F.Makes (F.pair (F.pair S.named (F.pair colon_type (F.option S.accumulator))) (F.after_a class.Bar S.expr)) S.args headed_body
    pub without_head : F.Makes (F.in_commas S.expr) S.args without_head
    pub or_no_args : F.Makes (F.option S.args) S.args or_no_args
    pub arrow_of : F.Makes (F.pair S.named (F.in_two class.OpenRound S.args class.CloseRound)) S.arrow arrow_of
    pub dot_map : F.Makes S.map S.dot_call DotMapStep
    pub dot_resolve : F.Makes S.resolve S.dot_call DotResolveStep
    pub arrow_map : F.Makes S.map S.arrow_call ArrowMapStep
    pub arrow_resolve : F.Makes S.resolve S.arrow_call ArrowResolveStep
    pub after_dot : F.Makes (F.after_a class.Dot S.dot) S.step (λ x. x)
    pub after_arrow : F.Makes (F.after_a class.Arrow S.arrow) S.step (λ x. x)
    pub call_after_dot : F.Makes (F.after_a class.Dot S.dot_call) S.step (λ x. x)
    pub call_after_arrow : F.Makes (F.after_a class.Arrow S.arrow_call) S.step (λ x. x)
    pub int_of : F.Makes (one class.Integer) R.primary int_of
    pub str_of : F.Makes (one class.Str) R.primary str_of
    pub true_of : F.Makes (one class.TrueWord) R.primary true_of
    pub false_of : F.Makes (one class.FalseWord) R.primary false_of
    pub null_of : F.Makes (one class.NullWord) R.primary null_of
    pub self_of : F.Makes (one class.SelfWord) R.primary self_of
    pub result_of : F.Makes (one class.ResultWord) R.primary result_of
    pub path_expr : F.Makes S.path R.primary PathExpr
    pub call_of : F.Makes (F.pair S.named args) R.primary call_of
    pub coll_of : F.Makes (F.pair (F.token kinds) (F.in_list class.OpenBrace S.item class.CloseBrace)) R.primary coll_of
    pub if_of : F.Makes (F.marked (F.pair (one class.IfWord) (F.pair S.expr (F.pair (F.after_a class.ThenWord S.expr) (F.in_two class.ElseWord S.expr class.EndifWord))))) R.primary if_of
    pub named_var : F.Makes S.named S.variable named_var
    pub result_var : F.Makes (one class.ResultWord) S.variable result_var
    pub object_of : F.Makes (F.pair (one class.ObjectWord) (F.pair (F.option (F.before_a S.variable class.Colon)) (F.pair S.path (F.pair extent S.block)))) R.primary object_of
    pub new_of : F.Makes (F.pair (one class.NewWord) (F.pair S.path (F.pair extent args))) R.primary new_of
    pub map_expr : F.Makes S.map R.primary MapExpr
    pub resolve_expr : F.Makes S.resolve R.primary ResolveExpr
    pub brackets : F.Makes (F.in_two class.OpenRound S.expr class.CloseRound) R.primary (λ x. x)
    pub stepped_of : F.Makes (F.marked (F.pair R.primary (F.list S.step))) R.post stepped_of
    pub not_of : F.Makes (one class.NotWord) S.sign not_of
    pub minus_of : F.Makes (one class.MinusSign) S.sign minus_of
    pub signed_of : F.Makes (F.marked (F.pair (F.list S.sign) R.post)) (R.operand levels.Product) signed_of
    pub linked : (level : Level) → F.Makes (F.pair (F.token (operators level)) (R.operand level)) (R.link level) linked
    pub chained : (level : Level) → F.Makes (F.marked (F.pair (R.operand level) (F.list (R.link level)))) (R.chain level) (chained level)
    -- statements
    pub named_target : F.Makes S.named S.target named_target
    pub result_target : F.Makes (one class.ResultWord) S.target result_target
    pub feature_target : F.Makes (F.pair R.post (F.after_a class.Dot S.named)) S.target feature_target
    pub var_of : F.Makes (F.marked (F.pair (one class.VarWord) (F.pair S.named (F.pair colon_type (F.option (F.after_a class.Becomes S.expr)))))) S.stmt var_of
    pub assign_of : F.Makes (F.pair S.target (F.pair (F.token (class.Becomes ∷ class.PlusEqual ∷ [])) S.expr)) S.stmt assign_of
    pub return_of : F.Makes (F.marked (F.pair (one class.ReturnWord) (F.option S.expr))) S.stmt return_of
    pub value_of : F.Makes (F.marked S.expr) S.stmt value_of
    pub arm_of : F.Makes (F.pair (one class.ElifWord) (F.pair condition (F.pair (F.option (one class.ThenWord)) S.block))) S.arm arm_of
    pub block_form_of : F.Makes (F.marked (F.pair (one class.IfWord) (F.pair condition (F.pair (F.option (one class.ThenWord)) (F.pair S.block (F.pair (F.list S.arm) (F.pair (F.option (F.after_a class.ElseWord S.block)) (F.option (one class.EndifWord))))))))) S.compound block_form_of
    pub while_of : F.Makes (F.marked (F.pair (one class.WhileWord) (F.pair condition S.block))) S.compound while_of
    pub each_of : F.Makes (F.pair (one class.ForEachWord) (F.pair (one class.OpenRound) (F.pair S.named (F.pair colon_type (F.pair bar_expr (F.pair (one class.CloseRound) S.block)))))) S.each each_of
    pub loop_of : F.Makes (F.marked (F.pair R.post (F.after_a class.Arrow S.each))) S.compound loop_of
    pub no_stmts : F.Makes (one class.Semicolon) S.turn no_stmts
    pub simple_turn : F.Makes (F.before_a S.stmt class.Semicolon) S.turn single
    pub compound_turn : F.Makes S.compound S.turn single
    pub concat : F.Makes (F.list S.turn) S.items concat
    pub with_last : F.Makes (F.pair S.items (F.option S.stmt)) S.inside with_last
    pub braces : F.Makes (F.in_two class.OpenBrace S.inside class.CloseBrace) S.block (λ x. x)
    -- units
    pub param_of : F.Makes (F.marked (F.pair (F.option (one class.InWord)) (F.pair S.named after_colon))) S.typed param_of
    pub typed_name_of : F.Makes (F.pair S.named after_colon) S.feature typed_name_of
    pub class_of : F.Makes (F.marked (F.after_a class.IntermediateWord (F.after_a class.ClassWord (F.pair S.named (F.pair (F.option (F.after_a class.ExtendsWord paths)) features))))) S.unit class_unit_of
    pub main_of : F.Makes (F.marked (F.after_a class.MainWord (F.after_a class.OpenRound (F.after_a class.CloseRound S.block)))) S.unit main_of
    pub return_body : F.Makes (F.before_a (F.pair (one class.EqualSign) S.expr) class.Semicolon) S.helper_body return_body
    pub block_body : F.Makes S.block S.helper_body (λ x. x)
    pub helper_of : F.Makes (F.pair (F.token (class.HelperWord ∷ class.QueryWord ∷ [])) (F.pair S.unit_path (F.pair params (F.pair colon_type S.helper_body)))) S.unit helper_of
    pub constructor_of : F.Makes (F.after_a class.ConstructorWord (F.pair S.unit_path (F.pair params S.block))) S.unit constructor_of
    pub result_decl_of : F.Makes (F.pair S.path extent) S.result result_decl_of
    pub inherits : F.Makes (F.after_a class.InheritsWord paths) S.clause InheritsClause
    pub merges : F.Makes (F.after_a class.MergesWord paths) S.clause MergesClause
    pub disjuncts : F.Makes (F.after_a class.DisjunctsWord paths) S.clause DisjunctsClause
    pub guard_end : F.Makes (F.pair (F.option (one class.Semicolon)) (one class.CloseBrace)) S.guard_end second
    pub guard : F.Makes (F.pair (one class.OpenBrace) (F.pair S.expr S.guard_end)) S.guard inner
    pub condition : F.Makes (F.after_a class.WhenWord S.guard) S.clause WhenClause
    pub clauses_of : F.Makes (F.list S.clause) S.clauses clauses_of
    pub sections_of : F.Makes (F.after_a class.PopulationWord (F.pair S.block (F.option (F.after_a class.EndWord S.block)))) S.sections sections_of
    pub ends_in_simple : F.Makes (F.option S.stmt) S.ending inl
    pub ends_in_block : F.Makes (F.after_a class.EndWord S.block) S.ending inr
    pub open_sections : F.Makes (F.pair S.items S.ending) S.sections open_sections
    pub empty_body : F.Makes (one class.Semicolon) S.body empty_body
    pub body_of : F.Makes (F.pair (one class.OpenBrace) (F.pair (F.option (F.after_a class.InitWord S.block)) (F.pair S.sections (one class.CloseBrace)))) S.body body_of
    pub mapping_of : F.Makes (F.after_a class.MappingWord (F.pair S.unit_path (F.pair params (F.pair (F.option (F.after_a class.Colon S.result)) (F.pair S.clauses S.body))))) S.unit mapping_of
    pub some_unit : F.Makes R.read S.turn_units some_unit
    pub no_units : F.Makes (one class.Semicolon) S.turn_units no_units
    pub uri_text : F.Makes S.string S.uri (λ x. x)
    pub uri_named : F.Makes (F.after_a class.Name (F.in_two class.OpenRound S.string class.CloseRound)) S.uri (λ x. x)
    pub source : F.Makes (F.pair (F.option (one class.Str)) (F.in_two class.UsesWord S.uri class.Semicolon)) S.source second
    pub model_type_of : F.Makes (F.marked (F.after_a class.ModelTypeWord (F.pair S.named S.source))) S.model_type model_type_of
    pub model_param_of : F.Makes (F.pair (F.token (class.InWord ∷ class.OutWord ∷ class.InoutWord ∷ [])) (F.pair S.named (F.after_a class.Colon S.named))) S.model_param model_param_of
    pub model_params : F.Makes (F.pair (one class.OpenRound) (F.pair (F.in_commas S.model_param) (F.before_a (one class.CloseRound) class.Semicolon))) S.model_params inner
    pub module_of : F.Makes (F.pair (F.list S.model_type) (F.pair (F.after_a class.TransformationWord (F.pair S.name S.model_params)) (F.list S.turn_units))) S.whole module_of
    -- the two that look at the value
    pub strict : K Tok (one class.Str) (such_that (λ t. IsTrue (is_strictness t)) (the class.Str))
    pub once : (j : NestedRows) → K ClauseTree S.clause (ExtraRow j) → K (List ClauseTree) (F.list S.clause) (such_that AreOnce (many (ExtraRow j)))

  abbrev pub Makers : Type 1
  Makers = MakersBy alike

module _ {ℓ} {I : Type 0 → Type ℓ} {K : (A : Type 0) → I A → Phrase A → Type 0} {F : Forms I K} {S : Said I} {R : ByRow F S} (m : MakersBy F S R) where
  k_one : (c : Class) → K Tok (one F S c) (the c)
  k_one c = F.choice (c ∷ [])

  k_chain : {p : Phrase ExprTerm} (level : Level) → K ExprTerm (R.operand level) p → K ExprTerm (loosened R.operand S.expr level) (chain level (any_of (operators level)) p)
  k_chain level h = R.climbs level (F.made (m.chained level) (F.at (F.both h (F.turns (F.made (m.linked level) (F.both (F.choice (operators level)) h))))))

  k_name : K _ S.named NameRow
  unfolding NameRow
  k_name = F.made m.named_of (k_one class.Name)

  k_path : K _ S.path PathRow
  unfolding PathRow
  k_path = F.made m.path_of (F.both k_name (F.turns (F.behind class.DoubleColon k_name)))

  k_unit_path : K _ S.unit_path UnitPathRow
  unfolding UnitPathRow
  k_unit_path = F.made m.unit_path_of (F.both k_name (F.turns (F.behind class.DoubleColon k_name)))

  k_paths : K _ (paths F S) PathsRow
  unfolding PathsRow
  k_paths = F.series k_path

  k_extent : K _ (F.after_a class.AtSign S.name) ExtentRow
  unfolding ExtentRow
  k_extent = F.behind class.AtSign (F.made m.name_of (k_one class.Name))

  k_kind : K _ (F.token kinds) KindRow
  unfolding KindRow
  k_kind = F.choice kinds

  k_all : K _ (F.token alls) AllRow
  unfolding AllRow
  k_all = F.choice alls

  k_in : K _ (F.token ins) InRow
  unfolding InRow
  k_in = F.choice ins

  record KInside (j : NestedRows) : Type 0 where
    kind : K TypeTerm S.kind j.type
    expr : K ExprTerm S.expr j.expr
    block : K (List StmtTerm) S.block j.block

  module _ {j : NestedRows} (h : KInside j) where
    k_type : K _ S.kind (TypeRow j)
    unfolding TypeRow
    k_type = F.one_of (F.made m.coll_type_of (F.both k_kind (F.round class.OpenRound h.kind class.CloseRound))) (F.made m.path_type k_path)

    k_colon : K _ (after_colon F S) (after class.Colon (TypeRow j))
    k_colon = F.behind class.Colon k_type

    k_exprs : K _ (F.in_commas S.expr) (ExprsRow j)
    unfolding ExprsRow
    k_exprs = F.series h.expr

    k_args : K _ (args F S) (listed class.OpenRound (ExprsRow j) class.CloseRound)
    unfolding ExprsRow
    k_args = F.lists class.OpenRound h.expr class.CloseRound

    k_item : K _ S.item (ItemRow j)
    unfolding ItemRow
    k_item = F.made m.item_of (F.at (F.both h.expr (F.perhaps (F.made m.range_of (F.both (k_one class.DotDot) h.expr)))))

    k_filter : K _ S.filter (FilterRow j)
    unfolding FilterRow
    k_filter = F.made m.filter_of (F.at (F.both (F.perhaps (F.ahead k_name class.Colon)) (F.both k_type (F.perhaps (F.behind class.Bar h.expr)))))

    k_resolve : K _ S.resolve (ResolveRow j)
    unfolding ResolveRow
    k_resolve = F.made m.resolve_of (F.at (F.both (F.perhaps (k_one class.LateWord)) (F.one_of (F.made m.all_of (F.both k_all (F.round class.OpenRound k_filter class.CloseRound)))
        (F.made m.in_of (F.both k_in (F.both (k_one class.OpenRound) (F.both k_path (F.both (F.perhaps (F.behind class.Comma k_filter)) (k_one class.CloseRound)))))))))

    k_head : K _ (F.pair S.named (F.pair (colon_type F S) (F.option S.accumulator))) (HeadRow j)
    unfolding HeadRow
    k_head = F.both k_name (F.both (F.perhaps k_colon) (F.perhaps (F.made m.accumulator_of (F.behind class.Semicolon (F.both k_name (F.both k_colon (F.behind class.EqualSign h.expr)))))))

    k_map : K _ S.map (MapRow j)
    unfolding MapRow
    k_map = F.made m.map_of (F.both (F.choice (class.MapWord ∷ class.XmapWord ∷ [])) (F.both k_name k_args))

    k_arguments : K _ S.args (maybe (HeadRow j then after class.Bar j.expr gives headed_body or ExprsRow j gives without_head) gives or_no_args)
    k_arguments = F.made m.or_no_args (F.perhaps (F.one_of (F.made m.headed_body (F.both k_head (F.behind class.Bar h.expr))) (F.made m.without_head k_exprs)))

    k_step : K _ S.step (StepRow j)
    unfolding StepRow
    k_step = F.one_of (F.also m.after_dot (F.behind class.Dot (F.made m.dot_of (F.both k_name (F.perhaps k_args)))))
        (F.one_of (F.also m.after_arrow (F.behind class.Arrow (F.made m.arrow_of (F.both k_name (F.round class.OpenRound k_arguments class.CloseRound)))))
        (F.one_of (F.also m.call_after_dot (F.behind class.Dot (F.one_of (F.made m.dot_map k_map) (F.made m.dot_resolve k_resolve))))
        (F.also m.call_after_arrow (F.behind class.Arrow (F.one_of (F.made m.arrow_map k_map) (F.made m.arrow_resolve k_resolve))))))

    k_primary : K _ R.primary (PrimaryRow j)
    unfolding PrimaryRow
    k_primary = F.one_of (F.made m.int_of (k_one class.Integer)) (F.one_of (F.made m.str_of (k_one class.Str)) (F.one_of (F.made m.true_of (k_one class.TrueWord)) (F.one_of (F.made m.false_of (k_one class.FalseWord))
        (F.one_of (F.made m.null_of (k_one class.NullWord)) (F.one_of (F.made m.self_of (k_one class.SelfWord)) (F.one_of (F.made m.result_of (k_one class.ResultWord)) (F.one_of (F.made m.path_expr k_path)
        (F.one_of (F.made m.call_of (F.both k_name k_args)) (F.one_of (F.made m.coll_of (F.both k_kind (F.lists class.OpenBrace k_item class.CloseBrace)))
        (F.one_of (F.made m.if_of (F.at (F.both (k_one class.IfWord) (F.both h.expr (F.both (F.behind class.ThenWord h.expr) (F.round class.ElseWord h.expr class.EndifWord))))))
        (F.one_of (F.made m.object_of (F.both (k_one class.ObjectWord) (F.both (F.perhaps (F.ahead (F.one_of (F.made m.named_var k_name) (F.made m.result_var (k_one class.ResultWord))) class.Colon)) (F.both k_path (F.both (F.perhaps k_extent) h.block)))))
        (F.one_of (F.made m.new_of (F.both (k_one class.NewWord) (F.both k_path (F.both (F.perhaps k_extent) k_args))))
        (F.one_of (F.made m.map_expr k_map) (F.one_of (F.made m.resolve_expr k_resolve) (F.also m.brackets (F.round class.OpenRound h.expr class.CloseRound))))))))))))))))

    k_post : K _ R.post (PostRow j)
    unfolding PostRow
    k_post = F.made m.stepped_of (F.at (F.both k_primary (F.turns k_step)))

    k_pre : K _ (R.operand levels.Product) (PreRow j)
    unfolding PreRow
    k_pre = F.made m.signed_of (F.at (F.both (F.turns (F.one_of (F.made m.not_of (k_one class.NotWord)) (F.made m.minus_of (k_one class.MinusSign)))) k_post))

    k_expr : K _ S.expr (ExprRow j)
    unfolding MulRow AddRow RelRow EqRow AndRow OrRow XorRow ExprRow
    k_expr = k_chain levels.Implies (k_chain levels.Xor (k_chain levels.Or (k_chain levels.And (k_chain levels.Equality (k_chain levels.Relation (k_chain levels.Sum (k_chain levels.Product k_pre)))))))

    k_target : K _ S.target (TargetRow j)
    unfolding TargetRow
    k_target = F.one_of (F.made m.named_target k_name) (F.one_of (F.made m.result_target (k_one class.ResultWord)) (F.made m.feature_target (F.both k_post (F.behind class.Dot k_name))))

    k_simple : K _ S.stmt (SimpleRow j)
    unfolding SimpleRow
    k_simple = F.barred class.IfWord (F.one_of (F.made m.var_of (F.at (F.both (k_one class.VarWord) (F.both k_name (F.both (F.perhaps k_colon) (F.perhaps (F.behind class.Becomes h.expr)))))))
        (F.one_of (F.made m.assign_of (F.both k_target (F.both (F.choice (class.Becomes ∷ class.PlusEqual ∷ [])) h.expr)))
        (F.one_of (F.made m.return_of (F.at (F.both (k_one class.ReturnWord) (F.perhaps h.expr)))) (F.made m.value_of (F.at k_expr)))))

    k_condition : K _ (condition F S) (between class.OpenRound j.expr class.CloseRound)
    k_condition = F.round class.OpenRound h.expr class.CloseRound

    k_arm : K _ S.arm (the class.ElifWord then between class.OpenRound j.expr class.CloseRound then maybe (the class.ThenWord) then j.block gives arm_of)
    k_arm = F.made m.arm_of (F.both (k_one class.ElifWord) (F.both k_condition (F.both (F.perhaps (k_one class.ThenWord)) h.block)))

    k_each : K _ S.each (the class.ForEachWord then the class.OpenRound then NameRow then maybe (after class.Colon (TypeRow j)) then maybe (after class.Bar j.expr) then the class.CloseRound then j.block gives each_of)
    k_each = F.made m.each_of (F.both (k_one class.ForEachWord) (F.both (k_one class.OpenRound) (F.both k_name (F.both (F.perhaps k_colon) (F.both (F.perhaps (F.behind class.Bar h.expr)) (F.both (k_one class.CloseRound) h.block))))))

    k_compound : K _ S.compound (CompoundRow j)
    unfolding CompoundRow
    k_compound = F.one_of (F.made m.block_form_of (F.at (F.both (k_one class.IfWord) (F.both k_condition (F.both (F.perhaps (k_one class.ThenWord)) (F.both h.block
        (F.both (F.turns k_arm) (F.both (F.perhaps (F.behind class.ElseWord h.block)) (F.perhaps (k_one class.EndifWord))))))))))
        (F.one_of (F.made m.while_of (F.at (F.both (k_one class.WhileWord) (F.both k_condition h.block)))) (F.made m.loop_of (F.at (F.both k_post (F.behind class.Arrow k_each)))))

    k_items : K _ S.items (ItemsRow j)
    unfolding ItemsRow
    k_items = F.made m.concat (F.turns (F.one_of (F.made m.no_stmts (k_one class.Semicolon)) (F.one_of (F.made m.simple_turn (F.ahead k_simple class.Semicolon)) (F.made m.compound_turn k_compound))))

    k_block : K _ S.block (BlockRow j)
    unfolding BlockRow
    k_block = F.also m.braces (F.round class.OpenBrace (F.made m.with_last (F.both k_items (F.perhaps k_simple))) class.CloseBrace)

    k_params : K _ (params F S) (listed class.OpenRound (ParamsRow j) class.CloseRound)
    unfolding ParamsRow ParamRow
    k_params = F.lists class.OpenRound (F.made m.param_of (F.at (F.both (F.perhaps (k_one class.InWord)) (F.both k_name k_colon)))) class.CloseRound

    k_extra : K _ S.clause (ExtraRow j)
    unfolding ExtraRow
    k_extra = F.one_of (F.made m.inherits (F.behind class.InheritsWord k_paths)) (F.one_of (F.made m.merges (F.behind class.MergesWord k_paths)) (F.one_of (F.made m.disjuncts (F.behind class.DisjunctsWord k_paths))
        (F.made m.condition (F.behind class.WhenWord (F.made m.guard (F.both (k_one class.OpenBrace) (F.both h.expr (F.made m.guard_end (F.both (F.perhaps (k_one class.Semicolon)) (k_one class.CloseBrace))))))))))

    k_body : K _ S.body (BodyRow j)
    unfolding BodyRow
    k_body = F.made m.body_of (F.both (k_one class.OpenBrace) (F.both (F.perhaps (F.behind class.InitWord h.block)) (F.both (F.one_of
        (F.made m.sections_of (F.behind class.PopulationWord (F.both h.block (F.perhaps (F.behind class.EndWord h.block)))))
        (F.made m.open_sections (F.both k_items (F.one_of (F.made m.ends_in_simple (F.perhaps k_simple)) (F.made m.ends_in_block (F.behind class.EndWord h.block)))))) (k_one class.CloseBrace))))

    k_class : K _ S.unit (placed (after class.IntermediateWord (after class.ClassWord (NameRow then maybe (after class.ExtendsWord PathsRow) then
        (the class.OpenBrace then many (before (NameRow then after class.Colon (TypeRow j) gives typed_name_of) class.Semicolon) then the class.CloseBrace gives inner)))) gives class_unit_of)
    k_class = F.made m.class_of (F.at (F.behind class.IntermediateWord (F.behind class.ClassWord (F.both k_name (F.both (F.perhaps (F.behind class.ExtendsWord k_paths))
        (F.round class.OpenBrace (F.turns (F.ahead (F.made m.typed_name_of (F.both k_name k_colon)) class.Semicolon)) class.CloseBrace))))))

    k_unit : K _ S.unit (UnitRow j)
    unfolding UnitRow
    k_unit = F.one_of k_class
        (F.one_of (F.made m.main_of (F.at (F.behind class.MainWord (F.behind class.OpenRound (F.behind class.CloseRound h.block)))))
        (F.one_of (F.made m.helper_of (F.both (F.choice (class.HelperWord ∷ class.QueryWord ∷ [])) (F.both k_unit_path (F.both k_params (F.both (F.perhaps k_colon) (F.one_of (F.also m.block_body h.block) (F.made m.return_body (F.ahead (F.both (k_one class.EqualSign) h.expr) class.Semicolon))))))))
        (F.one_of (F.made m.constructor_of (F.behind class.ConstructorWord (F.both k_unit_path (F.both k_params h.block))))
        (F.made m.mapping_of (F.behind class.MappingWord (F.both k_unit_path (F.both k_params (F.both (F.perhaps (F.behind class.Colon (F.made m.result_decl_of (F.both k_path (F.perhaps k_extent)))))
        (F.both (F.made m.clauses_of (m.once j k_extra)) (F.one_of k_body (F.made m.empty_body (k_one class.Semicolon))))))))))))

  k_model_type : K _ S.model_type ModelTypeRow
  unfolding ModelTypeRow
  k_model_type = F.made m.model_type_of (F.at (F.behind class.ModelTypeWord (F.both k_name (F.made m.source (F.both (F.perhaps m.strict)
      (F.round class.UsesWord (F.one_of (F.also m.uri_text (F.made m.string_of (k_one class.Str))) (F.also m.uri_named (F.behind class.Name (F.round class.OpenRound (F.made m.string_of (k_one class.Str)) class.CloseRound)))) class.Semicolon))))))

  k_header : K _ (F.after_a class.TransformationWord (F.pair S.name S.model_params)) HeaderRow
  unfolding HeaderRow ModelParamRow
  k_header = F.behind class.TransformationWord (F.both (F.made m.name_of (k_one class.Name)) (F.made m.model_params (F.both (k_one class.OpenRound) (F.both
      (F.series (F.made m.model_param_of (F.both (F.choice (class.InWord ∷ class.OutWord ∷ class.InoutWord ∷ [])) (F.both k_name (F.behind class.Colon k_name)))))
      (F.ahead (k_one class.CloseRound) class.Semicolon)))))

  k_inside : (n : ℕ) → KInside (inside n)
  unfolding inside
  k_inside zero = record { kind = F.no_list; expr = F.no_list; block = F.no_list }
  k_inside (suc n) = let h = k_inside n in record { kind = k_type h; expr = k_expr h; block = k_block h }

  pub every_unit : (n : ℕ) → K UnitTerm S.unit (UnitRow (inside n))
  every_unit n = k_unit (k_inside n)

  pub every_module : (n : ℕ) → K ModuleTerm S.whole (ModuleRow (inside n))
  unfolding ModuleRow
  every_module n = F.made m.module_of (F.both (F.turns k_model_type) (F.both k_header (F.turns (F.one_of (F.made m.some_unit (R.reads n (every_unit n))) (F.made m.no_units (k_one class.Semicolon))))))
