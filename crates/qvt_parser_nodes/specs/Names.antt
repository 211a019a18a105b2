-- What names and texts a tree has: each path has a name, and what is told of names holds of every name, and what is told of
-- texts of every text in quotes.
use Rattle.std.specs.Prelude.{ℕ, List, [], ◌∷◌}
use Rattle.qvt_tree_types.specs.Tree.{TypeTerm, ExprTerm, ExprTerms, OptionalExpr, OptionalArgs, LinkTerm, LinkTerms, ItemTerm, RangeTerm, ItemTerms, MapTerm, ResolveTerm, FilterTerm, HeadTerm, AccumulatorTerm, StepTerm, StepTerms, TargetTerm, StmtTerm, StmtTerms, ElseTerm, ArmTerm, ArmTerms}
use Rattle.qvt_tree_types.specs.Tree.{CollType, PathType, IntExpr, StrExpr, BoolExpr, NullExpr, SelfExpr, ResultExpr, PathExpr, CallExpr, CollExpr, IfExpr, ObjectExpr, NewExpr, MapExpr, ResolveExpr, ChainExpr, PrefixExpr, PostExpr, NoExprs, MoreExprs, NoExpr, SomeExpr, NoArgs, SomeArgs, LinkOf, NoLinks, MoreLinks, ItemOf, NoRange, RangeTo, NoItems, MoreItems, MapOf, ResolveOf, NoFilter, FilterOf, NoHead, HeadOf, NoAccumulator, AccumulatorOf, DotStep, ArrowStep, DotMapStep, ArrowMapStep, DotResolveStep, ArrowResolveStep, NoSteps, MoreSteps, BareTarget, ResultTarget, MemberTarget, VarStmt, AssignStmt, ReturnStmt, ValueStmt, IfStmt, WhileStmt, ForEachStmt, NoStmts, MoreStmts, NoElse, ElseOf, ArmOf, NoArms, MoreArms}
use Rattle.qvt_tree_types.specs.Module.{TypedName, ClassTerm, HelperTerm, MappingTerm, UnitTerm, ClassOf, MainOf, HelperOf, ConstructorOf, MappingOf, ModuleTerm}
use Rattle.qvt_tree_types.specs.declared.types.PathTree.{PathTree}
use Rattle.qvt_tree_types.specs.declared.types.ObjectVar.{ObjectVar}
use Rattle.qvt_tree_types.specs.declared.types.ObjectVar.TheVariants.{Named, ResultVar}
use Rattle.qvt_tree_types.specs.declared.module.ResultDecl.{ResultDecl}
use Rattle.qvt_tree_types.specs.declared.module.ModelType.{ModelType}
use Rattle.qvt_tree_types.specs.declared.module.ModelParam.{ModelParam}
use Rattle.qvt_language_rows.specs.Lists.{AllOf, IfThere}

-- what holds of each name, and what of each text in quotes
pub record NameConditions : Type 1 where
  pub name : List ℕ → Type 0
  pub text : List ℕ → Type 0

-- at least one name, and of all what is told of names
abbrev pub NamesHold : NameConditions → List (List ℕ) → Type 0
NamesHold N [] = ⊥
NamesHold N (n ∷ ns) = N.name n × AllOf N.name ns

abbrev pub PathHolds : NameConditions → PathTree → Type 0
PathHolds N p = NamesHold N p.names

abbrev pub VariableHolds : NameConditions → ObjectVar → Type 0
VariableHolds N (Named name place) = N.name name
VariableHolds N (ResultVar place) = Unit {0}

abbrev pub TypeHolds : NameConditions → TypeTerm → Type 0
TypeHolds N (CollType kind item place) = TypeHolds N item
TypeHolds N (PathType path) = PathHolds N path

abbrev mutual
  pub ExprHolds : NameConditions → ExprTerm → Type 0
  ExprHolds N (IntExpr value place) = Unit {0}
  ExprHolds N (StrExpr value place) = N.text value
  ExprHolds N (BoolExpr value place) = Unit {0}
  ExprHolds N (NullExpr place) = Unit {0}
  ExprHolds N (SelfExpr place) = Unit {0}
  ExprHolds N (ResultExpr place) = Unit {0}
  ExprHolds N (PathExpr path) = PathHolds N path
  ExprHolds N (CallExpr name args place) = N.name name × ExprsHold N args
  ExprHolds N (CollExpr kind items place) = ItemsHold N items
  ExprHolds N (IfExpr condition one other place) = ExprHolds N condition × ExprHolds N one × ExprHolds N other
  ExprHolds N (ObjectExpr variable path extent body place) = IfThere (VariableHolds N) variable × PathHolds N path × IfThere N.name extent × StmtsHold N body
  ExprHolds N (NewExpr path extent args place) = PathHolds N path × IfThere N.name extent × ExprsHold N args
  ExprHolds N (MapExpr call) = MapHolds N call
  ExprHolds N (ResolveExpr call) = ResolveHolds N call
  ExprHolds N (ChainExpr level first rest place) = ExprHolds N first × LinksHold N rest
  ExprHolds N (PrefixExpr signs operand place) = ExprHolds N operand
  ExprHolds N (PostExpr first steps place) = ExprHolds N first × StepsHold N steps

  pub ExprsHold : NameConditions → ExprTerms → Type 0
  ExprsHold N NoExprs = Unit {0}
  ExprsHold N (MoreExprs e es) = ExprHolds N e × ExprsHold N es

  pub OptionalHolds : NameConditions → OptionalExpr → Type 0
  OptionalHolds N NoExpr = Unit {0}
  OptionalHolds N (SomeExpr e) = ExprHolds N e

  pub ArgsHold : NameConditions → OptionalArgs → Type 0
  ArgsHold N NoArgs = Unit {0}
  ArgsHold N (SomeArgs es) = ExprsHold N es

  pub LinkHolds : NameConditions → LinkTerm → Type 0
  LinkHolds N (LinkOf op operand place) = ExprHolds N operand

  pub LinksHold : NameConditions → LinkTerms → Type 0
  LinksHold N NoLinks = Unit {0}
  LinksHold N (MoreLinks l ls) = LinkHolds N l × LinksHold N ls

  pub ItemHolds : NameConditions → ItemTerm → Type 0
  ItemHolds N (ItemOf first range place) = ExprHolds N first × RangeHolds N range

  pub RangeHolds : NameConditions → RangeTerm → Type 0
  RangeHolds N NoRange = Unit {0}
  RangeHolds N (RangeTo last place) = ExprHolds N last

  pub ItemsHold : NameConditions → ItemTerms → Type 0
  ItemsHold N NoItems = Unit {0}
  ItemsHold N (MoreItems item items) = ItemHolds N item × ItemsHold N items

  pub MapHolds : NameConditions → MapTerm → Type 0
  MapHolds N (MapOf strict name args place) = N.name name × ExprsHold N args

  pub ResolveHolds : NameConditions → ResolveTerm → Type 0
  ResolveHolds N (ResolveOf late word within filter place) = IfThere (PathHolds N) within × FilterHolds N filter

  pub FilterHolds : NameConditions → FilterTerm → Type 0
  FilterHolds N NoFilter = Unit {0}
  FilterHolds N (FilterOf name kind condition place) = IfThere N.name name × TypeHolds N kind × OptionalHolds N condition

  pub HeadHolds : NameConditions → HeadTerm → Type 0
  HeadHolds N NoHead = Unit {0}
  HeadHolds N (HeadOf name kind accumulator place) = N.name name × IfThere (TypeHolds N) kind × AccumulatorHolds N accumulator

  pub AccumulatorHolds : NameConditions → AccumulatorTerm → Type 0
  AccumulatorHolds N NoAccumulator = Unit {0}
  AccumulatorHolds N (AccumulatorOf name kind first place) = N.name name × TypeHolds N kind × ExprHolds N first

  pub StepHolds : NameConditions → StepTerm → Type 0
  StepHolds N (DotStep name args place) = N.name name × ArgsHold N args
  StepHolds N (ArrowStep name head args place) = N.name name × HeadHolds N head × ExprsHold N args
  StepHolds N (DotMapStep call) = MapHolds N call
  StepHolds N (ArrowMapStep call) = MapHolds N call
  StepHolds N (DotResolveStep call) = ResolveHolds N call
  StepHolds N (ArrowResolveStep call) = ResolveHolds N call

  pub StepsHold : NameConditions → StepTerms → Type 0
  StepsHold N NoSteps = Unit {0}
  StepsHold N (MoreSteps s ss) = StepHolds N s × StepsHold N ss

  pub TargetHolds : NameConditions → TargetTerm → Type 0
  TargetHolds N (BareTarget name place) = N.name name
  TargetHolds N (ResultTarget place) = Unit {0}
  TargetHolds N (MemberTarget object name place) = ExprHolds N object × N.name name

  pub StmtHolds : NameConditions → StmtTerm → Type 0
  StmtHolds N (VarStmt name kind value place) = N.name name × IfThere (TypeHolds N) kind × OptionalHolds N value
  StmtHolds N (AssignStmt target adds value place) = TargetHolds N target × ExprHolds N value
  StmtHolds N (ReturnStmt value place) = OptionalHolds N value
  StmtHolds N (ValueStmt value place) = ExprHolds N value
  StmtHolds N (IfStmt condition body arms otherwise place) = ExprHolds N condition × StmtsHold N body × ArmsHold N arms × ElseHolds N otherwise
  StmtHolds N (WhileStmt condition body place) = ExprHolds N condition × StmtsHold N body
  StmtHolds N (ForEachStmt source name kind condition body place) = ExprHolds N source × N.name name × IfThere (TypeHolds N) kind × OptionalHolds N condition × StmtsHold N body

  pub StmtsHold : NameConditions → StmtTerms → Type 0
  StmtsHold N NoStmts = Unit {0}
  StmtsHold N (MoreStmts s ss) = StmtHolds N s × StmtsHold N ss

  pub ElseHolds : NameConditions → ElseTerm → Type 0
  ElseHolds N NoElse = Unit {0}
  ElseHolds N (ElseOf body) = StmtsHold N body

  pub ArmHolds : NameConditions → ArmTerm → Type 0
  ArmHolds N (ArmOf condition body) = ExprHolds N condition × StmtsHold N body

  pub ArmsHold : NameConditions → ArmTerms → Type 0
  ArmsHold N NoArms = Unit {0}
  ArmsHold N (MoreArms a arms) = ArmHolds N a × ArmsHold N arms

abbrev pub TypedHolds : NameConditions → TypedName → Type 0
TypedHolds N t = N.name t.name × TypeHolds N t.kind

abbrev pub ClassHolds : NameConditions → ClassTerm → Type 0
ClassHolds N c = N.name c.name × AllOf (PathHolds N) c.supers × AllOf (TypedHolds N) c.features

abbrev pub HelperHolds : NameConditions → HelperTerm → Type 0
HelperHolds N h = NamesHold N h.path × AllOf (TypedHolds N) h.params × IfThere (TypeHolds N) h.answer × StmtsHold N h.body

abbrev pub ResultHolds : NameConditions → ResultDecl → Type 0
ResultHolds N r = PathHolds N r.path × IfThere N.name r.extent

pub record MappingHolds (N : NameConditions) (m : MappingTerm) : Type 0 where
  pub path : NamesHold N m.path
  pub params : AllOf (TypedHolds N) m.params
  pub result_decl : IfThere (ResultHolds N) m.result_decl
  pub inherits : AllOf (PathHolds N) m.inherits
  pub merges : AllOf (PathHolds N) m.merges
  pub disjuncts : AllOf (PathHolds N) m.disjuncts
  pub condition : OptionalHolds N m.condition
  pub init : StmtsHold N m.init
  pub population : StmtsHold N m.population
  pub finish : StmtsHold N m.finish

abbrev pub UnitHolds : NameConditions → UnitTerm → Type 0
UnitHolds N (ClassOf c) = ClassHolds N c
UnitHolds N (MainOf body place) = StmtsHold N body
UnitHolds N (HelperOf h) = HelperHolds N h
UnitHolds N (ConstructorOf h) = HelperHolds N h
UnitHolds N (MappingOf m) = MappingHolds N m

abbrev pub ModelTypeHolds : NameConditions → ModelType → Type 0
ModelTypeHolds N t = N.name t.name × N.text t.uri

abbrev pub ModelParamHolds : NameConditions → ModelParam → Type 0
ModelParamHolds N p = N.name p.name × N.name p.model_type

pub record HasNames (N : NameConditions) (m : ModuleTerm) : Type 0 where
  pub model_types : AllOf (ModelTypeHolds N) m.model_types
  pub name : N.name m.name
  pub params : AllOf (ModelParamHolds N) m.params
  pub units : AllOf (UnitHolds N) m.units
