-- Where the nodes of a tree stand, in the order of its text: each node's place, before those of the nodes inside it but where
-- these are written first.
use Rattle.std.specs.Prelude.{List, [], ◌∷◌, ◌++◌, Option, Some, None}
use Rattle.qvt_base.specs.declared.numbers.Place.{Place}
use Rattle.qvt_tree_types.specs.Tree.{TypeTerm, ExprTerm, ExprTerms, OptionalExpr, OptionalArgs, LinkTerm, LinkTerms, ItemTerm, RangeTerm, ItemTerms, MapTerm, ResolveTerm, FilterTerm, HeadTerm, AccumulatorTerm, StepTerm, StepTerms, TargetTerm, StmtTerm, StmtTerms, ElseTerm, ArmTerm, ArmTerms}
use Rattle.qvt_tree_types.specs.Tree.{CollType, PathType, IntExpr, StrExpr, BoolExpr, NullExpr, SelfExpr, ResultExpr, PathExpr, CallExpr, CollExpr, IfExpr, ObjectExpr, NewExpr, MapExpr, ResolveExpr, ChainExpr, PrefixExpr, PostExpr, NoExprs, MoreExprs, NoExpr, SomeExpr, NoArgs, SomeArgs, LinkOf, NoLinks, MoreLinks, ItemOf, NoRange, RangeTo, NoItems, MoreItems, MapOf, ResolveOf, NoFilter, FilterOf, NoHead, HeadOf, NoAccumulator, AccumulatorOf, DotStep, ArrowStep, DotMapStep, ArrowMapStep, DotResolveStep, ArrowResolveStep, NoSteps, MoreSteps, BareTarget, ResultTarget, MemberTarget, VarStmt, AssignStmt, ReturnStmt, ValueStmt, IfStmt, WhileStmt, ForEachStmt, NoStmts, MoreStmts, NoElse, ElseOf, ArmOf, NoArms, MoreArms}
use Rattle.qvt_tree_types.specs.Module.{TypedName, ClassTerm, HelperTerm, MappingTerm, UnitTerm, ClassOf, MainOf, HelperOf, ConstructorOf, MappingOf, ModuleTerm}
use Rattle.qvt_tree_types.specs.declared.types.PathTree.{PathTree}
use Rattle.qvt_tree_types.specs.declared.types.ObjectVar.{ObjectVar}
use Rattle.qvt_tree_types.specs.declared.types.ObjectVar.TheVariants.{Named, ResultVar}
use Rattle.qvt_tree_types.specs.declared.words.Sign.{Sign}
use Rattle.qvt_tree_types.specs.declared.module.ResultDecl.{ResultDecl}
use Rattle.qvt_tree_types.specs.declared.module.ModelType.{ModelType}
use Rattle.qvt_tree_types.specs.declared.module.ModelParam.{ModelParam}

-- those of all, one after the other
abbrev pub all_places : {A : Type 0} → (A → List Place) → List A → List Place
all_places p [] = []
all_places p (a ∷ more) = p a ++ all_places p more

abbrev pub places_if : {A : Type 0} → (A → List Place) → Option A → List Place
places_if p None = []
places_if p (Some a) = p a

abbrev pub path_places : PathTree → List Place
path_places p = p.place ∷ []

abbrev pub type_places : TypeTerm → List Place
type_places (CollType kind item place) = place ∷ type_places item
type_places (PathType path) = path_places path

abbrev pub variable_places : ObjectVar → List Place
variable_places (Named name place) = place ∷ []
variable_places (ResultVar place) = place ∷ []

abbrev pub sign_places : Sign → List Place
sign_places s = s.place ∷ []

abbrev mutual
  pub expr_places : ExprTerm → List Place
  expr_places (IntExpr value place) = place ∷ []
  expr_places (StrExpr value place) = place ∷ []
  expr_places (BoolExpr value place) = place ∷ []
  expr_places (NullExpr place) = place ∷ []
  expr_places (SelfExpr place) = place ∷ []
  expr_places (ResultExpr place) = place ∷ []
  expr_places (PathExpr path) = path_places path
  expr_places (CallExpr name args place) = place ∷ exprs_places args
  expr_places (CollExpr kind items place) = place ∷ items_places items
  expr_places (IfExpr condition one other place) = place ∷ (expr_places condition ++ (expr_places one ++ expr_places other))
  expr_places (ObjectExpr variable path extent body place) = place ∷ (places_if variable_places variable ++ (path.place ∷ stmts_places body))
  expr_places (NewExpr path extent args place) = place ∷ path.place ∷ exprs_places args
  expr_places (MapExpr call) = map_places call
  expr_places (ResolveExpr call) = resolve_places call
  expr_places (ChainExpr level first rest place) = place ∷ (expr_places first ++ links_places rest)
  expr_places (PrefixExpr signs operand place) = place ∷ (all_places sign_places signs ++ expr_places operand)
  expr_places (PostExpr first steps place) = place ∷ (expr_places first ++ steps_places steps)

  pub exprs_places : ExprTerms → List Place
  exprs_places NoExprs = []
  exprs_places (MoreExprs e es) = expr_places e ++ exprs_places es

  pub optional_places : OptionalExpr → List Place
  optional_places NoExpr = []
  optional_places (SomeExpr e) = expr_places e

  pub args_places : OptionalArgs → List Place
  args_places NoArgs = []
  args_places (SomeArgs es) = exprs_places es

  pub link_places : LinkTerm → List Place
  link_places (LinkOf op operand place) = place ∷ expr_places operand

  pub links_places : LinkTerms → List Place
  links_places NoLinks = []
  links_places (MoreLinks l ls) = link_places l ++ links_places ls

  pub item_places : ItemTerm → List Place
  item_places (ItemOf first range place) = place ∷ (expr_places first ++ range_places range)

  pub range_places : RangeTerm → List Place
  range_places NoRange = []
  range_places (RangeTo last place) = place ∷ expr_places last

  pub items_places : ItemTerms → List Place
  items_places NoItems = []
  items_places (MoreItems item items) = item_places item ++ items_places items

  pub map_places : MapTerm → List Place
  map_places (MapOf strict name args place) = place ∷ exprs_places args

  pub resolve_places : ResolveTerm → List Place
  resolve_places (ResolveOf late word within filter place) = place ∷ (places_if path_places within ++ filter_places filter)

  pub filter_places : FilterTerm → List Place
  filter_places NoFilter = []
  filter_places (FilterOf name kind condition place) = place ∷ (type_places kind ++ optional_places condition)

  pub head_places : HeadTerm → List Place
  head_places NoHead = []
  head_places (HeadOf name kind accumulator place) = place ∷ (places_if type_places kind ++ accumulator_places accumulator)

  pub accumulator_places : AccumulatorTerm → List Place
  accumulator_places NoAccumulator = []
  accumulator_places (AccumulatorOf name kind first place) = place ∷ (type_places kind ++ expr_places first)

  pub step_places : StepTerm → List Place
  step_places (DotStep name args place) = place ∷ args_places args
  step_places (ArrowStep name head args place) = place ∷ (head_places head ++ exprs_places args)
  step_places (DotMapStep call) = map_places call
  step_places (ArrowMapStep call) = map_places call
  step_places (DotResolveStep call) = resolve_places call
  step_places (ArrowResolveStep call) = resolve_places call

  pub steps_places : StepTerms → List Place
  steps_places NoSteps = []
  steps_places (MoreSteps s ss) = step_places s ++ steps_places ss

  pub target_places : TargetTerm → List Place
  target_places (BareTarget name place) = place ∷ []
  target_places (ResultTarget place) = place ∷ []
  target_places (MemberTarget object name place) = expr_places object ++ place ∷ []

  -- an assignment stands at its sign, after its target
  pub stmt_places : StmtTerm → List Place
  stmt_places (VarStmt name kind value place) = place ∷ (places_if type_places kind ++ optional_places value)
  stmt_places (AssignStmt target adds value place) = target_places target ++ (place ∷ expr_places value)
  stmt_places (ReturnStmt value place) = place ∷ optional_places value
  stmt_places (ValueStmt value place) = place ∷ expr_places value
  stmt_places (IfStmt condition body arms otherwise place) = place ∷ (expr_places condition ++ (stmts_places body ++ (arms_places arms ++ else_places otherwise)))
  stmt_places (WhileStmt condition body place) = place ∷ (expr_places condition ++ stmts_places body)
  stmt_places (ForEachStmt source name kind condition body place) = place ∷ (expr_places source ++ (places_if type_places kind ++ (optional_places condition ++ stmts_places body)))

  pub stmts_places : StmtTerms → List Place
  stmts_places NoStmts = []
  stmts_places (MoreStmts s ss) = stmt_places s ++ stmts_places ss

  pub else_places : ElseTerm → List Place
  else_places NoElse = []
  else_places (ElseOf body) = stmts_places body

  pub arm_places : ArmTerm → List Place
  arm_places (ArmOf condition body) = expr_places condition ++ stmts_places body

  pub arms_places : ArmTerms → List Place
  arms_places NoArms = []
  arms_places (MoreArms a arms) = arm_places a ++ arms_places arms

abbrev pub typed_places : TypedName → List Place
typed_places t = t.place ∷ type_places t.kind

abbrev pub class_places : ClassTerm → List Place
class_places c = c.place ∷ (all_places path_places c.supers ++ all_places typed_places c.features)

abbrev pub helper_places : HelperTerm → List Place
helper_places h = h.place ∷ (all_places typed_places h.params ++ (places_if type_places h.answer ++ stmts_places h.body))

abbrev pub result_places : ResultDecl → List Place
result_places r = r.place ∷ path_places r.path

-- the clauses of a mapping
pub data ClauseKind : Type 0 where
  Inherits : ClauseKind
  Merges : ClauseKind
  Disjuncts : ClauseKind
  When : ClauseKind

abbrev pub clause_places : ClauseKind → MappingTerm → List Place
clause_places Inherits m = all_places path_places m.inherits
clause_places Merges m = all_places path_places m.merges
clause_places Disjuncts m = all_places path_places m.disjuncts
clause_places When m = optional_places m.condition

-- those of a mapping with one of its clauses, since the text may have its clauses in any order
abbrev pub mapping_places : ClauseKind → MappingTerm → List Place
mapping_places c m = m.place ∷ (all_places typed_places m.params ++ (places_if result_places m.result_decl ++ (clause_places c m ++ (stmts_places m.init ++ (stmts_places m.population ++ stmts_places m.finish)))))

-- with the clause that is chosen of each mapping
abbrev pub unit_places : (MappingTerm → ClauseKind) → UnitTerm → List Place
unit_places c (ClassOf k) = class_places k
unit_places c (MainOf body place) = place ∷ stmts_places body
unit_places c (HelperOf h) = helper_places h
unit_places c (ConstructorOf h) = helper_places h
unit_places c (MappingOf m) = mapping_places (c m) m

abbrev pub type_place : ModelType → List Place
type_place t = t.place ∷ []

abbrev pub param_place : ModelParam → List Place
param_place p = p.place ∷ []

-- with the clause that is chosen of each mapping
unfoldable pub places : (MappingTerm → ClauseKind) → ModuleTerm → List Place
places c m = all_places type_place m.model_types ++ (all_places param_place m.params ++ all_places (unit_places c) m.units)
