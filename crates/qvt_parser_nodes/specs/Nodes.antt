-- How many nodes a tree has: what has a place in it, each once.
use Rattle.std.specs.Prelude.{ℕ, suc, ◌+◌, List, [], ◌∷◌, length, Option, Some, None}
use Rattle.qvt_tree_types.specs.Tree.{TypeTerm, ExprTerm, ExprTerms, OptionalExpr, OptionalArgs, LinkTerm, LinkTerms, ItemTerm, RangeTerm, ItemTerms, MapTerm, ResolveTerm, FilterTerm, HeadTerm, AccumulatorTerm, StepTerm, StepTerms, TargetTerm, StmtTerm, StmtTerms, ElseTerm, ArmTerm, ArmTerms}
use Rattle.qvt_tree_types.specs.Tree.{CollType, PathType, IntExpr, StrExpr, BoolExpr, NullExpr, SelfExpr, ResultExpr, PathExpr, CallExpr, CollExpr, IfExpr, ObjectExpr, NewExpr, MapExpr, ResolveExpr, ChainExpr, PrefixExpr, PostExpr, NoExprs, MoreExprs, NoExpr, SomeExpr, NoArgs, SomeArgs, LinkOf, NoLinks, MoreLinks, ItemOf, NoRange, RangeTo, NoItems, MoreItems, MapOf, ResolveOf, NoFilter, FilterOf, NoHead, HeadOf, NoAccumulator, AccumulatorOf, DotStep, ArrowStep, DotMapStep, ArrowMapStep, DotResolveStep, ArrowResolveStep, NoSteps, MoreSteps, BareTarget, ResultTarget, MemberTarget, VarStmt, AssignStmt, ReturnStmt, ValueStmt, IfStmt, WhileStmt, ForEachStmt, NoStmts, MoreStmts, NoElse, ElseOf, ArmOf, NoArms, MoreArms}
use Rattle.qvt_tree_types.specs.Module.{TypedName, ClassTerm, HelperTerm, MappingTerm, UnitTerm, ClassOf, MainOf, HelperOf, ConstructorOf, MappingOf, ModuleTerm}

abbrev pub type_nodes : TypeTerm → ℕ
type_nodes (CollType kind item place) = suc (type_nodes item)
type_nodes (PathType path) = 1

-- the sum over a list
abbrev pub total : {A : Type 0} → (A → ℕ) → List A → ℕ
total size [] = 0
total size (a ∷ more) = size a + total size more

-- one where it is there
abbrev pub one_if : {A : Type 0} → Option A → ℕ
one_if None = 0
one_if (Some a) = 1

abbrev pub type_nodes_if : Option TypeTerm → ℕ
type_nodes_if None = 0
type_nodes_if (Some t) = type_nodes t

abbrev mutual
  pub expr_nodes : ExprTerm → ℕ
  expr_nodes (IntExpr value place) = 1
  expr_nodes (StrExpr value place) = 1
  expr_nodes (BoolExpr value place) = 1
  expr_nodes (NullExpr place) = 1
  expr_nodes (SelfExpr place) = 1
  expr_nodes (ResultExpr place) = 1
  expr_nodes (PathExpr path) = 1
  expr_nodes (CallExpr name args place) = suc (exprs_nodes args)
  expr_nodes (CollExpr kind items place) = suc (items_nodes items)
  expr_nodes (IfExpr condition one other place) = suc (expr_nodes condition + (expr_nodes one + expr_nodes other))
  expr_nodes (ObjectExpr variable path extent body place) = suc (suc (one_if variable + stmts_nodes body))
  expr_nodes (NewExpr path extent args place) = suc (suc (exprs_nodes args))
  expr_nodes (MapExpr call) = map_nodes call
  expr_nodes (ResolveExpr call) = resolve_nodes call
  expr_nodes (ChainExpr level first rest place) = suc (expr_nodes first + links_nodes rest)
  expr_nodes (PrefixExpr signs operand place) = suc (length signs + expr_nodes operand)
  expr_nodes (PostExpr first steps place) = suc (expr_nodes first + steps_nodes steps)

  pub exprs_nodes : ExprTerms → ℕ
  exprs_nodes NoExprs = 0
  exprs_nodes (MoreExprs e es) = expr_nodes e + exprs_nodes es

  pub optional_nodes : OptionalExpr → ℕ
  optional_nodes NoExpr = 0
  optional_nodes (SomeExpr e) = expr_nodes e

  pub args_nodes : OptionalArgs → ℕ
  args_nodes NoArgs = 0
  args_nodes (SomeArgs es) = exprs_nodes es

  pub link_nodes : LinkTerm → ℕ
  link_nodes (LinkOf op operand place) = suc (expr_nodes operand)

  pub links_nodes : LinkTerms → ℕ
  links_nodes NoLinks = 0
  links_nodes (MoreLinks l ls) = link_nodes l + links_nodes ls

  pub item_nodes : ItemTerm → ℕ
  item_nodes (ItemOf first range place) = suc (expr_nodes first + range_nodes range)

  pub range_nodes : RangeTerm → ℕ
  range_nodes NoRange = 0
  range_nodes (RangeTo last place) = suc (expr_nodes last)

  pub items_nodes : ItemTerms → ℕ
  items_nodes NoItems = 0
  items_nodes (MoreItems item items) = item_nodes item + items_nodes items

  pub map_nodes : MapTerm → ℕ
  map_nodes (MapOf strict name args place) = suc (exprs_nodes args)

  pub resolve_nodes : ResolveTerm → ℕ
  resolve_nodes (ResolveOf late word within filter place) = suc (one_if within + filter_nodes filter)

  pub filter_nodes : FilterTerm → ℕ
  filter_nodes NoFilter = 0
  filter_nodes (FilterOf name kind condition place) = suc (type_nodes kind + optional_nodes condition)

  pub head_nodes : HeadTerm → ℕ
  head_nodes NoHead = 0
  head_nodes (HeadOf name kind accumulator place) = suc (type_nodes_if kind + accumulator_nodes accumulator)

  pub accumulator_nodes : AccumulatorTerm → ℕ
  accumulator_nodes NoAccumulator = 0
  accumulator_nodes (AccumulatorOf name kind first place) = suc (type_nodes kind + expr_nodes first)

  pub step_nodes : StepTerm → ℕ
  step_nodes (DotStep name args place) = suc (args_nodes args)
  step_nodes (ArrowStep name head args place) = suc (head_nodes head + exprs_nodes args)
  step_nodes (DotMapStep call) = map_nodes call
  step_nodes (ArrowMapStep call) = map_nodes call
  step_nodes (DotResolveStep call) = resolve_nodes call
  step_nodes (ArrowResolveStep call) = resolve_nodes call

  pub steps_nodes : StepTerms → ℕ
  steps_nodes NoSteps = 0
  steps_nodes (MoreSteps s ss) = step_nodes s + steps_nodes ss

  pub target_nodes : TargetTerm → ℕ
  target_nodes (BareTarget name place) = 1
  target_nodes (ResultTarget place) = 1
  target_nodes (MemberTarget object name place) = suc (expr_nodes object)

  pub stmt_nodes : StmtTerm → ℕ
  stmt_nodes (VarStmt name kind value place) = suc (type_nodes_if kind + optional_nodes value)
  stmt_nodes (AssignStmt target adds value place) = suc (target_nodes target + expr_nodes value)
  stmt_nodes (ReturnStmt value place) = suc (optional_nodes value)
  stmt_nodes (ValueStmt value place) = suc (expr_nodes value)
  stmt_nodes (IfStmt condition body arms otherwise place) = suc (expr_nodes condition + (stmts_nodes body + (arms_nodes arms + else_nodes otherwise)))
  stmt_nodes (WhileStmt condition body place) = suc (expr_nodes condition + stmts_nodes body)
  stmt_nodes (ForEachStmt source name kind condition body place) = suc (expr_nodes source + (type_nodes_if kind + (optional_nodes condition + stmts_nodes body)))

  pub stmts_nodes : StmtTerms → ℕ
  stmts_nodes NoStmts = 0
  stmts_nodes (MoreStmts s ss) = stmt_nodes s + stmts_nodes ss

  pub else_nodes : ElseTerm → ℕ
  else_nodes NoElse = 0
  else_nodes (ElseOf body) = stmts_nodes body

  -- an `elif` has no place of its own
  pub arm_nodes : ArmTerm → ℕ
  arm_nodes (ArmOf condition body) = expr_nodes condition + stmts_nodes body

  pub arms_nodes : ArmTerms → ℕ
  arms_nodes NoArms = 0
  arms_nodes (MoreArms a arms) = arm_nodes a + arms_nodes arms

abbrev pub typed_nodes : TypedName → ℕ
typed_nodes t = suc (type_nodes t.kind)

abbrev pub class_nodes : ClassTerm → ℕ
class_nodes c = suc (length c.supers + total typed_nodes c.features)

abbrev pub helper_nodes : HelperTerm → ℕ
helper_nodes h = suc (total typed_nodes h.params + (type_nodes_if h.answer + stmts_nodes h.body))

-- a result class has a place, and its path has one
abbrev pub mapping_nodes : MappingTerm → ℕ
mapping_nodes m = suc (total typed_nodes m.params + (one_if m.result_decl + (one_if m.result_decl + (length m.inherits + (length m.merges + (length m.disjuncts + (optional_nodes m.condition + (stmts_nodes m.init + (stmts_nodes m.population + stmts_nodes m.finish)))))))))

abbrev pub unit_nodes : UnitTerm → ℕ
unit_nodes (ClassOf c) = class_nodes c
unit_nodes (MainOf body place) = suc (stmts_nodes body)
unit_nodes (HelperOf h) = helper_nodes h
unit_nodes (ConstructorOf h) = helper_nodes h
unit_nodes (MappingOf m) = mapping_nodes m

unfoldable pub nodes : ModuleTerm → ℕ
nodes m = length m.model_types + (length m.params + total unit_nodes m.units)
