-- The typed tree without its notes.
use Rattle.std.specs.Prelude.{List, map, Option, Some, None}
use Rattle.qvt_tree_types.specs.declared.types.PathTree.{PathTree}
use Rattle.qvt_tree_types.specs.declared.types.ObjectVar.{ObjectVar}
use Rattle.qvt_tree_types.specs.declared.types.ObjectVar.TheVariants as variable
use Rattle.qvt_tree_types.specs.declared.words.Sign.{Sign}
use Rattle.qvt_tree_types.specs.Tree.{TypeTerm, ExprTerm, ExprTerms, OptionalExpr, OptionalArgs, LinkTerm, LinkTerms, ItemTerm, RangeTerm, ItemTerms, MapTerm, ResolveTerm, FilterTerm, HeadTerm, AccumulatorTerm, StepTerm, StepTerms, TargetTerm, StmtTerm, StmtTerms, ElseTerm, ArmTerm, ArmTerms}
use Rattle.qvt_tree_types.specs.Tree.{CollType, PathType, IntExpr, StrExpr, BoolExpr, NullExpr, SelfExpr, ResultExpr, PathExpr, CallExpr, CollExpr, IfExpr, ObjectExpr, NewExpr, MapExpr, ResolveExpr, ChainExpr, PrefixExpr, PostExpr, NoExprs, MoreExprs, NoExpr, SomeExpr, NoArgs, SomeArgs, LinkOf, NoLinks, MoreLinks, ItemOf, NoRange, RangeTo, NoItems, MoreItems, MapOf, ResolveOf, NoFilter, FilterOf, NoHead, HeadOf, NoAccumulator, AccumulatorOf, DotStep, ArrowStep, DotMapStep, ArrowMapStep, DotResolveStep, ArrowResolveStep, NoSteps, MoreSteps, BareTarget, ResultTarget, MemberTarget, VarStmt, AssignStmt, ReturnStmt, ValueStmt, IfStmt, WhileStmt, ForEachStmt, NoStmts, MoreStmts, NoElse, ElseOf, ArmOf, NoArms, MoreArms}
use Rattle.qvt_types_nodes.specs.declared.types.TypedPathTree.{TypedPathTree}
use Rattle.qvt_types_nodes.specs.declared.types.TypedObjectVar.{TypedObjectVar}
use Rattle.qvt_types_nodes.specs.declared.types.TypedObjectVar.TheVariants as typed_variable
use Rattle.qvt_types_nodes.specs.declared.types.TypedSign.{TypedSign}
use Rattle.qvt_types_nodes.specs.Tree.{TypedTypeTerm, TypedExprTerm, TypedExprTerms, TypedOptionalExpr, TypedOptionalArgs, TypedLinkTerm, TypedLinkTerms, TypedItemTerm, TypedRangeTerm, TypedItemTerms, TypedMapTerm, TypedResolveTerm, TypedFilterTerm, TypedHeadTerm, TypedAccumulatorTerm, TypedStepTerm, TypedStepTerms, TypedTargetTerm, TypedStmtTerm, TypedStmtTerms, TypedElseTerm, TypedArmTerm, TypedArmTerms}
use Rattle.qvt_types_nodes.specs.Tree.{TypedCollType, TypedPathType, TypedIntExpr, TypedStrExpr, TypedBoolExpr, TypedNullExpr, TypedSelfExpr, TypedResultExpr, TypedPathExpr, TypedCallExpr, TypedCollExpr, TypedIfExpr, TypedObjectExpr, TypedNewExpr, TypedMapExpr, TypedResolveExpr, TypedChainExpr, TypedPrefixExpr, TypedPostExpr, TypedNoExprs, TypedMoreExprs, TypedNoExpr, TypedSomeExpr, TypedNoArgs, TypedSomeArgs, TypedLinkOf, TypedNoLinks, TypedMoreLinks, TypedItemOf, TypedNoRange, TypedRangeTo, TypedNoItems, TypedMoreItems, TypedMapOf, TypedResolveOf, TypedNoFilter, TypedFilterOf, TypedNoHead, TypedHeadOf, TypedNoAccumulator, TypedAccumulatorOf, TypedDotStep, TypedArrowStep, TypedDotMapStep, TypedArrowMapStep, TypedDotResolveStep, TypedArrowResolveStep, TypedNoSteps, TypedMoreSteps, TypedBareTarget, TypedResultTarget, TypedMemberTarget, TypedVarStmt, TypedAssignStmt, TypedReturnStmt, TypedValueStmt, TypedIfStmt, TypedWhileStmt, TypedForEachStmt, TypedNoStmts, TypedMoreStmts, TypedNoElse, TypedElseOf, TypedArmOf, TypedNoArms, TypedMoreArms}

abbrev pub strip_path : TypedPathTree → PathTree
strip_path p = record { names = p.names; place = p.place }

abbrev pub strip_optional_path : Option TypedPathTree → Option PathTree
strip_optional_path None = None
strip_optional_path (Some p) = Some (strip_path p)

abbrev pub strip_sign : TypedSign → Sign
strip_sign s = record { op = s.op; place = s.place }

abbrev pub strip_signs : List TypedSign → List Sign
strip_signs signs = map strip_sign signs

abbrev pub strip_variable : Option TypedObjectVar → Option ObjectVar
strip_variable None = None
strip_variable (Some (typed_variable.Named name at note)) = Some (variable.Named name at)
strip_variable (Some (typed_variable.ResultVar at note)) = Some (variable.ResultVar at)

abbrev pub strip_type : TypedTypeTerm → TypeTerm
strip_type (TypedCollType k t at note) = CollType k (strip_type t) at
strip_type (TypedPathType path) = PathType (strip_path path)

abbrev pub strip_optional_type : Option TypedTypeTerm → Option TypeTerm
strip_optional_type None = None
strip_optional_type (Some t) = Some (strip_type t)

abbrev mutual
  pub strip_expr : TypedExprTerm → ExprTerm
  strip_expr (TypedIntExpr value at note) = IntExpr value at
  strip_expr (TypedStrExpr name at note) = StrExpr name at
  strip_expr (TypedBoolExpr b at note) = BoolExpr b at
  strip_expr (TypedNullExpr at note) = NullExpr at
  strip_expr (TypedSelfExpr at note) = SelfExpr at
  strip_expr (TypedResultExpr at note) = ResultExpr at
  strip_expr (TypedPathExpr path) = PathExpr (strip_path path)
  strip_expr (TypedCallExpr name es at note) = CallExpr name (strip_exprs es) at
  strip_expr (TypedCollExpr k is at note) = CollExpr k (strip_items is) at
  strip_expr (TypedIfExpr e f g at note) = IfExpr (strip_expr e) (strip_expr f) (strip_expr g) at
  strip_expr (TypedObjectExpr variable path extent ss at note) = ObjectExpr (strip_variable variable) (strip_path path) extent (strip_stmts ss) at
  strip_expr (TypedNewExpr path extent es at note) = NewExpr (strip_path path) extent (strip_exprs es) at
  strip_expr (TypedMapExpr call) = MapExpr (strip_map call)
  strip_expr (TypedResolveExpr call) = ResolveExpr (strip_resolve call)
  strip_expr (TypedChainExpr level e ls at note) = ChainExpr level (strip_expr e) (strip_links ls) at
  strip_expr (TypedPrefixExpr signs e at note) = PrefixExpr (strip_signs signs) (strip_expr e) at
  strip_expr (TypedPostExpr e ss at note) = PostExpr (strip_expr e) (strip_steps ss) at

  pub strip_exprs : TypedExprTerms → ExprTerms
  strip_exprs TypedNoExprs = NoExprs
  strip_exprs (TypedMoreExprs e es) = MoreExprs (strip_expr e) (strip_exprs es)

  pub strip_optional_expr : TypedOptionalExpr → OptionalExpr
  strip_optional_expr TypedNoExpr = NoExpr
  strip_optional_expr (TypedSomeExpr e) = SomeExpr (strip_expr e)

  pub strip_optional_args : TypedOptionalArgs → OptionalArgs
  strip_optional_args TypedNoArgs = NoArgs
  strip_optional_args (TypedSomeArgs es) = SomeArgs (strip_exprs es)

  pub strip_link : TypedLinkTerm → LinkTerm
  strip_link (TypedLinkOf op e at note) = LinkOf op (strip_expr e) at

  pub strip_links : TypedLinkTerms → LinkTerms
  strip_links TypedNoLinks = NoLinks
  strip_links (TypedMoreLinks l ls) = MoreLinks (strip_link l) (strip_links ls)

  pub strip_item : TypedItemTerm → ItemTerm
  strip_item (TypedItemOf e r at note) = ItemOf (strip_expr e) (strip_range r) at

  pub strip_range : TypedRangeTerm → RangeTerm
  strip_range TypedNoRange = NoRange
  strip_range (TypedRangeTo e at note) = RangeTo (strip_expr e) at

  pub strip_items : TypedItemTerms → ItemTerms
  strip_items TypedNoItems = NoItems
  strip_items (TypedMoreItems i is) = MoreItems (strip_item i) (strip_items is)

  pub strip_map : TypedMapTerm → MapTerm
  strip_map (TypedMapOf b name es at note) = MapOf b name (strip_exprs es) at

  pub strip_resolve : TypedResolveTerm → ResolveTerm
  strip_resolve (TypedResolveOf b w within f at note) = ResolveOf b w (strip_optional_path within) (strip_filter f) at

  pub strip_filter : TypedFilterTerm → FilterTerm
  strip_filter TypedNoFilter = NoFilter
  strip_filter (TypedFilterOf extent t o at note) = FilterOf extent (strip_type t) (strip_optional_expr o) at

  pub strip_head : TypedHeadTerm → HeadTerm
  strip_head TypedNoHead = NoHead
  strip_head (TypedHeadOf name t a at note) = HeadOf name (strip_optional_type t) (strip_accumulator a) at

  pub strip_accumulator : TypedAccumulatorTerm → AccumulatorTerm
  strip_accumulator TypedNoAccumulator = NoAccumulator
  strip_accumulator (TypedAccumulatorOf name t e at note) = AccumulatorOf name (strip_type t) (strip_expr e) at

  pub strip_step : TypedStepTerm → StepTerm
  strip_step (TypedDotStep name args at note) = DotStep name (strip_optional_args args) at
  strip_step (TypedArrowStep name h es at note) = ArrowStep name (strip_head h) (strip_exprs es) at
  strip_step (TypedDotMapStep call) = DotMapStep (strip_map call)
  strip_step (TypedArrowMapStep call) = ArrowMapStep (strip_map call)
  strip_step (TypedDotResolveStep call) = DotResolveStep (strip_resolve call)
  strip_step (TypedArrowResolveStep call) = ArrowResolveStep (strip_resolve call)

  pub strip_steps : TypedStepTerms → StepTerms
  strip_steps TypedNoSteps = NoSteps
  strip_steps (TypedMoreSteps s ss) = MoreSteps (strip_step s) (strip_steps ss)

  pub strip_target : TypedTargetTerm → TargetTerm
  strip_target (TypedBareTarget name at note) = BareTarget name at
  strip_target (TypedResultTarget at note) = ResultTarget at
  strip_target (TypedMemberTarget e name at note) = MemberTarget (strip_expr e) name at

  pub strip_stmt : TypedStmtTerm → StmtTerm
  strip_stmt (TypedVarStmt name t o at note) = VarStmt name (strip_optional_type t) (strip_optional_expr o) at
  strip_stmt (TypedAssignStmt t b e at note) = AssignStmt (strip_target t) b (strip_expr e) at
  strip_stmt (TypedReturnStmt o at note) = ReturnStmt (strip_optional_expr o) at
  strip_stmt (TypedValueStmt e at note) = ValueStmt (strip_expr e) at
  strip_stmt (TypedIfStmt e ss arms otherwise at note) = IfStmt (strip_expr e) (strip_stmts ss) (strip_arms arms) (strip_else otherwise) at
  strip_stmt (TypedWhileStmt e ss at note) = WhileStmt (strip_expr e) (strip_stmts ss) at
  strip_stmt (TypedForEachStmt e name t o ss at note) = ForEachStmt (strip_expr e) name (strip_optional_type t) (strip_optional_expr o) (strip_stmts ss) at

  pub strip_stmts : TypedStmtTerms → StmtTerms
  strip_stmts TypedNoStmts = NoStmts
  strip_stmts (TypedMoreStmts s ss) = MoreStmts (strip_stmt s) (strip_stmts ss)

  pub strip_else : TypedElseTerm → ElseTerm
  strip_else TypedNoElse = NoElse
  strip_else (TypedElseOf ss) = ElseOf (strip_stmts ss)

  pub strip_arm : TypedArmTerm → ArmTerm
  strip_arm (TypedArmOf e ss) = ArmOf (strip_expr e) (strip_stmts ss)

  pub strip_arms : TypedArmTerms → ArmTerms
  strip_arms TypedNoArms = NoArms
  strip_arms (TypedMoreArms a arms) = MoreArms (strip_arm a) (strip_arms arms)
