-- The shape of a tree: the tree without its places, each of which is set to nowhere.
use Rattle.std.specs.Prelude.{List, [], ◌∷◌, Option, Some, None}
use Rattle.qvt_base.specs.declared.numbers.Place.{Place}
use Rattle.qvt_tree_types.specs.Tree.{TypeTerm, ExprTerm, ExprTerms, OptionalExpr, OptionalArgs, LinkTerm, LinkTerms, ItemTerm, RangeTerm, ItemTerms, MapTerm, ResolveTerm, FilterTerm, HeadTerm, AccumulatorTerm, StepTerm, StepTerms, TargetTerm, StmtTerm, StmtTerms, ElseTerm, ArmTerm, ArmTerms}
use Rattle.qvt_tree_types.specs.Tree.{CollType, PathType, IntExpr, StrExpr, BoolExpr, NullExpr, SelfExpr, ResultExpr, PathExpr, CallExpr, CollExpr, IfExpr, ObjectExpr, NewExpr, MapExpr, ResolveExpr, ChainExpr, PrefixExpr, PostExpr, NoExprs, MoreExprs, NoExpr, SomeExpr, NoArgs, SomeArgs, LinkOf, NoLinks, MoreLinks, ItemOf, NoRange, RangeTo, NoItems, MoreItems, MapOf, ResolveOf, NoFilter, FilterOf, NoHead, HeadOf, NoAccumulator, AccumulatorOf, DotStep, ArrowStep, DotMapStep, ArrowMapStep, DotResolveStep, ArrowResolveStep, NoSteps, MoreSteps, BareTarget, ResultTarget, MemberTarget, VarStmt, AssignStmt, ReturnStmt, ValueStmt, IfStmt, WhileStmt, ForEachStmt, NoStmts, MoreStmts, NoElse, ElseOf, ArmOf, NoArms, MoreArms}
use Rattle.qvt_tree_types.specs.declared.words.Sign.{Sign}
use Rattle.qvt_tree_types.specs.declared.types.PathTree.{PathTree}
use Rattle.qvt_tree_types.specs.declared.types.ObjectVar.{ObjectVar}
use Rattle.qvt_tree_types.specs.declared.types.ObjectVar.TheVariants.{Named, ResultVar}

abbrev pub nowhere : Place
nowhere = record { line = 0; column = 0; offset = 0 }

abbrev pub erase_path : PathTree → PathTree
erase_path p = record { names = p.names; place = nowhere }

abbrev pub erase_optional_path : Option PathTree → Option PathTree
erase_optional_path None = None
erase_optional_path (Some p) = Some (erase_path p)

abbrev pub erase_variable : ObjectVar → ObjectVar
erase_variable (Named name place) = Named name nowhere
erase_variable (ResultVar place) = ResultVar nowhere

abbrev pub erase_optional_variable : Option ObjectVar → Option ObjectVar
erase_optional_variable None = None
erase_optional_variable (Some v) = Some (erase_variable v)

abbrev pub erase_sign : Sign → Sign
erase_sign s = record { op = s.op; place = nowhere }

abbrev pub erase_signs : List Sign → List Sign
erase_signs [] = []
erase_signs (s ∷ ss) = erase_sign s ∷ erase_signs ss

abbrev pub erase_type : TypeTerm → TypeTerm
erase_type (CollType a b c) = CollType a (erase_type b) nowhere
erase_type (PathType a) = PathType (erase_path a)

abbrev pub erase_optional_type : Option TypeTerm → Option TypeTerm
erase_optional_type None = None
erase_optional_type (Some t) = Some (erase_type t)

abbrev mutual
  pub erase_expr : ExprTerm → ExprTerm
  erase_expr (IntExpr a b) = IntExpr a nowhere
  erase_expr (StrExpr a b) = StrExpr a nowhere
  erase_expr (BoolExpr a b) = BoolExpr a nowhere
  erase_expr (NullExpr a) = NullExpr nowhere
  erase_expr (SelfExpr a) = SelfExpr nowhere
  erase_expr (ResultExpr a) = ResultExpr nowhere
  erase_expr (PathExpr a) = PathExpr (erase_path a)
  erase_expr (CallExpr a b c) = CallExpr a (erase_exprs b) nowhere
  erase_expr (CollExpr a b c) = CollExpr a (erase_items b) nowhere
  erase_expr (IfExpr a b c d) = IfExpr (erase_expr a) (erase_expr b) (erase_expr c) nowhere
  erase_expr (ObjectExpr a b c d e) = ObjectExpr (erase_optional_variable a) (erase_path b) c (erase_stmts d) nowhere
  erase_expr (NewExpr a b c d) = NewExpr (erase_path a) b (erase_exprs c) nowhere
  erase_expr (MapExpr a) = MapExpr (erase_map_call a)
  erase_expr (ResolveExpr a) = ResolveExpr (erase_resolve a)
  erase_expr (ChainExpr a b c d) = ChainExpr a (erase_expr b) (erase_links c) nowhere
  erase_expr (PrefixExpr a b c) = PrefixExpr (erase_signs a) (erase_expr b) nowhere
  erase_expr (PostExpr a b c) = PostExpr (erase_expr a) (erase_steps b) nowhere

  pub erase_exprs : ExprTerms → ExprTerms
  erase_exprs NoExprs = NoExprs
  erase_exprs (MoreExprs a b) = MoreExprs (erase_expr a) (erase_exprs b)

  pub erase_optional_expr : OptionalExpr → OptionalExpr
  erase_optional_expr NoExpr = NoExpr
  erase_optional_expr (SomeExpr a) = SomeExpr (erase_expr a)

  pub erase_args : OptionalArgs → OptionalArgs
  erase_args NoArgs = NoArgs
  erase_args (SomeArgs a) = SomeArgs (erase_exprs a)

  pub erase_link : LinkTerm → LinkTerm
  erase_link (LinkOf a b c) = LinkOf a (erase_expr b) nowhere

  pub erase_links : LinkTerms → LinkTerms
  erase_links NoLinks = NoLinks
  erase_links (MoreLinks a b) = MoreLinks (erase_link a) (erase_links b)

  pub erase_item : ItemTerm → ItemTerm
  erase_item (ItemOf a b c) = ItemOf (erase_expr a) (erase_range b) nowhere

  pub erase_range : RangeTerm → RangeTerm
  erase_range NoRange = NoRange
  erase_range (RangeTo a b) = RangeTo (erase_expr a) nowhere

  pub erase_items : ItemTerms → ItemTerms
  erase_items NoItems = NoItems
  erase_items (MoreItems a b) = MoreItems (erase_item a) (erase_items b)

  pub erase_map_call : MapTerm → MapTerm
  erase_map_call (MapOf a b c d) = MapOf a b (erase_exprs c) nowhere

  pub erase_resolve : ResolveTerm → ResolveTerm
  erase_resolve (ResolveOf a b c d e) = ResolveOf a b (erase_optional_path c) (erase_filter d) nowhere

  pub erase_filter : FilterTerm → FilterTerm
  erase_filter NoFilter = NoFilter
  erase_filter (FilterOf a b c d) = FilterOf a (erase_type b) (erase_optional_expr c) nowhere

  pub erase_head : HeadTerm → HeadTerm
  erase_head NoHead = NoHead
  erase_head (HeadOf a b c d) = HeadOf a (erase_optional_type b) (erase_accumulator c) nowhere

  pub erase_accumulator : AccumulatorTerm → AccumulatorTerm
  erase_accumulator NoAccumulator = NoAccumulator
  erase_accumulator (AccumulatorOf a b c d) = AccumulatorOf a (erase_type b) (erase_expr c) nowhere

  pub erase_step : StepTerm → StepTerm
  erase_step (DotStep a b c) = DotStep a (erase_args b) nowhere
  erase_step (ArrowStep a b c d) = ArrowStep a (erase_head b) (erase_exprs c) nowhere
  erase_step (DotMapStep a) = DotMapStep (erase_map_call a)
  erase_step (ArrowMapStep a) = ArrowMapStep (erase_map_call a)
  erase_step (DotResolveStep a) = DotResolveStep (erase_resolve a)
  erase_step (ArrowResolveStep a) = ArrowResolveStep (erase_resolve a)

  pub erase_steps : StepTerms → StepTerms
  erase_steps NoSteps = NoSteps
  erase_steps (MoreSteps a b) = MoreSteps (erase_step a) (erase_steps b)

  pub erase_target : TargetTerm → TargetTerm
  erase_target (BareTarget a b) = BareTarget a nowhere
  erase_target (ResultTarget a) = ResultTarget nowhere
  erase_target (MemberTarget a b c) = MemberTarget (erase_expr a) b nowhere

  pub erase_stmt : StmtTerm → StmtTerm
  erase_stmt (VarStmt a b c d) = VarStmt a (erase_optional_type b) (erase_optional_expr c) nowhere
  erase_stmt (AssignStmt a b c d) = AssignStmt (erase_target a) b (erase_expr c) nowhere
  erase_stmt (ReturnStmt a b) = ReturnStmt (erase_optional_expr a) nowhere
  erase_stmt (ValueStmt a b) = ValueStmt (erase_expr a) nowhere
  erase_stmt (IfStmt a b c d e) = IfStmt (erase_expr a) (erase_stmts b) (erase_arms c) (erase_else d) nowhere
  erase_stmt (WhileStmt a b c) = WhileStmt (erase_expr a) (erase_stmts b) nowhere
  erase_stmt (ForEachStmt a b c d e f) = ForEachStmt (erase_expr a) b (erase_optional_type c) (erase_optional_expr d) (erase_stmts e) nowhere

  pub erase_stmts : StmtTerms → StmtTerms
  erase_stmts NoStmts = NoStmts
  erase_stmts (MoreStmts a b) = MoreStmts (erase_stmt a) (erase_stmts b)

  pub erase_else : ElseTerm → ElseTerm
  erase_else NoElse = NoElse
  erase_else (ElseOf a) = ElseOf (erase_stmts a)

  pub erase_arm : ArmTerm → ArmTerm
  erase_arm (ArmOf a b) = ArmOf (erase_expr a) (erase_stmts b)

  pub erase_arms : ArmTerms → ArmTerms
  erase_arms NoArms = NoArms
  erase_arms (MoreArms a b) = MoreArms (erase_arm a) (erase_arms b)
