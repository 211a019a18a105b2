-- Whether two trees have one shape, as a test.
use Rattle.std.specs.Prelude.{ℕ, Bool, true, false, ◌&&◌, List, Option, Some, None}
use Rattle.std.specs.Bool.{beq}
use Rattle.std.specs.Ordering.{int_eq}
use Rattle.std.specs.Str.{bytes_eq}
use Rattle.std.specs.Cmp.Lexicographic.{pointwise}
use Rattle.qvt_tree.specs.SameWords.{same_kind, same_level, same_op, same_prefix, same_word}
use Rattle.qvt_tree_types.specs.Tree.{TypeTerm, ExprTerm, ExprTerms, OptionalExpr, OptionalArgs, LinkTerm, LinkTerms, ItemTerm, RangeTerm, ItemTerms, MapTerm, ResolveTerm, FilterTerm, HeadTerm, AccumulatorTerm, StepTerm, StepTerms, TargetTerm, StmtTerm, StmtTerms, ElseTerm, ArmTerm, ArmTerms}
use Rattle.qvt_tree_types.specs.Tree.{CollType, PathType, IntExpr, StrExpr, BoolExpr, NullExpr, SelfExpr, ResultExpr, PathExpr, CallExpr, CollExpr, IfExpr, ObjectExpr, NewExpr, MapExpr, ResolveExpr, ChainExpr, PrefixExpr, PostExpr, NoExprs, MoreExprs, NoExpr, SomeExpr, NoArgs, SomeArgs, LinkOf, NoLinks, MoreLinks, ItemOf, NoRange, RangeTo, NoItems, MoreItems, MapOf, ResolveOf, NoFilter, FilterOf, NoHead, HeadOf, NoAccumulator, AccumulatorOf, DotStep, ArrowStep, DotMapStep, ArrowMapStep, DotResolveStep, ArrowResolveStep, NoSteps, MoreSteps, BareTarget, ResultTarget, MemberTarget, VarStmt, AssignStmt, ReturnStmt, ValueStmt, IfStmt, WhileStmt, ForEachStmt, NoStmts, MoreStmts, NoElse, ElseOf, ArmOf, NoArms, MoreArms}
use Rattle.qvt_tree_types.specs.declared.words.Sign.{Sign}
use Rattle.qvt_tree_types.specs.declared.types.PathTree.{PathTree}
use Rattle.qvt_tree_types.specs.declared.types.ObjectVar.{ObjectVar}
use Rattle.qvt_tree_types.specs.declared.types.ObjectVar.TheVariants.{Named, ResultVar}

abbrev pub same_names : List (List ℕ) → List (List ℕ) → Bool
same_names = pointwise bytes_eq

abbrev pub same_path : PathTree → PathTree → Bool
same_path p q = same_names p.names q.names

abbrev pub same_optional_path : Option PathTree → Option PathTree → Bool
same_optional_path None None = true
same_optional_path (Some p) (Some q) = same_path p q
same_optional_path _ _ = false

abbrev pub same_optional_text : Option (List ℕ) → Option (List ℕ) → Bool
same_optional_text None None = true
same_optional_text (Some s) (Some t) = bytes_eq s t
same_optional_text _ _ = false

abbrev pub same_variable : ObjectVar → ObjectVar → Bool
same_variable (Named m p) (Named n q) = bytes_eq m n
same_variable (ResultVar p) (ResultVar q) = true
same_variable _ _ = false

abbrev pub same_optional_variable : Option ObjectVar → Option ObjectVar → Bool
same_optional_variable None None = true
same_optional_variable (Some v) (Some w) = same_variable v w
same_optional_variable _ _ = false

abbrev pub same_sign : Sign → Sign → Bool
same_sign s t = same_prefix s.op t.op

abbrev pub same_signs : List Sign → List Sign → Bool
same_signs = pointwise same_sign

abbrev pub same_type : TypeTerm → TypeTerm → Bool
same_type (CollType a1 b1 c1) (CollType a2 b2 c2) = same_kind a1 a2 && same_type b1 b2
same_type (PathType a1) (PathType a2) = same_path a1 a2
same_type _ _ = false

abbrev pub same_optional_type : Option TypeTerm → Option TypeTerm → Bool
same_optional_type None None = true
same_optional_type (Some s) (Some t) = same_type s t
same_optional_type _ _ = false

abbrev mutual
  pub same_expr : ExprTerm → ExprTerm → Bool
  same_expr (IntExpr a1 b1) (IntExpr a2 b2) = int_eq a1 a2
  same_expr (StrExpr a1 b1) (StrExpr a2 b2) = bytes_eq a1 a2
  same_expr (BoolExpr a1 b1) (BoolExpr a2 b2) = beq a1 a2
  same_expr (NullExpr a1) (NullExpr a2) = true
  same_expr (SelfExpr a1) (SelfExpr a2) = true
  same_expr (ResultExpr a1) (ResultExpr a2) = true
  same_expr (PathExpr a1) (PathExpr a2) = same_path a1 a2
  same_expr (CallExpr a1 b1 c1) (CallExpr a2 b2 c2) = bytes_eq a1 a2 && same_exprs b1 b2
  same_expr (CollExpr a1 b1 c1) (CollExpr a2 b2 c2) = same_kind a1 a2 && same_items b1 b2
  same_expr (IfExpr a1 b1 c1 d1) (IfExpr a2 b2 c2 d2) = same_expr a1 a2 && same_expr b1 b2 && same_expr c1 c2
  same_expr (ObjectExpr a1 b1 c1 d1 e1) (ObjectExpr a2 b2 c2 d2 e2) = same_optional_variable a1 a2 && same_path b1 b2 && same_optional_text c1 c2 && same_stmts d1 d2
  same_expr (NewExpr a1 b1 c1 d1) (NewExpr a2 b2 c2 d2) = same_path a1 a2 && same_optional_text b1 b2 && same_exprs c1 c2
  same_expr (MapExpr a1) (MapExpr a2) = same_map_call a1 a2
  same_expr (ResolveExpr a1) (ResolveExpr a2) = same_resolve a1 a2
  same_expr (ChainExpr a1 b1 c1 d1) (ChainExpr a2 b2 c2 d2) = same_level a1 a2 && same_expr b1 b2 && same_links c1 c2
  same_expr (PrefixExpr a1 b1 c1) (PrefixExpr a2 b2 c2) = same_signs a1 a2 && same_expr b1 b2
  same_expr (PostExpr a1 b1 c1) (PostExpr a2 b2 c2) = same_expr a1 a2 && same_steps b1 b2
  same_expr _ _ = false

  pub same_exprs : ExprTerms → ExprTerms → Bool
  same_exprs NoExprs NoExprs = true
  same_exprs (MoreExprs a1 b1) (MoreExprs a2 b2) = same_expr a1 a2 && same_exprs b1 b2
  same_exprs _ _ = false

  pub same_optional_expr : OptionalExpr → OptionalExpr → Bool
  same_optional_expr NoExpr NoExpr = true
  same_optional_expr (SomeExpr a1) (SomeExpr a2) = same_expr a1 a2
  same_optional_expr _ _ = false

  pub same_args : OptionalArgs → OptionalArgs → Bool
  same_args NoArgs NoArgs = true
  same_args (SomeArgs a1) (SomeArgs a2) = same_exprs a1 a2
  same_args _ _ = false

  pub same_link : LinkTerm → LinkTerm → Bool
  same_link (LinkOf a1 b1 c1) (LinkOf a2 b2 c2) = same_op a1 a2 && same_expr b1 b2

  pub same_links : LinkTerms → LinkTerms → Bool
  same_links NoLinks NoLinks = true
  same_links (MoreLinks a1 b1) (MoreLinks a2 b2) = same_link a1 a2 && same_links b1 b2
  same_links _ _ = false

  pub same_item : ItemTerm → ItemTerm → Bool
  same_item (ItemOf a1 b1 c1) (ItemOf a2 b2 c2) = same_expr a1 a2 && same_range b1 b2

  pub same_range : RangeTerm → RangeTerm → Bool
  same_range NoRange NoRange = true
  same_range (RangeTo a1 b1) (RangeTo a2 b2) = same_expr a1 a2
  same_range _ _ = false

  pub same_items : ItemTerms → ItemTerms → Bool
  same_items NoItems NoItems = true
  same_items (MoreItems a1 b1) (MoreItems a2 b2) = same_item a1 a2 && same_items b1 b2
  same_items _ _ = false

  pub same_map_call : MapTerm → MapTerm → Bool
  same_map_call (MapOf a1 b1 c1 d1) (MapOf a2 b2 c2 d2) = beq a1 a2 && bytes_eq b1 b2 && same_exprs c1 c2

  pub same_resolve : ResolveTerm → ResolveTerm → Bool
  same_resolve (ResolveOf a1 b1 c1 d1 e1) (ResolveOf a2 b2 c2 d2 e2) = beq a1 a2 && same_word b1 b2 && same_optional_path c1 c2 && same_filter d1 d2

  pub same_filter : FilterTerm → FilterTerm → Bool
  same_filter NoFilter NoFilter = true
  same_filter (FilterOf a1 b1 c1 d1) (FilterOf a2 b2 c2 d2) = same_optional_text a1 a2 && same_type b1 b2 && same_optional_expr c1 c2
  same_filter _ _ = false

  pub same_head : HeadTerm → HeadTerm → Bool
  same_head NoHead NoHead = true
  same_head (HeadOf a1 b1 c1 d1) (HeadOf a2 b2 c2 d2) = bytes_eq a1 a2 && same_optional_type b1 b2 && same_accumulator c1 c2
  same_head _ _ = false

  pub same_accumulator : AccumulatorTerm → AccumulatorTerm → Bool
  same_accumulator NoAccumulator NoAccumulator = true
  same_accumulator (AccumulatorOf a1 b1 c1 d1) (AccumulatorOf a2 b2 c2 d2) = bytes_eq a1 a2 && same_type b1 b2 && same_expr c1 c2
  same_accumulator _ _ = false

  pub same_step : StepTerm → StepTerm → Bool
  same_step (DotStep a1 b1 c1) (DotStep a2 b2 c2) = bytes_eq a1 a2 && same_args b1 b2
  same_step (ArrowStep a1 b1 c1 d1) (ArrowStep a2 b2 c2 d2) = bytes_eq a1 a2 && same_head b1 b2 && same_exprs c1 c2
  same_step (DotMapStep a1) (DotMapStep a2) = same_map_call a1 a2
  same_step (ArrowMapStep a1) (ArrowMapStep a2) = same_map_call a1 a2
  same_step (DotResolveStep a1) (DotResolveStep a2) = same_resolve a1 a2
  same_step (ArrowResolveStep a1) (ArrowResolveStep a2) = same_resolve a1 a2
  same_step _ _ = false

  pub same_steps : StepTerms → StepTerms → Bool
  same_steps NoSteps NoSteps = true
  same_steps (MoreSteps a1 b1) (MoreSteps a2 b2) = same_step a1 a2 && same_steps b1 b2
  same_steps _ _ = false

  pub same_target : TargetTerm → TargetTerm → Bool
  same_target (BareTarget a1 b1) (BareTarget a2 b2) = bytes_eq a1 a2
  same_target (ResultTarget a1) (ResultTarget a2) = true
  same_target (MemberTarget a1 b1 c1) (MemberTarget a2 b2 c2) = same_expr a1 a2 && bytes_eq b1 b2
  same_target _ _ = false

  pub same_stmt : StmtTerm → StmtTerm → Bool
  same_stmt (VarStmt a1 b1 c1 d1) (VarStmt a2 b2 c2 d2) = bytes_eq a1 a2 && same_optional_type b1 b2 && same_optional_expr c1 c2
  same_stmt (AssignStmt a1 b1 c1 d1) (AssignStmt a2 b2 c2 d2) = same_target a1 a2 && beq b1 b2 && same_expr c1 c2
  same_stmt (ReturnStmt a1 b1) (ReturnStmt a2 b2) = same_optional_expr a1 a2
  same_stmt (ValueStmt a1 b1) (ValueStmt a2 b2) = same_expr a1 a2
  same_stmt (IfStmt a1 b1 c1 d1 e1) (IfStmt a2 b2 c2 d2 e2) = same_expr a1 a2 && same_stmts b1 b2 && same_arms c1 c2 && same_else d1 d2
  same_stmt (WhileStmt a1 b1 c1) (WhileStmt a2 b2 c2) = same_expr a1 a2 && same_stmts b1 b2
  same_stmt (ForEachStmt a1 b1 c1 d1 e1 f1) (ForEachStmt a2 b2 c2 d2 e2 f2) = same_expr a1 a2 && bytes_eq b1 b2 && same_optional_type c1 c2 && same_optional_expr d1 d2 && same_stmts e1 e2
  same_stmt _ _ = false

  pub same_stmts : StmtTerms → StmtTerms → Bool
  same_stmts NoStmts NoStmts = true
  same_stmts (MoreStmts a1 b1) (MoreStmts a2 b2) = same_stmt a1 a2 && same_stmts b1 b2
  same_stmts _ _ = false

  pub same_else : ElseTerm → ElseTerm → Bool
  same_else NoElse NoElse = true
  same_else (ElseOf a1) (ElseOf a2) = same_stmts a1 a2
  same_else _ _ = false

  pub same_arm : ArmTerm → ArmTerm → Bool
  same_arm (ArmOf a1 b1) (ArmOf a2 b2) = same_expr a1 a2 && same_stmts b1 b2

  pub same_arms : ArmTerms → ArmTerms → Bool
  same_arms NoArms NoArms = true
  same_arms (MoreArms a1 b1) (MoreArms a2 b2) = same_arm a1 a2 && same_arms b1 b2
  same_arms _ _ = false
