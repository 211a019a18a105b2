-- A tree and the notes of its nodes, joined: each node takes the notes of its parts, in the order of its fields, and then
-- its own. Where there are too few, the rest is left bare.
use Rattle.std.specs.Prelude.{List, [], ◌∷◌, Option, Some, None}
use Rattle.qvt_tree_types.specs.declared.types.PathTree.{PathTree}
use Rattle.qvt_tree_types.specs.declared.types.ObjectVar.{ObjectVar}
use Rattle.qvt_tree_types.specs.declared.types.ObjectVar.TheVariants as variable
use Rattle.qvt_tree_types.specs.declared.words.Sign.{Sign}
use Rattle.qvt_tree_types.specs.Tree.{TypeTerm, ExprTerm, ExprTerms, OptionalExpr, OptionalArgs, LinkTerm, LinkTerms, ItemTerm, RangeTerm, ItemTerms, MapTerm, ResolveTerm, FilterTerm, HeadTerm, AccumulatorTerm, StepTerm, StepTerms, TargetTerm, StmtTerm, StmtTerms, ElseTerm, ArmTerm, ArmTerms}
use Rattle.qvt_tree_types.specs.Tree.{CollType, PathType, IntExpr, StrExpr, BoolExpr, NullExpr, SelfExpr, ResultExpr, PathExpr, CallExpr, CollExpr, IfExpr, ObjectExpr, NewExpr, MapExpr, ResolveExpr, ChainExpr, PrefixExpr, PostExpr, NoExprs, MoreExprs, NoExpr, SomeExpr, NoArgs, SomeArgs, LinkOf, NoLinks, MoreLinks, ItemOf, NoRange, RangeTo, NoItems, MoreItems, MapOf, ResolveOf, NoFilter, FilterOf, NoHead, HeadOf, NoAccumulator, AccumulatorOf, DotStep, ArrowStep, DotMapStep, ArrowMapStep, DotResolveStep, ArrowResolveStep, NoSteps, MoreSteps, BareTarget, ResultTarget, MemberTarget, VarStmt, AssignStmt, ReturnStmt, ValueStmt, IfStmt, WhileStmt, ForEachStmt, NoStmts, MoreStmts, NoElse, ElseOf, ArmOf, NoArms, MoreArms}
use Rattle.qvt_types_data.specs.Notes.{bare}
use Rattle.qvt_types_data.specs.declared.note.Note.{Note}
use Rattle.qvt_types_nodes.specs.declared.types.TypedPathTree.{TypedPathTree}
use Rattle.qvt_types_nodes.specs.declared.types.TypedObjectVar.{TypedObjectVar}
use Rattle.qvt_types_nodes.specs.declared.types.TypedObjectVar.TheVariants as typed_variable
use Rattle.qvt_types_nodes.specs.declared.types.TypedSign.{TypedSign}
use Rattle.qvt_types_nodes.specs.Tree.{TypedTypeTerm, TypedExprTerm, TypedExprTerms, TypedOptionalExpr, TypedOptionalArgs, TypedLinkTerm, TypedLinkTerms, TypedItemTerm, TypedRangeTerm, TypedItemTerms, TypedMapTerm, TypedResolveTerm, TypedFilterTerm, TypedHeadTerm, TypedAccumulatorTerm, TypedStepTerm, TypedStepTerms, TypedTargetTerm, TypedStmtTerm, TypedStmtTerms, TypedElseTerm, TypedArmTerm, TypedArmTerms}
use Rattle.qvt_types_nodes.specs.Tree.{TypedCollType, TypedPathType, TypedIntExpr, TypedStrExpr, TypedBoolExpr, TypedNullExpr, TypedSelfExpr, TypedResultExpr, TypedPathExpr, TypedCallExpr, TypedCollExpr, TypedIfExpr, TypedObjectExpr, TypedNewExpr, TypedMapExpr, TypedResolveExpr, TypedChainExpr, TypedPrefixExpr, TypedPostExpr, TypedNoExprs, TypedMoreExprs, TypedNoExpr, TypedSomeExpr, TypedNoArgs, TypedSomeArgs, TypedLinkOf, TypedNoLinks, TypedMoreLinks, TypedItemOf, TypedNoRange, TypedRangeTo, TypedNoItems, TypedMoreItems, TypedMapOf, TypedResolveOf, TypedNoFilter, TypedFilterOf, TypedNoHead, TypedHeadOf, TypedNoAccumulator, TypedAccumulatorOf, TypedDotStep, TypedArrowStep, TypedDotMapStep, TypedArrowMapStep, TypedDotResolveStep, TypedArrowResolveStep, TypedNoSteps, TypedMoreSteps, TypedBareTarget, TypedResultTarget, TypedMemberTarget, TypedVarStmt, TypedAssignStmt, TypedReturnStmt, TypedValueStmt, TypedIfStmt, TypedWhileStmt, TypedForEachStmt, TypedNoStmts, TypedMoreStmts, TypedNoElse, TypedElseOf, TypedArmOf, TypedNoArms, TypedMoreArms}

-- what takes notes from a list, and leaves the others
abbrev pub NoteTaker : Type 0 → Type 0
NoteTaker A = List Note → A × List Note

abbrev pub gives : {A : Type 0} → A → NoteTaker A
gives a ns = (a, ns)

infixl 10 ◌>>=◌
abbrev pub ◌>>=◌ : {A B : Type 0} → NoteTaker A → (A → NoteTaker B) → NoteTaker B
(p >>= f) ns = f (p ns).0 (p ns).1

abbrev pub next_note : NoteTaker Note
next_note [] = (bare, [])
next_note (n ∷ ns) = (n, ns)

abbrev pub join_path : PathTree → NoteTaker TypedPathTree
join_path p = next_note >>= (λ n. gives (record { names = p.names; place = p.place; note = n }))

abbrev pub join_optional_path : Option PathTree → NoteTaker (Option TypedPathTree)
join_optional_path None = gives None
join_optional_path (Some p) = join_path p >>= (λ q. gives (Some q))

abbrev pub join_sign : Sign → NoteTaker TypedSign
join_sign s = next_note >>= (λ n. gives (record { op = s.op; place = s.place; note = n }))

abbrev pub join_signs : List Sign → NoteTaker (List TypedSign)
join_signs [] = gives []
join_signs (s ∷ signs) = join_sign s >>= (λ x. join_signs signs >>= (λ xs. gives (x ∷ xs)))

abbrev pub join_variable : Option ObjectVar → NoteTaker (Option TypedObjectVar)
join_variable None = gives None
join_variable (Some (variable.Named name at)) = next_note >>= (λ n. gives (Some (typed_variable.Named name at n)))
join_variable (Some (variable.ResultVar at)) = next_note >>= (λ n. gives (Some (typed_variable.ResultVar at n)))

abbrev pub join_type : TypeTerm → NoteTaker TypedTypeTerm
join_type (CollType k t at) = join_type t >>= (λ t'. next_note >>= (λ n. gives (TypedCollType k t' at n)))
join_type (PathType path) = join_path path >>= (λ path'. gives (TypedPathType path'))

abbrev pub join_optional_type : Option TypeTerm → NoteTaker (Option TypedTypeTerm)
join_optional_type None = gives None
join_optional_type (Some t) = join_type t >>= (λ x. gives (Some x))

abbrev mutual
  pub join_expr : ExprTerm → NoteTaker TypedExprTerm
  join_expr (IntExpr value at) = next_note >>= (λ n. gives (TypedIntExpr value at n))
  join_expr (StrExpr name at) = next_note >>= (λ n. gives (TypedStrExpr name at n))
  join_expr (BoolExpr b at) = next_note >>= (λ n. gives (TypedBoolExpr b at n))
  join_expr (NullExpr at) = next_note >>= (λ n. gives (TypedNullExpr at n))
  join_expr (SelfExpr at) = next_note >>= (λ n. gives (TypedSelfExpr at n))
  join_expr (ResultExpr at) = next_note >>= (λ n. gives (TypedResultExpr at n))
  join_expr (PathExpr path) = join_path path >>= (λ path'. gives (TypedPathExpr path'))
  join_expr (CallExpr name es at) = join_exprs es >>= (λ es'. next_note >>= (λ n. gives (TypedCallExpr name es' at n)))
  join_expr (CollExpr k is at) = join_items is >>= (λ is'. next_note >>= (λ n. gives (TypedCollExpr k is' at n)))
  join_expr (IfExpr e f g at) = join_expr e >>= (λ e'. join_expr f >>= (λ f'. join_expr g >>= (λ g'. next_note >>= (λ n. gives (TypedIfExpr e' f' g' at n)))))
  join_expr (ObjectExpr variable path extent ss at) = join_variable variable >>= (λ variable'. join_path path >>= (λ path'. join_stmts ss >>= (λ ss'. next_note >>= (λ n. gives (TypedObjectExpr variable' path' extent ss' at n)))))
  join_expr (NewExpr path extent es at) = join_path path >>= (λ path'. join_exprs es >>= (λ es'. next_note >>= (λ n. gives (TypedNewExpr path' extent es' at n))))
  join_expr (MapExpr call) = join_map call >>= (λ call'. gives (TypedMapExpr call'))
  join_expr (ResolveExpr call) = join_resolve call >>= (λ call'. gives (TypedResolveExpr call'))
  join_expr (ChainExpr level e ls at) = join_expr e >>= (λ e'. join_links ls >>= (λ ls'. next_note >>= (λ n. gives (TypedChainExpr level e' ls' at n))))
  join_expr (PrefixExpr signs e at) = join_signs signs >>= (λ signs'. join_expr e >>= (λ e'. next_note >>= (λ n. gives (TypedPrefixExpr signs' e' at n))))
  join_expr (PostExpr e ss at) = join_expr e >>= (λ e'. join_steps ss >>= (λ ss'. next_note >>= (λ n. gives (TypedPostExpr e' ss' at n))))

  pub join_exprs : ExprTerms → NoteTaker TypedExprTerms
  join_exprs NoExprs = gives TypedNoExprs
  join_exprs (MoreExprs e es) = join_expr e >>= (λ e'. join_exprs es >>= (λ es'. gives (TypedMoreExprs e' es')))

  pub join_optional_expr : OptionalExpr → NoteTaker TypedOptionalExpr
  join_optional_expr NoExpr = gives TypedNoExpr
  join_optional_expr (SomeExpr e) = join_expr e >>= (λ e'. gives (TypedSomeExpr e'))

  pub join_optional_args : OptionalArgs → NoteTaker TypedOptionalArgs
  join_optional_args NoArgs = gives TypedNoArgs
  join_optional_args (SomeArgs es) = join_exprs es >>= (λ es'. gives (TypedSomeArgs es'))

  pub join_link : LinkTerm → NoteTaker TypedLinkTerm
  join_link (LinkOf op e at) = join_expr e >>= (λ e'. next_note >>= (λ n. gives (TypedLinkOf op e' at n)))

  pub join_links : LinkTerms → NoteTaker TypedLinkTerms
  join_links NoLinks = gives TypedNoLinks
  join_links (MoreLinks l ls) = join_link l >>= (λ l'. join_links ls >>= (λ ls'. gives (TypedMoreLinks l' ls')))

  pub join_item : ItemTerm → NoteTaker TypedItemTerm
  join_item (ItemOf e r at) = join_expr e >>= (λ e'. join_range r >>= (λ r'. next_note >>= (λ n. gives (TypedItemOf e' r' at n))))

  pub join_range : RangeTerm → NoteTaker TypedRangeTerm
  join_range NoRange = gives TypedNoRange
  join_range (RangeTo e at) = join_expr e >>= (λ e'. next_note >>= (λ n. gives (TypedRangeTo e' at n)))

  pub join_items : ItemTerms → NoteTaker TypedItemTerms
  join_items NoItems = gives TypedNoItems
  join_items (MoreItems i is) = join_item i >>= (λ i'. join_items is >>= (λ is'. gives (TypedMoreItems i' is')))

  pub join_map : MapTerm → NoteTaker TypedMapTerm
  join_map (MapOf b name es at) = join_exprs es >>= (λ es'. next_note >>= (λ n. gives (TypedMapOf b name es' at n)))

  pub join_resolve : ResolveTerm → NoteTaker TypedResolveTerm
  join_resolve (ResolveOf b w within f at) = join_optional_path within >>= (λ within'. join_filter f >>= (λ f'. next_note >>= (λ n. gives (TypedResolveOf b w within' f' at n))))

  pub join_filter : FilterTerm → NoteTaker TypedFilterTerm
  join_filter NoFilter = gives TypedNoFilter
  join_filter (FilterOf extent t o at) = join_type t >>= (λ t'. join_optional_expr o >>= (λ o'. next_note >>= (λ n. gives (TypedFilterOf extent t' o' at n))))

  pub join_head : HeadTerm → NoteTaker TypedHeadTerm
  join_head NoHead = gives TypedNoHead
  join_head (HeadOf name t a at) = join_optional_type t >>= (λ t'. join_accumulator a >>= (λ a'. next_note >>= (λ n. gives (TypedHeadOf name t' a' at n))))

  pub join_accumulator : AccumulatorTerm → NoteTaker TypedAccumulatorTerm
  join_accumulator NoAccumulator = gives TypedNoAccumulator
  join_accumulator (AccumulatorOf name t e at) = join_type t >>= (λ t'. join_expr e >>= (λ e'. next_note >>= (λ n. gives (TypedAccumulatorOf name t' e' at n))))

  pub join_step : StepTerm → NoteTaker TypedStepTerm
  join_step (DotStep name args at) = join_optional_args args >>= (λ args'. next_note >>= (λ n. gives (TypedDotStep name args' at n)))
  join_step (ArrowStep name h es at) = join_head h >>= (λ h'. join_exprs es >>= (λ es'. next_note >>= (λ n. gives (TypedArrowStep name h' es' at n))))
  join_step (DotMapStep call) = join_map call >>= (λ call'. gives (TypedDotMapStep call'))
  join_step (ArrowMapStep call) = join_map call >>= (λ call'. gives (TypedArrowMapStep call'))
  join_step (DotResolveStep call) = join_resolve call >>= (λ call'. gives (TypedDotResolveStep call'))
  join_step (ArrowResolveStep call) = join_resolve call >>= (λ call'. gives (TypedArrowResolveStep call'))

  pub join_steps : StepTerms → NoteTaker TypedStepTerms
  join_steps NoSteps = gives TypedNoSteps
  join_steps (MoreSteps s ss) = join_step s >>= (λ s'. join_steps ss >>= (λ ss'. gives (TypedMoreSteps s' ss')))

  pub join_target : TargetTerm → NoteTaker TypedTargetTerm
  join_target (BareTarget name at) = next_note >>= (λ n. gives (TypedBareTarget name at n))
  join_target (ResultTarget at) = next_note >>= (λ n. gives (TypedResultTarget at n))
  join_target (MemberTarget e name at) = join_expr e >>= (λ e'. next_note >>= (λ n. gives (TypedMemberTarget e' name at n)))

  pub join_stmt : StmtTerm → NoteTaker TypedStmtTerm
  join_stmt (VarStmt name t o at) = join_optional_type t >>= (λ t'. join_optional_expr o >>= (λ o'. next_note >>= (λ n. gives (TypedVarStmt name t' o' at n))))
  join_stmt (AssignStmt t b e at) = join_target t >>= (λ t'. join_expr e >>= (λ e'. next_note >>= (λ n. gives (TypedAssignStmt t' b e' at n))))
  join_stmt (ReturnStmt o at) = join_optional_expr o >>= (λ o'. next_note >>= (λ n. gives (TypedReturnStmt o' at n)))
  join_stmt (ValueStmt e at) = join_expr e >>= (λ e'. next_note >>= (λ n. gives (TypedValueStmt e' at n)))
  join_stmt (IfStmt e ss arms otherwise at) = join_expr e >>= (λ e'. join_stmts ss >>= (λ ss'. join_arms arms >>= (λ arms'. join_else otherwise >>= (λ otherwise'. next_note >>= (λ n. gives (TypedIfStmt e' ss' arms' otherwise' at n))))))
  join_stmt (WhileStmt e ss at) = join_expr e >>= (λ e'. join_stmts ss >>= (λ ss'. next_note >>= (λ n. gives (TypedWhileStmt e' ss' at n))))
  join_stmt (ForEachStmt e name t o ss at) = join_expr e >>= (λ e'. join_optional_type t >>= (λ t'. join_optional_expr o >>= (λ o'. join_stmts ss >>= (λ ss'. next_note >>= (λ n. gives (TypedForEachStmt e' name t' o' ss' at n))))))

  pub join_stmts : StmtTerms → NoteTaker TypedStmtTerms
  join_stmts NoStmts = gives TypedNoStmts
  join_stmts (MoreStmts s ss) = join_stmt s >>= (λ s'. join_stmts ss >>= (λ ss'. gives (TypedMoreStmts s' ss')))

  pub join_else : ElseTerm → NoteTaker TypedElseTerm
  join_else NoElse = gives TypedNoElse
  join_else (ElseOf ss) = join_stmts ss >>= (λ ss'. gives (TypedElseOf ss'))

  pub join_arm : ArmTerm → NoteTaker TypedArmTerm
  join_arm (ArmOf e ss) = join_expr e >>= (λ e'. join_stmts ss >>= (λ ss'. gives (TypedArmOf e' ss')))

  pub join_arms : ArmTerms → NoteTaker TypedArmTerms
  join_arms NoArms = gives TypedNoArms
  join_arms (MoreArms a arms) = join_arm a >>= (λ a'. join_arms arms >>= (λ arms'. gives (TypedMoreArms a' arms')))
