-- A tree joined with notes, without them again.
use Rattle.std.proofs.Common.{◌≡◌, refl, List, [], ◌∷◌, Option, Some, None}
use Rattle.qvt_tree_types.specs.declared.types.PathTree.{PathTree}
use Rattle.qvt_tree_types.specs.declared.types.ObjectVar.{ObjectVar}
use Rattle.qvt_tree_types.specs.declared.types.ObjectVar.TheVariants as variable
use Rattle.qvt_tree_types.specs.declared.words.Sign.{Sign}
use Rattle.qvt_tree_types.specs.Tree.{TypeTerm, ExprTerm, ExprTerms, OptionalExpr, OptionalArgs, LinkTerm, LinkTerms, ItemTerm, RangeTerm, ItemTerms, MapTerm, ResolveTerm, FilterTerm, HeadTerm, AccumulatorTerm, StepTerm, StepTerms, TargetTerm, StmtTerm, StmtTerms, ElseTerm, ArmTerm, ArmTerms}
use Rattle.qvt_tree_types.specs.Tree.{CollType, PathType, IntExpr, StrExpr, BoolExpr, NullExpr, SelfExpr, ResultExpr, PathExpr, CallExpr, CollExpr, IfExpr, ObjectExpr, NewExpr, MapExpr, ResolveExpr, ChainExpr, PrefixExpr, PostExpr, NoExprs, MoreExprs, NoExpr, SomeExpr, NoArgs, SomeArgs, LinkOf, NoLinks, MoreLinks, ItemOf, NoRange, RangeTo, NoItems, MoreItems, MapOf, ResolveOf, NoFilter, FilterOf, NoHead, HeadOf, NoAccumulator, AccumulatorOf, DotStep, ArrowStep, DotMapStep, ArrowMapStep, DotResolveStep, ArrowResolveStep, NoSteps, MoreSteps, BareTarget, ResultTarget, MemberTarget, VarStmt, AssignStmt, ReturnStmt, ValueStmt, IfStmt, WhileStmt, ForEachStmt, NoStmts, MoreStmts, NoElse, ElseOf, ArmOf, NoArms, MoreArms}
use Rattle.qvt_types_data.specs.declared.note.Note.{Note}
use Rattle.qvt_types_nodes.specs.Strip as strip
use Rattle.qvt_types_laws.specs.Join as join

pub same_path : (p : PathTree) (ns : List Note) → strip.strip_path (join.join_path p ns).0 ≡ p
same_path p ns = refl

pub same_optional_path : (o : Option PathTree) (ns : List Note) → strip.strip_optional_path (join.join_optional_path o ns).0 ≡ o
same_optional_path None ns = refl
same_optional_path (Some p) ns = refl

pub same_signs : (signs : List Sign) (ns : List Note) → strip.strip_signs (join.join_signs signs ns).0 ≡ signs
same_signs [] ns = refl
same_signs (s ∷ signs) ns = λ j. s ∷ same_signs signs (join.join_sign s ns).1 j

pub same_variable : (o : Option ObjectVar) (ns : List Note) → strip.strip_variable (join.join_variable o ns).0 ≡ o
same_variable None ns = refl
same_variable (Some (variable.Named name at)) ns = refl
same_variable (Some (variable.ResultVar at)) ns = refl

pub same_type : (t : TypeTerm) (ns : List Note) → strip.strip_type (join.join_type t ns).0 ≡ t
same_type (CollType k t at) ns = λ j. CollType k (same_type t ns j) at
same_type (PathType path) ns = refl

pub same_optional_type : (o : Option TypeTerm) (ns : List Note) → strip.strip_optional_type (join.join_optional_type o ns).0 ≡ o
same_optional_type None ns = refl
same_optional_type (Some t) ns = λ j. Some (same_type t ns j)

mutual
  pub same_expr : (it : ExprTerm) (ns : List Note) → strip.strip_expr (join.join_expr it ns).0 ≡ it
  same_expr (IntExpr value at) ns = refl
  same_expr (StrExpr name at) ns = refl
  same_expr (BoolExpr b at) ns = refl
  same_expr (NullExpr at) ns = refl
  same_expr (SelfExpr at) ns = refl
  same_expr (ResultExpr at) ns = refl
  same_expr (PathExpr path) ns = refl
  same_expr (CallExpr name es at) ns = λ j. CallExpr name (same_exprs es ns j) at
  same_expr (CollExpr k is at) ns = λ j. CollExpr k (same_items is ns j) at
  same_expr (IfExpr e f g at) ns = let after_e = (join.join_expr e ns).1 in let after_f = (join.join_expr f after_e).1 in λ j. IfExpr (same_expr e ns j) (same_expr f after_e j) (same_expr g after_f j) at
  same_expr (ObjectExpr variable path extent ss at) ns = let after_variable = (join.join_variable variable ns).1 in let after_path = (join.join_path path after_variable).1 in λ j. ObjectExpr (same_variable variable ns j) path extent (same_stmts ss after_path j) at
  same_expr (NewExpr path extent es at) ns = let after_path = (join.join_path path ns).1 in λ j. NewExpr path extent (same_exprs es after_path j) at
  same_expr (MapExpr call) ns = λ j. MapExpr (same_map call ns j)
  same_expr (ResolveExpr call) ns = λ j. ResolveExpr (same_resolve call ns j)
  same_expr (ChainExpr level e ls at) ns = let after_e = (join.join_expr e ns).1 in λ j. ChainExpr level (same_expr e ns j) (same_links ls after_e j) at
  same_expr (PrefixExpr signs e at) ns = let after_signs = (join.join_signs signs ns).1 in λ j. PrefixExpr (same_signs signs ns j) (same_expr e after_signs j) at
  same_expr (PostExpr e ss at) ns = let after_e = (join.join_expr e ns).1 in λ j. PostExpr (same_expr e ns j) (same_steps ss after_e j) at

  pub same_exprs : (it : ExprTerms) (ns : List Note) → strip.strip_exprs (join.join_exprs it ns).0 ≡ it
  same_exprs NoExprs ns = refl
  same_exprs (MoreExprs e es) ns = let after_e = (join.join_expr e ns).1 in λ j. MoreExprs (same_expr e ns j) (same_exprs es after_e j)

  pub same_optional_expr : (it : OptionalExpr) (ns : List Note) → strip.strip_optional_expr (join.join_optional_expr it ns).0 ≡ it
  same_optional_expr NoExpr ns = refl
  same_optional_expr (SomeExpr e) ns = λ j. SomeExpr (same_expr e ns j)

  pub same_optional_args : (it : OptionalArgs) (ns : List Note) → strip.strip_optional_args (join.join_optional_args it ns).0 ≡ it
  same_optional_args NoArgs ns = refl
  same_optional_args (SomeArgs es) ns = λ j. SomeArgs (same_exprs es ns j)

  pub same_link : (it : LinkTerm) (ns : List Note) → strip.strip_link (join.join_link it ns).0 ≡ it
  same_link (LinkOf op e at) ns = λ j. LinkOf op (same_expr e ns j) at

  pub same_links : (it : LinkTerms) (ns : List Note) → strip.strip_links (join.join_links it ns).0 ≡ it
  same_links NoLinks ns = refl
  same_links (MoreLinks l ls) ns = let after_l = (join.join_link l ns).1 in λ j. MoreLinks (same_link l ns j) (same_links ls after_l j)

  pub same_item : (it : ItemTerm) (ns : List Note) → strip.strip_item (join.join_item it ns).0 ≡ it
  same_item (ItemOf e r at) ns = let after_e = (join.join_expr e ns).1 in λ j. ItemOf (same_expr e ns j) (same_range r after_e j) at

  pub same_range : (it : RangeTerm) (ns : List Note) → strip.strip_range (join.join_range it ns).0 ≡ it
  same_range NoRange ns = refl
  same_range (RangeTo e at) ns = λ j. RangeTo (same_expr e ns j) at

  pub same_items : (it : ItemTerms) (ns : List Note) → strip.strip_items (join.join_items it ns).0 ≡ it
  same_items NoItems ns = refl
  same_items (MoreItems i is) ns = let after_i = (join.join_item i ns).1 in λ j. MoreItems (same_item i ns j) (same_items is after_i j)

  pub same_map : (it : MapTerm) (ns : List Note) → strip.strip_map (join.join_map it ns).0 ≡ it
  same_map (MapOf b name es at) ns = λ j. MapOf b name (same_exprs es ns j) at

  pub same_resolve : (it : ResolveTerm) (ns : List Note) → strip.strip_resolve (join.join_resolve it ns).0 ≡ it
  same_resolve (ResolveOf b w within f at) ns = let after_within = (join.join_optional_path within ns).1 in λ j. ResolveOf b w (same_optional_path within ns j) (same_filter f after_within j) at

  pub same_filter : (it : FilterTerm) (ns : List Note) → strip.strip_filter (join.join_filter it ns).0 ≡ it
  same_filter NoFilter ns = refl
  same_filter (FilterOf extent t o at) ns = let after_t = (join.join_type t ns).1 in λ j. FilterOf extent (same_type t ns j) (same_optional_expr o after_t j) at

  pub same_head : (it : HeadTerm) (ns : List Note) → strip.strip_head (join.join_head it ns).0 ≡ it
  same_head NoHead ns = refl
  same_head (HeadOf name t a at) ns = let after_t = (join.join_optional_type t ns).1 in λ j. HeadOf name (same_optional_type t ns j) (same_accumulator a after_t j) at

  pub same_accumulator : (it : AccumulatorTerm) (ns : List Note) → strip.strip_accumulator (join.join_accumulator it ns).0 ≡ it
  same_accumulator NoAccumulator ns = refl
  same_accumulator (AccumulatorOf name t e at) ns = let after_t = (join.join_type t ns).1 in λ j. AccumulatorOf name (same_type t ns j) (same_expr e after_t j) at

  pub same_step : (it : StepTerm) (ns : List Note) → strip.strip_step (join.join_step it ns).0 ≡ it
  same_step (DotStep name args at) ns = λ j. DotStep name (same_optional_args args ns j) at
  same_step (ArrowStep name h es at) ns = let after_h = (join.join_head h ns).1 in λ j. ArrowStep name (same_head h ns j) (same_exprs es after_h j) at
  same_step (DotMapStep call) ns = λ j. DotMapStep (same_map call ns j)
  same_step (ArrowMapStep call) ns = λ j. ArrowMapStep (same_map call ns j)
  same_step (DotResolveStep call) ns = λ j. DotResolveStep (same_resolve call ns j)
  same_step (ArrowResolveStep call) ns = λ j. ArrowResolveStep (same_resolve call ns j)

  pub same_steps : (it : StepTerms) (ns : List Note) → strip.strip_steps (join.join_steps it ns).0 ≡ it
  same_steps NoSteps ns = refl
  same_steps (MoreSteps s ss) ns = let after_s = (join.join_step s ns).1 in λ j. MoreSteps (same_step s ns j) (same_steps ss after_s j)

  pub same_target : (it : TargetTerm) (ns : List Note) → strip.strip_target (join.join_target it ns).0 ≡ it
  same_target (BareTarget name at) ns = refl
  same_target (ResultTarget at) ns = refl
  same_target (MemberTarget e name at) ns = λ j. MemberTarget (same_expr e ns j) name at

  pub same_stmt : (it : StmtTerm) (ns : List Note) → strip.strip_stmt (join.join_stmt it ns).0 ≡ it
  same_stmt (VarStmt name t o at) ns = let after_t = (join.join_optional_type t ns).1 in λ j. VarStmt name (same_optional_type t ns j) (same_optional_expr o after_t j) at
  same_stmt (AssignStmt t b e at) ns = let after_t = (join.join_target t ns).1 in λ j. AssignStmt (same_target t ns j) b (same_expr e after_t j) at
  same_stmt (ReturnStmt o at) ns = λ j. ReturnStmt (same_optional_expr o ns j) at
  same_stmt (ValueStmt e at) ns = λ j. ValueStmt (same_expr e ns j) at
  same_stmt (IfStmt e ss arms otherwise at) ns = let after_e = (join.join_expr e ns).1 in let after_ss = (join.join_stmts ss after_e).1 in let after_arms = (join.join_arms arms after_ss).1 in λ j. IfStmt (same_expr e ns j) (same_stmts ss after_e j) (same_arms arms after_ss j) (same_else otherwise after_arms j) at
  same_stmt (WhileStmt e ss at) ns = let after_e = (join.join_expr e ns).1 in λ j. WhileStmt (same_expr e ns j) (same_stmts ss after_e j) at
  same_stmt (ForEachStmt e name t o ss at) ns = let after_e = (join.join_expr e ns).1 in let after_t = (join.join_optional_type t after_e).1 in let after_o = (join.join_optional_expr o after_t).1 in λ j. ForEachStmt (same_expr e ns j) name (same_optional_type t after_e j) (same_optional_expr o after_t j) (same_stmts ss after_o j) at

  pub same_stmts : (it : StmtTerms) (ns : List Note) → strip.strip_stmts (join.join_stmts it ns).0 ≡ it
  same_stmts NoStmts ns = refl
  same_stmts (MoreStmts s ss) ns = let after_s = (join.join_stmt s ns).1 in λ j. MoreStmts (same_stmt s ns j) (same_stmts ss after_s j)

  pub same_else : (it : ElseTerm) (ns : List Note) → strip.strip_else (join.join_else it ns).0 ≡ it
  same_else NoElse ns = refl
  same_else (ElseOf ss) ns = λ j. ElseOf (same_stmts ss ns j)

  pub same_arm : (it : ArmTerm) (ns : List Note) → strip.strip_arm (join.join_arm it ns).0 ≡ it
  same_arm (ArmOf e ss) ns = let after_e = (join.join_expr e ns).1 in λ j. ArmOf (same_expr e ns j) (same_stmts ss after_e j)

  pub same_arms : (it : ArmTerms) (ns : List Note) → strip.strip_arms (join.join_arms it ns).0 ≡ it
  same_arms NoArms ns = refl
  same_arms (MoreArms a arms) ns = let after_a = (join.join_arm a ns).1 in λ j. MoreArms (same_arm a ns j) (same_arms arms after_a j)
