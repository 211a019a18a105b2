-- The plain tree of a tree of the program. Each cycle of types is seen by one fold, with one step for each of its types.
use Rattle.std.specs.Prelude.{List, [], ◌∷◌, map, Option, Some, None, Box}
use Rattle.std.specs.declared.alloc.Global.{Global}
use Rattle.qvt_tree_types.specs.Tree.{TypeTerm, CollType, PathType, ExprTerm, ExprTerms, OptionalExpr, OptionalArgs, LinkTerm, LinkTerms, ItemTerm, RangeTerm, ItemTerms, MapTerm, ResolveTerm, FilterTerm, HeadTerm, AccumulatorTerm, StepTerm, StepTerms, TargetTerm, StmtTerm, StmtTerms, ElseTerm, ArmTerm, ArmTerms}
use Rattle.qvt_tree_types.specs.Tree.{IntExpr, StrExpr, BoolExpr, NullExpr, SelfExpr, ResultExpr, PathExpr, CallExpr, CollExpr, IfExpr, ObjectExpr, NewExpr, MapExpr, ResolveExpr, ChainExpr, PrefixExpr, PostExpr, NoExprs, MoreExprs, NoExpr, SomeExpr, NoArgs, SomeArgs, LinkOf, NoLinks, MoreLinks, ItemOf, NoRange, RangeTo, NoItems, MoreItems, MapOf, ResolveOf, NoFilter, FilterOf, NoHead, HeadOf, NoAccumulator, AccumulatorOf, DotStep, ArrowStep, DotMapStep, ArrowMapStep, DotResolveStep, ArrowResolveStep, NoSteps, MoreSteps, BareTarget, ResultTarget, MemberTarget, VarStmt, AssignStmt, ReturnStmt, ValueStmt, IfStmt, WhileStmt, ForEachStmt, NoStmts, MoreStmts, NoElse, ElseOf, ArmOf, NoArms, MoreArms}
use Rattle.qvt_tree_types.specs.declared.types.TypeTree.{TypeTree, fold-TypeTree}
use Rattle.qvt_tree_types.specs.declared.types.TypeTree.TheOpen.{TypeTree-F}
use Rattle.qvt_tree_types.specs.declared.tree.Expr.{Expr}
use Rattle.qvt_tree_types.specs.declared.tree.Step.{Step}
use Rattle.qvt_tree_types.specs.declared.tree.Stmt.{Stmt}
use Rattle.qvt_tree_types.specs.declared.tree.Target.{Target}
use Rattle.qvt_tree_types.specs.declared.tree.Accumulator.{Accumulator}
use Rattle.qvt_tree_types.specs.declared.tree.Arm.{Arm}
use Rattle.qvt_tree_types.specs.declared.tree.Filter.{Filter}
use Rattle.qvt_tree_types.specs.declared.tree.Head.{Head}
use Rattle.qvt_tree_types.specs.declared.tree.Item.{Item}
use Rattle.qvt_tree_types.specs.declared.tree.Link.{Link}
use Rattle.qvt_tree_types.specs.declared.tree.MapCall.{MapCall}
use Rattle.qvt_tree_types.specs.declared.tree.RangeEnd.{RangeEnd}
use Rattle.qvt_tree_types.specs.declared.tree.ResolveCall.{ResolveCall}
use Rattle.qvt_tree_types.specs.declared.tree.Expr.TheOpen.{Accumulator-F, Arm-F, Expr-F, Filter-F, Head-F, Item-F, Link-F, MapCall-F, RangeEnd-F, ResolveCall-F, Step-F, Stmt-F, Target-F}
use Rattle.qvt_tree_types.specs.declared.tree.Expr.TheFolds.{fold-Accumulator, fold-Arm, fold-Expr, fold-Filter, fold-Head, fold-Item, fold-Link, fold-MapCall, fold-RangeEnd, fold-ResolveCall, fold-Step, fold-Stmt, fold-Target}

abbrev pub type_step : TypeTree-F TypeTerm → TypeTerm
type_step (TypeTree-F.Coll kind item place) = CollType kind item.value place
type_step (TypeTree-F.Path path) = PathType path

abbrev pub type_view : TypeTree → TypeTerm
type_view = fold-TypeTree TypeTerm type_step

abbrev pub exprs_of : List ExprTerm → ExprTerms
exprs_of [] = NoExprs
exprs_of (e ∷ es) = MoreExprs e (exprs_of es)

abbrev pub links_of : List LinkTerm → LinkTerms
links_of [] = NoLinks
links_of (l ∷ ls) = MoreLinks l (links_of ls)

abbrev pub items_of : List ItemTerm → ItemTerms
items_of [] = NoItems
items_of (i ∷ is) = MoreItems i (items_of is)

abbrev pub steps_of : List StepTerm → StepTerms
steps_of [] = NoSteps
steps_of (s ∷ ss) = MoreSteps s (steps_of ss)

abbrev pub stmts_of : List StmtTerm → StmtTerms
stmts_of [] = NoStmts
stmts_of (s ∷ ss) = MoreStmts s (stmts_of ss)

abbrev pub arms_of : List ArmTerm → ArmTerms
arms_of [] = NoArms
arms_of (a ∷ arms) = MoreArms a (arms_of arms)

abbrev pub optional_expr : Option ExprTerm → OptionalExpr
optional_expr None = NoExpr
optional_expr (Some e) = SomeExpr e

abbrev pub optional_args : Option (List ExprTerm) → OptionalArgs
optional_args None = NoArgs
optional_args (Some es) = SomeArgs (exprs_of es)

abbrev pub optional_range : Option RangeTerm → RangeTerm
optional_range None = NoRange
optional_range (Some r) = r

abbrev pub optional_filter : Option FilterTerm → FilterTerm
optional_filter None = NoFilter
optional_filter (Some f) = f

abbrev pub optional_head : Option HeadTerm → HeadTerm
optional_head None = NoHead
optional_head (Some h) = h

abbrev pub optional_accumulator : Option AccumulatorTerm → AccumulatorTerm
optional_accumulator None = NoAccumulator
optional_accumulator (Some a) = a

abbrev pub optional_else : Option (List StmtTerm) → ElseTerm
optional_else None = NoElse
optional_else (Some ss) = ElseOf (stmts_of ss)

abbrev pub optional_type : Option TypeTree → Option TypeTerm
optional_type None = None
optional_type (Some t) = Some (type_view t)

abbrev pub optional_boxed : Option (Box ExprTerm Global) → OptionalExpr
optional_boxed None = NoExpr
optional_boxed (Some e) = SomeExpr e.value

abbrev pub expr_step : Expr-F ExprTerm StepTerm StmtTerm TargetTerm AccumulatorTerm ArmTerm FilterTerm HeadTerm ItemTerm LinkTerm MapTerm RangeTerm ResolveTerm → ExprTerm
expr_step (Expr-F.Int value place) = IntExpr value place
expr_step (Expr-F.Str value place) = StrExpr value place
expr_step (Expr-F.Bool value place) = BoolExpr value place
expr_step (Expr-F.Null place) = NullExpr place
expr_step (Expr-F.SelfRef place) = SelfExpr place
expr_step (Expr-F.ResultRef place) = ResultExpr place
expr_step (Expr-F.Path path) = PathExpr path
expr_step (Expr-F.Call name args place) = CallExpr name (exprs_of args) place
expr_step (Expr-F.Coll kind items place) = CollExpr kind (items_of items) place
expr_step (Expr-F.«Expr::If» condition one other place) = IfExpr condition.value one.value other.value place
expr_step (Expr-F.Object variable path extent body place) = ObjectExpr variable path extent (stmts_of body) place
expr_step (Expr-F.New path extent args place) = NewExpr path extent (exprs_of args) place
expr_step (Expr-F.Map call) = MapExpr call
expr_step (Expr-F.Resolve call) = ResolveExpr call
expr_step (Expr-F.Chain level first rest place) = ChainExpr level first.value (links_of rest) place
expr_step (Expr-F.Prefix signs operand place) = PrefixExpr signs operand.value place
expr_step (Expr-F.Post first steps place) = PostExpr first.value (steps_of steps) place

abbrev pub step_step : Step-F ExprTerm StepTerm StmtTerm TargetTerm AccumulatorTerm ArmTerm FilterTerm HeadTerm ItemTerm LinkTerm MapTerm RangeTerm ResolveTerm → StepTerm
step_step (Step-F.Dot name args place) = DotStep name (optional_args args) place
step_step (Step-F.Arrow name head args place) = ArrowStep name (optional_head head) (exprs_of args) place
step_step (Step-F.DotMap call) = DotMapStep call
step_step (Step-F.ArrowMap call) = ArrowMapStep call
step_step (Step-F.DotResolve call) = DotResolveStep call
step_step (Step-F.ArrowResolve call) = ArrowResolveStep call

abbrev pub stmt_step : Stmt-F ExprTerm StepTerm StmtTerm TargetTerm AccumulatorTerm ArmTerm FilterTerm HeadTerm ItemTerm LinkTerm MapTerm RangeTerm ResolveTerm → StmtTerm
stmt_step (Stmt-F.Var name kind value place) = VarStmt name (optional_type kind) (optional_expr value) place
stmt_step (Stmt-F.Assign target adds value place) = AssignStmt target adds value place
stmt_step (Stmt-F.Return value place) = ReturnStmt (optional_expr value) place
stmt_step (Stmt-F.Value value place) = ValueStmt value place
stmt_step (Stmt-F.«Stmt::If» condition body arms otherwise place) = IfStmt condition (stmts_of body) (arms_of arms) (optional_else otherwise) place
stmt_step (Stmt-F.While condition body place) = WhileStmt condition (stmts_of body) place
stmt_step (Stmt-F.ForEach source name kind condition body place) = ForEachStmt source name (optional_type kind) (optional_expr condition) (stmts_of body) place

abbrev pub target_step : Target-F ExprTerm StepTerm StmtTerm TargetTerm AccumulatorTerm ArmTerm FilterTerm HeadTerm ItemTerm LinkTerm MapTerm RangeTerm ResolveTerm → TargetTerm
target_step (Target-F.Bare name place) = BareTarget name place
target_step (Target-F.ResultVar place) = ResultTarget place
target_step (Target-F.Member object name place) = MemberTarget object name place

abbrev pub accumulator_step : Accumulator-F ExprTerm StepTerm StmtTerm TargetTerm AccumulatorTerm ArmTerm FilterTerm HeadTerm ItemTerm LinkTerm MapTerm RangeTerm ResolveTerm → AccumulatorTerm
accumulator_step a = AccumulatorOf a.name (type_view a.kind) a.first a.place

abbrev pub arm_step : Arm-F ExprTerm StepTerm StmtTerm TargetTerm AccumulatorTerm ArmTerm FilterTerm HeadTerm ItemTerm LinkTerm MapTerm RangeTerm ResolveTerm → ArmTerm
arm_step a = ArmOf a.condition (stmts_of a.body)

abbrev pub filter_step : Filter-F ExprTerm StepTerm StmtTerm TargetTerm AccumulatorTerm ArmTerm FilterTerm HeadTerm ItemTerm LinkTerm MapTerm RangeTerm ResolveTerm → FilterTerm
filter_step f = FilterOf f.name (type_view f.kind) (optional_boxed f.condition) f.place

abbrev pub head_step : Head-F ExprTerm StepTerm StmtTerm TargetTerm AccumulatorTerm ArmTerm FilterTerm HeadTerm ItemTerm LinkTerm MapTerm RangeTerm ResolveTerm → HeadTerm
head_step h = HeadOf h.name (optional_type h.kind) (optional_accumulator h.accumulator) h.place

abbrev pub item_step : Item-F ExprTerm StepTerm StmtTerm TargetTerm AccumulatorTerm ArmTerm FilterTerm HeadTerm ItemTerm LinkTerm MapTerm RangeTerm ResolveTerm → ItemTerm
item_step i = ItemOf i.first (optional_range i.last) i.place

abbrev pub link_step : Link-F ExprTerm StepTerm StmtTerm TargetTerm AccumulatorTerm ArmTerm FilterTerm HeadTerm ItemTerm LinkTerm MapTerm RangeTerm ResolveTerm → LinkTerm
link_step l = LinkOf l.op l.operand l.place

abbrev pub map_step : MapCall-F ExprTerm StepTerm StmtTerm TargetTerm AccumulatorTerm ArmTerm FilterTerm HeadTerm ItemTerm LinkTerm MapTerm RangeTerm ResolveTerm → MapTerm
map_step m = MapOf m.strict m.name (exprs_of m.args) m.place

abbrev pub range_step : RangeEnd-F ExprTerm StepTerm StmtTerm TargetTerm AccumulatorTerm ArmTerm FilterTerm HeadTerm ItemTerm LinkTerm MapTerm RangeTerm ResolveTerm → RangeTerm
range_step r = RangeTo r.last r.place

abbrev pub resolve_step : ResolveCall-F ExprTerm StepTerm StmtTerm TargetTerm AccumulatorTerm ArmTerm FilterTerm HeadTerm ItemTerm LinkTerm MapTerm RangeTerm ResolveTerm → ResolveTerm
resolve_step r = ResolveOf r.late r.word r.within (optional_filter r.filter) r.place

abbrev pub expr_view : Expr → ExprTerm
expr_view = fold-Expr ExprTerm StepTerm StmtTerm TargetTerm AccumulatorTerm ArmTerm FilterTerm HeadTerm ItemTerm LinkTerm MapTerm RangeTerm ResolveTerm expr_step step_step stmt_step target_step accumulator_step arm_step filter_step head_step item_step link_step map_step range_step resolve_step

abbrev pub step_view : Step → StepTerm
step_view = fold-Step ExprTerm StepTerm StmtTerm TargetTerm AccumulatorTerm ArmTerm FilterTerm HeadTerm ItemTerm LinkTerm MapTerm RangeTerm ResolveTerm expr_step step_step stmt_step target_step accumulator_step arm_step filter_step head_step item_step link_step map_step range_step resolve_step

abbrev pub stmt_view : Stmt → StmtTerm
stmt_view = fold-Stmt ExprTerm StepTerm StmtTerm TargetTerm AccumulatorTerm ArmTerm FilterTerm HeadTerm ItemTerm LinkTerm MapTerm RangeTerm ResolveTerm expr_step step_step stmt_step target_step accumulator_step arm_step filter_step head_step item_step link_step map_step range_step resolve_step

abbrev pub target_view : Target → TargetTerm
target_view = fold-Target ExprTerm StepTerm StmtTerm TargetTerm AccumulatorTerm ArmTerm FilterTerm HeadTerm ItemTerm LinkTerm MapTerm RangeTerm ResolveTerm expr_step step_step stmt_step target_step accumulator_step arm_step filter_step head_step item_step link_step map_step range_step resolve_step

abbrev pub accumulator_view : Accumulator → AccumulatorTerm
accumulator_view = fold-Accumulator ExprTerm StepTerm StmtTerm TargetTerm AccumulatorTerm ArmTerm FilterTerm HeadTerm ItemTerm LinkTerm MapTerm RangeTerm ResolveTerm expr_step step_step stmt_step target_step accumulator_step arm_step filter_step head_step item_step link_step map_step range_step resolve_step

abbrev pub arm_view : Arm → ArmTerm
arm_view = fold-Arm ExprTerm StepTerm StmtTerm TargetTerm AccumulatorTerm ArmTerm FilterTerm HeadTerm ItemTerm LinkTerm MapTerm RangeTerm ResolveTerm expr_step step_step stmt_step target_step accumulator_step arm_step filter_step head_step item_step link_step map_step range_step resolve_step

abbrev pub filter_view : Filter → FilterTerm
filter_view = fold-Filter ExprTerm StepTerm StmtTerm TargetTerm AccumulatorTerm ArmTerm FilterTerm HeadTerm ItemTerm LinkTerm MapTerm RangeTerm ResolveTerm expr_step step_step stmt_step target_step accumulator_step arm_step filter_step head_step item_step link_step map_step range_step resolve_step

abbrev pub head_view : Head → HeadTerm
head_view = fold-Head ExprTerm StepTerm StmtTerm TargetTerm AccumulatorTerm ArmTerm FilterTerm HeadTerm ItemTerm LinkTerm MapTerm RangeTerm ResolveTerm expr_step step_step stmt_step target_step accumulator_step arm_step filter_step head_step item_step link_step map_step range_step resolve_step

abbrev pub item_view : Item → ItemTerm
item_view = fold-Item ExprTerm StepTerm StmtTerm TargetTerm AccumulatorTerm ArmTerm FilterTerm HeadTerm ItemTerm LinkTerm MapTerm RangeTerm ResolveTerm expr_step step_step stmt_step target_step accumulator_step arm_step filter_step head_step item_step link_step map_step range_step resolve_step

abbrev pub link_view : Link → LinkTerm
link_view = fold-Link ExprTerm StepTerm StmtTerm TargetTerm AccumulatorTerm ArmTerm FilterTerm HeadTerm ItemTerm LinkTerm MapTerm RangeTerm ResolveTerm expr_step step_step stmt_step target_step accumulator_step arm_step filter_step head_step item_step link_step map_step range_step resolve_step

abbrev pub map_view : MapCall → MapTerm
map_view = fold-MapCall ExprTerm StepTerm StmtTerm TargetTerm AccumulatorTerm ArmTerm FilterTerm HeadTerm ItemTerm LinkTerm MapTerm RangeTerm ResolveTerm expr_step step_step stmt_step target_step accumulator_step arm_step filter_step head_step item_step link_step map_step range_step resolve_step

abbrev pub range_view : RangeEnd → RangeTerm
range_view = fold-RangeEnd ExprTerm StepTerm StmtTerm TargetTerm AccumulatorTerm ArmTerm FilterTerm HeadTerm ItemTerm LinkTerm MapTerm RangeTerm ResolveTerm expr_step step_step stmt_step target_step accumulator_step arm_step filter_step head_step item_step link_step map_step range_step resolve_step

abbrev pub resolve_view : ResolveCall → ResolveTerm
resolve_view = fold-ResolveCall ExprTerm StepTerm StmtTerm TargetTerm AccumulatorTerm ArmTerm FilterTerm HeadTerm ItemTerm LinkTerm MapTerm RangeTerm ResolveTerm expr_step step_step stmt_step target_step accumulator_step arm_step filter_step head_step item_step link_step map_step range_step resolve_step

-- a block's statements
abbrev pub block_view : List Stmt → StmtTerms
block_view ss = stmts_of (map stmt_view ss)
