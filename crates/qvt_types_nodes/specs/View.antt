-- The plain typed tree of a typed tree of the program. Each cycle of types is seen by one fold, with one step for each of
-- its types.
use Rattle.std.specs.Prelude.{List, [], ◌∷◌, map, Option, Some, None, Box}
use Rattle.std.specs.declared.alloc.Global.{Global}
use Rattle.qvt_types_nodes.specs.Tree.{TypedTypeTerm, TypedExprTerm, TypedExprTerms, TypedOptionalExpr, TypedOptionalArgs, TypedLinkTerm, TypedLinkTerms, TypedItemTerm, TypedRangeTerm, TypedItemTerms, TypedMapTerm, TypedResolveTerm, TypedFilterTerm, TypedHeadTerm, TypedAccumulatorTerm, TypedStepTerm, TypedStepTerms, TypedTargetTerm, TypedStmtTerm, TypedStmtTerms, TypedElseTerm, TypedArmTerm, TypedArmTerms}
use Rattle.qvt_types_nodes.specs.Tree.{TypedCollType, TypedPathType, TypedIntExpr, TypedStrExpr, TypedBoolExpr, TypedNullExpr, TypedSelfExpr, TypedResultExpr, TypedPathExpr, TypedCallExpr, TypedCollExpr, TypedIfExpr, TypedObjectExpr, TypedNewExpr, TypedMapExpr, TypedResolveExpr, TypedChainExpr, TypedPrefixExpr, TypedPostExpr, TypedNoExprs, TypedMoreExprs, TypedNoExpr, TypedSomeExpr, TypedNoArgs, TypedSomeArgs, TypedLinkOf, TypedNoLinks, TypedMoreLinks, TypedItemOf, TypedNoRange, TypedRangeTo, TypedNoItems, TypedMoreItems, TypedMapOf, TypedResolveOf, TypedNoFilter, TypedFilterOf, TypedNoHead, TypedHeadOf, TypedNoAccumulator, TypedAccumulatorOf, TypedDotStep, TypedArrowStep, TypedDotMapStep, TypedArrowMapStep, TypedDotResolveStep, TypedArrowResolveStep, TypedNoSteps, TypedMoreSteps, TypedBareTarget, TypedResultTarget, TypedMemberTarget, TypedVarStmt, TypedAssignStmt, TypedReturnStmt, TypedValueStmt, TypedIfStmt, TypedWhileStmt, TypedForEachStmt, TypedNoStmts, TypedMoreStmts, TypedNoElse, TypedElseOf, TypedArmOf, TypedNoArms, TypedMoreArms}
use Rattle.qvt_types_nodes.specs.declared.types.TypedTypeTree.{TypedTypeTree, fold-TypedTypeTree}
use Rattle.qvt_types_nodes.specs.declared.types.TypedTypeTree.TheOpen.{TypedTypeTree-F}
use Rattle.qvt_types_nodes.specs.declared.tree.TypedExpr.{TypedExpr}
use Rattle.qvt_types_nodes.specs.declared.tree.TypedStep.{TypedStep}
use Rattle.qvt_types_nodes.specs.declared.tree.TypedStmt.{TypedStmt}
use Rattle.qvt_types_nodes.specs.declared.tree.TypedTarget.{TypedTarget}
use Rattle.qvt_types_nodes.specs.declared.tree.TypedAccumulator.{TypedAccumulator}
use Rattle.qvt_types_nodes.specs.declared.tree.TypedArm.{TypedArm}
use Rattle.qvt_types_nodes.specs.declared.tree.TypedFilter.{TypedFilter}
use Rattle.qvt_types_nodes.specs.declared.tree.TypedHead.{TypedHead}
use Rattle.qvt_types_nodes.specs.declared.tree.TypedItem.{TypedItem}
use Rattle.qvt_types_nodes.specs.declared.tree.TypedLink.{TypedLink}
use Rattle.qvt_types_nodes.specs.declared.tree.TypedMapCall.{TypedMapCall}
use Rattle.qvt_types_nodes.specs.declared.tree.TypedRangeEnd.{TypedRangeEnd}
use Rattle.qvt_types_nodes.specs.declared.tree.TypedResolveCall.{TypedResolveCall}
use Rattle.qvt_types_nodes.specs.declared.tree.TypedExpr.TheOpen.{TypedAccumulator-F, TypedArm-F, TypedExpr-F, TypedFilter-F, TypedHead-F, TypedItem-F, TypedLink-F, TypedMapCall-F, TypedRangeEnd-F, TypedResolveCall-F, TypedStep-F, TypedStmt-F, TypedTarget-F}
use Rattle.qvt_types_nodes.specs.declared.tree.TypedExpr.TheFolds.{fold-TypedAccumulator, fold-TypedArm, fold-TypedExpr, fold-TypedFilter, fold-TypedHead, fold-TypedItem, fold-TypedLink, fold-TypedMapCall, fold-TypedRangeEnd, fold-TypedResolveCall, fold-TypedStep, fold-TypedStmt, fold-TypedTarget}

abbrev pub typed_type_step : TypedTypeTree-F TypedTypeTerm → TypedTypeTerm
typed_type_step (TypedTypeTree-F.Coll kind item place note) = TypedCollType kind item.value place note
typed_type_step (TypedTypeTree-F.Path path) = TypedPathType path

abbrev pub typed_type_view : TypedTypeTree → TypedTypeTerm
typed_type_view = fold-TypedTypeTree TypedTypeTerm typed_type_step

abbrev pub typed_exprs_of : List TypedExprTerm → TypedExprTerms
typed_exprs_of [] = TypedNoExprs
typed_exprs_of (e ∷ es) = TypedMoreExprs e (typed_exprs_of es)

abbrev pub typed_links_of : List TypedLinkTerm → TypedLinkTerms
typed_links_of [] = TypedNoLinks
typed_links_of (l ∷ ls) = TypedMoreLinks l (typed_links_of ls)

abbrev pub typed_items_of : List TypedItemTerm → TypedItemTerms
typed_items_of [] = TypedNoItems
typed_items_of (i ∷ is) = TypedMoreItems i (typed_items_of is)

abbrev pub typed_steps_of : List TypedStepTerm → TypedStepTerms
typed_steps_of [] = TypedNoSteps
typed_steps_of (s ∷ ss) = TypedMoreSteps s (typed_steps_of ss)

abbrev pub typed_stmts_of : List TypedStmtTerm → TypedStmtTerms
typed_stmts_of [] = TypedNoStmts
typed_stmts_of (s ∷ ss) = TypedMoreStmts s (typed_stmts_of ss)

abbrev pub typed_arms_of : List TypedArmTerm → TypedArmTerms
typed_arms_of [] = TypedNoArms
typed_arms_of (a ∷ arms) = TypedMoreArms a (typed_arms_of arms)

abbrev pub typed_optional_expr : Option TypedExprTerm → TypedOptionalExpr
typed_optional_expr None = TypedNoExpr
typed_optional_expr (Some e) = TypedSomeExpr e

abbrev pub typed_optional_args : Option (List TypedExprTerm) → TypedOptionalArgs
typed_optional_args None = TypedNoArgs
typed_optional_args (Some es) = TypedSomeArgs (typed_exprs_of es)

abbrev pub typed_optional_range : Option TypedRangeTerm → TypedRangeTerm
typed_optional_range None = TypedNoRange
typed_optional_range (Some r) = r

abbrev pub typed_optional_head : Option TypedHeadTerm → TypedHeadTerm
typed_optional_head None = TypedNoHead
typed_optional_head (Some h) = h

abbrev pub typed_optional_else : Option (List TypedStmtTerm) → TypedElseTerm
typed_optional_else None = TypedNoElse
typed_optional_else (Some ss) = TypedElseOf (typed_stmts_of ss)

abbrev pub typed_optional_type : Option TypedTypeTree → Option TypedTypeTerm
typed_optional_type None = None
typed_optional_type (Some t) = Some (typed_type_view t)

abbrev pub typed_boxed_filter : Option (Box TypedFilterTerm Global) → TypedFilterTerm
typed_boxed_filter None = TypedNoFilter
typed_boxed_filter (Some f) = f.value

abbrev pub typed_boxed_accumulator : Option (Box TypedAccumulatorTerm Global) → TypedAccumulatorTerm
typed_boxed_accumulator None = TypedNoAccumulator
typed_boxed_accumulator (Some a) = a.value

abbrev pub typed_optional_boxed : Option (Box TypedExprTerm Global) → TypedOptionalExpr
typed_optional_boxed None = TypedNoExpr
typed_optional_boxed (Some e) = TypedSomeExpr e.value

abbrev pub typed_expr_step : TypedExpr-F TypedExprTerm TypedStepTerm TypedStmtTerm TypedTargetTerm TypedAccumulatorTerm TypedArmTerm TypedFilterTerm TypedHeadTerm TypedItemTerm TypedLinkTerm TypedMapTerm TypedRangeTerm TypedResolveTerm → TypedExprTerm
typed_expr_step (TypedExpr-F.Int value place note) = TypedIntExpr value place note
typed_expr_step (TypedExpr-F.Str value place note) = TypedStrExpr value place note
typed_expr_step (TypedExpr-F.Bool value place note) = TypedBoolExpr value place note
typed_expr_step (TypedExpr-F.Null place note) = TypedNullExpr place note
typed_expr_step (TypedExpr-F.SelfRef place note) = TypedSelfExpr place note
typed_expr_step (TypedExpr-F.ResultRef place note) = TypedResultExpr place note
typed_expr_step (TypedExpr-F.Path path) = TypedPathExpr path
typed_expr_step (TypedExpr-F.Call name args place note) = TypedCallExpr name (typed_exprs_of args) place note
typed_expr_step (TypedExpr-F.Coll kind items place note) = TypedCollExpr kind (typed_items_of items) place note
typed_expr_step (TypedExpr-F.«TypedExpr::If» condition one other place note) = TypedIfExpr condition.value one.value other.value place note
typed_expr_step (TypedExpr-F.Object variable path extent body place note) = TypedObjectExpr variable path extent (typed_stmts_of body) place note
typed_expr_step (TypedExpr-F.New path extent args place note) = TypedNewExpr path extent (typed_exprs_of args) place note
typed_expr_step (TypedExpr-F.Map call) = TypedMapExpr call
typed_expr_step (TypedExpr-F.Resolve call) = TypedResolveExpr call
typed_expr_step (TypedExpr-F.Chain level first rest place note) = TypedChainExpr level first.value (typed_links_of rest) place note
typed_expr_step (TypedExpr-F.Prefix signs operand place note) = TypedPrefixExpr signs operand.value place note
typed_expr_step (TypedExpr-F.Post first steps place note) = TypedPostExpr first.value (typed_steps_of steps) place note

abbrev pub typed_step_step : TypedStep-F TypedExprTerm TypedStepTerm TypedStmtTerm TypedTargetTerm TypedAccumulatorTerm TypedArmTerm TypedFilterTerm TypedHeadTerm TypedItemTerm TypedLinkTerm TypedMapTerm TypedRangeTerm TypedResolveTerm → TypedStepTerm
typed_step_step (TypedStep-F.Dot name args place note) = TypedDotStep name (typed_optional_args args) place note
typed_step_step (TypedStep-F.Arrow name head args place note) = TypedArrowStep name (typed_optional_head head) (typed_exprs_of args) place note
typed_step_step (TypedStep-F.DotMap call) = TypedDotMapStep call
typed_step_step (TypedStep-F.ArrowMap call) = TypedArrowMapStep call
typed_step_step (TypedStep-F.DotResolve call) = TypedDotResolveStep call
typed_step_step (TypedStep-F.ArrowResolve call) = TypedArrowResolveStep call

abbrev pub typed_stmt_step : TypedStmt-F TypedExprTerm TypedStepTerm TypedStmtTerm TypedTargetTerm TypedAccumulatorTerm TypedArmTerm TypedFilterTerm TypedHeadTerm TypedItemTerm TypedLinkTerm TypedMapTerm TypedRangeTerm TypedResolveTerm → TypedStmtTerm
typed_stmt_step (TypedStmt-F.Var name kind value place note) = TypedVarStmt name (typed_optional_type kind) (typed_optional_expr value) place note
typed_stmt_step (TypedStmt-F.Assign target adds value place note) = TypedAssignStmt target.value adds value place note
typed_stmt_step (TypedStmt-F.Return value place note) = TypedReturnStmt (typed_optional_expr value) place note
typed_stmt_step (TypedStmt-F.Value value place note) = TypedValueStmt value place note
typed_stmt_step (TypedStmt-F.«TypedStmt::If» condition body arms otherwise place note) = TypedIfStmt condition (typed_stmts_of body) (typed_arms_of arms) (typed_optional_else otherwise) place note
typed_stmt_step (TypedStmt-F.While condition body place note) = TypedWhileStmt condition (typed_stmts_of body) place note
typed_stmt_step (TypedStmt-F.ForEach source name kind condition body place note) = TypedForEachStmt source name (typed_optional_type kind) (typed_optional_boxed condition) (typed_stmts_of body) place note

abbrev pub typed_target_step : TypedTarget-F TypedExprTerm TypedStepTerm TypedStmtTerm TypedTargetTerm TypedAccumulatorTerm TypedArmTerm TypedFilterTerm TypedHeadTerm TypedItemTerm TypedLinkTerm TypedMapTerm TypedRangeTerm TypedResolveTerm → TypedTargetTerm
typed_target_step (TypedTarget-F.Bare name place note) = TypedBareTarget name place note
typed_target_step (TypedTarget-F.ResultVar place note) = TypedResultTarget place note
typed_target_step (TypedTarget-F.Member object name place note) = TypedMemberTarget object name place note

abbrev pub typed_accumulator_step : TypedAccumulator-F TypedExprTerm TypedStepTerm TypedStmtTerm TypedTargetTerm TypedAccumulatorTerm TypedArmTerm TypedFilterTerm TypedHeadTerm TypedItemTerm TypedLinkTerm TypedMapTerm TypedRangeTerm TypedResolveTerm → TypedAccumulatorTerm
typed_accumulator_step a = TypedAccumulatorOf a.name (typed_type_view a.kind) a.first a.place a.note

abbrev pub typed_arm_step : TypedArm-F TypedExprTerm TypedStepTerm TypedStmtTerm TypedTargetTerm TypedAccumulatorTerm TypedArmTerm TypedFilterTerm TypedHeadTerm TypedItemTerm TypedLinkTerm TypedMapTerm TypedRangeTerm TypedResolveTerm → TypedArmTerm
typed_arm_step a = TypedArmOf a.condition (typed_stmts_of a.body)

abbrev pub typed_filter_step : TypedFilter-F TypedExprTerm TypedStepTerm TypedStmtTerm TypedTargetTerm TypedAccumulatorTerm TypedArmTerm TypedFilterTerm TypedHeadTerm TypedItemTerm TypedLinkTerm TypedMapTerm TypedRangeTerm TypedResolveTerm → TypedFilterTerm
typed_filter_step f = TypedFilterOf f.name (typed_type_view f.kind) (typed_optional_boxed f.condition) f.place f.note

abbrev pub typed_head_step : TypedHead-F TypedExprTerm TypedStepTerm TypedStmtTerm TypedTargetTerm TypedAccumulatorTerm TypedArmTerm TypedFilterTerm TypedHeadTerm TypedItemTerm TypedLinkTerm TypedMapTerm TypedRangeTerm TypedResolveTerm → TypedHeadTerm
typed_head_step h = TypedHeadOf h.name (typed_optional_type h.kind) (typed_boxed_accumulator h.accumulator) h.place h.note

abbrev pub typed_item_step : TypedItem-F TypedExprTerm TypedStepTerm TypedStmtTerm TypedTargetTerm TypedAccumulatorTerm TypedArmTerm TypedFilterTerm TypedHeadTerm TypedItemTerm TypedLinkTerm TypedMapTerm TypedRangeTerm TypedResolveTerm → TypedItemTerm
typed_item_step i = TypedItemOf i.first (typed_optional_range i.last) i.place i.note

abbrev pub typed_link_step : TypedLink-F TypedExprTerm TypedStepTerm TypedStmtTerm TypedTargetTerm TypedAccumulatorTerm TypedArmTerm TypedFilterTerm TypedHeadTerm TypedItemTerm TypedLinkTerm TypedMapTerm TypedRangeTerm TypedResolveTerm → TypedLinkTerm
typed_link_step l = TypedLinkOf l.op l.operand l.place l.note

abbrev pub typed_map_step : TypedMapCall-F TypedExprTerm TypedStepTerm TypedStmtTerm TypedTargetTerm TypedAccumulatorTerm TypedArmTerm TypedFilterTerm TypedHeadTerm TypedItemTerm TypedLinkTerm TypedMapTerm TypedRangeTerm TypedResolveTerm → TypedMapTerm
typed_map_step m = TypedMapOf m.strict m.name (typed_exprs_of m.args) m.place m.note

abbrev pub typed_range_step : TypedRangeEnd-F TypedExprTerm TypedStepTerm TypedStmtTerm TypedTargetTerm TypedAccumulatorTerm TypedArmTerm TypedFilterTerm TypedHeadTerm TypedItemTerm TypedLinkTerm TypedMapTerm TypedRangeTerm TypedResolveTerm → TypedRangeTerm
typed_range_step r = TypedRangeTo r.last r.place r.note

abbrev pub typed_resolve_step : TypedResolveCall-F TypedExprTerm TypedStepTerm TypedStmtTerm TypedTargetTerm TypedAccumulatorTerm TypedArmTerm TypedFilterTerm TypedHeadTerm TypedItemTerm TypedLinkTerm TypedMapTerm TypedRangeTerm TypedResolveTerm → TypedResolveTerm
typed_resolve_step r = TypedResolveOf r.late r.word r.within (typed_boxed_filter r.filter) r.place r.note

abbrev pub typed_expr_view : TypedExpr → TypedExprTerm
typed_expr_view = fold-TypedExpr TypedExprTerm TypedStepTerm TypedStmtTerm TypedTargetTerm TypedAccumulatorTerm TypedArmTerm TypedFilterTerm TypedHeadTerm TypedItemTerm TypedLinkTerm TypedMapTerm TypedRangeTerm TypedResolveTerm typed_expr_step typed_step_step typed_stmt_step typed_target_step typed_accumulator_step typed_arm_step typed_filter_step typed_head_step typed_item_step typed_link_step typed_map_step typed_range_step typed_resolve_step

abbrev pub typed_step_view : TypedStep → TypedStepTerm
typed_step_view = fold-TypedStep TypedExprTerm TypedStepTerm TypedStmtTerm TypedTargetTerm TypedAccumulatorTerm TypedArmTerm TypedFilterTerm TypedHeadTerm TypedItemTerm TypedLinkTerm TypedMapTerm TypedRangeTerm TypedResolveTerm typed_expr_step typed_step_step typed_stmt_step typed_target_step typed_accumulator_step typed_arm_step typed_filter_step typed_head_step typed_item_step typed_link_step typed_map_step typed_range_step typed_resolve_step

abbrev pub typed_stmt_view : TypedStmt → TypedStmtTerm
typed_stmt_view = fold-TypedStmt TypedExprTerm TypedStepTerm TypedStmtTerm TypedTargetTerm TypedAccumulatorTerm TypedArmTerm TypedFilterTerm TypedHeadTerm TypedItemTerm TypedLinkTerm TypedMapTerm TypedRangeTerm TypedResolveTerm typed_expr_step typed_step_step typed_stmt_step typed_target_step typed_accumulator_step typed_arm_step typed_filter_step typed_head_step typed_item_step typed_link_step typed_map_step typed_range_step typed_resolve_step

abbrev pub typed_target_view : TypedTarget → TypedTargetTerm
typed_target_view = fold-TypedTarget TypedExprTerm TypedStepTerm TypedStmtTerm TypedTargetTerm TypedAccumulatorTerm TypedArmTerm TypedFilterTerm TypedHeadTerm TypedItemTerm TypedLinkTerm TypedMapTerm TypedRangeTerm TypedResolveTerm typed_expr_step typed_step_step typed_stmt_step typed_target_step typed_accumulator_step typed_arm_step typed_filter_step typed_head_step typed_item_step typed_link_step typed_map_step typed_range_step typed_resolve_step

abbrev pub typed_accumulator_view : TypedAccumulator → TypedAccumulatorTerm
typed_accumulator_view = fold-TypedAccumulator TypedExprTerm TypedStepTerm TypedStmtTerm TypedTargetTerm TypedAccumulatorTerm TypedArmTerm TypedFilterTerm TypedHeadTerm TypedItemTerm TypedLinkTerm TypedMapTerm TypedRangeTerm TypedResolveTerm typed_expr_step typed_step_step typed_stmt_step typed_target_step typed_accumulator_step typed_arm_step typed_filter_step typed_head_step typed_item_step typed_link_step typed_map_step typed_range_step typed_resolve_step

abbrev pub typed_arm_view : TypedArm → TypedArmTerm
typed_arm_view = fold-TypedArm TypedExprTerm TypedStepTerm TypedStmtTerm TypedTargetTerm TypedAccumulatorTerm TypedArmTerm TypedFilterTerm TypedHeadTerm TypedItemTerm TypedLinkTerm TypedMapTerm TypedRangeTerm TypedResolveTerm typed_expr_step typed_step_step typed_stmt_step typed_target_step typed_accumulator_step typed_arm_step typed_filter_step typed_head_step typed_item_step typed_link_step typed_map_step typed_range_step typed_resolve_step

abbrev pub typed_filter_view : TypedFilter → TypedFilterTerm
typed_filter_view = fold-TypedFilter TypedExprTerm TypedStepTerm TypedStmtTerm TypedTargetTerm TypedAccumulatorTerm TypedArmTerm TypedFilterTerm TypedHeadTerm TypedItemTerm TypedLinkTerm TypedMapTerm TypedRangeTerm TypedResolveTerm typed_expr_step typed_step_step typed_stmt_step typed_target_step typed_accumulator_step typed_arm_step typed_filter_step typed_head_step typed_item_step typed_link_step typed_map_step typed_range_step typed_resolve_step

abbrev pub typed_head_view : TypedHead → TypedHeadTerm
typed_head_view = fold-TypedHead TypedExprTerm TypedStepTerm TypedStmtTerm TypedTargetTerm TypedAccumulatorTerm TypedArmTerm TypedFilterTerm TypedHeadTerm TypedItemTerm TypedLinkTerm TypedMapTerm TypedRangeTerm TypedResolveTerm typed_expr_step typed_step_step typed_stmt_step typed_target_step typed_accumulator_step typed_arm_step typed_filter_step typed_head_step typed_item_step typed_link_step typed_map_step typed_range_step typed_resolve_step

abbrev pub typed_item_view : TypedItem → TypedItemTerm
typed_item_view = fold-TypedItem TypedExprTerm TypedStepTerm TypedStmtTerm TypedTargetTerm TypedAccumulatorTerm TypedArmTerm TypedFilterTerm TypedHeadTerm TypedItemTerm TypedLinkTerm TypedMapTerm TypedRangeTerm TypedResolveTerm typed_expr_step typed_step_step typed_stmt_step typed_target_step typed_accumulator_step typed_arm_step typed_filter_step typed_head_step typed_item_step typed_link_step typed_map_step typed_range_step typed_resolve_step

abbrev pub typed_link_view : TypedLink → TypedLinkTerm
typed_link_view = fold-TypedLink TypedExprTerm TypedStepTerm TypedStmtTerm TypedTargetTerm TypedAccumulatorTerm TypedArmTerm TypedFilterTerm TypedHeadTerm TypedItemTerm TypedLinkTerm TypedMapTerm TypedRangeTerm TypedResolveTerm typed_expr_step typed_step_step typed_stmt_step typed_target_step typed_accumulator_step typed_arm_step typed_filter_step typed_head_step typed_item_step typed_link_step typed_map_step typed_range_step typed_resolve_step

abbrev pub typed_map_view : TypedMapCall → TypedMapTerm
typed_map_view = fold-TypedMapCall TypedExprTerm TypedStepTerm TypedStmtTerm TypedTargetTerm TypedAccumulatorTerm TypedArmTerm TypedFilterTerm TypedHeadTerm TypedItemTerm TypedLinkTerm TypedMapTerm TypedRangeTerm TypedResolveTerm typed_expr_step typed_step_step typed_stmt_step typed_target_step typed_accumulator_step typed_arm_step typed_filter_step typed_head_step typed_item_step typed_link_step typed_map_step typed_range_step typed_resolve_step

abbrev pub typed_range_view : TypedRangeEnd → TypedRangeTerm
typed_range_view = fold-TypedRangeEnd TypedExprTerm TypedStepTerm TypedStmtTerm TypedTargetTerm TypedAccumulatorTerm TypedArmTerm TypedFilterTerm TypedHeadTerm TypedItemTerm TypedLinkTerm TypedMapTerm TypedRangeTerm TypedResolveTerm typed_expr_step typed_step_step typed_stmt_step typed_target_step typed_accumulator_step typed_arm_step typed_filter_step typed_head_step typed_item_step typed_link_step typed_map_step typed_range_step typed_resolve_step

abbrev pub typed_resolve_view : TypedResolveCall → TypedResolveTerm
typed_resolve_view = fold-TypedResolveCall TypedExprTerm TypedStepTerm TypedStmtTerm TypedTargetTerm TypedAccumulatorTerm TypedArmTerm TypedFilterTerm TypedHeadTerm TypedItemTerm TypedLinkTerm TypedMapTerm TypedRangeTerm TypedResolveTerm typed_expr_step typed_step_step typed_stmt_step typed_target_step typed_accumulator_step typed_arm_step typed_filter_step typed_head_step typed_item_step typed_link_step typed_map_step typed_range_step typed_resolve_step

-- a block's statements
abbrev pub typed_block_view : List TypedStmt → TypedStmtTerms
typed_block_view ss = typed_stmts_of (map typed_stmt_view ss)

-- what stands in a box that may be missing
abbrev pub typed_boxed_view : Option (Box TypedExpr Global) → TypedOptionalExpr
typed_boxed_view None = TypedNoExpr
typed_boxed_view (Some e) = TypedSomeExpr (typed_expr_view e.value)

abbrev pub typed_boxed_filter_view : Option (Box TypedFilter Global) → TypedFilterTerm
typed_boxed_filter_view None = TypedNoFilter
typed_boxed_filter_view (Some f) = typed_filter_view f.value

abbrev pub typed_boxed_accumulator_view : Option (Box TypedAccumulator Global) → TypedAccumulatorTerm
typed_boxed_accumulator_view None = TypedNoAccumulator
typed_boxed_accumulator_view (Some a) = typed_accumulator_view a.value
