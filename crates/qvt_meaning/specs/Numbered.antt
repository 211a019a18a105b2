-- The expressions of a program, in the order of the text; of each condition of a filter also the variable that the filter has. So an
-- expression is found by its number, and a condition with its variable.
use Rattle.std.specs.Prelude.{ℕ, ◌==◌, Bool, false, List, [], ◌∷◌, ◌++◌, Option, Some, None}
use Rattle.std.specs.List.{flat_map, find}
use Rattle.qvt_base.specs.declared.numbers.ExprNo.{ExprNo}
use Rattle.qvt_types_nodes.specs.Module.{TypedUnitTerm, TypedClassOf, TypedMainOf, TypedHelperOf, TypedConstructorOf, TypedMappingOf}
use Rattle.qvt_types_nodes.specs.Tree.{TypedExprTerm, TypedIntExpr, TypedStrExpr, TypedBoolExpr, TypedNullExpr, TypedSelfExpr, TypedResultExpr, TypedPathExpr, TypedCallExpr, TypedCollExpr, TypedIfExpr, TypedObjectExpr, TypedNewExpr, TypedMapExpr, TypedResolveExpr, TypedChainExpr, TypedPrefixExpr, TypedPostExpr, TypedExprTerms, TypedNoExprs, TypedMoreExprs, TypedOptionalExpr, TypedNoExpr, TypedSomeExpr, TypedOptionalArgs, TypedNoArgs, TypedSomeArgs, TypedLinkTerm, TypedLinkOf, TypedLinkTerms, TypedNoLinks, TypedMoreLinks, TypedItemTerm, TypedItemOf, TypedRangeTerm, TypedNoRange, TypedRangeTo, TypedItemTerms, TypedNoItems, TypedMoreItems, TypedMapTerm, TypedMapOf, TypedResolveTerm, TypedResolveOf, TypedFilterTerm, TypedNoFilter, TypedFilterOf, TypedHeadTerm, TypedNoHead, TypedHeadOf, TypedAccumulatorTerm, TypedNoAccumulator, TypedAccumulatorOf, TypedStepTerm, TypedDotStep, TypedArrowStep, TypedDotMapStep, TypedArrowMapStep, TypedDotResolveStep, TypedArrowResolveStep, TypedStepTerms, TypedNoSteps, TypedMoreSteps, TypedTargetTerm, TypedBareTarget, TypedResultTarget, TypedMemberTarget, TypedStmtTerm, TypedVarStmt, TypedAssignStmt, TypedReturnStmt, TypedValueStmt, TypedIfStmt, TypedWhileStmt, TypedForEachStmt, TypedStmtTerms, TypedNoStmts, TypedMoreStmts, TypedElseTerm, TypedNoElse, TypedElseOf, TypedArmTerm, TypedArmOf, TypedArmTerms, TypedNoArms, TypedMoreArms}
use Rattle.qvt_typing.specs.Accepts.{ProgramTerm}
use Rattle.qvt_meaning.specs.Nodes.{mark_of}

-- an expression; where it is the condition of a filter, with the name of the filter's variable, if that has one
pub record Listed : Type 0 where
  pub filter : Option (Option (List ℕ))
  pub expr : TypedExprTerm

abbrev pub listed : Option (Option (List ℕ)) → TypedExprTerm → Listed
listed f e = record { filter = f; expr = e }

unfoldable mutual
  -- an expression and those in it
  pub in_expr : Option (Option (List ℕ)) → TypedExprTerm → List Listed
  in_expr f (TypedIntExpr v at n) = listed f (TypedIntExpr v at n) ∷ []
  in_expr f (TypedStrExpr v at n) = listed f (TypedStrExpr v at n) ∷ []
  in_expr f (TypedBoolExpr v at n) = listed f (TypedBoolExpr v at n) ∷ []
  in_expr f (TypedNullExpr at n) = listed f (TypedNullExpr at n) ∷ []
  in_expr f (TypedSelfExpr at n) = listed f (TypedSelfExpr at n) ∷ []
  in_expr f (TypedResultExpr at n) = listed f (TypedResultExpr at n) ∷ []
  in_expr f (TypedPathExpr p) = listed f (TypedPathExpr p) ∷ []
  in_expr f (TypedCallExpr name es at n) = listed f (TypedCallExpr name es at n) ∷ in_exprs es
  in_expr f (TypedCollExpr k is at n) = listed f (TypedCollExpr k is at n) ∷ in_items is
  in_expr f (TypedIfExpr c y z at n) = listed f (TypedIfExpr c y z at n) ∷ (in_expr None c ++ in_expr None y ++ in_expr None z)
  in_expr f (TypedObjectExpr v p e ss at n) = listed f (TypedObjectExpr v p e ss at n) ∷ in_stmts ss
  in_expr f (TypedNewExpr p e es at n) = listed f (TypedNewExpr p e es at n) ∷ in_exprs es
  in_expr f (TypedMapExpr m) = listed f (TypedMapExpr m) ∷ in_map m
  in_expr f (TypedResolveExpr r) = listed f (TypedResolveExpr r) ∷ in_resolve r
  in_expr f (TypedChainExpr l e ls at n) = listed f (TypedChainExpr l e ls at n) ∷ (in_expr None e ++ in_links ls)
  in_expr f (TypedPrefixExpr ss e at n) = listed f (TypedPrefixExpr ss e at n) ∷ in_expr None e
  in_expr f (TypedPostExpr e ss at n) = listed f (TypedPostExpr e ss at n) ∷ (in_expr None e ++ in_steps ss)

  pub in_exprs : TypedExprTerms → List Listed
  in_exprs TypedNoExprs = []
  in_exprs (TypedMoreExprs e es) = in_expr None e ++ in_exprs es

  pub in_optional : Option (Option (List ℕ)) → TypedOptionalExpr → List Listed
  in_optional f TypedNoExpr = []
  in_optional f (TypedSomeExpr e) = in_expr f e

  pub in_args : TypedOptionalArgs → List Listed
  in_args TypedNoArgs = []
  in_args (TypedSomeArgs es) = in_exprs es

  pub in_link : TypedLinkTerm → List Listed
  in_link (TypedLinkOf op e at n) = in_expr None e

  pub in_links : TypedLinkTerms → List Listed
  in_links TypedNoLinks = []
  in_links (TypedMoreLinks l ls) = in_link l ++ in_links ls

  pub in_item : TypedItemTerm → List Listed
  in_item (TypedItemOf e r at n) = in_expr None e ++ in_range r

  pub in_range : TypedRangeTerm → List Listed
  in_range TypedNoRange = []
  in_range (TypedRangeTo e at n) = in_expr None e

  pub in_items : TypedItemTerms → List Listed
  in_items TypedNoItems = []
  in_items (TypedMoreItems i is) = in_item i ++ in_items is

  pub in_map : TypedMapTerm → List Listed
  in_map (TypedMapOf strict name es at n) = in_exprs es

  pub in_resolve : TypedResolveTerm → List Listed
  in_resolve (TypedResolveOf late w within f at n) = in_filter f

  pub in_filter : TypedFilterTerm → List Listed
  in_filter TypedNoFilter = []
  in_filter (TypedFilterOf name t c at n) = in_optional (Some name) c

  pub in_head : TypedHeadTerm → List Listed
  in_head TypedNoHead = []
  in_head (TypedHeadOf name t a at n) = in_accumulator a

  pub in_accumulator : TypedAccumulatorTerm → List Listed
  in_accumulator TypedNoAccumulator = []
  in_accumulator (TypedAccumulatorOf name t e at n) = in_expr None e

  pub in_step : TypedStepTerm → List Listed
  in_step (TypedDotStep name args at n) = in_args args
  in_step (TypedArrowStep name h es at n) = in_head h ++ in_exprs es
  in_step (TypedDotMapStep m) = in_map m
  in_step (TypedArrowMapStep m) = in_map m
  in_step (TypedDotResolveStep r) = in_resolve r
  in_step (TypedArrowResolveStep r) = in_resolve r

  pub in_steps : TypedStepTerms → List Listed
  in_steps TypedNoSteps = []
  in_steps (TypedMoreSteps s ss) = in_step s ++ in_steps ss

  pub in_target : TypedTargetTerm → List Listed
  in_target (TypedBareTarget name at n) = []
  in_target (TypedResultTarget at n) = []
  in_target (TypedMemberTarget e name at n) = in_expr None e

  pub in_stmt : TypedStmtTerm → List Listed
  in_stmt (TypedVarStmt name t v at n) = in_optional None v
  in_stmt (TypedAssignStmt t adds v at n) = in_target t ++ in_expr None v
  in_stmt (TypedReturnStmt v at n) = in_optional None v
  in_stmt (TypedValueStmt e at n) = in_expr None e
  in_stmt (TypedIfStmt c ss more other at n) = in_expr None c ++ in_stmts ss ++ in_arms more ++ in_else other
  in_stmt (TypedWhileStmt c ss at n) = in_expr None c ++ in_stmts ss
  in_stmt (TypedForEachStmt e name t c ss at n) = in_expr None e ++ in_optional None c ++ in_stmts ss

  pub in_stmts : TypedStmtTerms → List Listed
  in_stmts TypedNoStmts = []
  in_stmts (TypedMoreStmts s ss) = in_stmt s ++ in_stmts ss

  pub in_else : TypedElseTerm → List Listed
  in_else TypedNoElse = []
  in_else (TypedElseOf ss) = in_stmts ss

  pub in_arm : TypedArmTerm → List Listed
  in_arm (TypedArmOf c ss) = in_expr None c ++ in_stmts ss

  pub in_arms : TypedArmTerms → List Listed
  in_arms TypedNoArms = []
  in_arms (TypedMoreArms a more) = in_arm a ++ in_arms more

abbrev pub in_unit : TypedUnitTerm → List Listed
in_unit (TypedClassOf c) = []
in_unit (TypedMainOf ss at n) = in_stmts ss
in_unit (TypedHelperOf h) = in_stmts h.body
in_unit (TypedConstructorOf h) = in_stmts h.body
in_unit (TypedMappingOf m) = in_optional None m.condition ++ in_stmts m.init ++ in_stmts m.population ++ in_stmts m.finish

unfoldable pub all_listed : ProgramTerm → List Listed
all_listed p = flat_map in_unit p.module_.units

abbrev pub is_number : Option ExprNo → ExprNo → Bool
is_number None n = false
is_number (Some m) n = m.0 == n.0

abbrev pub has_number : ExprNo → Listed → Bool
has_number n l = is_number (mark_of l.expr).note.number n

abbrev pub expr_in : Option Listed → Option TypedExprTerm
expr_in None = None
expr_in (Some l) = Some l.expr

-- the expression with this number
unfoldable pub expr_at : ProgramTerm → ExprNo → Option TypedExprTerm
expr_at p n = expr_in (find (has_number n) (all_listed p))

-- a condition: the name of the filter's variable, if it has one, and the expression
pub record ConditionTerm : Type 0 where
  pub variable : Option (List ℕ)
  pub expr : TypedExprTerm

abbrev pub condition_of : TypedExprTerm → Option (Option (List ℕ)) → Option ConditionTerm
condition_of e None = None
condition_of e (Some name) = Some (record { variable = name; expr = e })

abbrev pub condition_in : Option Listed → Option ConditionTerm
condition_in None = None
condition_in (Some l) = condition_of l.expr l.filter

-- the condition with this number
unfoldable pub condition_at : ProgramTerm → ExprNo → Option ConditionTerm
condition_at p n = condition_in (find (has_number n) (all_listed p))
