-- The numbers of a typed tree's expressions, in the order of the text, the outer one first.
use Rattle.std.specs.Prelude.{ℕ, List, [], ◌∷◌, ◌++◌, Option, Some, None}
use Rattle.std.specs.List.{flat_map}
use Rattle.qvt_base.specs.declared.numbers.ExprNo.{ExprNo}
use Rattle.qvt_types_data.specs.declared.note.Note.{Note}
use Rattle.qvt_types_nodes.specs.Tree.{TypedExprTerm, TypedExprTerms, TypedOptionalExpr, TypedOptionalArgs, TypedLinkTerm, TypedLinkTerms, TypedItemTerm, TypedRangeTerm, TypedItemTerms, TypedMapTerm, TypedResolveTerm, TypedFilterTerm, TypedHeadTerm, TypedAccumulatorTerm, TypedStepTerm, TypedStepTerms, TypedTargetTerm, TypedStmtTerm, TypedStmtTerms, TypedElseTerm, TypedArmTerm, TypedArmTerms}
use Rattle.qvt_types_nodes.specs.Tree.{TypedIntExpr, TypedStrExpr, TypedBoolExpr, TypedNullExpr, TypedSelfExpr, TypedResultExpr, TypedPathExpr, TypedCallExpr, TypedCollExpr, TypedIfExpr, TypedObjectExpr, TypedNewExpr, TypedMapExpr, TypedResolveExpr, TypedChainExpr, TypedPrefixExpr, TypedPostExpr, TypedNoExprs, TypedMoreExprs, TypedNoExpr, TypedSomeExpr, TypedNoArgs, TypedSomeArgs, TypedLinkOf, TypedNoLinks, TypedMoreLinks, TypedItemOf, TypedNoRange, TypedRangeTo, TypedNoItems, TypedMoreItems, TypedMapOf, TypedResolveOf, TypedNoFilter, TypedFilterOf, TypedNoHead, TypedHeadOf, TypedNoAccumulator, TypedAccumulatorOf, TypedDotStep, TypedArrowStep, TypedDotMapStep, TypedArrowMapStep, TypedDotResolveStep, TypedArrowResolveStep, TypedNoSteps, TypedMoreSteps, TypedBareTarget, TypedResultTarget, TypedMemberTarget, TypedVarStmt, TypedAssignStmt, TypedReturnStmt, TypedValueStmt, TypedIfStmt, TypedWhileStmt, TypedForEachStmt, TypedNoStmts, TypedMoreStmts, TypedNoElse, TypedElseOf, TypedArmOf, TypedNoArms, TypedMoreArms}
use Rattle.qvt_types_nodes.specs.Module.{TypedHelperTerm, TypedMappingTerm, TypedUnitTerm, TypedClassOf, TypedMainOf, TypedHelperOf, TypedConstructorOf, TypedMappingOf, TypedModuleTerm}

abbrev pub number_if : Option ExprNo → List ℕ
number_if None = []
number_if (Some n) = n.0 ∷ []

abbrev pub number : Note → List ℕ
number n = number_if n.number

abbrev mutual
  pub expr : TypedExprTerm → List ℕ
  expr (TypedIntExpr value at n) = number n
  expr (TypedStrExpr name at n) = number n
  expr (TypedBoolExpr b at n) = number n
  expr (TypedNullExpr at n) = number n
  expr (TypedSelfExpr at n) = number n
  expr (TypedResultExpr at n) = number n
  expr (TypedPathExpr path) = number path.note
  expr (TypedCallExpr name es at n) = number n ++ exprs es
  expr (TypedCollExpr k is at n) = number n ++ items is
  expr (TypedIfExpr e f g at n) = number n ++ (expr e ++ (expr f ++ expr g))
  expr (TypedObjectExpr variable path extent ss at n) = number n ++ stmts ss
  expr (TypedNewExpr path extent es at n) = number n ++ exprs es
  expr (TypedMapExpr m) = map_call m
  expr (TypedResolveExpr r) = resolve r
  expr (TypedChainExpr level e ls at n) = number n ++ (expr e ++ links ls)
  expr (TypedPrefixExpr signs e at n) = number n ++ expr e
  expr (TypedPostExpr e ss at n) = number n ++ (expr e ++ steps ss)

  pub exprs : TypedExprTerms → List ℕ
  exprs TypedNoExprs = []
  exprs (TypedMoreExprs e es) = expr e ++ exprs es

  pub optional : TypedOptionalExpr → List ℕ
  optional TypedNoExpr = []
  optional (TypedSomeExpr e) = expr e

  pub args : TypedOptionalArgs → List ℕ
  args TypedNoArgs = []
  args (TypedSomeArgs es) = exprs es

  pub link : TypedLinkTerm → List ℕ
  link (TypedLinkOf op e at n) = expr e

  pub links : TypedLinkTerms → List ℕ
  links TypedNoLinks = []
  links (TypedMoreLinks l ls) = link l ++ links ls

  pub item : TypedItemTerm → List ℕ
  item (TypedItemOf e r at n) = expr e ++ range r

  pub range : TypedRangeTerm → List ℕ
  range TypedNoRange = []
  range (TypedRangeTo e at n) = expr e

  pub items : TypedItemTerms → List ℕ
  items TypedNoItems = []
  items (TypedMoreItems i is) = item i ++ items is

  -- as an expression it has a number, behind another none
  pub map_call : TypedMapTerm → List ℕ
  map_call (TypedMapOf b name es at n) = number n ++ exprs es

  pub resolve : TypedResolveTerm → List ℕ
  resolve (TypedResolveOf b w within f at n) = number n ++ filter f

  pub filter : TypedFilterTerm → List ℕ
  filter TypedNoFilter = []
  filter (TypedFilterOf name t o at n) = optional o

  pub head : TypedHeadTerm → List ℕ
  head TypedNoHead = []
  head (TypedHeadOf name t a at n) = accumulator a

  pub accumulator : TypedAccumulatorTerm → List ℕ
  accumulator TypedNoAccumulator = []
  accumulator (TypedAccumulatorOf name t e at n) = expr e

  pub step : TypedStepTerm → List ℕ
  step (TypedDotStep name es at n) = args es
  step (TypedArrowStep name h es at n) = head h ++ exprs es
  step (TypedDotMapStep m) = map_call m
  step (TypedArrowMapStep m) = map_call m
  step (TypedDotResolveStep r) = resolve r
  step (TypedArrowResolveStep r) = resolve r

  pub steps : TypedStepTerms → List ℕ
  steps TypedNoSteps = []
  steps (TypedMoreSteps s ss) = step s ++ steps ss

  pub target : TypedTargetTerm → List ℕ
  target (TypedBareTarget name at n) = []
  target (TypedResultTarget at n) = []
  target (TypedMemberTarget e name at n) = expr e

  pub stmt : TypedStmtTerm → List ℕ
  stmt (TypedVarStmt name t o at n) = optional o
  stmt (TypedAssignStmt t b e at n) = target t ++ expr e
  stmt (TypedReturnStmt o at n) = optional o
  stmt (TypedValueStmt e at n) = expr e
  stmt (TypedIfStmt e ss arms otherwise at n) = expr e ++ (stmts ss ++ (all_arms arms ++ else_part otherwise))
  stmt (TypedWhileStmt e ss at n) = expr e ++ stmts ss
  stmt (TypedForEachStmt e name t o ss at n) = expr e ++ (optional o ++ stmts ss)

  pub stmts : TypedStmtTerms → List ℕ
  stmts TypedNoStmts = []
  stmts (TypedMoreStmts s ss) = stmt s ++ stmts ss

  pub else_part : TypedElseTerm → List ℕ
  else_part TypedNoElse = []
  else_part (TypedElseOf ss) = stmts ss

  pub arm : TypedArmTerm → List ℕ
  arm (TypedArmOf e ss) = expr e ++ stmts ss

  pub all_arms : TypedArmTerms → List ℕ
  all_arms TypedNoArms = []
  all_arms (TypedMoreArms a arms) = arm a ++ all_arms arms

abbrev pub helper : TypedHelperTerm → List ℕ
helper u = stmts u.body

abbrev pub mapping : TypedMappingTerm → List ℕ
mapping u = optional u.condition ++ (stmts u.init ++ (stmts u.population ++ stmts u.finish))

abbrev pub unit : TypedUnitTerm → List ℕ
unit (TypedClassOf c) = []
unit (TypedMainOf body at n) = stmts body
unit (TypedHelperOf u) = helper u
unit (TypedConstructorOf u) = helper u
unit (TypedMappingOf u) = mapping u

-- of a whole transformation
abbrev pub numbers : TypedModuleTerm → List ℕ
numbers t = flat_map unit t.units
