-- The notes of a tree: each node has those of its parts, in the order of its fields, and then its own.
use Rattle.std.specs.Prelude.{List, [], ◌∷◌, Option, Some, None}
use Rattle.qvt_types_nodes.specs.declared.types.TypedPathTree.{TypedPathTree}
use Rattle.qvt_types_nodes.specs.declared.types.TypedObjectVar.{TypedObjectVar}
use Rattle.qvt_types_nodes.specs.declared.types.TypedObjectVar.TheVariants as typed_variable
use Rattle.qvt_types_nodes.specs.declared.types.TypedSign.{TypedSign}
use Rattle.qvt_types_data.specs.declared.note.Note.{Note}
use Rattle.qvt_types_nodes.specs.Tree.{TypedTypeTerm, TypedExprTerm, TypedExprTerms, TypedOptionalExpr, TypedOptionalArgs, TypedLinkTerm, TypedLinkTerms, TypedItemTerm, TypedRangeTerm, TypedItemTerms, TypedMapTerm, TypedResolveTerm, TypedFilterTerm, TypedHeadTerm, TypedAccumulatorTerm, TypedStepTerm, TypedStepTerms, TypedTargetTerm, TypedStmtTerm, TypedStmtTerms, TypedElseTerm, TypedArmTerm, TypedArmTerms}
use Rattle.qvt_types_nodes.specs.Tree.{TypedCollType, TypedPathType, TypedIntExpr, TypedStrExpr, TypedBoolExpr, TypedNullExpr, TypedSelfExpr, TypedResultExpr, TypedPathExpr, TypedCallExpr, TypedCollExpr, TypedIfExpr, TypedObjectExpr, TypedNewExpr, TypedMapExpr, TypedResolveExpr, TypedChainExpr, TypedPrefixExpr, TypedPostExpr, TypedNoExprs, TypedMoreExprs, TypedNoExpr, TypedSomeExpr, TypedNoArgs, TypedSomeArgs, TypedLinkOf, TypedNoLinks, TypedMoreLinks, TypedItemOf, TypedNoRange, TypedRangeTo, TypedNoItems, TypedMoreItems, TypedMapOf, TypedResolveOf, TypedNoFilter, TypedFilterOf, TypedNoHead, TypedHeadOf, TypedNoAccumulator, TypedAccumulatorOf, TypedDotStep, TypedArrowStep, TypedDotMapStep, TypedArrowMapStep, TypedDotResolveStep, TypedArrowResolveStep, TypedNoSteps, TypedMoreSteps, TypedBareTarget, TypedResultTarget, TypedMemberTarget, TypedVarStmt, TypedAssignStmt, TypedReturnStmt, TypedValueStmt, TypedIfStmt, TypedWhileStmt, TypedForEachStmt, TypedNoStmts, TypedMoreStmts, TypedNoElse, TypedElseOf, TypedArmOf, TypedNoArms, TypedMoreArms}

-- the notes of something, before those that come after it
abbrev pub NoteGiver : Type 0 → Type 0
NoteGiver A = A → List Note → List Note

abbrev pub notes_path : NoteGiver TypedPathTree
notes_path p rest = p.note ∷ rest

abbrev pub notes_optional_path : NoteGiver (Option TypedPathTree)
notes_optional_path None rest = rest
notes_optional_path (Some p) rest = notes_path p rest

abbrev pub notes_signs : NoteGiver (List TypedSign)
notes_signs [] rest = rest
notes_signs (s ∷ signs) rest = s.note ∷ notes_signs signs rest

abbrev pub notes_variable : NoteGiver (Option TypedObjectVar)
notes_variable None rest = rest
notes_variable (Some (typed_variable.Named name at n)) rest = n ∷ rest
notes_variable (Some (typed_variable.ResultVar at n)) rest = n ∷ rest

abbrev pub notes_type : NoteGiver TypedTypeTerm
notes_type (TypedCollType k t at n) rest = notes_type t (n ∷ rest)
notes_type (TypedPathType path) rest = notes_path path rest

abbrev pub notes_optional_type : NoteGiver (Option TypedTypeTerm)
notes_optional_type None rest = rest
notes_optional_type (Some t) rest = notes_type t rest

abbrev mutual
  pub notes_expr : NoteGiver TypedExprTerm
  notes_expr (TypedIntExpr value at n) rest = n ∷ rest
  notes_expr (TypedStrExpr name at n) rest = n ∷ rest
  notes_expr (TypedBoolExpr b at n) rest = n ∷ rest
  notes_expr (TypedNullExpr at n) rest = n ∷ rest
  notes_expr (TypedSelfExpr at n) rest = n ∷ rest
  notes_expr (TypedResultExpr at n) rest = n ∷ rest
  notes_expr (TypedPathExpr path) rest = notes_path path rest
  notes_expr (TypedCallExpr name es at n) rest = notes_exprs es (n ∷ rest)
  notes_expr (TypedCollExpr k is at n) rest = notes_items is (n ∷ rest)
  notes_expr (TypedIfExpr e f g at n) rest = notes_expr e (notes_expr f (notes_expr g (n ∷ rest)))
  notes_expr (TypedObjectExpr variable path extent ss at n) rest = notes_variable variable (notes_path path (notes_stmts ss (n ∷ rest)))
  notes_expr (TypedNewExpr path extent es at n) rest = notes_path path (notes_exprs es (n ∷ rest))
  notes_expr (TypedMapExpr call) rest = notes_map call rest
  notes_expr (TypedResolveExpr call) rest = notes_resolve call rest
  notes_expr (TypedChainExpr level e ls at n) rest = notes_expr e (notes_links ls (n ∷ rest))
  notes_expr (TypedPrefixExpr signs e at n) rest = notes_signs signs (notes_expr e (n ∷ rest))
  notes_expr (TypedPostExpr e ss at n) rest = notes_expr e (notes_steps ss (n ∷ rest))

  pub notes_exprs : NoteGiver TypedExprTerms
  notes_exprs TypedNoExprs rest = rest
  notes_exprs (TypedMoreExprs e es) rest = notes_expr e (notes_exprs es rest)

  pub notes_optional_expr : NoteGiver TypedOptionalExpr
  notes_optional_expr TypedNoExpr rest = rest
  notes_optional_expr (TypedSomeExpr e) rest = notes_expr e rest

  pub notes_optional_args : NoteGiver TypedOptionalArgs
  notes_optional_args TypedNoArgs rest = rest
  notes_optional_args (TypedSomeArgs es) rest = notes_exprs es rest

  pub notes_link : NoteGiver TypedLinkTerm
  notes_link (TypedLinkOf op e at n) rest = notes_expr e (n ∷ rest)

  pub notes_links : NoteGiver TypedLinkTerms
  notes_links TypedNoLinks rest = rest
  notes_links (TypedMoreLinks l ls) rest = notes_link l (notes_links ls rest)

  pub notes_item : NoteGiver TypedItemTerm
  notes_item (TypedItemOf e r at n) rest = notes_expr e (notes_range r (n ∷ rest))

  pub notes_range : NoteGiver TypedRangeTerm
  notes_range TypedNoRange rest = rest
  notes_range (TypedRangeTo e at n) rest = notes_expr e (n ∷ rest)

  pub notes_items : NoteGiver TypedItemTerms
  notes_items TypedNoItems rest = rest
  notes_items (TypedMoreItems i is) rest = notes_item i (notes_items is rest)

  pub notes_map : NoteGiver TypedMapTerm
  notes_map (TypedMapOf b name es at n) rest = notes_exprs es (n ∷ rest)

  pub notes_resolve : NoteGiver TypedResolveTerm
  notes_resolve (TypedResolveOf b w within f at n) rest = notes_optional_path within (notes_filter f (n ∷ rest))

  pub notes_filter : NoteGiver TypedFilterTerm
  notes_filter TypedNoFilter rest = rest
  notes_filter (TypedFilterOf extent t o at n) rest = notes_type t (notes_optional_expr o (n ∷ rest))

  pub notes_head : NoteGiver TypedHeadTerm
  notes_head TypedNoHead rest = rest
  notes_head (TypedHeadOf name t a at n) rest = notes_optional_type t (notes_accumulator a (n ∷ rest))

  pub notes_accumulator : NoteGiver TypedAccumulatorTerm
  notes_accumulator TypedNoAccumulator rest = rest
  notes_accumulator (TypedAccumulatorOf name t e at n) rest = notes_type t (notes_expr e (n ∷ rest))

  pub notes_step : NoteGiver TypedStepTerm
  notes_step (TypedDotStep name args at n) rest = notes_optional_args args (n ∷ rest)
  notes_step (TypedArrowStep name h es at n) rest = notes_head h (notes_exprs es (n ∷ rest))
  notes_step (TypedDotMapStep call) rest = notes_map call rest
  notes_step (TypedArrowMapStep call) rest = notes_map call rest
  notes_step (TypedDotResolveStep call) rest = notes_resolve call rest
  notes_step (TypedArrowResolveStep call) rest = notes_resolve call rest

  pub notes_steps : NoteGiver TypedStepTerms
  notes_steps TypedNoSteps rest = rest
  notes_steps (TypedMoreSteps s ss) rest = notes_step s (notes_steps ss rest)

  pub notes_target : NoteGiver TypedTargetTerm
  notes_target (TypedBareTarget name at n) rest = n ∷ rest
  notes_target (TypedResultTarget at n) rest = n ∷ rest
  notes_target (TypedMemberTarget e name at n) rest = notes_expr e (n ∷ rest)

  pub notes_stmt : NoteGiver TypedStmtTerm
  notes_stmt (TypedVarStmt name t o at n) rest = notes_optional_type t (notes_optional_expr o (n ∷ rest))
  notes_stmt (TypedAssignStmt t b e at n) rest = notes_target t (notes_expr e (n ∷ rest))
  notes_stmt (TypedReturnStmt o at n) rest = notes_optional_expr o (n ∷ rest)
  notes_stmt (TypedValueStmt e at n) rest = notes_expr e (n ∷ rest)
  notes_stmt (TypedIfStmt e ss arms otherwise at n) rest = notes_expr e (notes_stmts ss (notes_arms arms (notes_else otherwise (n ∷ rest))))
  notes_stmt (TypedWhileStmt e ss at n) rest = notes_expr e (notes_stmts ss (n ∷ rest))
  notes_stmt (TypedForEachStmt e name t o ss at n) rest = notes_expr e (notes_optional_type t (notes_optional_expr o (notes_stmts ss (n ∷ rest))))

  pub notes_stmts : NoteGiver TypedStmtTerms
  notes_stmts TypedNoStmts rest = rest
  notes_stmts (TypedMoreStmts s ss) rest = notes_stmt s (notes_stmts ss rest)

  pub notes_else : NoteGiver TypedElseTerm
  notes_else TypedNoElse rest = rest
  notes_else (TypedElseOf ss) rest = notes_stmts ss rest

  pub notes_arm : NoteGiver TypedArmTerm
  notes_arm (TypedArmOf e ss) rest = notes_expr e (notes_stmts ss rest)

  pub notes_arms : NoteGiver TypedArmTerms
  notes_arms TypedNoArms rest = rest
  notes_arms (TypedMoreArms a arms) rest = notes_arm a (notes_arms arms rest)
