-- A tree without its notes, joined with its notes again.
use Rattle.std.proofs.Common.{◌≡◌, refl, ◌∙◌, List, [], ◌∷◌, Option, Some, None}
use Rattle.qvt_types_data.specs.declared.note.Note.{Note}
use Rattle.qvt_types_nodes.specs.declared.types.TypedPathTree.{TypedPathTree}
use Rattle.qvt_types_nodes.specs.declared.types.TypedObjectVar.{TypedObjectVar}
use Rattle.qvt_types_nodes.specs.declared.types.TypedObjectVar.TheVariants as typed_variable
use Rattle.qvt_types_nodes.specs.declared.types.TypedSign.{TypedSign}
use Rattle.qvt_types_nodes.specs.Tree.{TypedTypeTerm, TypedExprTerm, TypedExprTerms, TypedOptionalExpr, TypedOptionalArgs, TypedLinkTerm, TypedLinkTerms, TypedItemTerm, TypedRangeTerm, TypedItemTerms, TypedMapTerm, TypedResolveTerm, TypedFilterTerm, TypedHeadTerm, TypedAccumulatorTerm, TypedStepTerm, TypedStepTerms, TypedTargetTerm, TypedStmtTerm, TypedStmtTerms, TypedElseTerm, TypedArmTerm, TypedArmTerms}
use Rattle.qvt_types_nodes.specs.Tree.{TypedCollType, TypedPathType, TypedIntExpr, TypedStrExpr, TypedBoolExpr, TypedNullExpr, TypedSelfExpr, TypedResultExpr, TypedPathExpr, TypedCallExpr, TypedCollExpr, TypedIfExpr, TypedObjectExpr, TypedNewExpr, TypedMapExpr, TypedResolveExpr, TypedChainExpr, TypedPrefixExpr, TypedPostExpr, TypedNoExprs, TypedMoreExprs, TypedNoExpr, TypedSomeExpr, TypedNoArgs, TypedSomeArgs, TypedLinkOf, TypedNoLinks, TypedMoreLinks, TypedItemOf, TypedNoRange, TypedRangeTo, TypedNoItems, TypedMoreItems, TypedMapOf, TypedResolveOf, TypedNoFilter, TypedFilterOf, TypedNoHead, TypedHeadOf, TypedNoAccumulator, TypedAccumulatorOf, TypedDotStep, TypedArrowStep, TypedDotMapStep, TypedArrowMapStep, TypedDotResolveStep, TypedArrowResolveStep, TypedNoSteps, TypedMoreSteps, TypedBareTarget, TypedResultTarget, TypedMemberTarget, TypedVarStmt, TypedAssignStmt, TypedReturnStmt, TypedValueStmt, TypedIfStmt, TypedWhileStmt, TypedForEachStmt, TypedNoStmts, TypedMoreStmts, TypedNoElse, TypedElseOf, TypedArmOf, TypedNoArms, TypedMoreArms}
use Rattle.qvt_types_nodes.specs.Strip as strip
use Rattle.qvt_types_laws.specs.Join as join
use Rattle.qvt_types_laws.specs.Join.{NoteTaker, gives, ◌>>=◌, next_note}
use Rattle.qvt_types_laws.specs.NotesOf.{NoteGiver, notes_path, notes_optional_path, notes_signs, notes_variable, notes_type, notes_optional_type}
use Rattle.qvt_types_laws.specs.NotesOf as notes

-- what goes on with what a part gives
pub then : {A B : Type 0} (f : A → NoteTaker B) {q : A × List Note} {a : A} {ns : List Note} {z : B × List Note} → q ≡ (a, ns) → f a ns ≡ z → f q.0 q.1 ≡ z
then f h k = (λ j. f (h j).0 (h j).1) ∙ k

pub kept_path : (it : TypedPathTree) (ns : List Note) → join.join_path (strip.strip_path it) (notes.notes_path it ns) ≡ (it, ns)
kept_path p ns = refl

pub kept_optional_path : (it : Option TypedPathTree) (ns : List Note) → join.join_optional_path (strip.strip_optional_path it) (notes.notes_optional_path it ns) ≡ (it, ns)
kept_optional_path None ns = refl
kept_optional_path (Some p) ns = refl

pub kept_signs : (it : List TypedSign) (ns : List Note) → join.join_signs (strip.strip_signs it) (notes.notes_signs it ns) ≡ (it, ns)
kept_signs [] ns = refl
kept_signs (s ∷ signs) ns = then (λ xs. gives (s ∷ xs)) (kept_signs signs ns) refl

pub kept_variable : (it : Option TypedObjectVar) (ns : List Note) → join.join_variable (strip.strip_variable it) (notes.notes_variable it ns) ≡ (it, ns)
kept_variable None ns = refl
kept_variable (Some (typed_variable.Named name at n)) ns = refl
kept_variable (Some (typed_variable.ResultVar at n)) ns = refl

pub kept_type : (it : TypedTypeTerm) (ns : List Note) → join.join_type (strip.strip_type it) (notes.notes_type it ns) ≡ (it, ns)
kept_type (TypedCollType k t at n) ns = then (λ t'. next_note >>= (λ n'. gives (TypedCollType k t' at n'))) (kept_type t _) refl
kept_type (TypedPathType path) ns = then (λ path'. gives (TypedPathType path')) (kept_path path _) refl

pub kept_optional_type : (it : Option TypedTypeTerm) (ns : List Note) → join.join_optional_type (strip.strip_optional_type it) (notes.notes_optional_type it ns) ≡ (it, ns)
kept_optional_type None ns = refl
kept_optional_type (Some t) ns = then (λ t'. gives (Some t')) (kept_type t ns) refl

mutual
  pub kept_expr : (it : TypedExprTerm) (ns : List Note) → join.join_expr (strip.strip_expr it) (notes.notes_expr it ns) ≡ (it, ns)
  kept_expr (TypedIntExpr value at n) ns = refl
  kept_expr (TypedStrExpr name at n) ns = refl
  kept_expr (TypedBoolExpr b at n) ns = refl
  kept_expr (TypedNullExpr at n) ns = refl
  kept_expr (TypedSelfExpr at n) ns = refl
  kept_expr (TypedResultExpr at n) ns = refl
  kept_expr (TypedPathExpr path) ns = then (λ path'. gives (TypedPathExpr path')) (kept_path path _) refl
  kept_expr (TypedCallExpr name es at n) ns = then (λ es'. next_note >>= (λ n'. gives (TypedCallExpr name es' at n'))) (kept_exprs es _) refl
  kept_expr (TypedCollExpr k is at n) ns = then (λ is'. next_note >>= (λ n'. gives (TypedCollExpr k is' at n'))) (kept_items is _) refl
  kept_expr (TypedIfExpr e f g at n) ns = then (λ e'. join.join_expr (strip.strip_expr f) >>= (λ f'. join.join_expr (strip.strip_expr g) >>= (λ g'. next_note >>= (λ n'. gives (TypedIfExpr e' f' g' at n'))))) (kept_expr e _) (then (λ f'. join.join_expr (strip.strip_expr g) >>= (λ g'. next_note >>= (λ n'. gives (TypedIfExpr e f' g' at n')))) (kept_expr f _) (then (λ g'. next_note >>= (λ n'. gives (TypedIfExpr e f g' at n'))) (kept_expr g _) refl))
  kept_expr (TypedObjectExpr variable path extent ss at n) ns = then (λ variable'. join.join_path (strip.strip_path path) >>= (λ path'. join.join_stmts (strip.strip_stmts ss) >>= (λ ss'. next_note >>= (λ n'. gives (TypedObjectExpr variable' path' extent ss' at n'))))) (kept_variable variable _) (then (λ path'. join.join_stmts (strip.strip_stmts ss) >>= (λ ss'. next_note >>= (λ n'. gives (TypedObjectExpr variable path' extent ss' at n')))) (kept_path path _) (then (λ ss'. next_note >>= (λ n'. gives (TypedObjectExpr variable path extent ss' at n'))) (kept_stmts ss _) refl))
  kept_expr (TypedNewExpr path extent es at n) ns = then (λ path'. join.join_exprs (strip.strip_exprs es) >>= (λ es'. next_note >>= (λ n'. gives (TypedNewExpr path' extent es' at n')))) (kept_path path _) (then (λ es'. next_note >>= (λ n'. gives (TypedNewExpr path extent es' at n'))) (kept_exprs es _) refl)
  kept_expr (TypedMapExpr call) ns = then (λ call'. gives (TypedMapExpr call')) (kept_map call _) refl
  kept_expr (TypedResolveExpr call) ns = then (λ call'. gives (TypedResolveExpr call')) (kept_resolve call _) refl
  kept_expr (TypedChainExpr level e ls at n) ns = then (λ e'. join.join_links (strip.strip_links ls) >>= (λ ls'. next_note >>= (λ n'. gives (TypedChainExpr level e' ls' at n')))) (kept_expr e _) (then (λ ls'. next_note >>= (λ n'. gives (TypedChainExpr level e ls' at n'))) (kept_links ls _) refl)
  kept_expr (TypedPrefixExpr signs e at n) ns = then (λ signs'. join.join_expr (strip.strip_expr e) >>= (λ e'. next_note >>= (λ n'. gives (TypedPrefixExpr signs' e' at n')))) (kept_signs signs _) (then (λ e'. next_note >>= (λ n'. gives (TypedPrefixExpr signs e' at n'))) (kept_expr e _) refl)
  kept_expr (TypedPostExpr e ss at n) ns = then (λ e'. join.join_steps (strip.strip_steps ss) >>= (λ ss'. next_note >>= (λ n'. gives (TypedPostExpr e' ss' at n')))) (kept_expr e _) (then (λ ss'. next_note >>= (λ n'. gives (TypedPostExpr e ss' at n'))) (kept_steps ss _) refl)

  pub kept_exprs : (it : TypedExprTerms) (ns : List Note) → join.join_exprs (strip.strip_exprs it) (notes.notes_exprs it ns) ≡ (it, ns)
  kept_exprs TypedNoExprs ns = refl
  kept_exprs (TypedMoreExprs e es) ns = then (λ e'. join.join_exprs (strip.strip_exprs es) >>= (λ es'. gives (TypedMoreExprs e' es'))) (kept_expr e _) (then (λ es'. gives (TypedMoreExprs e es')) (kept_exprs es _) refl)

  pub kept_optional_expr : (it : TypedOptionalExpr) (ns : List Note) → join.join_optional_expr (strip.strip_optional_expr it) (notes.notes_optional_expr it ns) ≡ (it, ns)
  kept_optional_expr TypedNoExpr ns = refl
  kept_optional_expr (TypedSomeExpr e) ns = then (λ e'. gives (TypedSomeExpr e')) (kept_expr e _) refl

  pub kept_optional_args : (it : TypedOptionalArgs) (ns : List Note) → join.join_optional_args (strip.strip_optional_args it) (notes.notes_optional_args it ns) ≡ (it, ns)
  kept_optional_args TypedNoArgs ns = refl
  kept_optional_args (TypedSomeArgs es) ns = then (λ es'. gives (TypedSomeArgs es')) (kept_exprs es _) refl

  pub kept_link : (it : TypedLinkTerm) (ns : List Note) → join.join_link (strip.strip_link it) (notes.notes_link it ns) ≡ (it, ns)
  kept_link (TypedLinkOf op e at n) ns = then (λ e'. next_note >>= (λ n'. gives (TypedLinkOf op e' at n'))) (kept_expr e _) refl

  pub kept_links : (it : TypedLinkTerms) (ns : List Note) → join.join_links (strip.strip_links it) (notes.notes_links it ns) ≡ (it, ns)
  kept_links TypedNoLinks ns = refl
  kept_links (TypedMoreLinks l ls) ns = then (λ l'. join.join_links (strip.strip_links ls) >>= (λ ls'. gives (TypedMoreLinks l' ls'))) (kept_link l _) (then (λ ls'. gives (TypedMoreLinks l ls')) (kept_links ls _) refl)

  pub kept_item : (it : TypedItemTerm) (ns : List Note) → join.join_item (strip.strip_item it) (notes.notes_item it ns) ≡ (it, ns)
  kept_item (TypedItemOf e r at n) ns = then (λ e'. join.join_range (strip.strip_range r) >>= (λ r'. next_note >>= (λ n'. gives (TypedItemOf e' r' at n')))) (kept_expr e _) (then (λ r'. next_note >>= (λ n'. gives (TypedItemOf e r' at n'))) (kept_range r _) refl)

  pub kept_range : (it : TypedRangeTerm) (ns : List Note) → join.join_range (strip.strip_range it) (notes.notes_range it ns) ≡ (it, ns)
  kept_range TypedNoRange ns = refl
  kept_range (TypedRangeTo e at n) ns = then (λ e'. next_note >>= (λ n'. gives (TypedRangeTo e' at n'))) (kept_expr e _) refl

  pub kept_items : (it : TypedItemTerms) (ns : List Note) → join.join_items (strip.strip_items it) (notes.notes_items it ns) ≡ (it, ns)
  kept_items TypedNoItems ns = refl
  kept_items (TypedMoreItems i is) ns = then (λ i'. join.join_items (strip.strip_items is) >>= (λ is'. gives (TypedMoreItems i' is'))) (kept_item i _) (then (λ is'. gives (TypedMoreItems i is')) (kept_items is _) refl)

  pub kept_map : (it : TypedMapTerm) (ns : List Note) → join.join_map (strip.strip_map it) (notes.notes_map it ns) ≡ (it, ns)
  kept_map (TypedMapOf b name es at n) ns = then (λ es'. next_note >>= (λ n'. gives (TypedMapOf b name es' at n'))) (kept_exprs es _) refl

  pub kept_resolve : (it : TypedResolveTerm) (ns : List Note) → join.join_resolve (strip.strip_resolve it) (notes.notes_resolve it ns) ≡ (it, ns)
  kept_resolve (TypedResolveOf b w within f at n) ns = then (λ within'. join.join_filter (strip.strip_filter f) >>= (λ f'. next_note >>= (λ n'. gives (TypedResolveOf b w within' f' at n')))) (kept_optional_path within _) (then (λ f'. next_note >>= (λ n'. gives (TypedResolveOf b w within f' at n'))) (kept_filter f _) refl)

  pub kept_filter : (it : TypedFilterTerm) (ns : List Note) → join.join_filter (strip.strip_filter it) (notes.notes_filter it ns) ≡ (it, ns)
  kept_filter TypedNoFilter ns = refl
  kept_filter (TypedFilterOf extent t o at n) ns = then (λ t'. join.join_optional_expr (strip.strip_optional_expr o) >>= (λ o'. next_note >>= (λ n'. gives (TypedFilterOf extent t' o' at n')))) (kept_type t _) (then (λ o'. next_note >>= (λ n'. gives (TypedFilterOf extent t o' at n'))) (kept_optional_expr o _) refl)

  pub kept_head : (it : TypedHeadTerm) (ns : List Note) → join.join_head (strip.strip_head it) (notes.notes_head it ns) ≡ (it, ns)
  kept_head TypedNoHead ns = refl
  kept_head (TypedHeadOf name t a at n) ns = then (λ t'. join.join_accumulator (strip.strip_accumulator a) >>= (λ a'. next_note >>= (λ n'. gives (TypedHeadOf name t' a' at n')))) (kept_optional_type t _) (then (λ a'. next_note >>= (λ n'. gives (TypedHeadOf name t a' at n'))) (kept_accumulator a _) refl)

  pub kept_accumulator : (it : TypedAccumulatorTerm) (ns : List Note) → join.join_accumulator (strip.strip_accumulator it) (notes.notes_accumulator it ns) ≡ (it, ns)
  kept_accumulator TypedNoAccumulator ns = refl
  kept_accumulator (TypedAccumulatorOf name t e at n) ns = then (λ t'. join.join_expr (strip.strip_expr e) >>= (λ e'. next_note >>= (λ n'. gives (TypedAccumulatorOf name t' e' at n')))) (kept_type t _) (then (λ e'. next_note >>= (λ n'. gives (TypedAccumulatorOf name t e' at n'))) (kept_expr e _) refl)

  pub kept_step : (it : TypedStepTerm) (ns : List Note) → join.join_step (strip.strip_step it) (notes.notes_step it ns) ≡ (it, ns)
  kept_step (TypedDotStep name args at n) ns = then (λ args'. next_note >>= (λ n'. gives (TypedDotStep name args' at n'))) (kept_optional_args args _) refl
  kept_step (TypedArrowStep name h es at n) ns = then (λ h'. join.join_exprs (strip.strip_exprs es) >>= (λ es'. next_note >>= (λ n'. gives (TypedArrowStep name h' es' at n')))) (kept_head h _) (then (λ es'. next_note >>= (λ n'. gives (TypedArrowStep name h es' at n'))) (kept_exprs es _) refl)
  kept_step (TypedDotMapStep call) ns = then (λ call'. gives (TypedDotMapStep call')) (kept_map call _) refl
  kept_step (TypedArrowMapStep call) ns = then (λ call'. gives (TypedArrowMapStep call')) (kept_map call _) refl
  kept_step (TypedDotResolveStep call) ns = then (λ call'. gives (TypedDotResolveStep call')) (kept_resolve call _) refl
  kept_step (TypedArrowResolveStep call) ns = then (λ call'. gives (TypedArrowResolveStep call')) (kept_resolve call _) refl

  pub kept_steps : (it : TypedStepTerms) (ns : List Note) → join.join_steps (strip.strip_steps it) (notes.notes_steps it ns) ≡ (it, ns)
  kept_steps TypedNoSteps ns = refl
  kept_steps (TypedMoreSteps s ss) ns = then (λ s'. join.join_steps (strip.strip_steps ss) >>= (λ ss'. gives (TypedMoreSteps s' ss'))) (kept_step s _) (then (λ ss'. gives (TypedMoreSteps s ss')) (kept_steps ss _) refl)

  pub kept_target : (it : TypedTargetTerm) (ns : List Note) → join.join_target (strip.strip_target it) (notes.notes_target it ns) ≡ (it, ns)
  kept_target (TypedBareTarget name at n) ns = refl
  kept_target (TypedResultTarget at n) ns = refl
  kept_target (TypedMemberTarget e name at n) ns = then (λ e'. next_note >>= (λ n'. gives (TypedMemberTarget e' name at n'))) (kept_expr e _) refl

  pub kept_stmt : (it : TypedStmtTerm) (ns : List Note) → join.join_stmt (strip.strip_stmt it) (notes.notes_stmt it ns) ≡ (it, ns)
  kept_stmt (TypedVarStmt name t o at n) ns = then (λ t'. join.join_optional_expr (strip.strip_optional_expr o) >>= (λ o'. next_note >>= (λ n'. gives (TypedVarStmt name t' o' at n')))) (kept_optional_type t _) (then (λ o'. next_note >>= (λ n'. gives (TypedVarStmt name t o' at n'))) (kept_optional_expr o _) refl)
  kept_stmt (TypedAssignStmt t b e at n) ns = then (λ t'. join.join_expr (strip.strip_expr e) >>= (λ e'. next_note >>= (λ n'. gives (TypedAssignStmt t' b e' at n')))) (kept_target t _) (then (λ e'. next_note >>= (λ n'. gives (TypedAssignStmt t b e' at n'))) (kept_expr e _) refl)
  kept_stmt (TypedReturnStmt o at n) ns = then (λ o'. next_note >>= (λ n'. gives (TypedReturnStmt o' at n'))) (kept_optional_expr o _) refl
  kept_stmt (TypedValueStmt e at n) ns = then (λ e'. next_note >>= (λ n'. gives (TypedValueStmt e' at n'))) (kept_expr e _) refl
  kept_stmt (TypedIfStmt e ss arms otherwise at n) ns = then (λ e'. join.join_stmts (strip.strip_stmts ss) >>= (λ ss'. join.join_arms (strip.strip_arms arms) >>= (λ arms'. join.join_else (strip.strip_else otherwise) >>= (λ otherwise'. next_note >>= (λ n'. gives (TypedIfStmt e' ss' arms' otherwise' at n')))))) (kept_expr e _) (then (λ ss'. join.join_arms (strip.strip_arms arms) >>= (λ arms'. join.join_else (strip.strip_else otherwise) >>= (λ otherwise'. next_note >>= (λ n'. gives (TypedIfStmt e ss' arms' otherwise' at n'))))) (kept_stmts ss _) (then (λ arms'. join.join_else (strip.strip_else otherwise) >>= (λ otherwise'. next_note >>= (λ n'. gives (TypedIfStmt e ss arms' otherwise' at n')))) (kept_arms arms _) (then (λ otherwise'. next_note >>= (λ n'. gives (TypedIfStmt e ss arms otherwise' at n'))) (kept_else otherwise _) refl)))
  kept_stmt (TypedWhileStmt e ss at n) ns = then (λ e'. join.join_stmts (strip.strip_stmts ss) >>= (λ ss'. next_note >>= (λ n'. gives (TypedWhileStmt e' ss' at n')))) (kept_expr e _) (then (λ ss'. next_note >>= (λ n'. gives (TypedWhileStmt e ss' at n'))) (kept_stmts ss _) refl)
  kept_stmt (TypedForEachStmt e name t o ss at n) ns = then (λ e'. join.join_optional_type (strip.strip_optional_type t) >>= (λ t'. join.join_optional_expr (strip.strip_optional_expr o) >>= (λ o'. join.join_stmts (strip.strip_stmts ss) >>= (λ ss'. next_note >>= (λ n'. gives (TypedForEachStmt e' name t' o' ss' at n')))))) (kept_expr e _) (then (λ t'. join.join_optional_expr (strip.strip_optional_expr o) >>= (λ o'. join.join_stmts (strip.strip_stmts ss) >>= (λ ss'. next_note >>= (λ n'. gives (TypedForEachStmt e name t' o' ss' at n'))))) (kept_optional_type t _) (then (λ o'. join.join_stmts (strip.strip_stmts ss) >>= (λ ss'. next_note >>= (λ n'. gives (TypedForEachStmt e name t o' ss' at n')))) (kept_optional_expr o _) (then (λ ss'. next_note >>= (λ n'. gives (TypedForEachStmt e name t o ss' at n'))) (kept_stmts ss _) refl)))

  pub kept_stmts : (it : TypedStmtTerms) (ns : List Note) → join.join_stmts (strip.strip_stmts it) (notes.notes_stmts it ns) ≡ (it, ns)
  kept_stmts TypedNoStmts ns = refl
  kept_stmts (TypedMoreStmts s ss) ns = then (λ s'. join.join_stmts (strip.strip_stmts ss) >>= (λ ss'. gives (TypedMoreStmts s' ss'))) (kept_stmt s _) (then (λ ss'. gives (TypedMoreStmts s ss')) (kept_stmts ss _) refl)

  pub kept_else : (it : TypedElseTerm) (ns : List Note) → join.join_else (strip.strip_else it) (notes.notes_else it ns) ≡ (it, ns)
  kept_else TypedNoElse ns = refl
  kept_else (TypedElseOf ss) ns = then (λ ss'. gives (TypedElseOf ss')) (kept_stmts ss _) refl

  pub kept_arm : (it : TypedArmTerm) (ns : List Note) → join.join_arm (strip.strip_arm it) (notes.notes_arm it ns) ≡ (it, ns)
  kept_arm (TypedArmOf e ss) ns = then (λ e'. join.join_stmts (strip.strip_stmts ss) >>= (λ ss'. gives (TypedArmOf e' ss'))) (kept_expr e _) (then (λ ss'. gives (TypedArmOf e ss')) (kept_stmts ss _) refl)

  pub kept_arms : (it : TypedArmTerms) (ns : List Note) → join.join_arms (strip.strip_arms it) (notes.notes_arms it ns) ≡ (it, ns)
  kept_arms TypedNoArms ns = refl
  kept_arms (TypedMoreArms a arms) ns = then (λ a'. join.join_arms (strip.strip_arms arms) >>= (λ arms'. gives (TypedMoreArms a' arms'))) (kept_arm a _) (then (λ arms'. gives (TypedMoreArms a arms')) (kept_arms arms _) refl)
