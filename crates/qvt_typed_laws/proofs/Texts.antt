-- What the judgement of each node writes: the notes of the tree, each in its place.
use Rattle.qvt_tree_types.specs.Tree.{TypeTerm, CollType, PathType, ExprTerm, IntExpr, StrExpr, BoolExpr, NullExpr, SelfExpr, ResultExpr, PathExpr, CallExpr, CollExpr, IfExpr, ObjectExpr, NewExpr, MapExpr, ResolveExpr, ChainExpr, PrefixExpr, PostExpr, ExprTerms, NoExprs, MoreExprs, OptionalExpr, NoExpr, SomeExpr, NoArgs, SomeArgs, LinkTerm, LinkOf, LinkTerms, NoLinks, MoreLinks, ItemTerm, ItemOf, NoRange, RangeTo, ItemTerms, NoItems, MoreItems, MapTerm, MapOf, ResolveTerm, ResolveOf, FilterTerm, NoFilter, FilterOf, HeadTerm, NoHead, HeadOf, NoAccumulator, AccumulatorOf, StepTerm, DotStep, ArrowStep, DotMapStep, ArrowMapStep, DotResolveStep, ArrowResolveStep, StepTerms, NoSteps, MoreSteps, TargetTerm, BareTarget, ResultTarget, MemberTarget, StmtTerm, VarStmt, AssignStmt, ReturnStmt, ValueStmt, IfStmt, WhileStmt, ForEachStmt, StmtTerms, NoStmts, MoreStmts, ElseTerm, NoElse, ElseOf, ArmTerm, ArmOf, ArmTerms, NoArms, MoreArms}
use Rattle.qvt_tree_types.specs.declared.types.ObjectVar.TheVariants as variable
use Rattle.qvt_tree_types.specs.declared.types.ObjectVar.{ObjectVar}
use Rattle.qvt_tree_types.specs.declared.types.PathTree.{PathTree}
use Rattle.qvt_typed_laws.proofs.Arrows as arrows
use Rattle.qvt_typed_laws.proofs.Follows.{Marks, Follows, given, no_number, nothing, one_mark, both, before, looked, made}
use Rattle.qvt_typed_laws.proofs.Written as written
use Rattle.qvt_typing.specs.Statements as rule_of
use Rattle.qvt_typing.specs.declared.parts.Filtered.TheVariants as filtered_part
use Rattle.qvt_typing.specs.declared.parts.ObjectVariable.TheVariants as variable_part
use Rattle.qvt_typing.specs.declared.parts.Within.TheVariants as within_part
use Rattle.qvt_types_data.specs.declared.ty.Ty.{Ty}
use Rattle.qvt_typed_laws.specs.Numbers as numbers
use Rattle.qvt_types_data.specs.declared.note.Note.{Note}
use Rattle.qvt_types_data.specs.declared.ty.Ty.TheVariants as ty
use Rattle.qvt_types_laws.specs.Join as join
use Rattle.qvt_types_laws.specs.Join.{next_note}
use Rattle.qvt_types_nodes.specs.Tree.{TypedCollType, TypedPathType, TypedIntExpr, TypedStrExpr, TypedBoolExpr, TypedNullExpr, TypedSelfExpr, TypedResultExpr, TypedPathExpr, TypedCallExpr, TypedCollExpr, TypedIfExpr, TypedObjectExpr, TypedNewExpr, TypedMapExpr, TypedResolveExpr, TypedChainExpr, TypedPrefixExpr, TypedPostExpr, TypedNoExprs, TypedMoreExprs, TypedNoExpr, TypedSomeExpr, TypedNoArgs, TypedSomeArgs, TypedLinkOf, TypedNoLinks, TypedMoreLinks, TypedItemOf, TypedNoRange, TypedRangeTo, TypedNoItems, TypedMoreItems, TypedMapOf, TypedResolveOf, TypedNoFilter, TypedFilterOf, TypedNoHead, TypedHeadOf, TypedNoAccumulator, TypedAccumulatorOf, TypedDotStep, TypedArrowStep, TypedDotMapStep, TypedArrowMapStep, TypedDotResolveStep, TypedArrowResolveStep, TypedNoSteps, TypedMoreSteps, TypedBareTarget, TypedResultTarget, TypedMemberTarget, TypedVarStmt, TypedAssignStmt, TypedReturnStmt, TypedValueStmt, TypedIfStmt, TypedWhileStmt, TypedForEachStmt, TypedNoStmts, TypedMoreStmts, TypedNoElse, TypedElseOf, TypedArmOf, TypedNoArms, TypedMoreArms}
use Rattle.qvt_types_nodes.specs.declared.types.TypedObjectVar.TheVariants as typed_variable
use Rattle.qvt_types_nodes.specs.declared.types.TypedPathTree.{TypedPathTree}
use Rattle.qvt_types_states.specs.Judge.{Judges}
use Rattle.qvt_types_states.specs.Scopes.{ScopeTerm}
use Rattle.qvt_types_steps.specs.Classes.{model_call_named}
use Rattle.qvt_types_steps.specs.IteratorTable.{iterator_named}
use Rattle.qvt_types_steps.specs.declared.classes.ClassPart.{ClassPart}
use Rattle.qvt_types_steps.specs.declared.resolves.Joint.TheVariants as joint
use Rattle.qvt_types_steps.specs.declared.resolves.Joint.{Joint}
use Rattle.qvt_typing.specs.Context.{TypingContext}
use Rattle.qvt_typing.specs.Names.{names_model}
use Rattle.qvt_typing.specs.Phrases as phrase
use Rattle.qvt_typing.specs.Rules as rule
use Rattle.std.proofs.Common.{refl, ℕ, Bool, true, false, List, [], ◌∷◌, ◌++◌, Option, Some, None}
use Rattle.std.proofs.lemmas.List.{append-nil}
use Rattle.std.specs.Prelude.{is_some, if◌then◌else◌, ◌&&◌}

-- Types, classes and variables, which hold no expression.

abbrev path_with : PathTree → Note → TypedPathTree
path_with p n = record { names = p.names; place = p.place; note = n }

pub path_mark : {A : Type 0} {j : Judges A} (p : PathTree) → Marks j → Follows j (join.join_path p) no_number
path_mark p a = made no_number (one_mark a) (path_with p) (λ n. refl)

pub type_term : (x : TypingContext) (t : TypeTerm) → Follows (phrase.type_term x t) (join.join_type t) no_number
unfolding phrase.type_term
type_term x (PathType p) = made no_number (path_mark p (written.named_type x p)) TypedPathType (λ b. refl)
type_term x (CollType k t at) = made no_number (written.collection_type k (type_term x t)) (λ b. TypedCollType k b.0 at b.1) (λ b. refl)

pub optional_type : (x : TypingContext) (o : Option TypeTerm) → Follows (phrase.optional_type x o) (join.join_optional_type o) no_number
optional_type x None = nothing None refl (given (record { is_given = false; ty = None }))
optional_type x (Some t) = made no_number (written.is_written (type_term x t)) Some (λ b. refl)

class_term : (x : TypingContext) (t : TypeTerm) → Follows (phrase.class_term x t) (join.join_type t) no_number
class_term x (PathType p) = made no_number (path_mark p (written.named_class x p)) TypedPathType (λ b. refl)
class_term x (CollType k t at) = made no_number (written.no_class at (written.collection_type k (type_term x t))) (λ b. TypedCollType k b.0 at b.1) (λ b. refl)

object_variable : (x : TypingContext) (o : Option ObjectVar) → Follows (phrase.object_variable x o) (join.join_variable o) no_number
object_variable x None = nothing None refl (given variable_part.NoVariable)
object_variable x (Some (variable.Named name at)) = made no_number (one_mark (arrows.named_variable x name at)) (λ n. Some (typed_variable.Named name at n)) (λ n. refl)
object_variable x (Some (variable.ResultVar at)) = made no_number (one_mark (arrows.result_variable x at)) (λ n. Some (typed_variable.ResultVar at n)) (λ n. refl)

within : (x : TypingContext) (o : Option PathTree) → Follows (phrase.within x o) (join.join_optional_path o) no_number
within x None = nothing None refl (given within_part.Everywhere)
within x (Some p) = made no_number (path_mark p (arrows.listed_path x p)) Some (λ b. refl)

path_expr : {A : Type 0} {j : Judges A} (p : PathTree) → Follows j next_note numbers.number → Follows j (join.join_expr (PathExpr p)) numbers.expr
path_expr p a = made numbers.expr a (λ n. TypedPathExpr (path_with p n)) (λ n. refl)

-- an argument that is a class, or should be
class_argument : (x : TypingContext) (e : ExprTerm) → Follows (phrase.expr x false e) (join.join_expr e) numbers.expr → Follows (rule.class_argument x (phrase.class_path e) (phrase.expr x false e)) (join.join_expr e) numbers.expr
class_argument x (PathExpr p) a = path_expr p (written.class_given x p)
class_argument x e a = written.class_missing a

-- the source of steps
source : (x : TypingContext) (s : ScopeTerm) (e : ExprTerm) (ss : StepTerms) → Follows (phrase.expr x false e) (join.join_expr e) numbers.expr → Follows (rule.source_path x (phrase.model_path x s e ss) (phrase.expr x false e)) (join.join_expr e) numbers.expr
source x s (PathExpr p) (MoreSteps (DotStep name (SomeArgs es) at) ss) a = by (names_model x.heads s p.names && is_some (model_call_named name))
  where
    by : (b : Bool) → Follows (rule.source_path x (if b then Some p else None) (phrase.expr x false (PathExpr p))) (join.join_expr (PathExpr p)) numbers.expr
    by true = path_expr p (written.path x true p)
    by false = a
source x s e ss a = a

mutual
  unfolding phrase.expr phrase.mapped phrase.mapped_behind phrase.resolved phrase.resolved_behind phrase.exprs phrase.classes phrase.linked phrase.links phrase.item phrase.all_items phrase.filtered phrase.given_expr phrase.heading phrase.step phrase.steps phrase.target phrase.stmt phrase.stmts phrase.otherwise phrase.one_arm phrase.all_arms

  pub expr : (x : TypingContext) (late : Bool) (e : ExprTerm) → Follows (phrase.expr x late e) (join.join_expr e) numbers.expr
  expr x late (IntExpr v at) = made numbers.expr (written.constant ty.Integer) (TypedIntExpr v at) (λ n. refl)
  expr x late (StrExpr v at) = made numbers.expr (written.constant ty.Str) (TypedStrExpr v at) (λ n. refl)
  expr x late (BoolExpr v at) = made numbers.expr (written.constant ty.Boolean) (TypedBoolExpr v at) (λ n. refl)
  expr x late (NullExpr at) = made numbers.expr (written.constant ty.Void) (TypedNullExpr at) (λ n. refl)
  expr x late (SelfExpr at) = made numbers.expr (written.self_ref x at) (TypedSelfExpr at) (λ n. refl)
  expr x late (ResultExpr at) = made numbers.expr (written.result_ref x at) (TypedResultExpr at) (λ n. refl)
  expr x late (PathExpr p) = path_expr p (written.path x false p)
  expr x late (CallExpr name es at) = made numbers.expr (written.call x name _ at (exprs x [] es)) (λ b. TypedCallExpr name b.0 at b.1) (λ b. refl)
  expr x late (CollExpr k is at) = made numbers.expr (written.literal x k _ at (all_items x [] is)) (λ b. TypedCollExpr k b.0 at b.1) (λ b. refl)
  expr x late (IfExpr c y z at) = made numbers.expr (written.conditional x at (expr x false c) (expr x false y) (expr x false z)) (λ b. TypedIfExpr b.0 b.1.0 b.1.1.0 at b.1.1.1) (λ b. refl)
  expr x late (ObjectExpr v path extent ss at) = made numbers.expr (arrows.object x path extent at (object_variable x v) (λ c. arrows.block (phrase.object_in x c) _ (stmts (phrase.object_in x c) ss))) (λ b. TypedObjectExpr b.0 (path_with path b.1.0) extent b.1.1.0 at b.1.1.1) (λ b. refl)
  expr x late (NewExpr path extent es at) = made numbers.expr (arrows.new x path extent _ at (exprs x [] es)) (λ b. TypedNewExpr (path_with path b.0) extent b.1.0 at b.1.1) (λ b. refl)
  expr x late (MapExpr m) = made numbers.expr (mapped x m) TypedMapExpr (λ b. refl)
  expr x late (ResolveExpr r) = made numbers.expr (resolved x late r) TypedResolveExpr (λ b. refl)
  expr x late (ChainExpr level e ls at) = made numbers.expr (written.chain x _ (expr x false e) (λ o. links x o ls)) (λ b. TypedChainExpr level b.0 b.1.0 at b.1.1) (λ b. refl)
  expr x late (PrefixExpr ss e at) = made numbers.expr (written.prefix x ss (expr x false e)) (λ b. TypedPrefixExpr b.0 b.1.0 at b.1.1) (λ b. refl)
  expr x late (PostExpr e ss at) = made numbers.expr (before looked (λ s. written.post x (phrase.steps x late (is_some (phrase.model_path x s e ss)) ss) (source x s e ss (expr x false e)) (λ o. steps x late (is_some (phrase.model_path x s e ss)) o ss))) (λ b. TypedPostExpr b.0 b.1.0 at b.1.1) (λ b. refl)

  mapped : (x : TypingContext) (m : MapTerm) → Follows (phrase.mapped x m) (join.join_map m) numbers.map_call
  mapped x (MapOf strict name es at) = made numbers.map_call (written.map x name _ at (exprs x [] es)) (λ b. TypedMapOf strict name b.0 at b.1) (λ b. refl)

  resolved : (x : TypingContext) (late : Bool) (r : ResolveTerm) → Follows (phrase.resolved x late r) (join.join_resolve r) numbers.resolve
  resolved x late (ResolveOf l w i f at) = made numbers.resolve (arrows.resolve x late l w at (within x i) (filtered x f)) (λ b. TypedResolveOf l w b.0 b.1.0 at b.1.1) (λ b. refl)

  mapped_behind : (x : TypingContext) (arrow : Bool) (m : MapTerm) (o : Option Ty) → Follows (phrase.mapped_behind x arrow m o) (join.join_map m) numbers.map_call
  mapped_behind x arrow (MapOf strict name es at) o = made numbers.map_call (written.map_step x arrow name _ at (exprs x [] es) o) (λ b. TypedMapOf strict name b.0 at b.1) (λ b. refl)

  resolved_behind : (x : TypingContext) (late : Bool) (j : Joint) (r : ResolveTerm) (o : Option Ty) → Follows (phrase.resolved_behind x late j r o) (join.join_resolve r) numbers.resolve
  resolved_behind x late j (ResolveOf l w i f at) o = made numbers.resolve (arrows.resolve_step x late l j w at (within x i) (filtered x f) o) (λ b. TypedResolveOf l w b.0 b.1.0 at b.1.1) (λ b. refl)

  exprs : (x : TypingContext) (done : List (Option Ty)) (es : ExprTerms) → Follows (rule.all done (phrase.exprs x es)) (join.join_exprs es) numbers.exprs
  exprs x done NoExprs = nothing TypedNoExprs refl (given done)
  exprs x done (MoreExprs e es) = made numbers.exprs (both (expr x false e) (λ o. exprs x (done ++ o ∷ []) es)) (λ b. TypedMoreExprs b.0 b.1) (λ b. refl)

  classes : (x : TypingContext) (done : List ClassPart) (es : ExprTerms) → Follows (rule.all done (phrase.classes x es)) (join.join_exprs es) numbers.exprs
  classes x done NoExprs = nothing TypedNoExprs refl (given done)
  classes x done (MoreExprs e es) = made numbers.exprs (both (class_argument x e (expr x false e)) (λ c. classes x (done ++ c ∷ []) es)) (λ b. TypedMoreExprs b.0 b.1) (λ b. refl)

  linked : (x : TypingContext) (l : LinkTerm) (o : Option Ty) → Follows (phrase.linked x l o) (join.join_link l) numbers.link
  linked x (LinkOf op e at) o = made numbers.link (written.link x op at (expr x false e) o) (λ b. TypedLinkOf op b.0 at b.1) (λ b. refl)

  links : (x : TypingContext) (o : Option Ty) (ls : LinkTerms) → Follows (rule.beside o (phrase.links x ls)) (join.join_links ls) numbers.links
  links x o NoLinks = nothing TypedNoLinks refl (given o)
  links x o (MoreLinks l ls) = made numbers.links (both (linked x l o) (λ t. links x t ls)) (λ b. TypedMoreLinks b.0 b.1) (λ b. refl)

  item : (x : TypingContext) (i : ItemTerm) → Follows (phrase.item x i) (join.join_item i) numbers.item
  item x (ItemOf e NoRange at) = made numbers.item (written.single x (expr x false e)) (λ b. TypedItemOf b.0 TypedNoRange at b.1) (λ b. append-nil (numbers.expr b.0))
  item x (ItemOf e (RangeTo f sign) at) = made numbers.item (written.range x sign (expr x false e) (expr x false f)) (λ b. TypedItemOf b.0.0 (TypedRangeTo b.0.1.0 sign b.0.1.1) at b.1) (λ b. refl)

  all_items : (x : TypingContext) (done : List (Option Ty)) (is : ItemTerms) → Follows (rule.all done (phrase.all_items x is)) (join.join_items is) numbers.items
  all_items x done NoItems = nothing TypedNoItems refl (given done)
  all_items x done (MoreItems i is) = made numbers.items (both (item x i) (λ o. all_items x (done ++ o ∷ []) is)) (λ b. TypedMoreItems b.0 b.1) (λ b. refl)

  filtered : (x : TypingContext) (f : FilterTerm) → Follows (phrase.filtered x f) (join.join_filter f) numbers.filter
  filtered x NoFilter = nothing TypedNoFilter refl (given filtered_part.NoFilter)
  filtered x (FilterOf name t o at) = made numbers.filter (arrows.filter x name at (class_term x t) (given_expr (phrase.plain_in x) o)) (λ b. TypedFilterOf name b.0 b.1.0 at b.1.1) (λ b. refl)

  given_expr : (x : TypingContext) (o : OptionalExpr) → Follows (phrase.given_expr x o) (join.join_optional_expr o) numbers.optional
  given_expr x NoExpr = nothing TypedNoExpr refl (given (record { is_given = false; ty = None }))
  given_expr x (SomeExpr e) = made numbers.optional (written.is_written (expr x false e)) TypedSomeExpr (λ b. refl)

  heading : (x : TypingContext) (name : List ℕ) (h : HeadTerm) (o : Option Ty) → Follows (phrase.heading x name h o) (join.join_head h) numbers.head
  heading x name NoHead o = nothing TypedNoHead refl (arrows.no_head name o)
  heading x name (HeadOf v t NoAccumulator at) o = made numbers.head (arrows.plain_heading x v at numbers.accumulator TypedNoAccumulator refl (optional_type x t) o) (λ b. TypedHeadOf v b.0 b.1.0 at b.1.1) (λ b. refl)
  heading x name (HeadOf v t (AccumulatorOf a u e acc) at) o = made numbers.head (arrows.folding_heading x v a acc at (optional_type x t) (type_term x u) (expr x false e) o) (λ b. TypedHeadOf v b.0 (TypedAccumulatorOf a b.1.0.0 b.1.0.1.0 acc b.1.0.1.1) at b.1.1) (λ b. refl)

  step : (x : TypingContext) (late model : Bool) (s : StepTerm) (o : Option Ty) → Follows (phrase.step x late model s o) (join.join_step s) numbers.step
  step x late model (DotStep name NoArgs at) o = made numbers.step (one_mark (written.property_step x name at o)) (λ n. TypedDotStep name TypedNoArgs at n) (λ n. refl)
  step x late model (DotStep name (SomeArgs es) at) o = made numbers.step (written.called x model name _ _ at (exprs x [] es) (classes x [] es) o) (λ b. TypedDotStep name (TypedSomeArgs b.0) at b.1) (λ b. refl)
  step x late model (ArrowStep name h es at) o = made numbers.step (arrows.arrowed x name _ _ _ at (λ i. heading x name h i) (exprs (phrase.body_context (iterator_named name) x) [] es) (classes x [] es) o) (λ b. TypedArrowStep name b.0.0 b.0.1 at b.1) (λ b. refl)
  step x late model (DotMapStep m) o = made numbers.step (mapped_behind x false m o) TypedDotMapStep (λ b. refl)
  step x late model (ArrowMapStep m) o = made numbers.step (mapped_behind x true m o) TypedArrowMapStep (λ b. refl)
  step x late model (DotResolveStep r) o = made numbers.step (resolved_behind x late joint.Dot r o) TypedDotResolveStep (λ b. refl)
  step x late model (ArrowResolveStep r) o = made numbers.step (resolved_behind x late joint.Arrow r o) TypedArrowResolveStep (λ b. refl)

  steps : (x : TypingContext) (late model : Bool) (o : Option Ty) (ss : StepTerms) → Follows (rule.beside o (phrase.steps x late model ss)) (join.join_steps ss) numbers.steps
  steps x late model o NoSteps = nothing TypedNoSteps refl (given o)
  steps x late model o (MoreSteps s ss) = made numbers.steps (both (step x (late && phrase.are_none ss) model s o) (λ t. steps x late false t ss)) (λ b. TypedMoreSteps b.0 b.1) (λ b. refl)

  pub stmts : (x : TypingContext) (ss : StmtTerms) → Follows (rule_of.each (phrase.stmts x ss)) (join.join_stmts ss) numbers.stmts
  stmts x NoStmts = nothing TypedNoStmts refl (given tt)
  stmts x (MoreStmts s ss) = made numbers.stmts (both (stmt x s) (λ u. stmts x ss)) (λ b. TypedMoreStmts b.0 b.1) (λ b. refl)

  target : (x : TypingContext) (t : TargetTerm) → Follows (phrase.target x t) (join.join_target t) numbers.target
  target x (BareTarget name at) = made numbers.target (one_mark (arrows.bare_target x name at)) (λ n. TypedBareTarget name at n) (λ n. refl)
  target x (ResultTarget at) = made numbers.target (one_mark (arrows.result_target x at)) (λ n. TypedResultTarget at n) (λ n. refl)
  target x (MemberTarget e name at) = made numbers.target (arrows.member_target x name at (expr x false e)) (λ b. TypedMemberTarget b.0 name at b.1) (λ b. refl)

  stmt : (x : TypingContext) (s : StmtTerm) → Follows (phrase.stmt x s) (join.join_stmt s) numbers.stmt
  stmt x (VarStmt name t v at) = made numbers.stmt (arrows.variable x name at (optional_type x t) (given_expr x v)) (λ b. TypedVarStmt name b.0 b.1.0 at b.1.1) (λ b. refl)
  stmt x (AssignStmt t adds v at) = made numbers.stmt (arrows.assign x adds at (target x t) (λ late. expr x late v)) (λ b. TypedAssignStmt b.0 adds b.1.0 at b.1.1) (λ b. refl)
  stmt x (ReturnStmt v at) = made numbers.stmt (arrows.return_ x at (given_expr x v)) (λ b. TypedReturnStmt b.0 at b.1) (λ b. refl)
  stmt x (ValueStmt v at) = made numbers.stmt (arrows.value x (expr x false v)) (λ b. TypedValueStmt b.0 at b.1) (λ b. refl)
  stmt x (IfStmt c ss arms o at) = made numbers.stmt (arrows.if_ x _ _ _ at (expr x false c) (stmts x ss) (λ done. all_arms x done arms) (otherwise x o)) (λ b. TypedIfStmt b.0 b.1.0 b.1.1.0 b.1.1.1.0 at b.1.1.1.1) (λ b. refl)
  stmt x (WhileStmt c ss at) = made numbers.stmt (arrows.while_ x _ at (expr x false c) (stmts x ss)) (λ b. TypedWhileStmt b.0 b.1.0 at b.1.1) (λ b. refl)
  stmt x (ForEachStmt e name t c ss at) = made numbers.stmt (arrows.for_each x name _ at (expr x false e) (optional_type x t) (given_expr x c) (stmts x ss)) (λ b. TypedForEachStmt b.0 name b.1.0 b.1.1.0.0 b.1.1.0.1 at b.1.1.1) (λ b. refl)

  otherwise : (x : TypingContext) (o : ElseTerm) → Follows (rule_of.each (phrase.otherwise x o)) (join.join_else o) numbers.else_part
  otherwise x NoElse = nothing TypedNoElse refl (given tt)
  otherwise x (ElseOf ss) = made numbers.else_part (stmts x ss) TypedElseOf (λ b. refl)

  one_arm : (x : TypingContext) (a : ArmTerm) → Follows (phrase.one_arm x a) (join.join_arm a) numbers.arm
  one_arm x (ArmOf c ss) = made numbers.arm (arrows.arm x _ (expr x false c) (stmts x ss)) (λ b. TypedArmOf b.0 b.1) (λ b. refl)

  all_arms : (x : TypingContext) (done : List (Option Ty)) (arms : ArmTerms) → Follows (rule.all done (phrase.all_arms x arms)) (join.join_arms arms) numbers.all_arms
  all_arms x done NoArms = nothing TypedNoArms refl (given done)
  all_arms x done (MoreArms a arms) = made numbers.all_arms (both (one_arm x a) (λ o. all_arms x (done ++ o ∷ []) arms)) (λ b. TypedMoreArms b.0 b.1) (λ b. refl)
