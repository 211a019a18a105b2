-- What the judgement of each node keeps.
use Rattle.std.proofs.Common.{ℕ, Bool, true, false, List, [], ◌∷◌, Option, Some, None}
use Rattle.std.specs.Prelude.{is_some, if◌then◌else◌, ◌&&◌}
use Rattle.qvt_tree_types.specs.declared.types.PathTree.{PathTree}
use Rattle.qvt_tree_types.specs.declared.types.ObjectVar.{ObjectVar}
use Rattle.qvt_tree_types.specs.declared.types.ObjectVar.TheVariants as variable
use Rattle.qvt_tree_types.specs.Tree.{TypeTerm, CollType, PathType, ExprTerm, IntExpr, StrExpr, BoolExpr, NullExpr, SelfExpr, ResultExpr, PathExpr, CallExpr, CollExpr, IfExpr, ObjectExpr, NewExpr, MapExpr, ResolveExpr, ChainExpr, PrefixExpr, PostExpr, ExprTerms, NoExprs, MoreExprs, OptionalExpr, NoExpr, SomeExpr, NoArgs, SomeArgs, LinkTerm, LinkOf, LinkTerms, NoLinks, MoreLinks, ItemTerm, ItemOf, NoRange, RangeTo, ItemTerms, NoItems, MoreItems, MapTerm, MapOf, ResolveTerm, ResolveOf, FilterTerm, NoFilter, FilterOf, HeadTerm, NoHead, HeadOf, NoAccumulator, AccumulatorOf, StepTerm, DotStep, ArrowStep, DotMapStep, ArrowMapStep, DotResolveStep, ArrowResolveStep, StepTerms, NoSteps, MoreSteps, TargetTerm, BareTarget, ResultTarget, MemberTarget, StmtTerm, VarStmt, AssignStmt, ReturnStmt, ValueStmt, IfStmt, WhileStmt, ForEachStmt, StmtTerms, NoStmts, MoreStmts, ElseTerm, NoElse, ElseOf, ArmTerm, ArmOf, ArmTerms, NoArms, MoreArms}
use Rattle.qvt_types_data.specs.declared.ty.Ty.TheVariants as ty
use Rattle.qvt_types_states.specs.Judge.{Judges}
use Rattle.qvt_types_states.specs.Scopes.{ScopeTerm}
use Rattle.qvt_types_steps.specs.Classes.{model_call_named}
use Rattle.qvt_types_steps.specs.IteratorTable.{iterator_named, row_of}
use Rattle.qvt_types_steps.specs.declared.classes.ClassPart.{ClassPart}
use Rattle.qvt_types_steps.specs.declared.iterators.IteratorKind.{IteratorKind}
use Rattle.qvt_types_steps.specs.declared.resolves.Joint.{Joint}
use Rattle.qvt_types_steps.specs.declared.resolves.Joint.TheVariants as joint
use Rattle.qvt_typing.specs.Context.{TypingContext}
use Rattle.qvt_typing.specs.Names.{names_model}
use Rattle.qvt_typing.specs.Phrases as phrase
use Rattle.qvt_typing.specs.Rules as rule
use Rattle.qvt_typed_laws.proofs.Contexts.{TypedContext}
use Rattle.qvt_typed_laws.proofs.Every.{Every, none, also, first, others}
use Rattle.qvt_typed_laws.proofs.Keeps.{SomeTy, Anything, Keeps, weak, next, looked}
use Rattle.qvt_typed_laws.proofs.Rulings.{IsClass}
use Rattle.qvt_typed_laws.proofs.Solid.{Typed}
use Rattle.qvt_typed_laws.proofs.Rules as rules
use Rattle.qvt_typed_laws.proofs.Rules.{HasType, Behind}
use Rattle.qvt_typed_laws.proofs.Objects as objects
use Rattle.qvt_typed_laws.proofs.Objects.{Heads, TypedVariable, Somebody, FilteredBy}
use Rattle.qvt_typed_laws.proofs.Statements as statements

-- Contexts inside of nodes.

pure_typed : {x : TypingContext} → TypedContext x → TypedContext (phrase.pure_in x)
pure_typed t = record { heads = t.heads; self = t.self; result = t.result }

plain_typed : {x : TypingContext} → TypedContext x → TypedContext (phrase.plain_in x)
plain_typed t = record { heads = t.heads; self = t.self; result = t.result }

object_typed : {x : TypingContext} (c : ClassPart) → TypedContext x → TypedContext (phrase.object_in x c)
object_typed c t = record { heads = t.heads; self = t.self; result = t.result }

body_typed : {x : TypingContext} (i : Option IteratorKind) → TypedContext x → TypedContext (phrase.body_context i x)
body_typed None t = t
body_typed {x = x} (Some i) t = by (row_of i).is_pure
  where
    by : (b : Bool) → TypedContext (if b then phrase.pure_in x else x)
    by true = pure_typed t
    by false = t

every_weak : {P P' A : Type 0} {Q : A → Type 0} (f : P' → P) (ps : List (Judges A)) → Every (Keeps P Q) ps → Every (Keeps P' Q) ps
every_weak f [] k = none
every_weak f (p ∷ ps) k = also (weak f (first k)) (every_weak f ps (others k))

-- Types, classes and variables, which hold no expression.

object_variable : (x : TypingContext) (o : Option ObjectVar) → Keeps (TypedContext x) TypedVariable (phrase.object_variable x o)
object_variable x None = objects.no_variable
object_variable x (Some (variable.Named name at)) = objects.named_variable x name at
object_variable x (Some (variable.ResultVar at)) = objects.result_variable x (λ t. t) at

within : (x : TypingContext) (o : Option PathTree) → Keeps (TypedContext x) Somebody (phrase.within x o)
within x None = objects.everywhere x
within x (Some p) = objects.listed_path x p

pub type_term : {P : Type 0} (x : TypingContext) (t : TypeTerm) → Keeps P SomeTy (phrase.type_term x t)
unfolding phrase.type_term
type_term x (PathType p) = rules.named_type x p
type_term x (CollType k t at) = rules.collection_type k (type_term x t)

pub optional_type : {P : Type 0} (x : TypingContext) (o : Option TypeTerm) → Keeps P HasType (phrase.optional_type x o)
optional_type x None = rules.not_given
optional_type x (Some t) = rules.is_written (type_term x t)

class_term : {P : Type 0} (x : TypingContext) (t : TypeTerm) → Keeps P IsClass (phrase.class_term x t)
class_term x (PathType p) = rules.named_class x p
class_term x (CollType k t at) = rules.no_class at (rules.collection_type k (type_term x t))

-- Steps on an expression or on a model.

abbrev FirstParts : TypingContext → StepTerms → Type 0
FirstParts x NoSteps = Unit {0}
FirstParts x (MoreSteps (DotStep name NoArgs at) ss) = Unit {0}
FirstParts x (MoreSteps (DotStep name (SomeArgs es) at) ss) = Every (Keeps (TypedContext x) SomeTy) (phrase.exprs x es) × Every (Keeps (TypedContext x) Typed) (phrase.classes x es)
FirstParts x (MoreSteps (ArrowStep name h es at) ss) = Unit {0}
FirstParts x (MoreSteps (DotMapStep m) ss) = Unit {0}
FirstParts x (MoreSteps (ArrowMapStep m) ss) = Unit {0}
FirstParts x (MoreSteps (DotResolveStep r) ss) = Unit {0}
FirstParts x (MoreSteps (ArrowResolveStep r) ss) = Unit {0}

posted : (x : TypingContext) (late : Bool) (e : ExprTerm) (ss : StepTerms) (s : ScopeTerm) → Keeps (TypedContext x) SomeTy (phrase.expr x false e) → Every (Behind (TypedContext x)) (phrase.steps x late false ss) → FirstParts x ss
    → Keeps (TypedContext x) SomeTy (rule.post x (rule.source_path x (phrase.model_path x s e ss) (phrase.expr x false e)) (phrase.steps x late (is_some (phrase.model_path x s e ss)) ss))
unfolding phrase.steps phrase.step
posted x late (PathExpr p) (MoreSteps (DotStep name (SomeArgs es) at) ss) s k l m = by (names_model x.heads s p.names && is_some (model_call_named name))
  where
    by : (b : Bool) → Keeps (TypedContext x) SomeTy (rule.post x (rule.source_path x (if b then Some p else None) (phrase.expr x false (PathExpr p))) (phrase.steps x late (is_some (if b then Some p else None)) (MoreSteps (DotStep name (SomeArgs es) at) ss)))
    by true = rules.model_post x (λ t. t) (rules.model_path x (λ t. t) p) (rules.model_called x (λ t. t) name at m.0 m.1) (others l)
    by false = rules.post x (λ t. t) k l
posted x late e ss s k l m = rules.post x (λ t. t) k l

mutual
  unfolding phrase.expr phrase.mapped phrase.mapped_behind phrase.resolved phrase.resolved_behind phrase.exprs phrase.classes phrase.linked phrase.links phrase.item phrase.all_items phrase.filtered phrase.given_expr phrase.heading phrase.step phrase.steps phrase.target phrase.stmt phrase.stmts phrase.otherwise phrase.one_arm phrase.all_arms

  pub expr : (x : TypingContext) (late : Bool) (e : ExprTerm) → Keeps (TypedContext x) SomeTy (phrase.expr x late e)
  expr x late (IntExpr v at) = rules.constant ty.Integer
  expr x late (StrExpr v at) = rules.constant ty.Str
  expr x late (BoolExpr v at) = rules.constant ty.Boolean
  expr x late (NullExpr at) = rules.constant ty.Void
  expr x late (SelfExpr at) = rules.self_ref x (λ t. t) at
  expr x late (ResultExpr at) = rules.result_ref x (λ t. t) at
  expr x late (PathExpr p) = rules.path x (λ t. t) p
  expr x late (CallExpr name es at) = rules.call x (λ t. t) name at (exprs x es)
  expr x late (CollExpr k items at) = rules.literal x (λ t. t) k at (all_items x items)
  expr x late (IfExpr c y z at) = rules.conditional x (λ t. t) at (expr x false c) (expr x false y) (expr x false z)
  expr x late (ObjectExpr v path extent ss at) = objects.object x path extent at (object_variable x v) (λ c. weak (object_typed c) (statements.block (phrase.object_in x c) (stmts (phrase.object_in x c) ss)))
  expr x late (NewExpr path extent es at) = objects.new x path extent at (exprs x es)
  expr x late (MapExpr m) = mapped x m
  expr x late (ResolveExpr r) = resolved x late r
  expr x late (ChainExpr level e ls at) = rules.chain x (λ t. t) (expr x false e) (links x ls)
  expr x late (PrefixExpr ss e at) = rules.prefix x (λ t. t) ss (expr x false e)
  expr x late (PostExpr e ss at) = next looked (λ s. weak (λ h. h.0) (posted x late e ss s (expr x false e) (steps x late ss) (first_parts x ss)))

  -- the arguments of the first step, which may be an operation of a model
  first_parts : (x : TypingContext) (ss : StepTerms) → FirstParts x ss
  first_parts x NoSteps = tt
  first_parts x (MoreSteps (DotStep name NoArgs at) ss) = tt
  first_parts x (MoreSteps (DotStep name (SomeArgs es) at) ss) = (exprs x es, classes x es)
  first_parts x (MoreSteps (ArrowStep name h es at) ss) = tt
  first_parts x (MoreSteps (DotMapStep m) ss) = tt
  first_parts x (MoreSteps (ArrowMapStep m) ss) = tt
  first_parts x (MoreSteps (DotResolveStep r) ss) = tt
  first_parts x (MoreSteps (ArrowResolveStep r) ss) = tt

  mapped : (x : TypingContext) (m : MapTerm) → Keeps (TypedContext x) SomeTy (phrase.mapped x m)
  mapped x (MapOf strict name es at) = rules.map x (λ t. t) name at (exprs x es)

  mapped_behind : (x : TypingContext) (arrow : Bool) (m : MapTerm) → Behind (TypedContext x) (phrase.mapped_behind x arrow m)
  mapped_behind x arrow (MapOf strict name es at) = rules.map_step x (λ t. t) arrow name at (exprs x es)

  resolved : (x : TypingContext) (late : Bool) (r : ResolveTerm) → Keeps (TypedContext x) SomeTy (phrase.resolved x late r)
  resolved x late (ResolveOf l w i f at) = objects.resolve x (λ t. t) late l w at (within x i) (filtered x f)

  resolved_behind : (x : TypingContext) (late : Bool) (j : Joint) (r : ResolveTerm) → Behind (TypedContext x) (phrase.resolved_behind x late j r)
  resolved_behind x late j (ResolveOf l w i f at) = objects.resolve_step x (λ t. t) late l j w at (within x i) (filtered x f)

  exprs : (x : TypingContext) (es : ExprTerms) → Every (Keeps (TypedContext x) SomeTy) (phrase.exprs x es)
  exprs x NoExprs = none
  exprs x (MoreExprs e es) = also (expr x false e) (exprs x es)

  classes : (x : TypingContext) (es : ExprTerms) → Every (Keeps (TypedContext x) Typed) (phrase.classes x es)
  classes x NoExprs = none
  classes x (MoreExprs e es) = also (rules.class_argument x (phrase.class_path e) (expr x false e)) (classes x es)

  linked : (x : TypingContext) (l : LinkTerm) → Behind (TypedContext x) (phrase.linked x l)
  linked x (LinkOf op e at) = rules.link x (λ t. t) op at (expr x false e)

  links : (x : TypingContext) (ls : LinkTerms) → Every (Behind (TypedContext x)) (phrase.links x ls)
  links x NoLinks = none
  links x (MoreLinks l ls) = also (linked x l) (links x ls)

  item : (x : TypingContext) (i : ItemTerm) → Keeps (TypedContext x) SomeTy (phrase.item x i)
  item x (ItemOf e NoRange at) = rules.single (expr x false e)
  item x (ItemOf e (RangeTo f sign) at) = rules.range x (λ t. t) sign (expr x false e) (expr x false f)

  all_items : (x : TypingContext) (is : ItemTerms) → Every (Keeps (TypedContext x) SomeTy) (phrase.all_items x is)
  all_items x NoItems = none
  all_items x (MoreItems i is) = also (item x i) (all_items x is)

  filtered : (x : TypingContext) (f : FilterTerm) → Keeps (TypedContext x) FilteredBy (phrase.filtered x f)
  filtered x NoFilter = objects.no_filter x
  filtered x (FilterOf name t o at) = objects.filter x name at (class_term x t) (weak plain_typed (given_expr (phrase.plain_in x) o))

  given_expr : (x : TypingContext) (o : OptionalExpr) → Keeps (TypedContext x) HasType (phrase.given_expr x o)
  given_expr x NoExpr = rules.not_given
  given_expr x (SomeExpr e) = rules.is_written (expr x false e)

  heading : (x : TypingContext) (name : List ℕ) (h : HeadTerm) → Heads (TypedContext x) (phrase.heading x name h)
  heading x name NoHead = objects.no_head name
  heading x name (HeadOf v t NoAccumulator at) = objects.plain_heading x v at (optional_type x t)
  heading x name (HeadOf v t (AccumulatorOf a u e acc) at) = objects.folding_heading x v a acc at (optional_type x t) (type_term x u) (expr x false e)

  step : (x : TypingContext) (late : Bool) (s : StepTerm) → Behind (TypedContext x) (phrase.step x late false s)
  step x late (DotStep name NoArgs at) = rules.property_step x (λ t. t) name at
  step x late (DotStep name (SomeArgs es) at) = rules.called x (λ t. t) name at (exprs x es) (classes x es)
  step x late (ArrowStep name h es at) = objects.arrowed x name at (heading x name h) (every_weak (body_typed (iterator_named name)) _ (exprs (phrase.body_context (iterator_named name) x) es)) (classes x es)
  step x late (DotMapStep m) = mapped_behind x false m
  step x late (ArrowMapStep m) = mapped_behind x true m
  step x late (DotResolveStep r) = resolved_behind x late joint.Dot r
  step x late (ArrowResolveStep r) = resolved_behind x late joint.Arrow r

  steps : (x : TypingContext) (late : Bool) (ss : StepTerms) → Every (Behind (TypedContext x)) (phrase.steps x late false ss)
  steps x late NoSteps = none
  steps x late (MoreSteps s ss) = also (step x (late && phrase.are_none ss) s) (steps x late ss)

  target : (x : TypingContext) (t : TargetTerm) → Keeps (TypedContext x) Anything (phrase.target x t)
  target x (BareTarget name at) = statements.bare_target x name at
  target x (ResultTarget at) = statements.result_target x at
  target x (MemberTarget e name at) = statements.member_target x name at (expr x false e)

  pub stmt : (x : TypingContext) (s : StmtTerm) → Keeps (TypedContext x) Anything (phrase.stmt x s)
  stmt x (VarStmt name t v at) = statements.variable x name at (optional_type x t) (given_expr x v)
  stmt x (AssignStmt t adds v at) = statements.assign x adds at (target x t) (λ late. expr x late v)
  stmt x (ReturnStmt v at) = statements.return_ x at (given_expr x v)
  stmt x (ValueStmt v at) = statements.value x (expr x false v)
  stmt x (IfStmt c ss arms o at) = statements.if_ x at (expr x false c) (stmts x ss) (all_arms x arms) (otherwise x o)
  stmt x (WhileStmt c ss at) = statements.while_ x at (expr x false c) (stmts x ss)
  stmt x (ForEachStmt e name t c ss at) = statements.for_each x name at (expr x false e) (optional_type x t) (given_expr x c) (stmts x ss)

  pub stmts : (x : TypingContext) (ss : StmtTerms) → Every (Keeps (TypedContext x) Anything) (phrase.stmts x ss)
  stmts x NoStmts = none
  stmts x (MoreStmts s ss) = also (stmt x s) (stmts x ss)

  otherwise : (x : TypingContext) (o : ElseTerm) → Every (Keeps (TypedContext x) Anything) (phrase.otherwise x o)
  otherwise x NoElse = none
  otherwise x (ElseOf ss) = stmts x ss

  one_arm : (x : TypingContext) (a : ArmTerm) → Keeps (TypedContext x) Anything (phrase.one_arm x a)
  one_arm x (ArmOf c ss) = statements.arm x (expr x false c) (stmts x ss)

  all_arms : (x : TypingContext) (arms : ArmTerms) → Every (Keeps (TypedContext x) Anything) (phrase.all_arms x arms)
  all_arms x NoArms = none
  all_arms x (MoreArms a arms) = also (one_arm x a) (all_arms x arms)
