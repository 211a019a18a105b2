-- Which rule each node has.
use Rattle.std.specs.Option.{is_some}
use Rattle.std.specs.Prelude.{ℕ, ◌&&◌, Bool, true, false, if◌then◌else◌, List, [], ◌∷◌, Option, Some, None}
use Rattle.qvt_tree_types.specs.declared.types.PathTree.{PathTree}
use Rattle.qvt_tree_types.specs.declared.types.ObjectVar.{ObjectVar}
use Rattle.qvt_tree_types.specs.declared.types.ObjectVar.TheVariants as variable
use Rattle.qvt_tree_types.specs.Tree.{TypeTerm, CollType, PathType, ExprTerm, IntExpr, StrExpr, BoolExpr, NullExpr, SelfExpr, ResultExpr, PathExpr, CallExpr, CollExpr, IfExpr, ObjectExpr, NewExpr, MapExpr, ResolveExpr, ChainExpr, PrefixExpr, PostExpr, ExprTerms, NoExprs, MoreExprs, OptionalExpr, NoExpr, SomeExpr, NoArgs, SomeArgs, LinkTerm, LinkOf, LinkTerms, NoLinks, MoreLinks, ItemTerm, ItemOf, NoRange, RangeTo, ItemTerms, NoItems, MoreItems, MapTerm, MapOf, ResolveTerm, ResolveOf, FilterTerm, NoFilter, FilterOf, HeadTerm, NoHead, HeadOf, NoAccumulator, AccumulatorOf, StepTerm, DotStep, ArrowStep, DotMapStep, ArrowMapStep, DotResolveStep, ArrowResolveStep, StepTerms, NoSteps, MoreSteps, TargetTerm, BareTarget, ResultTarget, MemberTarget, StmtTerm, VarStmt, AssignStmt, ReturnStmt, ValueStmt, IfStmt, WhileStmt, ForEachStmt, StmtTerms, NoStmts, MoreStmts, ElseTerm, NoElse, ElseOf, ArmTerm, ArmOf, ArmTerms, NoArms, MoreArms}
use Rattle.qvt_types_data.specs.declared.ty.Ty.{Ty}
use Rattle.qvt_types_data.specs.declared.ty.Ty.TheVariants as ty
use Rattle.qvt_types_states.specs.Judge.{Judges, ◌>>=◌, scope}
use Rattle.qvt_types_steps.specs.Classes.{model_call_named}
use Rattle.qvt_types_steps.specs.IteratorTable.{iterator_named, row_of}
use Rattle.qvt_types_steps.specs.declared.classes.ClassPart.{ClassPart}
use Rattle.qvt_types_steps.specs.declared.heads.Heading.{Heading}
use Rattle.qvt_types_steps.specs.declared.iterators.IteratorKind.{IteratorKind}
use Rattle.qvt_types_steps.specs.declared.resolves.Joint.{Joint}
use Rattle.qvt_types_steps.specs.declared.resolves.Joint.TheVariants as joint
use Rattle.qvt_types_states.specs.Scopes.{ScopeTerm}
use Rattle.qvt_typing.specs.declared.parts.Aim.{Aim}
use Rattle.qvt_typing.specs.declared.parts.Given.{Given}
use Rattle.qvt_typing.specs.declared.parts.ObjectVariable.{ObjectVariable}
use Rattle.qvt_typing.specs.declared.parts.Within.{Within}
use Rattle.qvt_typing.specs.declared.parts.Filtered.{Filtered}
use Rattle.qvt_typing.specs.Context.{TypingContext}
use Rattle.qvt_typing.specs.Names.{names_model}
use Rattle.qvt_typing.specs.Rules as rule
use Rattle.qvt_typing.specs.Statements as rule_of

-- the body of an iterator may have to be pure
abbrev pub pure_in : TypingContext → TypingContext
pure_in x = record x { pure = true }

abbrev pub body_context : Option IteratorKind → TypingContext → TypingContext
body_context None x = x
body_context (Some i) x = if (row_of i).is_pure then pure_in x else x

-- the condition of a resolve
abbrev pub plain_in : TypingContext → TypingContext
plain_in x = record x { plain = true }

-- the body of an object expression
abbrev pub object_in : TypingContext → ClassPart → TypingContext
object_in x c = record x { object = c }

abbrev pub object_variable : TypingContext → Option ObjectVar → Judges ObjectVariable
object_variable x None = rule.no_variable
object_variable x (Some (variable.Named name at)) = rule.named_variable x name at
object_variable x (Some (variable.ResultVar at)) = rule.result_variable x at

abbrev pub within : TypingContext → Option PathTree → Judges Within
within x None = rule.everywhere
within x (Some p) = rule.listed_path x p

unfoldable pub type_term : TypingContext → TypeTerm → Judges (Option Ty)
type_term x (PathType p) = rule.named_type x p
type_term x (CollType k t at) = rule.collection_type k (type_term x t)

abbrev pub optional_type : TypingContext → Option TypeTerm → Judges Given
optional_type x None = rule.not_given
optional_type x (Some t) = rule.is_written (type_term x t)

-- a class as a type
abbrev pub class_term : TypingContext → TypeTerm → Judges ClassPart
class_term x (PathType p) = rule.named_class x p
class_term x (CollType k t at) = rule.no_class (rule.collection_type k (type_term x t)) at

abbrev pub class_path : ExprTerm → Option PathTree
class_path (PathExpr p) = Some p
class_path e = None

-- a model may be the source of its operations alone: the first step is one of these
abbrev pub model_path : TypingContext → ScopeTerm → ExprTerm → StepTerms → Option PathTree
model_path x s (PathExpr p) (MoreSteps (DotStep name (SomeArgs es) at) ss) = if names_model x.heads s p.names && is_some (model_call_named name) then Some p else None
model_path x s e ss = None

abbrev pub are_none : StepTerms → Bool
are_none NoSteps = true
are_none (MoreSteps s ss) = false

-- Expressions. A late resolve may stand where `late` tells it.
unfoldable mutual
  pub expr : TypingContext → Bool → ExprTerm → Judges (Option Ty)
  expr x late (IntExpr v at) = rule.constant ty.Integer
  expr x late (StrExpr v at) = rule.constant ty.Str
  expr x late (BoolExpr v at) = rule.constant ty.Boolean
  expr x late (NullExpr at) = rule.constant ty.Void
  expr x late (SelfExpr at) = rule.self_ref x at
  expr x late (ResultExpr at) = rule.result_ref x at
  expr x late (PathExpr p) = rule.path x false p
  expr x late (CallExpr name es at) = rule.call x name (exprs x es) at
  expr x late (CollExpr k items at) = rule.literal x k (all_items x items) at
  expr x late (IfExpr c y z at) = rule.conditional x (expr x false c) (expr x false y) (expr x false z) at
  expr x late (ObjectExpr v path extent ss at) = rule.object x (object_variable x v) path extent (λ c. rule_of.block (object_in x c) (stmts (object_in x c) ss)) at
  expr x late (NewExpr path extent es at) = rule.new x path extent (exprs x es) at
  expr x late (MapExpr m) = mapped x m
  expr x late (ResolveExpr r) = resolved x late r
  expr x late (ChainExpr level e ls at) = rule.chain x (expr x false e) (links x ls)
  expr x late (PrefixExpr ss e at) = rule.prefix x ss (expr x false e)
  expr x late (PostExpr e ss at) = scope
      >>= (λ s. rule.post x (rule.source_path x (model_path x s e ss) (expr x false e)) (steps x late (is_some (model_path x s e ss)) ss))

  pub mapped : TypingContext → MapTerm → Judges (Option Ty)
  mapped x (MapOf strict name es at) = rule.map x name (exprs x es) at

  pub mapped_behind : TypingContext → Bool → MapTerm → Option Ty → Judges (Option Ty)
  mapped_behind x arrow (MapOf strict name es at) = rule.map_step x arrow name (exprs x es) at

  pub resolved : TypingContext → Bool → ResolveTerm → Judges (Option Ty)
  resolved x late (ResolveOf l w i f at) = rule.resolve x late l w (within x i) (filtered x f) at

  pub resolved_behind : TypingContext → Bool → Joint → ResolveTerm → Option Ty → Judges (Option Ty)
  resolved_behind x late j (ResolveOf l w i f at) = rule.resolve_step x late l j w (within x i) (filtered x f) at

  pub exprs : TypingContext → ExprTerms → List (Judges (Option Ty))
  exprs x NoExprs = []
  exprs x (MoreExprs e es) = expr x false e ∷ exprs x es

  -- arguments that are classes
  pub classes : TypingContext → ExprTerms → List (Judges ClassPart)
  classes x NoExprs = []
  classes x (MoreExprs e es) = rule.class_argument x (class_path e) (expr x false e) ∷ classes x es

  pub linked : TypingContext → LinkTerm → Option Ty → Judges (Option Ty)
  linked x (LinkOf op e at) = rule.link x op (expr x false e) at

  pub links : TypingContext → LinkTerms → List (Option Ty → Judges (Option Ty))
  links x NoLinks = []
  links x (MoreLinks l ls) = linked x l ∷ links x ls

  pub item : TypingContext → ItemTerm → Judges (Option Ty)
  item x (ItemOf e NoRange at) = rule.single (expr x false e)
  item x (ItemOf e (RangeTo f sign) at) = rule.range x (expr x false e) (expr x false f) sign

  pub all_items : TypingContext → ItemTerms → List (Judges (Option Ty))
  all_items x NoItems = []
  all_items x (MoreItems i is) = item x i ∷ all_items x is

  pub filtered : TypingContext → FilterTerm → Judges Filtered
  filtered x NoFilter = rule.no_filter
  filtered x (FilterOf name t o at) = rule.filter x name (class_term x t) (given_expr (plain_in x) o) at

  pub given_expr : TypingContext → OptionalExpr → Judges Given
  given_expr x NoExpr = rule.not_given
  given_expr x (SomeExpr e) = rule.is_written (expr x false e)

  -- the accumulator's first value is no part of the body
  pub heading : TypingContext → List ℕ → HeadTerm → Option Ty → Judges Heading
  heading x name NoHead = rule.no_head name
  heading x name (HeadOf v t NoAccumulator at) = rule.plain_heading x v (optional_type x t) at
  heading x name (HeadOf v t (AccumulatorOf a u e acc) at) = rule.folding_heading x v (optional_type x t) a (type_term x u) (expr x false e) acc at

  pub step : TypingContext → Bool → Bool → StepTerm → Option Ty → Judges (Option Ty)
  step x late model (DotStep name NoArgs at) = rule.property_step x name at
  step x late model (DotStep name (SomeArgs es) at) = rule.called x model name (exprs x es) (classes x es) at
  step x late model (ArrowStep name h es at) = rule.arrowed x name (heading x name h) (exprs (body_context (iterator_named name) x) es) (classes x es) at
  step x late model (DotMapStep m) = mapped_behind x false m
  step x late model (ArrowMapStep m) = mapped_behind x true m
  step x late model (DotResolveStep r) = resolved_behind x late joint.Dot r
  step x late model (ArrowResolveStep r) = resolved_behind x late joint.Arrow r

  -- a late resolve may be the last step, the operation of a model the first
  pub steps : TypingContext → Bool → Bool → StepTerms → List (Option Ty → Judges (Option Ty))
  steps x late model NoSteps = []
  steps x late model (MoreSteps s ss) = step x (late && are_none ss) model s ∷ steps x late false ss

  pub target : TypingContext → TargetTerm → Judges Aim
  target x (BareTarget name at) = rule_of.bare_target x name at
  target x (ResultTarget at) = rule_of.result_target x at
  target x (MemberTarget e name at) = rule_of.member_target x (expr x false e) name at

  pub stmt : TypingContext → StmtTerm → Judges (Unit {0})
  stmt x (VarStmt name t v at) = rule_of.variable x name (optional_type x t) (given_expr x v) at
  stmt x (AssignStmt t adds v at) = rule_of.assign x (target x t) adds (λ late. expr x late v) at
  stmt x (ReturnStmt v at) = rule_of.return_ x (given_expr x v) at
  stmt x (ValueStmt v at) = rule_of.value x (expr x false v)
  stmt x (IfStmt c ss arms o at) = rule_of.if_ x (expr x false c) (stmts x ss) (all_arms x arms) (otherwise x o) at
  stmt x (WhileStmt c ss at) = rule_of.while_ x (expr x false c) (stmts x ss) at
  stmt x (ForEachStmt e name t c ss at) = rule_of.for_each x (expr x false e) name (optional_type x t) (given_expr x c) (stmts x ss) at

  pub stmts : TypingContext → StmtTerms → List (Judges (Unit {0}))
  stmts x NoStmts = []
  stmts x (MoreStmts s ss) = stmt x s ∷ stmts x ss

  pub otherwise : TypingContext → ElseTerm → List (Judges (Unit {0}))
  otherwise x NoElse = []
  otherwise x (ElseOf ss) = stmts x ss

  pub one_arm : TypingContext → ArmTerm → Judges (Option Ty)
  one_arm x (ArmOf c ss) = rule_of.arm x (expr x false c) (stmts x ss)

  pub all_arms : TypingContext → ArmTerms → List (Judges (Option Ty))
  all_arms x NoArms = []
  all_arms x (MoreArms a arms) = one_arm x a ∷ all_arms x arms

-- steps on an expression or on a model
abbrev pub posted : TypingContext → Bool → ExprTerm → StepTerms → Judges (Option Ty)
posted x late e ss = scope
    >>= (λ s. rule.post x (rule.source_path x (model_path x s e ss) (expr x false e)) (steps x late (is_some (model_path x s e ss)) ss))

-- the body of an object expression, by the class of the object
abbrev pub object_body : TypingContext → StmtTerms → ClassPart → Judges (Unit {0})
object_body x ss c = rule_of.block (object_in x c) (stmts (object_in x c) ss)
