-- The rule of each phrase. A phrase goes to smaller phrases alone; calls go through `calls`, and loops are bounded by their turns.
use Rattle.std.specs.Prelude.{ℕ, Bool, true, false, if◌then◌else◌, List, [], ◌∷◌, take, length, ◌-◌, Option, Some, None}
use Rattle.qvt_base.specs.declared.numbers.Place.{Place}
use Rattle.qvt_types_data.specs.Term.{kind_of}
use Rattle.qvt_types_data.specs.declared.note.Note.{Note}
use Rattle.qvt_types_data.specs.declared.ty.Ty.{Ty}
use Rattle.qvt_types_nodes.specs.Tree.{TypedTypeTerm, TypedExprTerm, TypedIntExpr, TypedStrExpr, TypedBoolExpr, TypedNullExpr, TypedSelfExpr, TypedResultExpr, TypedPathExpr, TypedCallExpr, TypedCollExpr, TypedIfExpr, TypedObjectExpr, TypedNewExpr, TypedMapExpr, TypedResolveExpr, TypedChainExpr, TypedPrefixExpr, TypedPostExpr, TypedExprTerms, TypedNoExprs, TypedMoreExprs, TypedOptionalExpr, TypedNoExpr, TypedSomeExpr, TypedOptionalArgs, TypedNoArgs, TypedSomeArgs, TypedLinkTerm, TypedLinkOf, TypedLinkTerms, TypedNoLinks, TypedMoreLinks, TypedItemTerm, TypedItemOf, TypedRangeTerm, TypedNoRange, TypedRangeTo, TypedItemTerms, TypedNoItems, TypedMoreItems, TypedMapTerm, TypedMapOf, TypedResolveTerm, TypedHeadTerm, TypedNoHead, TypedHeadOf, TypedAccumulatorTerm, TypedNoAccumulator, TypedAccumulatorOf, TypedStepTerm, TypedDotStep, TypedArrowStep, TypedDotMapStep, TypedArrowMapStep, TypedDotResolveStep, TypedArrowResolveStep, TypedStepTerms, TypedNoSteps, TypedMoreSteps, TypedTargetTerm, TypedBareTarget, TypedResultTarget, TypedMemberTarget, TypedStmtTerm, TypedVarStmt, TypedAssignStmt, TypedReturnStmt, TypedValueStmt, TypedIfStmt, TypedWhileStmt, TypedForEachStmt, TypedStmtTerms, TypedNoStmts, TypedMoreStmts, TypedElseTerm, TypedNoElse, TypedElseOf, TypedArmTerm, TypedArmOf, TypedArmTerms, TypedNoArms, TypedMoreArms}
use Rattle.qvt_types_steps.specs.Iterators.{item_type}
use Rattle.qvt_types_steps.specs.Rulings.{unless_void}
use Rattle.qvt_value.specs.declared.value.Value.{Value, Null, Bool as Truth, Int, Str}
use Rattle.qvt_run_rules.specs.State.{Does, ◌>>=◌, pure}
use Rattle.qvt_run_rules.specs.Locals.{self_name, result_name}
use Rattle.qvt_run_rules.specs.Expressions as rule
use Rattle.qvt_run_rules.specs.Statements as statement
use Rattle.qvt_run_rules.specs.Calls.{CallRule}
use Rattle.qvt_meaning.specs.Nodes.{resolve_mark, place_of, type_of, optional_type, optional_place, written_type, class_argument, model_named, late_of}
use Rattle.qvt_meaning.specs.Program.{form_of}
use Rattle.qvt_meaning.specs.StepTypes.{step_type, kind_before}
use Rattle.qvt_meaning.specs.Readings as by
use Rattle.qvt_meaning.specs.Readings.{Setting, HeadDoes, TargetDoes, BareTarget, ResultTarget, MemberTarget}

-- the type of a declared variable: the one that is written, else that of its value
abbrev pub variable_type : Option TypedTypeTerm → TypedOptionalExpr → Option Ty
variable_type (Some t) v = written_type t
variable_type None v = unless_void (optional_type v)

-- the type of the variable of a `forEach`: the one that is written, else that of the items
abbrev pub each_type : Option TypedTypeTerm → TypedExprTerm → Option Ty
each_type (Some t) e = written_type t
each_type None e = item_type (type_of e)

-- all but the last
abbrev pub but_last : {A : Type 0} → List A → List A
but_last xs = take (length xs - 1) xs

abbrev pub no_head : {E : Type 0} → HeadDoes E
no_head = record { name = None; accumulator = None }

abbrev pub some_value : {E : Type 0} → Does E Value → Does E (Option Value)
some_value p = p >>= (λ v. pure (Some v))

-- Phrases of a unit whose `return` has to have a value of the type `answer`.
module _ {E : Type 0} (x : Setting E) (calls : CallRule E) (answer : Option Ty) where
  abbrev resolve_step : TypedResolveTerm → Value → Does E Value
  resolve_step r v = x.beyond (resolve_mark r).place (by.resolve_step x (form_of x.program r) (resolve_mark r).place v)

  unfoldable mutual
    pub expr : TypedExprTerm → Does E Value
    expr (TypedIntExpr v at n) = rule.literal x.spend (Int v)
    expr (TypedStrExpr v at n) = rule.literal x.spend (Str v)
    expr (TypedBoolExpr v at n) = rule.literal x.spend (Truth v)
    expr (TypedNullExpr at n) = rule.literal x.spend Null
    expr (TypedSelfExpr at n) = rule.variable x.spend self_name at
    expr (TypedResultExpr at n) = rule.variable x.spend result_name at
    expr (TypedPathExpr p) = by.name_of x.spend p.note.reading p.note.source p.place
    expr (TypedCallExpr name es at n) = x.beyond at (by.call_alone x calls n.reading n.source false (exprs es) at)
    expr (TypedCollExpr k is at n) = rule.collected x.spend (kind_of k) (items is) at
    expr (TypedIfExpr c y z at n) = rule.conditional x.spend (expr c) (place_of c) (expr y) (expr z)
    expr (TypedObjectExpr v path e ss at n) = x.beyond at (by.object_by x (by.variable_of x v) n.reading (statement.block (stmts ss)) at)
    expr (TypedNewExpr path e es at n) = x.beyond at (by.new_by x calls n.reading (exprs es) at)
    expr (TypedMapExpr m) = map_alone m
    expr (TypedResolveExpr r) = x.beyond (resolve_mark r).place (by.resolve_alone x (form_of x.program r) (resolve_mark r).place)
    expr (TypedChainExpr level e ls at n) = rule.on_first (expr e) (links ls)
    expr (TypedPrefixExpr ss e at n) = by.signs_of x ss (expr e)
    expr (TypedPostExpr e ss at n) = by.post_of x (model_named e) at (expr e) ss (steps (type_of e) ss)

    pub exprs : TypedExprTerms → List (Does E Value)
    exprs TypedNoExprs = []
    exprs (TypedMoreExprs e es) = expr e ∷ exprs es

    pub link : TypedLinkTerm → Value → Does E Value
    link (TypedLinkOf op e at n) = by.link_of x op (expr e) at

    pub links : TypedLinkTerms → List (Value → Does E Value)
    links TypedNoLinks = []
    links (TypedMoreLinks l ls) = link l ∷ links ls

    pub item : TypedItemTerm → Does E (List Value)
    item (TypedItemOf e r at n) = item_to (expr e) r

    pub item_to : Does E Value → TypedRangeTerm → Does E (List Value)
    item_to p TypedNoRange = rule.item x.spend p
    item_to p (TypedRangeTo e at n) = rule.range x.spend p (expr e) at

    pub items : TypedItemTerms → List (Does E (List Value))
    items TypedNoItems = []
    items (TypedMoreItems i is) = item i ∷ items is

    -- a mapping on the implicit source, or without a context
    pub map_alone : TypedMapTerm → Does E Value
    map_alone (TypedMapOf strict name es at n) = x.beyond at (by.call_alone x calls n.reading n.source strict (exprs es) at)

    -- over all objects of the source, or on one
    pub map_step : Bool → TypedMapTerm → Value → Does E Value
    map_step all (TypedMapOf strict name es at n) v = x.beyond at (by.map_step x calls n.reading (if all then true else n.collect) strict (exprs es) at v)

    pub head : TypedHeadTerm → HeadDoes E
    head TypedNoHead = no_head
    head (TypedHeadOf name t a at n) = record { name = Some name; accumulator = accumulator a }

    pub accumulator : TypedAccumulatorTerm → Option (List ℕ × Does E Value)
    accumulator TypedNoAccumulator = None
    accumulator (TypedAccumulatorOf name t e at n) = Some (name, expr e)

    -- the type of what stands before the step comes first
    pub step : Option Ty → TypedStepTerm → Value → Does E Value
    step o (TypedDotStep name args at n) = dot_step name args at n
    step o (TypedArrowStep name h es at n) = by.arrow_by x (kind_before o) n.wrap name (head h) (exprs es) (class_argument es) at
    step o (TypedDotMapStep m) = map_step false m
    step o (TypedArrowMapStep m) = map_step true m
    step o (TypedDotResolveStep r) = resolve_step r
    step o (TypedArrowResolveStep r) = resolve_step r

    pub dot_step : List ℕ → TypedOptionalArgs → Place → Note → Value → Does E Value
    dot_step name TypedNoArgs at n = by.property_by x.spend n.reading n.collect at
    dot_step name (TypedSomeArgs es) at n = by.dot_by x calls name n.reading n.collect (exprs es) (class_argument es) at

    pub steps : Option Ty → TypedStepTerms → List (Value → Does E Value)
    steps o TypedNoSteps = []
    steps o (TypedMoreSteps s ss) = step o s ∷ steps (step_type x.program s o) ss

    -- a value that may be missing is null
    pub optional : TypedOptionalExpr → Does E Value
    optional TypedNoExpr = pure Null
    optional (TypedSomeExpr e) = expr e

    pub stmt : TypedStmtTerm → Does E (Unit {0})
    stmt (TypedVarStmt name t v at n) = statement.statement x.spend (statement.declare name (variable_type t v) (optional v) (optional_place at v))
    stmt (TypedAssignStmt t adds v at n) = statement.statement x.spend (by.assigned x (late_of v) (target t) adds (type_of v) (expr v) (late_source v) at)
    stmt (TypedReturnStmt v at n) = statement.statement x.spend (return_ v)
    stmt (TypedValueStmt e at n) = statement.statement x.spend (statement.discard (expr e))
    stmt (TypedIfStmt c ss more other at n) = statement.statement x.spend (statement.branch (expr c) (place_of c) (statement.block (stmts ss)) (arms more (otherwise other)))
    stmt (TypedWhileStmt c ss at n) = statement.statement x.spend (statement.loop x.turns (expr c) (place_of c) (statement.block (stmts ss)))
    stmt (TypedForEachStmt e name t c ss at n) = statement.statement x.spend (statement.for_each (expr e) (place_of e) name (each_type t e) (guarded c (statement.block (stmts ss))))

    pub target : TypedTargetTerm → TargetDoes E
    target (TypedBareTarget name at n) = BareTarget n.reading n.source
    target (TypedResultTarget at n) = ResultTarget
    target (TypedMemberTarget e name at n) = MemberTarget n.reading (expr e)

    -- what stands before the late resolve that ends the expression
    pub late_source : TypedExprTerm → Does E (Option Value)
    late_source (TypedPostExpr e ss at n) = some_value (by.post_of x (model_named e) at (expr e) ss (but_last (steps (type_of e) ss)))
    late_source e = pure None

    pub return_ : TypedOptionalExpr → Does E (Unit {0})
    return_ TypedNoExpr = statement.go_back
    return_ (TypedSomeExpr e) = statement.give_back answer (expr e) (place_of e)

    -- the first arm whose condition is true, or else what stands last
    pub arms : TypedArmTerms → Does E (Unit {0}) → Does E (Unit {0})
    arms TypedNoArms other = other
    arms (TypedMoreArms a more) other = arm a (arms more other)

    pub arm : TypedArmTerm → Does E (Unit {0}) → Does E (Unit {0})
    arm (TypedArmOf c ss) other = statement.branch (expr c) (place_of c) (statement.block (stmts ss)) other

    pub otherwise : TypedElseTerm → Does E (Unit {0})
    otherwise TypedNoElse = pure tt
    otherwise (TypedElseOf ss) = statement.block (stmts ss)

    pub guarded : TypedOptionalExpr → Does E (Unit {0}) → Does E (Unit {0})
    guarded TypedNoExpr body = body
    guarded (TypedSomeExpr c) body = statement.branch (expr c) (place_of c) body (pure tt)

    pub stmts : TypedStmtTerms → List (Does E (Unit {0}))
    stmts TypedNoStmts = []
    stmts (TypedMoreStmts s ss) = stmt s ∷ stmts ss
