-- What a closed relation holds of calls, it holds of every phrase, over settings of one program.
use Rattle.std.proofs.Common.{ℕ, Bool, true, false, if◌then◌else◌, List, length, ◌-◌, Option, Some, None}
use Rattle.qvt_base.specs.declared.numbers.Place.{Place}
use Rattle.qvt_types_data.specs.Term.{kind_of}
use Rattle.qvt_types_data.specs.declared.note.Note.{Note}
use Rattle.qvt_types_data.specs.declared.ty.Ty.{Ty}
use Rattle.qvt_types_nodes.specs.Tree.{TypedExprTerm, TypedIntExpr, TypedStrExpr, TypedBoolExpr, TypedNullExpr, TypedSelfExpr, TypedResultExpr, TypedPathExpr, TypedCallExpr, TypedCollExpr, TypedIfExpr, TypedObjectExpr, TypedNewExpr, TypedMapExpr, TypedResolveExpr, TypedChainExpr, TypedPrefixExpr, TypedPostExpr, TypedExprTerms, TypedNoExprs, TypedMoreExprs, TypedOptionalExpr, TypedNoExpr, TypedSomeExpr, TypedOptionalArgs, TypedNoArgs, TypedSomeArgs, TypedLinkTerm, TypedLinkOf, TypedLinkTerms, TypedNoLinks, TypedMoreLinks, TypedItemTerm, TypedItemOf, TypedRangeTerm, TypedNoRange, TypedRangeTo, TypedItemTerms, TypedNoItems, TypedMoreItems, TypedMapTerm, TypedMapOf, TypedResolveTerm, TypedHeadTerm, TypedNoHead, TypedHeadOf, TypedAccumulatorTerm, TypedNoAccumulator, TypedAccumulatorOf, TypedStepTerm, TypedDotStep, TypedArrowStep, TypedDotMapStep, TypedArrowMapStep, TypedDotResolveStep, TypedArrowResolveStep, TypedStepTerms, TypedNoSteps, TypedMoreSteps, TypedTargetTerm, TypedBareTarget, TypedResultTarget, TypedMemberTarget, TypedStmtTerm, TypedVarStmt, TypedAssignStmt, TypedReturnStmt, TypedValueStmt, TypedIfStmt, TypedWhileStmt, TypedForEachStmt, TypedStmtTerms, TypedNoStmts, TypedMoreStmts, TypedElseTerm, TypedNoElse, TypedElseOf, TypedArmTerm, TypedArmOf, TypedArmTerms, TypedNoArms, TypedMoreArms}
use Rattle.qvt_typing.specs.Accepts.{ProgramTerm}
use Rattle.qvt_value.specs.declared.value.Value.{Value, Null, Bool as Truth, Int, Str}
use Rattle.qvt_run_rules.specs.State.{Does}
use Rattle.qvt_run_rules.specs.Locals.{self_name, result_name}
use Rattle.qvt_run_rules.specs.Calls.{CallRule}
use Rattle.qvt_meaning.specs.Nodes.{resolve_mark, place_of, type_of, optional_place, class_argument, model_named, late_of}
use Rattle.qvt_meaning.specs.Program.{form_of}
use Rattle.qvt_meaning.specs.StepTypes.{step_type, kind_before}
use Rattle.qvt_meaning.specs.Readings as by
use Rattle.qvt_meaning.specs.Readings.{Setting}
use Rattle.qvt_meaning.specs.Phrases as of
use Rattle.qvt_meaning_laws.proofs.Closed.{Relation, Repeated, Closed, Each, none, more, Held, held_none, held_some, lengths, takes}
use Rattle.qvt_meaning_laws.proofs.Parts.{on}
use Rattle.qvt_meaning_laws.proofs.Values as value
use Rattle.qvt_meaning_laws.proofs.Actions as action
use Rattle.qvt_meaning_laws.proofs.Calling.{AlikeCalls}
use Rattle.qvt_meaning_laws.proofs.Naming as naming
use Rattle.qvt_meaning_laws.proofs.Naming.{Bodies, Firsts, firsts, Heads, heads, Targets, bare_targets, result_targets, member_targets}

-- all but the last
but_last : {A B : Type 0} {P : A → B → Type 0} {xs : List A} {ys : List B} → Each P xs ys → Each P (of.but_last xs) (of.but_last ys)
but_last {xs} {ys} e = rw (lengths e) (takes (length ys - 1) e)

module _ {E F : Type 0} {R : Relation E F} {T : Repeated E F} {x : Setting E} {y : Setting F} (c : Closed E F R T x y) (program : ProgramTerm) {d : CallRule E} {d' : CallRule F} (k : AlikeCalls c d d')
    (repeats : (answer : Option Ty) (e : TypedExprTerm) → T (of.expr (naming.Left c program) d answer e) (of.expr (naming.Right c program) d' answer e)) (answer : Option Ty) where
  abbrev Left : Setting E
  Left = naming.Left c program

  abbrev Right : Setting F
  Right = naming.Right c program

  some_value : {p : Does E Value} {q : Does F Value} → R Value p q → R (Option Value) (of.some_value p) (of.some_value q)
  some_value e = on c e (λ v. c.gives (Option Value) (Some v))

  resolved : (r : TypedResolveTerm) (v : Value) → R Value (x.beyond (resolve_mark r).place (by.resolve_step Left (form_of program r) (resolve_mark r).place v)) (y.beyond (resolve_mark r).place (by.resolve_step Right (form_of program r) (resolve_mark r).place v))
  resolved r v = c.beyonds (resolve_mark r).place _ _ (naming.resolve_step c program (form_of program r) (resolve_mark r).place v)

  mutual
    unfolding of.expr

    pub of_expr : (e : TypedExprTerm) → R Value (of.expr Left d answer e) (of.expr Right d' answer e)
    of_expr (TypedIntExpr v at n) = value.literal c (Int v)
    of_expr (TypedStrExpr v at n) = value.literal c (Str v)
    of_expr (TypedBoolExpr v at n) = value.literal c (Truth v)
    of_expr (TypedNullExpr at n) = value.literal c Null
    of_expr (TypedSelfExpr at n) = value.variable c self_name at
    of_expr (TypedResultExpr at n) = value.variable c result_name at
    of_expr (TypedPathExpr p) = naming.name_of c program p.note.reading p.note.source p.place
    of_expr (TypedCallExpr name es at n) = c.beyonds at _ _ (naming.call_alone c program k n.reading n.source false at (of_exprs es))
    of_expr (TypedCollExpr kind is at n) = value.collected c (kind_of kind) at (of_items is)
    of_expr (TypedIfExpr t p q at n) = value.conditional c (place_of t) (of_expr t) (of_expr p) (of_expr q)
    of_expr (TypedObjectExpr v path e ss at n) = c.beyonds at _ _ (naming.object_by c program (by.variable_of Left v) n.reading at (action.block c (of_stmts ss)))
    of_expr (TypedNewExpr path e es at n) = c.beyonds at _ _ (naming.new_by c program k n.reading at (of_exprs es))
    of_expr (TypedMapExpr m) = of_map_alone m
    of_expr (TypedResolveExpr r) = c.beyonds (resolve_mark r).place _ _ (naming.resolve_alone c program (form_of program r) (resolve_mark r).place)
    of_expr (TypedChainExpr level e ls at n) = value.on_first c (of_expr e) (of_links ls)
    of_expr (TypedPrefixExpr ss e at n) = naming.signs_of c program ss (of_expr e)
    of_expr (TypedPostExpr e ss at n) = naming.post_of c program (model_named e) at ss (of_expr e) (of_steps (type_of e) ss)

    pub of_exprs : (es : TypedExprTerms) → Each (R Value) (of.exprs Left d answer es) (of.exprs Right d' answer es)
    of_exprs TypedNoExprs = none
    of_exprs (TypedMoreExprs e es) = more (of_expr e) (of_exprs es)

    of_bodies : (es : TypedExprTerms) → Each (Bodies c program) (of.exprs Left d answer es) (of.exprs Right d' answer es)
    of_bodies TypedNoExprs = none
    of_bodies (TypedMoreExprs e es) = more (repeats answer e, of_expr e) (of_bodies es)

    of_link : (l : TypedLinkTerm) (v : Value) → R Value (of.link Left d answer l v) (of.link Right d' answer l v)
    of_link (TypedLinkOf op e at n) v = naming.link_of c program op at v (of_expr e)

    of_links : (ls : TypedLinkTerms) → Each (value.Steps c) (of.links Left d answer ls) (of.links Right d' answer ls)
    of_links TypedNoLinks = none
    of_links (TypedMoreLinks l ls) = more (λ v. of_link l v) (of_links ls)

    of_item : (i : TypedItemTerm) → R (List Value) (of.item Left d answer i) (of.item Right d' answer i)
    of_item (TypedItemOf e r at n) = of_item_to (of_expr e) r

    of_item_to : {p : Does E Value} {q : Does F Value} → R Value p q → (r : TypedRangeTerm) → R (List Value) (of.item_to Left d answer p r) (of.item_to Right d' answer q r)
    of_item_to e TypedNoRange = value.item c e
    of_item_to e (TypedRangeTo t at n) = value.range c at e (of_expr t)

    of_items : (is : TypedItemTerms) → Each (R (List Value)) (of.items Left d answer is) (of.items Right d' answer is)
    of_items TypedNoItems = none
    of_items (TypedMoreItems i is) = more (of_item i) (of_items is)

    of_map_alone : (m : TypedMapTerm) → R Value (of.map_alone Left d answer m) (of.map_alone Right d' answer m)
    of_map_alone (TypedMapOf strict name es at n) = c.beyonds at _ _ (naming.call_alone c program k n.reading n.source strict at (of_exprs es))

    of_map_step : (all : Bool) (m : TypedMapTerm) (v : Value) → R Value (of.map_step Left d answer all m v) (of.map_step Right d' answer all m v)
    of_map_step all (TypedMapOf strict name es at n) v = c.beyonds at _ _ (naming.map_step c program k n.reading (if all then true else n.collect) strict at v (of_exprs es))

    of_head : (h : TypedHeadTerm) → Heads c program (of.head Left d answer h) (of.head Right d' answer h)
    of_head TypedNoHead = heads None held_none
    of_head (TypedHeadOf name t a at n) = heads (Some name) (of_accumulator a)

    of_accumulator : (a : TypedAccumulatorTerm) → Held (Firsts c program) (of.accumulator Left d answer a) (of.accumulator Right d' answer a)
    of_accumulator TypedNoAccumulator = held_none
    of_accumulator (TypedAccumulatorOf name t e at n) = held_some (firsts name (of_expr e))

    of_step : (o : Option Ty) (s : TypedStepTerm) (v : Value) → R Value (of.step Left d answer o s v) (of.step Right d' answer o s v)
    of_step o (TypedDotStep name args at n) v = of_dot_step name args at n v
    of_step o (TypedArrowStep name h es at n) v = naming.arrow_by c program (kind_before o) n.wrap name (class_argument es) at v (of_head h) (of_bodies es)
    of_step o (TypedDotMapStep m) v = of_map_step false m v
    of_step o (TypedArrowMapStep m) v = of_map_step true m v
    of_step o (TypedDotResolveStep r) v = resolved r v
    of_step o (TypedArrowResolveStep r) v = resolved r v

    of_dot_step : (name : List ℕ) (args : TypedOptionalArgs) (at : Place) (n : Note) (v : Value) → R Value (of.dot_step Left d answer name args at n v) (of.dot_step Right d' answer name args at n v)
    of_dot_step name TypedNoArgs at n v = naming.property_by c program n.reading n.collect at v
    of_dot_step name (TypedSomeArgs es) at n v = naming.dot_by c program k name n.reading n.collect (class_argument es) at v (of_exprs es)

    of_steps : (o : Option Ty) (ss : TypedStepTerms) → Each (value.Steps c) (of.steps Left d answer o ss) (of.steps Right d' answer o ss)
    of_steps o TypedNoSteps = none
    of_steps o (TypedMoreSteps s ss) = more (λ v. of_step o s v) (of_steps (step_type program s o) ss)

    of_optional : (v : TypedOptionalExpr) → R Value (of.optional Left d answer v) (of.optional Right d' answer v)
    of_optional TypedNoExpr = c.gives Value Null
    of_optional (TypedSomeExpr e) = of_expr e

    pub of_stmt : (s : TypedStmtTerm) → R (Unit {0}) (of.stmt Left d answer s) (of.stmt Right d' answer s)
    of_stmt (TypedVarStmt name t v at n) = action.statements c (action.declare c name (of.variable_type t v) (optional_place at v) (of_optional v))
    of_stmt (TypedAssignStmt t adds v at n) = action.statements c (naming.assigned c program (late_of v) adds (type_of v) at (of_target t) (of_expr v) (of_late_source v))
    of_stmt (TypedReturnStmt v at n) = action.statements c (of_return v)
    of_stmt (TypedValueStmt e at n) = action.statements c (action.discard c (of_expr e))
    of_stmt (TypedIfStmt t ss others other at n) = action.statements c (action.branch c (place_of t) (of_expr t) (action.block c (of_stmts ss)) (of_arms others _ _ (of_otherwise other)))
    of_stmt (TypedWhileStmt t ss at n) = c.loops _ _ (place_of t) _ _ (repeats answer t) (of_expr t) (action.block c (of_stmts ss))
    of_stmt (TypedForEachStmt e name t g ss at n) = action.statements c (action.for_each c (place_of e) name (of.each_type t e) (of_expr e) (of_guarded g _ _ (action.block c (of_stmts ss))))

    of_target : (t : TypedTargetTerm) → Targets c program (of.target Left d answer t) (of.target Right d' answer t)
    of_target (TypedBareTarget name at n) = bare_targets n.reading n.source
    of_target (TypedResultTarget at n) = result_targets
    of_target (TypedMemberTarget e name at n) = member_targets n.reading (of_expr e)

    of_late_source : (e : TypedExprTerm) → R (Option Value) (of.late_source Left d answer e) (of.late_source Right d' answer e)
    of_late_source (TypedPostExpr e ss at n) = some_value (naming.post_of c program (model_named e) at ss (of_expr e) (but_last (of_steps (type_of e) ss)))
    of_late_source e = c.gives (Option Value) None

    of_return : (v : TypedOptionalExpr) → R (Unit {0}) (of.return_ Left d answer v) (of.return_ Right d' answer v)
    of_return TypedNoExpr = action.go_back c
    of_return (TypedSomeExpr e) = action.give_back c answer (place_of e) (of_expr e)

    of_arms : (arms : TypedArmTerms) (p : Does E (Unit {0})) (q : Does F (Unit {0})) → R (Unit {0}) p q → R (Unit {0}) (of.arms Left d answer arms p) (of.arms Right d' answer arms q)
    of_arms TypedNoArms p q e = e
    of_arms (TypedMoreArms a arms) p q e = of_arm a _ _ (of_arms arms p q e)

    of_arm : (a : TypedArmTerm) (p : Does E (Unit {0})) (q : Does F (Unit {0})) → R (Unit {0}) p q → R (Unit {0}) (of.arm Left d answer a p) (of.arm Right d' answer a q)
    of_arm (TypedArmOf t ss) p q e = action.branch c (place_of t) (of_expr t) (action.block c (of_stmts ss)) e

    of_otherwise : (o : TypedElseTerm) → R (Unit {0}) (of.otherwise Left d answer o) (of.otherwise Right d' answer o)
    of_otherwise TypedNoElse = c.gives (Unit {0}) tt
    of_otherwise (TypedElseOf ss) = action.block c (of_stmts ss)

    of_guarded : (g : TypedOptionalExpr) (p : Does E (Unit {0})) (q : Does F (Unit {0})) → R (Unit {0}) p q → R (Unit {0}) (of.guarded Left d answer g p) (of.guarded Right d' answer g q)
    of_guarded TypedNoExpr p q e = e
    of_guarded (TypedSomeExpr t) p q e = action.branch c (place_of t) (of_expr t) e (c.gives (Unit {0}) tt)

    pub of_stmts : (ss : TypedStmtTerms) → Each (R (Unit {0})) (of.stmts Left d answer ss) (of.stmts Right d' answer ss)
    of_stmts TypedNoStmts = none
    of_stmts (TypedMoreStmts s ss) = more (of_stmt s) (of_stmts ss)
