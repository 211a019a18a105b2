-- Literals, names, signs, operators, properties and operations leave all of the state but its cost.
use Rattle.std.proofs.Common.{◌≡◌, ◌∙◌, ℕ, ◌+◌, nat_lt, Bool, true, false, cond, if◌then◌else◌, not, ◌&&◌, is_some, is_none, refl, ap, List, [], ◌∷◌, ◌++◌, Option, Some, None, Result, Ok, Err}
use Rattle.qvt_base.specs.declared.numbers.Place.{Place}
use Rattle.qvt_tree_types.specs.declared.words.BinaryOp.{BinaryOp}
use Rattle.qvt_types_data.specs.declared.note.Note.{Note}
use Rattle.qvt_types_data.specs.declared.note.Reading.{Reading}
use Rattle.qvt_types_data.specs.declared.note.Reading.TheVariants as reading
use Rattle.qvt_types_data.specs.declared.ty.Ty.{Ty}
use Rattle.qvt_types_nodes.specs.declared.types.TypedSign.{TypedSign}
use Rattle.qvt_types_nodes.specs.Tree.{TypedExprTerm, TypedIntExpr, TypedStrExpr, TypedBoolExpr, TypedNullExpr, TypedSelfExpr, TypedResultExpr, TypedPathExpr, TypedChainExpr, TypedPrefixExpr, TypedPostExpr, TypedExprTerms, TypedNoExprs, TypedMoreExprs, TypedLinkTerm, TypedLinkOf, TypedLinkTerms, TypedNoLinks, TypedMoreLinks, TypedOptionalArgs, TypedNoArgs, TypedSomeArgs, TypedStepTerm, TypedDotStep, TypedArrowStep, TypedStepTerms, TypedNoSteps, TypedMoreSteps}
use Rattle.qvt_types_steps.specs.Classes.{class_test_named, is_selection}
use Rattle.qvt_types_steps.specs.IteratorTable.{iterator_named}
use Rattle.qvt_types_steps.specs.OperationNames.{operation_named}
use Rattle.qvt_types_steps.specs.Rulings.{operation_of}
use Rattle.qvt_types_steps.specs.declared.classes.ClassTest.{ClassTest}
use Rattle.qvt_types_steps.specs.declared.iterators.IteratorKind.{IteratorKind}
use Rattle.qvt_value.specs.declared.value.Value.{Value, Null, Bool as Truth, Int, Str, Obj, Invalid, Enum}
use Rattle.qvt_ocl_words.specs.declared.op.Op.{Op}
use Rattle.qvt_ocl_words.specs.Operation.{operation}
use Rattle.qvt_run_data.specs.declared.exit.Exit.{Exit}
use Rattle.qvt_run_data.specs.declared.exit.Exit.TheVariants.{Ends}
use Rattle.qvt_run_data.specs.declared.exit.End.TheVariants.{OutOfFuel}
use Rattle.qvt_run_rules.specs.State.{State, Done, Does, on_outcome, ◌>>=◌, ◌>>◌, pure, misfit, found, look}
use Rattle.qvt_run_rules.specs.Calls.{CallRule}
use Rattle.qvt_run_rules.specs.Cost.{charge, count, spend_of}
use Rattle.qvt_run_rules.specs.Locals.{self_name, result_name, local_named, value_in, read}
use Rattle.qvt_run_rules.specs.Logic.{by_left, logic}
use Rattle.qvt_run_rules.specs.Store as store
use Rattle.qvt_run_rules.specs.Store.{read_property}
use Rattle.qvt_run_rules.specs.Expressions as rule
use Rattle.qvt_run_rules.specs.Questions.{object_test}
use Rattle.qvt_run_rules.specs.Sources.{before_arrow}
use Rattle.qvt_meaning.specs.Nodes.{class_argument, model_named, type_of}
use Rattle.qvt_meaning.specs.Phrases as of
use Rattle.qvt_meaning.specs.Readings as by
use Rattle.qvt_meaning.specs.Readings.{Setting, HeadDoes}
use Rattle.qvt_meaning.specs.StepTypes.{step_type, kind_before}
use Rattle.qvt_relation.proofs.Bools.{and_left, and_right}
use Rattle.qvt_exec_quiet.specs.Leaves.{IsQuiet, is_no_call, is_quiet_dot, is_quiet, is_quiet_link, are_quiet_links, is_quiet_step, are_quiet_steps, are_quiet_args, are_quiet, QuietLeave}
use Rattle.qvt_exec_quiet.specs.Operations.{unless_iterator, operation_alone}

-- ---- charges

quiet_count : {E : Type 0} (n : ℕ) → IsQuiet {E = E} (count n)
unfolding count
quiet_count n = record { leaves = λ s. refl }

either : {E A : Type 0} (s : State E) (b : Bool) (d e : Done E A) → d.1 ≡ record s { cost = d.1.cost } → e.1 ≡ record s { cost = e.1.cost } → (cond b d e).1 ≡ record s { cost = (cond b d e).1.cost }
either s true d e p q = p
either s false d e p q = q

quiet_charge : {E : Type 0} (fuel n : ℕ) → IsQuiet {E = E} (charge fuel n)
unfolding charge
quiet_charge fuel n = record { leaves = λ s. either s (nat_lt fuel (s.cost + n)) (Err (Ends OutOfFuel), s) (Ok tt, record s { cost = s.cost + n }) refl refl }

-- every charge
pub quiet_spend : {E : Type 0} (limit : Option ℕ) (n : ℕ) → IsQuiet {E = E} (spend_of limit n)
unfolding spend_of
quiet_spend None n = quiet_count n
quiet_spend (Some fuel) n = quiet_charge fuel n

not_true : (b : Bool) → not b ≡ true → b ≡ false
not_true true h = absurd (cc)
not_true false h = refl

-- ---- steps of a phrase

module _ {E : Type 0} where
  gives : {A : Type 0} (a : A) → IsQuiet {E = E} (pure a)
  gives a = record { leaves = λ s. refl }

  fits_not : {A : Type 0} (at : Place) → IsQuiet {E = E} {A = A} (misfit at)
  fits_not at = record { leaves = λ s. refl }

  finds : {A : Type 0} (o : Option A) (at : Place) → IsQuiet {E = E} (found o at)
  finds None at = record { leaves = λ s. refl }
  finds (Some a) at = record { leaves = λ s. refl }

  looks : {A : Type 0} (f : State E → Option A) (at : Place) → IsQuiet (look f at)
  looks f at = record { leaves = λ s. (finds (f s) at).leaves s }

  pub follows : {A B : Type 0} (p : Does E A) (f : A → Does E B) → IsQuiet p → ((a : A) → IsQuiet (f a)) → IsQuiet (p >>= f)
  follows {A} {B} p f q r = record { leaves = λ s. by s (p s).0 (p s).1 (q.leaves s) }
    where
      by : (s : State E) (o : Result A Exit) (t : State E) → t ≡ record s { cost = t.cost } → (on_outcome o t f).1 ≡ record s { cost = (on_outcome o t f).1.cost }
      by s (Err e) t h = h
      by s (Ok a) t h = (r a).leaves t ∙ ap (λ (u : State E). record u { cost = (f a t).1.cost }) h

  property : (f : ℕ) (at : Place) (v : Value) → IsQuiet {E = E} (rule.property_of f at v)
  unfolding read_property
  property f at (Invalid r p) = gives (Invalid r p)
  property f at Null = record { leaves = λ s. refl }
  property f at (Obj o) = looks (λ s. store.property at s.store o.0 f) at
  property f at v = fits_not at

  reads : (name : List ℕ) (at : Place) → IsQuiet {E = E} (read name at)
  unfolding read
  reads name at = looks (λ s. value_in (local_named name s.locals)) at

-- ---- expressions

module _ {E : Type 0} (x : Setting E) (calls : CallRule E) (answer : Option Ty) (charges : (n : ℕ) → IsQuiet (x.spend n)) where
  literal : (v : Value) → IsQuiet (rule.literal x.spend v)
  unfolding rule.literal
  literal v = follows (x.spend 1) (λ _. pure v) (charges 1) (λ _. gives v)

  variable : (name : List ℕ) (at : Place) → IsQuiet (rule.variable x.spend name at)
  unfolding rule.variable
  variable name at = follows (x.spend 1) (λ _. read name at) (charges 1) (λ _. reads name at)

  implicit : (source : List ℕ) (f : ℕ) (at : Place) → IsQuiet (rule.implicit x.spend source f at)
  unfolding rule.implicit
  implicit source f at = follows (x.spend 1) (λ _. read source at >>= rule.property_of f at) (charges 1) (λ _. follows (read source at) (rule.property_of f at) (reads source at) (property f at))

  named : (r : Reading) (source : Option (List ℕ)) (at : Place) → IsQuiet (by.name_of x.spend r source at)
  named (reading.Variable name) source at = variable name at
  named (reading.Feature f) (Some source) at = implicit source f.0 at
  named (reading.Literal m e l) source at = literal (Enum (record { metamodel = m; enumeration = e; literal = l }))
  named r source at = fits_not at

  known : (o : Option Value) (p : Does E Value) → IsQuiet p → IsQuiet (rule.unless_known o p)
  known None p q = q
  known (Some v) p q = gives v

  operator : (o : Option Op) (sign : BinaryOp) (p : Does E Value) (at : Place) (v : Value) → IsQuiet p → IsQuiet (by.operated_by x o sign p at v)
  unfolding rule.operated rule.logical
  operator (Some o) sign p at v q = follows (x.spend 1) (λ _. p >>= (λ w. found (operation o at v (w ∷ [])) at)) (charges 1) (λ _. follows p (λ w. found (operation o at v (w ∷ [])) at) q (λ w. finds (operation o at v (w ∷ [])) at))
  operator None sign p at v q = follows (x.spend 1) (λ _. rule.unless_known (by_left sign v) (p >>= (λ w. found (logic sign v w) at))) (charges 1)
      (λ _. known (by_left sign v) (p >>= (λ w. found (logic sign v w) at)) (follows p (λ w. found (logic sign v w) at) q (λ w. finds (logic sign v w) at)))

  signed : (ss : List TypedSign) (p : Does E Value) → IsQuiet p → IsQuiet (by.signs_of x ss p)
  unfolding rule.prefixed
  signed [] p q = q
  signed (s ∷ ss) p q =
      let inner : Does E Value = by.signs_of x ss p in
      let sign : Value → Option Value = rule.signed x.spend s.op s.place in
      follows (x.spend 1) (λ _. inner >>= (λ v. found (sign v) s.place)) (charges 1) (λ _. follows inner (λ v. found (sign v) s.place) (signed ss p q) (λ v. finds (sign v) s.place))

  on_first : (p : Does E Value) (fs : List (Value → Does E Value)) → IsQuiet p → ((v : Value) → IsQuiet (rule.along v fs)) → IsQuiet (rule.on_first p fs)
  unfolding rule.on_first
  on_first p fs q r = follows p (λ v. rule.along v fs) q r

  -- ---- steps

  abbrev spends : (p : Does E Value) → IsQuiet p → IsQuiet (rule.tick x.spend >> p)
  spends p q = follows (x.spend 1) (λ _. p) (charges 1) (λ _. q)

  property_step : (r : Reading) (collect : Bool) (at : Place) (v : Value) → collect ≡ false → IsQuiet (by.property_by x.spend r collect at v)
  unfolding rule.dot
  property_step (reading.Feature f) false at v h = spends (rule.property_of f.0 at v) (property f.0 at v)
  property_step (reading.Feature f) true at v h = absurd (cc)
  property_step r collect at v h = fits_not at

  tested : (t : Option ClassTest) (c : Option ℕ) (collect : Bool) (at : Place) (v : Value) → collect ≡ false → IsQuiet (by.tested_by x.spend t c collect at v)
  unfolding rule.object_tested
  tested (Some t) (Some c) false at v h = spends (look (λ s. rule.tested s.store (object_test t) c at v) at) (looks (λ s. rule.tested s.store (object_test t) c at v) at)
  tested (Some t) (Some c) true at v h = absurd (cc)
  tested (Some t) None collect at v h = fits_not at
  tested None c collect at v h = fits_not at

  operates : (o : Option Op) (ps : List (Does E Value)) (collect : Bool) (at : Place) (v : Value) → collect ≡ false → IsQuiet (rule.values ps) → IsQuiet (by.operation_by x o ps collect at v)
  unfolding rule.called
  operates (Some o) ps false at v h q = spends (rule.values ps >>= (λ ws. found (operation o at v ws) at)) (follows (rule.values ps) (λ ws. found (operation o at v ws) at) q (λ ws. finds (operation o at v ws) at))
  operates (Some o) ps true at v h q = absurd (cc)
  operates None ps collect at v h q = fits_not at

  either_of : (b : Bool) (p q : Does E Value) → IsQuiet p → IsQuiet q → IsQuiet (if b then p else q)
  either_of true p q h g = h
  either_of false p q h g = g

  dot_step : (name : List ℕ) (r : Reading) (ps : List (Does E Value)) (c : Option ℕ) (collect : Bool) (at : Place) (v : Value) → collect ≡ false → is_no_call r ≡ true → IsQuiet (rule.values ps) →
      IsQuiet (by.dot_by x calls name r collect ps c at v)
  dot_step name (reading.Operation o) ps c collect at v h g q =
      either_of (is_some (class_test_named name)) (by.tested_by x.spend (class_test_named name) c collect at v) (by.operation_by x (operation_named name) ps collect at v)
      (tested (class_test_named name) c collect at v h) (operates (operation_named name) ps collect at v h q)
  dot_step name (reading.Units ns) ps c collect at v h g q = absurd (cc)
  dot_step name r ps c collect at v h g q = fits_not at

  arrow_step : (name : List ℕ) (hd : HeadDoes E) (ps : List (Does E Value)) (c : Option ℕ) (at : Place) (v : Value) (b : Bool) (i : Option IteratorKind) →
      is_some (if b then None else unless_iterator i (operation_named name)) ≡ true → IsQuiet (rule.values ps) →
      IsQuiet (if b then by.selection_by x.spend name c at v else by.named_step x i name hd ps at v)
  arrow_step name hd ps c at v true i h q = absurd (cc)
  arrow_step name hd ps c at v false None h q = operates (operation_named name) ps false at v refl q
  arrow_step name hd ps c at v false (Some i) h q = absurd (cc)

  posts : (m : Option ℕ) (p : Does E Value) (at : Place) (ss : TypedStepTerms) (fs : List (Value → Does E Value)) → is_none m ≡ true → IsQuiet (rule.on_first p fs) → IsQuiet (by.post_of x m at p ss fs)
  posts None p at ss fs h q = q
  posts (Some m) p at ss fs h q = absurd (cc)

  mutual
    unfolding of.expr

    quiet : (e : TypedExprTerm) → is_quiet e ≡ true → IsQuiet (of.expr x calls answer e)
    quiet (TypedIntExpr v at n) h = literal (Int v)
    quiet (TypedStrExpr v at n) h = literal (Str v)
    quiet (TypedBoolExpr v at n) h = literal (Truth v)
    quiet (TypedNullExpr at n) h = literal Null
    quiet (TypedSelfExpr at n) h = variable self_name at
    quiet (TypedResultExpr at n) h = variable result_name at
    quiet (TypedPathExpr p) h = named p.note.reading p.note.source p.place
    quiet (TypedChainExpr level e ls at n) h = on_first (of.expr x calls answer e) (of.links x calls answer ls) (quiet e (and_left (is_quiet e) (are_quiet_links ls) h)) (goes_along ls (and_right (is_quiet e) (are_quiet_links ls) h))
    quiet (TypedPrefixExpr ss e at n) h = signed ss (of.expr x calls answer e) (quiet e h)
    quiet (TypedPostExpr e ss at n) h =
        let here : (is_quiet e && are_quiet_steps ss) ≡ true = and_right (is_none (model_named e)) (is_quiet e && are_quiet_steps ss) h in
        posts (model_named e) (of.expr x calls answer e) at ss (of.steps x calls answer (type_of e) ss) (and_left (is_none (model_named e)) (is_quiet e && are_quiet_steps ss) h)
        (on_first (of.expr x calls answer e) (of.steps x calls answer (type_of e) ss) (quiet e (and_left (is_quiet e) (are_quiet_steps ss) here)) (goes_on (type_of e) ss (and_right (is_quiet e) (are_quiet_steps ss) here)))
    quiet e h = absurd (cc)

    linked : (l : TypedLinkTerm) → is_quiet_link l ≡ true → (v : Value) → IsQuiet (of.link x calls answer l v)
    linked (TypedLinkOf op e at n) h v = operator (operation_of op) op (of.expr x calls answer e) at v (quiet e h)

    goes_along : (ls : TypedLinkTerms) → are_quiet_links ls ≡ true → (v : Value) → IsQuiet (rule.along v (of.links x calls answer ls))
    goes_along TypedNoLinks h v = gives v
    goes_along (TypedMoreLinks l ls) h v = follows (of.link x calls answer l v) (λ w. rule.along w (of.links x calls answer ls)) (linked l (and_left (is_quiet_link l) (are_quiet_links ls) h) v) (goes_along ls (and_right (is_quiet_link l) (are_quiet_links ls) h))

    dotted : (name : List ℕ) (args : TypedOptionalArgs) (at : Place) (n : Note) → is_quiet_dot n ≡ true → are_quiet_args args ≡ true → (v : Value) → IsQuiet (of.dot_step x calls answer name args at n v)
    dotted name TypedNoArgs at n h g v = property_step n.reading n.collect at v (not_true n.collect (and_left (not n.collect) (is_no_call n.reading) h))
    dotted name (TypedSomeArgs es) at n h g v =
        dot_step name n.reading (of.exprs x calls answer es) (class_argument es) n.collect at v (not_true n.collect (and_left (not n.collect) (is_no_call n.reading) h)) (and_right (not n.collect) (is_no_call n.reading) h)
        (all_onto [] es g)

    stepped : (o : Option Ty) (s : TypedStepTerm) → is_quiet_step s ≡ true → (v : Value) → IsQuiet (of.step x calls answer o s v)
    stepped o (TypedDotStep name args at n) h v = dotted name args at n (and_left (is_quiet_dot n) (are_quiet_args args) h) (and_right (is_quiet_dot n) (are_quiet_args args) h) v
    stepped o (TypedArrowStep name hd es at n) h v =
        arrow_step name (of.head x calls answer hd) (of.exprs x calls answer es) (class_argument es) at (before_arrow n.wrap (kind_before o) v) (is_selection name) (iterator_named name)
        (and_left (is_some (operation_alone name)) (are_quiet es) h) (all_onto [] es (and_right (is_some (operation_alone name)) (are_quiet es) h))
    stepped o s h v = absurd (cc)

    goes_on : (o : Option Ty) (ss : TypedStepTerms) → are_quiet_steps ss ≡ true → (v : Value) → IsQuiet (rule.along v (of.steps x calls answer o ss))
    goes_on o TypedNoSteps h v = gives v
    goes_on o (TypedMoreSteps s ss) h v = follows (of.step x calls answer o s v) (λ w. rule.along w (of.steps x calls answer (step_type x.program s o) ss)) (stepped o s (and_left (is_quiet_step s) (are_quiet_steps ss) h) v)
        (goes_on (step_type x.program s o) ss (and_right (is_quiet_step s) (are_quiet_steps ss) h))

    all_onto : (done : List Value) (es : TypedExprTerms) → are_quiet es ≡ true → IsQuiet (rule.values_onto done (of.exprs x calls answer es))
    all_onto done TypedNoExprs h = gives done
    all_onto done (TypedMoreExprs e es) h = follows (of.expr x calls answer e) (λ v. rule.values_onto (done ++ v ∷ []) (of.exprs x calls answer es)) (quiet e (and_left (is_quiet e) (are_quiet es) h))
        (λ v. all_onto (done ++ v ∷ []) es (and_right (is_quiet e) (are_quiet es) h))

pub quiet_leave : {E : Type 0} → QuietLeave E
quiet_leave x calls answer charges es h = all_onto x calls answer charges [] es h
