-- An expression that gives a value has cost at least one: it gives none in a run whose cost is the fuel, and so its cost is more than it was.
use Rattle.std.proofs.Common.{◌≡◌, ◌⊎◌, inl, inr, ℕ, ◌+◌, ◌≤◌, ◌<◌, Bool, true, false, nat_lt, if◌then◌else◌, sym, subst, List, [], ◌∷◌, drop, Option, Some, None, Result, Ok, Err, arith, lt-ltb, le_refl}
use Rattle.qvt_base.specs.declared.numbers.Place.{Place}
use Rattle.qvt_types_data.specs.declared.note.Reading.{Reading}
use Rattle.qvt_types_data.specs.declared.note.Reading.TheVariants as reading
use Rattle.qvt_types_data.specs.declared.ty.Ty.{Ty}
use Rattle.qvt_types_nodes.specs.declared.types.TypedSign.{TypedSign}
use Rattle.qvt_types_nodes.specs.Tree.{TypedExprTerm, TypedIntExpr, TypedStrExpr, TypedBoolExpr, TypedNullExpr, TypedSelfExpr, TypedResultExpr, TypedPathExpr, TypedCallExpr, TypedCollExpr, TypedIfExpr, TypedObjectExpr, TypedNewExpr, TypedMapExpr, TypedResolveExpr, TypedChainExpr, TypedPrefixExpr, TypedPostExpr, TypedMapTerm, TypedMapOf, TypedStepTerms, TypedMoreSteps, TypedDotStep, TypedSomeArgs}
use Rattle.qvt_typing.specs.Accepts.{ProgramTerm}
use Rattle.qvt_value.specs.declared.value.Value.{Value, Null, Bool as Truth, Int, Str}
use Rattle.qvt_run_data.specs.declared.callee.Callee.{Callee}
use Rattle.qvt_run_data.specs.declared.exit.End.TheVariants.{OutOfFuel}
use Rattle.qvt_run_data.specs.declared.exit.Exit.{Exit}
use Rattle.qvt_run_data.specs.declared.exit.Exit.TheVariants.{Ends}
use Rattle.qvt_run_data.specs.declared.late.LateWrite.{LateWrite}
use Rattle.qvt_run_data.specs.declared.questions.ModelQuery.{ModelQuery}
use Rattle.qvt_run_data.specs.declared.request.RequestForm.{RequestForm}
use Rattle.qvt_run_rules.specs.State.{State, Done, Does, on_outcome, ◌>>=◌, ◌>>◌, misfit}
use Rattle.qvt_run_rules.specs.Cost.{charge}
use Rattle.qvt_run_rules.specs.Calls as call
use Rattle.qvt_run_rules.specs.Calls.{CallRule}
use Rattle.qvt_run_rules.specs.Expressions as rule
use Rattle.qvt_run_rules.specs.Resolve as by_request
use Rattle.qvt_run_rules.specs.Statements as statement
use Rattle.qvt_meaning.specs.Nodes.{resolve_mark, model_named}
use Rattle.qvt_meaning.specs.Phrases as of
use Rattle.qvt_meaning.specs.Program.{form_of, free_callee}
use Rattle.qvt_meaning.specs.Readings as by
use Rattle.qvt_meaning.specs.Readings.{Setting}
use Rattle.qvt_meaning.specs.Units.{calls_to}
use Rattle.qvt_meaning_laws.proofs.Phrasing.{of_expr}
use Rattle.qvt_meaning_laws.proofs.Calls as calls
use Rattle.qvt_run_laws.specs.Fuel.{bounded}
use Rattle.qvt_run_laws.proofs.Agreeing.{IsOut, Agrees, Agree, agree}

abbrev pub NoValue : {A : Type 0} → Result A Exit → Type 0
NoValue (Ok a) = ⊥
NoValue (Err e) = Unit {0}

module _ {E : Type 0} (fuel : ℕ) where
  -- it gives no value where the cost is the fuel
  abbrev pub Bars : (A : Type 0) → Does E A → Type 0
  Bars A p = (s : State E) → fuel ≤ s.cost → NoValue (p s).0

  behind : {A B : Type 0} (r : Result A Exit) (t : State E) (h : A → Does E B) → NoValue r → NoValue (on_outcome r t h).0
  behind (Ok a) t h n = absurd n
  behind (Err e) t h n = tt

  bars_first : {A B : Type 0} (p : Does E A) (h : A → Does E B) → Bars A p → Bars B (p >>= h)
  bars_first p h e = λ s c. behind (p s).0 (p s).1 h (e s c)

  abbrev charged : Bool → State E → Done E (Unit {0})
  charged b s = if b then (Err (Ends OutOfFuel), s) else (Ok tt, record s { cost = s.cost + 1 })

  bars_charge : Bars (Unit {0}) (charge fuel 1)
  unfolding charge
  bars_charge = λ s c.
      let out : nat_lt fuel (s.cost + 1) ≡ true = lt-ltb fuel (s.cost + 1) (omega arith) in
      subst (λ b. NoValue (charged b s).0) (sym out) tt

  bars : {B : Type 0} (p : Does E B) → Bars B (charge fuel 1 >> p)
  bars p = bars_first (charge fuel 1) (λ _. p) bars_charge

  misfits : (at : Place) → Bars Value (misfit at)
  misfits at = λ s c. tt

  module _ (keep : LateWrite → E) (program : ProgramTerm) (turns : ℕ) where
    abbrev rules : Setting E
    rules = bounded keep program fuel turns

    literal : (v : Value) → Bars Value (rule.literal (charge fuel) v)
    unfolding rule.literal
    literal v = bars _

    variable : (name : List ℕ) (at : Place) → Bars Value (rule.variable (charge fuel) name at)
    unfolding rule.variable
    variable name at = bars _

    implicit : (source : List ℕ) (f : ℕ) (at : Place) → Bars Value (rule.implicit (charge fuel) source f at)
    unfolding rule.implicit
    implicit source f at = bars _

    name_of : (r : Reading) (source : Option (List ℕ)) (at : Place) → Bars Value (by.name_of (charge fuel) r source at)
    name_of (reading.Variable name) source at = variable name at
    name_of (reading.Feature f) (Some source) at = implicit source f.0 at
    name_of (reading.Literal m e l) source at = literal _
    name_of r source at = misfits at

    signs_of : (ss : List TypedSign) (p : Does E Value) → Bars Value p → Bars Value (by.signs_of rules ss p)
    unfolding rule.prefixed
    signs_of [] p e = e
    signs_of (s ∷ ss) p e = bars _

    on_first : (p : Does E Value) (fs : List (Value → Does E Value)) → Bars Value p → Bars Value (rule.on_first p fs)
    unfolding rule.on_first
    on_first p fs e = bars_first p _ e

    query_step : (q : Option ModelQuery) (i : ℕ) (at : Place) → Bars Value (by.query_step (charge fuel) q i at)
    unfolding rule.model_step
    query_step (Some q) i at = bars _
    query_step None i at = misfits at

    model_first : (i : ℕ) (at : Place) (ss : TypedStepTerms) → Bars Value (by.model_first (charge fuel) i at ss)
    model_first i at (TypedMoreSteps (TypedDotStep name (TypedSomeArgs es) step_at n) ss) = query_step _ i step_at
    model_first i at ss = misfits at

    post_of : (i : Option ℕ) (at : Place) (p : Does E Value) (ss : TypedStepTerms) (fs : List (Value → Does E Value)) → Bars Value p → Bars Value (by.post_of rules i at p ss fs)
    post_of None at p ss fs e = on_first p fs e
    post_of (Some i) at p ss fs e = on_first (by.model_first (charge fuel) i at ss) (drop 1 fs) (model_first i at ss)

    object_with : (name : Option (List ℕ)) (c e : ℕ) (body : Does E (Unit {0})) (at : Place) → Bars Value (by.object_with rules name c e body at)
    unfolding statement.object statement.object_in
    object_with None c e body at = bars _
    object_with (Some name) c e body at = bars _

    object_by : (name : Option (List ℕ)) (r : Reading) (body : Does E (Unit {0})) (at : Place) → Bars Value (by.object_by rules name r body at)
    object_by name (reading.Make c e) body at = object_with name c.0 e body at
    object_by name r body at = misfits at

    resolve_alone : (f : Option RequestForm) (at : Place) → Bars Value (by.resolve_alone rules f at)
    unfolding by_request.resolve_alone
    resolve_alone (Some f) at = bars _
    resolve_alone None at = misfits at

    module _ (d : CallRule E) where
      call_free : (n : Option Callee) (ps : List (Does E Value)) (at : Place) → Bars Value (by.call_free rules d n ps at)
      unfolding call.call_free
      call_free (Some n) ps at = bars _
      call_free None ps at = misfits at

      call_alone : (r : Reading) (source : Option (List ℕ)) (strict : Bool) (ps : List (Does E Value)) (at : Place) → Bars Value (by.call_alone rules d r source strict ps at)
      unfolding call.call_implicit
      call_alone r (Some source) strict ps at = bars _
      call_alone r None strict ps at = call_free (free_callee program r strict) ps at

      new_with : (c e : ℕ) (n : Option ℕ) (ps : List (Does E Value)) (at : Place) → Bars Value (by.new_with rules d c e n ps at)
      unfolding call.new_by call.new_alone
      new_with c e (Some n) ps at = bars _
      new_with c e None [] at = bars _
      new_with c e None (p ∷ ps) at = misfits at

      new_by : (r : Reading) (ps : List (Does E Value)) (at : Place) → Bars Value (by.new_by rules d r ps at)
      new_by (reading.Make c e) ps at = new_with c.0 e _ ps at
      new_by r ps at = misfits at

      map_alone : (answer : Option Ty) (m : TypedMapTerm) → Bars Value (of.map_alone rules d answer m)
      unfolding of.expr
      map_alone answer (TypedMapOf strict name es at n) = call_alone n.reading n.source strict (of.exprs rules d answer es) at

      pub bars_expr : (answer : Option Ty) (e : TypedExprTerm) → Bars Value (of.expr rules d answer e)
      unfolding of.expr rule.collected rule.conditional
      bars_expr answer (TypedIntExpr v at n) = literal (Int v)
      bars_expr answer (TypedStrExpr v at n) = literal (Str v)
      bars_expr answer (TypedBoolExpr v at n) = literal (Truth v)
      bars_expr answer (TypedNullExpr at n) = literal Null
      bars_expr answer (TypedSelfExpr at n) = variable _ at
      bars_expr answer (TypedResultExpr at n) = variable _ at
      bars_expr answer (TypedPathExpr p) = name_of p.note.reading p.note.source p.place
      bars_expr answer (TypedCallExpr name es at n) = call_alone n.reading n.source false (of.exprs rules d answer es) at
      bars_expr answer (TypedCollExpr k is at n) = bars _
      bars_expr answer (TypedIfExpr t p q at n) = bars _
      bars_expr answer (TypedObjectExpr v path e ss at n) = object_by (by.variable_of rules v) n.reading _ at
      bars_expr answer (TypedNewExpr path e es at n) = new_by n.reading (of.exprs rules d answer es) at
      bars_expr answer (TypedMapExpr m) = map_alone answer m
      bars_expr answer (TypedResolveExpr r) = resolve_alone (form_of program r) (resolve_mark r).place
      bars_expr answer (TypedChainExpr level e ls at n) = on_first (of.expr rules d answer e) (of.links rules d answer ls) (bars_expr answer e)
      bars_expr answer (TypedPrefixExpr ss e at n) = signs_of ss (of.expr rules d answer e) (bars_expr answer e)
      bars_expr answer (TypedPostExpr e ss at n) = post_of (model_named e) at (of.expr rules d answer e) ss _ (bars_expr answer e)

-- A value that is given costs something.

abbrev pub HasSpent : {A : Type 0} → ℕ → Result A Exit → ℕ → Type 0
HasSpent n (Ok a) m = n < m
HasSpent n (Err e) m = Unit {0}

abbrev pub Spends : {E : Type 0} (fuel : ℕ) (A : Type 0) → Does E A → Type 0
Spends {E} fuel A p = (s : State E) → s.cost ≤ fuel → HasSpent s.cost (p s).0 (p s).1.cost

spent_as : {E A : Type 0} (n fuel : ℕ) (more : n ≤ fuel) (d e : Done E A) → NoValue d.0 → Agrees n fuel more d e → HasSpent n e.0 e.1.cost
spent_as n fuel more d e none (inl w) = by e.0 (subst (λ x. NoValue x.0) w.0 none)
  where
    by : {A : Type 0} (r : Result A Exit) → NoValue r → HasSpent n r e.1.cost
    by (Ok a) h = absurd h
    by (Err x) h = tt
spent_as n fuel more d e none (inr w) = by e.0 w.1
  where
    by : {A : Type 0} (r : Result A Exit) → IsOut r ⊎ (n < e.1.cost) → HasSpent n r e.1.cost
    by (Ok a) (inl o) = absurd (cc)
    by (Ok a) (inr c) = c
    by (Err x) h = tt

module _ {E : Type 0} (keep : LateWrite → E) (p : ProgramTerm) (fuel turns left : ℕ) where
  pub spends_expr : (answer : Option Ty) (e : TypedExprTerm) → Spends fuel Value (of.expr (bounded keep p fuel turns) (calls_to (bounded keep p fuel turns) left) answer e)
  spends_expr answer e = λ s c.
      let less : Setting E = bounded keep p s.cost turns in
      let free : (left : ℕ) (answer : Option Ty) (e : TypedExprTerm) → Unit {0} = λ left answer e. tt in
      let both : Agree s.cost fuel c Value (of.expr less (calls_to less left) answer e) (of.expr (bounded keep p fuel turns) (calls_to (bounded keep p fuel turns) left) answer e)
      = of_expr (agree s.cost fuel c keep p turns) p (calls.calls_to (agree s.cost fuel c keep p turns) p free left) (free left) answer e in
      spent_as s.cost fuel c (of.expr less (calls_to less left) answer e s) (of.expr (bounded keep p fuel turns) (calls_to (bounded keep p fuel turns) left) answer e s)
      (bars_expr s.cost keep p turns (calls_to less left) answer e s (le_refl s.cost)) ((both s).1 (le_refl s.cost))
