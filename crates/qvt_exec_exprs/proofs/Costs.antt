-- What phrases cost that are numbers, and operators between them.
use Rattle.std.proofs.Common.{◌≡◌, ◌∙◌, ℕ, ◌+◌, nat_lt, Bool, true, false, if◌then◌else◌, ℤ, refl, sym, ap, List, [], ◌∷◌, Option, Some, None, Ok, Err, arith}
use Rattle.qvt_base.specs.declared.numbers.Place.{Place}
use Rattle.qvt_value.specs.declared.value.Value.{Value, Int}
use Rattle.qvt_tree_types.specs.declared.words.BinaryOp.{BinaryOp}
use Rattle.qvt_ocl_words.specs.Integers.{of_integers}
use Rattle.qvt_ocl_words.specs.Operation.{operation}
use Rattle.qvt_ocl_words.specs.declared.op.Op.{Op}
use Rattle.qvt_types_nodes.specs.View.{typed_expr_view}
use Rattle.qvt_types_nodes.specs.declared.tree.TypedExpr.{TypedExpr}
use Rattle.qvt_types_nodes.specs.declared.tree.TypedLink.{TypedLink}
use Rattle.qvt_types_steps.specs.Rulings as rulings
use Rattle.qvt_run_data.specs.declared.exit.Exit.TheVariants.{Ends}
use Rattle.qvt_run_data.specs.declared.exit.End.TheVariants.{OutOfFuel}
use Rattle.qvt_run_data.specs.declared.late.LateWrite.{LateWrite}
use Rattle.qvt_run_data.specs.declared.local.Local.{Local}
use Rattle.qvt_run_rules.specs.Cost.{charge, count, spend_of}
use Rattle.qvt_run_rules.specs.Expressions as rule
use Rattle.qvt_run_rules.specs.State.{State, Done, Does, on_outcome, ◌>>=◌, pure, found}
use Rattle.qvt_meaning.specs.Readings as by
use Rattle.qvt_exec_steps.specs.Means.{Scene, expr_of, links_of, setting_of}
use Rattle.qvt_exec_exprs.specs.Numbers.{counted, number_in, of_numbers, Costs, IsGiven, IsCountedNumber}
use Rattle.qvt_exec_exprs.specs.declared.numbers.Counted.{Counted}
use Rattle.qvt_exec_exprs.proofs.Chains.{of_link}
use Rattle.qvt_exec_exprs.proofs.Integers.{of_both}
use Rattle.qvt_exec_exprs.proofs.Read.{number_is}

-- ---- units in two parts

abbrev Pays : Option ℕ → ℕ → State LateWrite → State LateWrite → Type 0
Pays limit n s t = spend_of limit n s ≡ (Ok tt, t)

abbrev paid : ℕ → State LateWrite → State LateWrite
paid n s = record s { cost = s.cost + n }

abbrev unless : Bool → State LateWrite → State LateWrite → Done LateWrite (Unit {0})
unless b s u = if b then (Err (Ends OutOfFuel), s) else (Ok tt, u)

has_room : (b : Bool) (s u t : State LateWrite) → unless b s u ≡ (Ok tt, t) → b ≡ false
has_room true s u t h = let apart : Err (Ends OutOfFuel) ≡ Ok tt = ap (λ (d : Done LateWrite (Unit {0})). d.0) h in absurd (cc)
has_room false s u t h = refl

leaves : (b : Bool) (s u t : State LateWrite) → unless b s u ≡ (Ok tt, t) → u ≡ t
leaves true s u t h = let apart : Err (Ends OutOfFuel) ≡ Ok tt = ap (λ (d : Done LateWrite (Unit {0})). d.0) h in absurd (cc)
leaves false s u t h = ap (λ (d : Done LateWrite (Unit {0})). d.1) h

fewer : (fuel c a b : ℕ) → nat_lt fuel (c + (a + b)) ≡ false → nat_lt fuel (c + a) ≡ false
fewer fuel c a b h = grind (arith, h)

pay_first : (limit : Option ℕ) (a b : ℕ) (s t : State LateWrite) → Pays limit (a + b) s t → Pays limit a s (paid a s)
unfolding spend_of count charge
pay_first None a b s t h = refl
pay_first (Some fuel) a b s t h = ap (λ c. unless c s (paid a s)) (fewer fuel s.cost a b (has_room (nat_lt fuel (s.cost + (a + b))) s (paid (a + b) s) t h))

pay_rest : (limit : Option ℕ) (a b : ℕ) (s t : State LateWrite) → Pays limit (a + b) s t → Pays limit b (paid a s) t
unfolding spend_of count charge
pay_rest None a b s t h =
    let same : s.cost + a + b ≡ s.cost + (a + b) = omega arith in
    ap (λ (k : ℕ). (Ok tt, record s { cost = k })) same ∙ h
pay_rest (Some fuel) a b s t h =
    let same : s.cost + a + b ≡ s.cost + (a + b) = omega arith in
    ap (λ (k : ℕ). unless (nat_lt fuel k) (paid a s) (record s { cost = k })) same
    ∙ ap (λ c. unless c (paid a s) (paid (a + b) s)) (has_room (nat_lt fuel (s.cost + (a + b))) s (paid (a + b) s) t h)
    ∙ ap (λ (u : State LateWrite). (Ok tt, u)) (leaves (nat_lt fuel (s.cost + (a + b))) s (paid (a + b) s) t h)

-- ---- an operator between two numbers

operated : (limit : Option ℕ) (p q : Does LateWrite Value) (op : Op) (at : Place) (vs : List Local) (a b : ℤ) (m n : ℕ) (v : Value) → Costs limit p vs (Int a) m → Costs limit q vs (Int b) n → Some v ≡ of_integers op at a b →
    Costs limit (rule.on_first p (rule.operated (spend_of limit) op q at ∷ [])) vs v (m + n + 1)
unfolding rule.on_first rule.operated
operated limit p q op at vs a b m n v left right is s t same pays =
    let g : Value → Does LateWrite Value = λ w. found (operation op at (Int a) (w ∷ [])) at in
    let f : Value → Does LateWrite Value = rule.operated (spend_of limit) op q at in
    let order : m + (1 + n) ≡ m + n + 1 = omega arith in
    let all : Pays limit (m + (1 + n)) s t = ap (λ k. spend_of limit k s) order ∙ pays in
    let behind : Pays limit (1 + n) (paid m s) t = pay_rest limit m (1 + n) s t all in
    let last : State LateWrite = paid 1 (paid m s) in
    ap (λ (d : Done LateWrite Value). on_outcome d.0 d.1 (λ w. rule.along w (f ∷ []))) (left s (paid m s) same (pay_first limit m (1 + n) s t all))
    ∙ ap (λ (d : Done LateWrite (Unit {0})). on_outcome (on_outcome d.0 d.1 (λ _. q >>= g)).0 (on_outcome d.0 d.1 (λ _. q >>= g)).1 (λ (w : Value). pure w)) (pay_first limit 1 n (paid m s) t behind)
    ∙ ap (λ (d : Done LateWrite Value). on_outcome (on_outcome d.0 d.1 g).0 (on_outcome d.0 d.1 g).1 (λ (w : Value). pure w)) (right last t same (pay_rest limit 1 n (paid m s) t behind))
    ∙ ap (λ (o : Option Value). on_outcome (found {E = LateWrite} o at t).0 (found {E = LateWrite} o at t).1 (λ (w : Value). pure w)) (of_both op at a b v is)

-- by the operation that the operator is
by_operation : (x : Scene) (p q : Does LateWrite Value) (sign : BinaryOp) (o : Option Op) (at : Place) (vs : List Local) (a b : ℤ) (m n : ℕ) (v : Value) → Costs x.0.limit p vs (Int a) m → Costs x.0.limit q vs (Int b) n → of_numbers o at a b ≡ Some v →
    Costs x.0.limit (rule.on_first p (by.operated_by (setting_of x) o sign q at ∷ [])) vs v (m + n + 1)
by_operation x p q sign None at vs a b m n v left right is = absurd (cc)
by_operation x p q sign (Some op) at vs a b m n v left right is = operated x.0.limit p q op at vs a b m n v left right (sym is)

-- a chain of one operator
pub chain_costs : (x : Scene) (first : TypedExpr) (node : TypedLink) (vs : List Local) (a b : ℤ) (m n : ℕ) (v : Value) →
    Costs x.0.limit (expr_of x first) vs (Int a) m → Costs x.0.limit (expr_of x node.operand) vs (Int b) n → of_numbers (rulings.operation_of node.op) node.place a b ≡ Some v →
    Costs x.0.limit (rule.on_first (expr_of x first) (links_of x (node ∷ []))) vs v (m + n + 1)
chain_costs x first node vs a b m n v left right is s t same pays =
    ap (λ (fs : List (Value → Does LateWrite Value)). rule.on_first (expr_of x first) fs s) (of_link x node)
    ∙ by_operation x (expr_of x first) (expr_of x node.operand) node.op (rulings.operation_of node.op) node.place vs a b m n v left right is s t same pays

-- a number alone
pub number_costs : (x : Scene) (node : TypedExpr) (n : ℤ) (vs : List Local) → Some n ≡ number_in (typed_expr_view node) vs → Costs x.0.limit (expr_of x node) vs (Int n) 1
unfolding rule.literal
number_costs x node n vs is s t same pays =
    sym (number_is x node n s (is ∙ ap (number_in (typed_expr_view node)) (sym same)))
    ∙ ap (λ (d : Done LateWrite (Unit {0})). on_outcome d.0 d.1 (λ _. pure (Int n))) pays

-- ---- what the calls tell of phrases

counted_is : (o : Option ℤ) (c : Counted) → Some c ≡ counted o → (Some c.number ≡ o) × (c.units ≡ 1)
counted_is (Some n) c h =
    let is : c ≡ record { number = n; units = 1 } = cc in
    (ap (λ (d : Counted). Some d.number) is, ap (λ (d : Counted). d.units) is)
counted_is None c h = absurd (cc)

pub number_alone : (node : TypedExpr) (vs : List Local) (c : Counted) → Some c ≡ counted (number_in (typed_expr_view node) vs) → IsCountedNumber node vs c
number_alone node vs c h x s t same pays =
    let is : (Some c.number ≡ number_in (typed_expr_view node) vs) × (c.units ≡ 1) = counted_is (number_in (typed_expr_view node) vs) c h in
    number_costs x node c.number vs is.0 s t same (ap (λ k. spend_of x.0.limit k s) (sym is.1) ∙ pays)

pub given_by_one : (first : TypedExpr) (rest : List TypedLink) (node : TypedLink) (vs : List Local) (l r : Counted) (d : Value × ℕ) → rest ≡ node ∷ [] → IsCountedNumber first vs l → IsCountedNumber node.operand vs r →
    of_numbers (rulings.operation_of node.op) node.place l.number r.number ≡ Some d.0 → d.1 ≡ l.units + r.units + 1 → IsGiven first rest vs d
given_by_one first rest node vs l r d one left right is units x s t same pays =
    ap (λ (ls : List TypedLink). rule.on_first (expr_of x first) (links_of x ls) s) one
    ∙ chain_costs x first node vs l.number r.number l.units r.units d.0 (left x) (right x) is s t same (ap (λ k. spend_of x.0.limit k s) (sym units) ∙ pays)

pub number_of_chain : (node first : TypedExpr) (rest : List TypedLink) (vs : List Local) (d : Value × ℕ) (c : Counted) → ((x : Scene) → expr_of x node ≡ rule.on_first (expr_of x first) (links_of x rest)) → IsGiven first rest vs d →
    d.0 ≡ Int c.number → c.units ≡ d.1 → IsCountedNumber node vs c
number_of_chain node first rest vs d c is given number units x s t same pays =
    ap (λ (p : Does LateWrite Value). p s) (is x) ∙ given x s t same (ap (λ k. spend_of x.0.limit k s) (sym units) ∙ pays) ∙ ap (λ (v : Value). (Ok v, t)) number
