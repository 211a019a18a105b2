-- The laws of the fuel.
use Rattle.std.proofs.Common.{◌≡◌, ◌≢◌, ◌∙◌, ◌⊎◌, inl, inr, ℕ, ◌+◌, ◌≤◌, ◌<◌, Bool, true, false, nat_lt, if◌then◌else◌, refl, sym, ap, subst, List, [], ◌∷◌, map, Option, None, Result, Ok, Err, arith, lt-ltb, le-ltb, ltb-true, ltb-false}
use Rattle.qvt_slots.specs.Contents.{Contents}
use Rattle.qvt_types_data.specs.declared.ty.Ty.{Ty}
use Rattle.qvt_types_nodes.specs.Tree.{TypedExprTerm}
use Rattle.qvt_typing.specs.Accepts.{ProgramTerm}
use Rattle.qvt_run_data.specs.declared.exit.End.{End}
use Rattle.qvt_run_data.specs.declared.exit.End.TheVariants.{OutOfFuel}
use Rattle.qvt_run_data.specs.declared.exit.Exit.{Exit}
use Rattle.qvt_run_data.specs.declared.exit.Exit.TheVariants.{Returned, Ends}
use Rattle.qvt_run_data.specs.declared.late.LateWrite.{LateWrite}
use Rattle.qvt_run_rules.specs.State.{State, Done}
use Rattle.qvt_run_rules.specs.Resolve.{FoundOrEnded, Objects, Undefined, Stopped}
use Rattle.qvt_meaning.specs.Laws.{ExactCost, request_run, answered_from, after_requests, from_requests}
use Rattle.qvt_meaning.specs.Plain.{state_of}
use Rattle.qvt_meaning.specs.Run.{Finish, AnsweredWrite, FinishedRun, setting, main_in, main_run, finish_of, walk, walk_on, patched, late_value, finished_as, carried_out, finished}
use Rattle.qvt_meaning_laws.proofs.Actions as action
use Rattle.qvt_meaning_laws.proofs.Calls as calls
use Rattle.qvt_meaning_laws.proofs.Phrasing.{of_stmts}
use Rattle.qvt_meaning_laws.proofs.Runs.{one_pass}
use Rattle.qvt_run_laws.specs.Fuel.{walked_on, walked, spent_by, cost_of, within, FuelIsExact, CostIsTold, DoneIsExact, MainIsExact, bounded_run, TurnsAreNoBound}
use Rattle.qvt_run_laws.proofs.Agreeing.{IsOut, Agrees, agree}
use Rattle.qvt_run_laws.proofs.Spending.{spends_expr}
use Rattle.qvt_run_laws.proofs.Turning.{meet}

-- `main`.

free : (left : ℕ) (answer : Option Ty) (e : TypedExprTerm) → Unit {0}
free left answer e = tt

module _ {E : Type 0} (keep : LateWrite → E) (p : ProgramTerm) where
  meets : (fuel n m : ℕ) → fuel ≤ n → fuel ≤ m → (store : Contents) → bounded_run keep p fuel n store ≡ bounded_run keep p fuel m store
  meets fuel n m a b store =
      (action.block (meet fuel keep p n m a b)
      (of_stmts (meet fuel keep p n m a b) p (calls.calls_to (meet fuel keep p n m a b) p (λ left. spends_expr keep p fuel m left) 100) (spends_expr keep p fuel m 100) None (main_in p.module_.units))
      (state_of store [] []) (omega arith)).0

  agrees : (f g n : ℕ) (more : f ≤ g) (store : Contents) → Agrees f g more (bounded_run keep p f n store) (bounded_run keep p g n store)
  agrees f g n more store =
      (action.block (agree f g more keep p n) (of_stmts (agree f g more keep p n) p (calls.calls_to (agree f g more keep p n) p free 100) (free 100) None (main_in p.module_.units)) (state_of store [] [])).1 (omega arith)

  main_is : (fuel : ℕ) (store : Contents) → main_run keep p fuel store ≡ bounded_run keep p fuel fuel store
  unfolding main_run setting
  main_is fuel store = refl

  -- with more fuel
  main_agrees : (f g : ℕ) (more : f ≤ g) (store : Contents) → Agrees f g more (main_run keep p f store) (main_run keep p g store)
  main_agrees f g more store =
      subst (λ d. Agrees f g more d (main_run keep p g store)) (sym (main_is f store ∙ meets f f g (omega arith) more store))
      (subst (λ e. Agrees f g more (bounded_run keep p f g store) e) (sym (main_is g store)) (agrees f g g more store))

pub turns_are_no_bound : TurnsAreNoBound
turns_are_no_bound p store fuel turns more = meets (λ w. w) p fuel turns fuel more (omega arith) store ∙ sym (main_is (λ w. w) p fuel store)

either_way : (n m : ℕ) → (n ≤ m) ⊎ (m ≤ n)
either_way n m = grind arith

module _ (p : ProgramTerm) (store : Contents) where
  run_agrees : (f g : ℕ) (more : f ≤ g) → Agrees f g more (request_run p f store) (request_run p g store)
  run_agrees f g more = main_agrees (λ w. w) p f g more store

  abbrev Comes : ℕ → Done LateWrite (Unit {0}) → Done LateWrite (Unit {0}) → Type 0
  Comes n d e = (e.1.cost ≤ n → d ≡ e) × (n < e.1.cost → IsOut d.0)

  with_less : (n g : ℕ) (more : n ≤ g) (d e : Done LateWrite (Unit {0})) → e.0 ≢ Err (Ends OutOfFuel) → Agrees n g more d e → Comes n d e
  with_less n g more d e runs (inl w) = (λ c. w.0, λ c. absurd (omega (arith, w.1, c)))
  with_less n g more d e runs (inr w) = past w.0 w.1
    where
      past : IsOut d.0 → IsOut e.0 ⊎ (n < e.1.cost) → Comes n d e
      past out (inl o) = absurd (runs o)
      past out (inr c) = (λ k. absurd (omega (arith, c, k)), λ k. out)

  with_more : (n g : ℕ) (more : g ≤ n) (d e : Done LateWrite (Unit {0})) → e.0 ≢ Err (Ends OutOfFuel) → Agrees g n more e d → Comes n d e
  with_more n g more d e runs (inl w) = (λ c. sym w.0, λ c. let same : e.1.cost ≡ d.1.cost = ap (λ x. x.1.cost) w.0 in absurd (omega (arith, w.1, c, same)))
  with_more n g more d e runs (inr w) = absurd (runs w.0)

  comes : (fuel n : ℕ) → (request_run p fuel store).0 ≢ Err (Ends OutOfFuel) → (n ≤ fuel) ⊎ (fuel ≤ n) → Comes n (request_run p n store) (request_run p fuel store)
  comes fuel n runs (inl c) = with_less n fuel c (request_run p n store) (request_run p fuel store) runs (run_agrees n fuel c)
  comes fuel n runs (inr c) = with_more n fuel c (request_run p n store) (request_run p fuel store) runs (run_agrees fuel n c)

pub main_is_exact : MainIsExact
main_is_exact p store fuel n runs = comes p store fuel n runs (either_way n fuel)

-- The walk of the late entries.

on_rises : (f : FoundOrEnded) (here rest : ℕ) → here ≤ rest → here ≤ walked_on f here rest
on_rises (Objects os) here rest c = c
on_rises (Undefined r at) here rest c = omega arith
on_rises (Stopped e) here rest c = omega arith

walk_rises : (cost : ℕ) (es : List AnsweredWrite) → cost ≤ walked cost es
walk_rises cost [] = omega arith
walk_rises cost (e ∷ es) =
    let here : ℕ = cost + (1 + e.answer.cost) in
    let more : here ≤ walked_on e.answer.found here (walked here es) = on_rises e.answer.found here (walked here es) (walk_rises here es) in
    omega (arith, more)

abbrev limited : ℕ → ℕ → Result ℕ End → Result ℕ End
limited n cost r = if nat_lt n cost then Err OutOfFuel else r

unlimited : (n cost : ℕ) (r : Result ℕ End) → cost ≤ n → limited n cost r ≡ r
unlimited n cost r c = ap (λ b. if b then Err OutOfFuel else r) (le-ltb n cost c)

beyond : (n cost : ℕ) (r : Result ℕ End) → n < cost → limited n cost r ≡ Err OutOfFuel
beyond n cost r c = ap (λ b. if b then Err OutOfFuel else r) (lt-ltb n cost c)

-- behind an entry that both fuels allow
on_entry : (n : ℕ) (f : FoundOrEnded) (here rest : ℕ) (x y : Result ℕ End) → here ≤ n → walk_on f y ≢ Err OutOfFuel → (y ≢ Err OutOfFuel → x ≡ limited n rest y) → walk_on f x ≡ limited n (walked_on f here rest) (walk_on f y)
on_entry n (Objects os) here rest x y c runs h = h runs
on_entry n (Undefined r at) here rest x y c runs h = sym (unlimited n here _ c)
on_entry n (Stopped e) here rest x y c runs h = sym (unlimited n here _ c)

walk_by : (n fuel here : ℕ) (e : AnsweredWrite) (es : List AnsweredWrite) (b d : Bool) → nat_lt n here ≡ b → nat_lt fuel here ≡ d
    → (if d then Err OutOfFuel else walk_on e.answer.found (walk fuel here es)) ≢ Err OutOfFuel
    → (here ≤ n → walk fuel here es ≢ Err OutOfFuel → walk n here es ≡ limited n (walked here es) (walk fuel here es))
    → (if b then Err OutOfFuel else walk_on e.answer.found (walk n here es)) ≡ limited n (walked_on e.answer.found here (walked here es)) (if d then Err OutOfFuel else walk_on e.answer.found (walk fuel here es))
walk_by n fuel here e es b true x y runs h = absurd (runs refl)
walk_by n fuel here e es true false x y runs h =
    let low : n < here = ltb-true n here x in
    let high : here ≤ walked_on e.answer.found here (walked here es) = on_rises e.answer.found here (walked here es) (walk_rises here es) in
    sym (beyond n (walked_on e.answer.found here (walked here es)) _ (omega (arith, low, high)))
walk_by n fuel here e es false false x y runs h =
    let low : here ≤ n = ltb-false n here x in
    on_entry n e.answer.found here (walked here es) (walk n here es) (walk fuel here es) low runs (h low)

walk_exact : (n fuel cost : ℕ) (es : List AnsweredWrite) → cost ≤ n → walk fuel cost es ≢ Err OutOfFuel → walk n cost es ≡ limited n (walked cost es) (walk fuel cost es)
walk_exact n fuel cost [] c runs = sym (unlimited n cost (Ok cost) c)
walk_exact n fuel cost (e ∷ es) c runs =
    let here : ℕ = cost + (1 + e.answer.cost) in
    walk_by n fuel here e es (nat_lt n here) (nat_lt fuel here) refl refl runs (λ low goes. walk_exact n fuel here es low goes)

-- the cost that it tells
told_on : (f : FoundOrEnded) (here rest k : ℕ) (r : Result ℕ End) → (r ≡ Ok k → rest ≡ k) → walk_on f r ≡ Ok k → walked_on f here rest ≡ k
told_on (Objects os) here rest k r h e = h e
told_on (Undefined x at) here rest k r h e = absurd (cc)
told_on (Stopped x) here rest k r h e = absurd (cc)

told_by : (d : Bool) (f : FoundOrEnded) (here rest k : ℕ) (r : Result ℕ End) → (r ≡ Ok k → rest ≡ k) → (if d then Err OutOfFuel else walk_on f r) ≡ Ok k → walked_on f here rest ≡ k
told_by true f here rest k r h e = absurd (cc)
told_by false f here rest k r h e = told_on f here rest k r h e

abbrev cost_in : ℕ → Result ℕ End → ℕ
cost_in n (Ok k) = k
cost_in n (Err e) = n

walk_told : (fuel cost k : ℕ) (es : List AnsweredWrite) → walk fuel cost es ≡ Ok k → walked cost es ≡ k
walk_told fuel cost k [] e = ap (cost_in cost) e
walk_told fuel cost k (x ∷ es) e =
    let here : ℕ = cost + (1 + x.answer.cost) in
    told_by (nat_lt fuel here) x.answer.found here (walked here es) k (walk fuel here es) (λ z. walk_told fuel here k es z) e

-- A whole run.

carried_by : (n cost : ℕ) (f : Finish) (es : List AnsweredWrite) (r : Result ℕ End) (b : Bool) → carried_out f es (if b then Err OutOfFuel else r) ≡ (if b then Err OutOfFuel else carried_out f es r)
carried_by n cost f es r true = refl
carried_by n cost f es r false = refl

module _ (p : ProgramTerm) (n fuel : ℕ) where
  after_exact : (s : State LateWrite) → s.cost ≤ n → after_requests p fuel s ≢ Err OutOfFuel → after_requests p n s ≡ within n (walked s.cost (answered_from p s)) (after_requests p fuel s)
  after_exact s c runs =
      let es : List AnsweredWrite = answered_from p s in
      ap (carried_out (finish_of s) es) (walk_exact n fuel s.cost es c (λ e. runs (ap (carried_out (finish_of s) es) e)))
      ∙ carried_by n (walked s.cost es) (finish_of s) es (walk fuel s.cost es) (nat_lt n (walked s.cost es))

  ends_exact : (r : Result (Unit {0}) Exit) (s : State LateWrite) → s.cost ≤ n → from_requests p fuel r s ≢ Err OutOfFuel → from_requests p n r s ≡ within n (spent_by p r s) (from_requests p fuel r s)
  ends_exact (Ok u) s c runs = after_exact s c runs
  ends_exact (Err (Returned v)) s c runs = after_exact s c runs
  ends_exact (Err (Ends e)) s c runs = sym (ap (λ b. if b then Err OutOfFuel else Err e) (le-ltb n s.cost c))

  spent_rises : (r : Result (Unit {0}) Exit) (s : State LateWrite) → s.cost ≤ spent_by p r s
  spent_rises (Ok u) s = walk_rises s.cost (answered_from p s)
  spent_rises (Err (Returned v)) s = walk_rises s.cost (answered_from p s)
  spent_rises (Err (Ends e)) s = omega arith

  out_of : (r : Result (Unit {0}) Exit) (s : State LateWrite) → IsOut r → from_requests p n r s ≡ Err OutOfFuel
  out_of r s o = ap (λ x. from_requests p n x s) o

  cut_off : (cost : ℕ) (r : Result FinishedRun End) → n < cost → within n cost r ≡ Err OutOfFuel
  cut_off cost r c = ap (λ b. if b then Err OutOfFuel else r) (lt-ltb n cost c)

  run_exact : (d e : Done LateWrite (Unit {0})) → (e.1.cost ≤ n → d ≡ e) → (n < e.1.cost → IsOut d.0) → from_requests p fuel e.0 e.1 ≢ Err OutOfFuel → (e.1.cost ≤ n) ⊎ (n < e.1.cost)
      → from_requests p n d.0 d.1 ≡ within n (spent_by p e.0 e.1) (from_requests p fuel e.0 e.1)
  run_exact d e same out runs (inl c) = ap (λ x. from_requests p n x.0 x.1) (same c) ∙ ends_exact e.0 e.1 c runs
  run_exact d e same out runs (inr c) = out_of d.0 d.1 (out c) ∙ sym (cut_off (spent_by p e.0 e.1) (from_requests p fuel e.0 e.1) (let more : e.1.cost ≤ spent_by p e.0 e.1 = spent_rises e.0 e.1 in omega (arith, c, more)))

within_or : (n m : ℕ) → (n ≤ m) ⊎ (m < n)
within_or n m = grind arith

pub fuel_is_exact : FuelIsExact
fuel_is_exact p store fuel n runs =
    let e : Done LateWrite (Unit {0}) = request_run p fuel store in
    let goes : from_requests p fuel e.0 e.1 ≢ Err OutOfFuel = λ x. runs (one_pass p fuel store ∙ x) in
    let main_goes : e.0 ≢ Err (Ends OutOfFuel) = λ x. goes (out_of p fuel fuel e.0 e.1 x) in
    let w = main_is_exact p store fuel n main_goes in
    one_pass p n store ∙ run_exact p n fuel (request_run p n store) e w.0 w.1 goes (within_or e.1.cost n) ∙ sym (ap (within n (cost_of p store fuel)) (one_pass p fuel store))

-- A run that has ended well.

as_patched : (f : Finish) (es : List AnsweredWrite) (cost : ℕ) (r : Result Contents End) (g : FinishedRun) → finished_as f es cost r ≡ Ok g → cost ≡ g.cost
as_patched f es cost (Ok store) g e = let same : record { finish = f; after = store; entries = es; cost = cost } ≡ g = cc in ap (λ x. x.cost) same
as_patched f es cost (Err x) g e = absurd (cc)

as_carried : (f : Finish) (es : List AnsweredWrite) (w : Result ℕ End) (g : FinishedRun) (cost : ℕ) → ((k : ℕ) → w ≡ Ok k → cost ≡ k) → carried_out f es w ≡ Ok g → cost ≡ g.cost
as_carried f es (Ok k) g cost h e = h k refl ∙ as_patched f es k (patched f.store (map late_value es)) g e
as_carried f es (Err x) g cost h e = absurd (cc)

as_ended : (p : ProgramTerm) (fuel : ℕ) (r : Result (Unit {0}) Exit) (s : State LateWrite) (g : FinishedRun) → from_requests p fuel r s ≡ Ok g → spent_by p r s ≡ g.cost
as_ended p fuel (Ok u) s g e = let es : List AnsweredWrite = answered_from p s in as_carried (finish_of s) es (walk fuel s.cost es) g (walked s.cost es) (λ k z. walk_told fuel s.cost k es z) e
as_ended p fuel (Err (Returned v)) s g e = let es : List AnsweredWrite = answered_from p s in as_carried (finish_of s) es (walk fuel s.cost es) g (walked s.cost es) (λ k z. walk_told fuel s.cost k es z) e
as_ended p fuel (Err (Ends x)) s g e = absurd (cc)

pub cost_is_told : CostIsTold
cost_is_told p store fuel f e = as_ended p fuel (request_run p fuel store).0 (request_run p fuel store).1 f (sym (one_pass p fuel store) ∙ e)

ok_is_no_end : (r : Result FinishedRun End) (f : FinishedRun) → r ≡ Ok f → r ≢ Err OutOfFuel
ok_is_no_end r f e = λ x. let both : Ok f ≡ Err OutOfFuel = sym e ∙ x in absurd (cc)

pub done_is_exact : DoneIsExact
done_is_exact p store fuel n f e =
    fuel_is_exact p store fuel n (ok_is_no_end (finished p store fuel) f e) ∙ ap (λ c. within n c (finished p store fuel)) (cost_is_told p store fuel f e) ∙ ap (within n f.cost) e

pub exact_cost : ExactCost
exact_cost p store fuel f e = (
  done_is_exact p store fuel f.cost f e ∙ ap (λ b. if b then Err OutOfFuel else Ok f) (le-ltb f.cost f.cost (omega arith)),
  λ n h. done_is_exact p store fuel n f e ∙ ap (λ b. if b then Err OutOfFuel else Ok f) (lt-ltb n f.cost (omega (arith, h))),
)
