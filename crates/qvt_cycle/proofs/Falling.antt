-- Where classes never rise along a step, a number that alone is of its class and does not lead to itself is on no cycle.
use Rattle.std.proofs.Common.{◌≡◌, ◌≢◌, ◌∙◌, ℕ, zero, suc, ◌+◌, ◌<◌, ◌≤◌, ◌==◌, List, [], ◌∷◌, length, Bool, true, false, inl, inr, refl, sym, ap, subst, arith}
use Rattle.std.specs.Prelude.{fold, slice_index_or, slice_set, min, nat_le, if◌then◌else◌}
use Rattle.std.proofs.lemmas.Bool.{and_parts, eqb-true, eq-eqb, cases_eq, leb-true}
use Rattle.std.proofs.lemmas.List.{get_or-set_same, get_or-set_other, length-set}
use Rattle.qvt_relation.specs.Closure.{directly, through}
use Rattle.qvt_relation.proofs.Bools.{or_cases, refuted, and_both}
use Rattle.qvt_cycle.specs.Successors.{among, leads, is_on_cycle, how_often, how_often_in}
use Rattle.qvt_cycle.specs.Counts.{counted, counted_all, zeros}
use Rattle.qvt_cycle.specs.Search.{component_of, are_below, fall_from, fall, is_alone}
use Rattle.qvt_cycle.proofs.Searched.{Way, begins, on_cycle-way}

below_at : (classes : List ℕ) (n y : ℕ) (ys : List ℕ) → are_below classes n ys ≡ true → among ys y ≡ true → component_of classes y ≤ n
below_at classes n y [] a h = cc
below_at classes n y (x ∷ ys) a h =
    let p = and_parts (nat_le (component_of classes x) n) (are_below classes n ys) a in
    elim (or_cases (x == y) _ h) [
      | inl same ↦ subst (λ k. component_of classes k ≤ n) (eqb-true x y same) (leb-true _ _ p.0)
      | inr later ↦ below_at classes n y ys p.1 later
    ]

falls_at : (classes ns : List ℕ) (lists : List (List ℕ)) (x y : ℕ) → fall_from classes ns lists ≡ true → leads lists x y ≡ true → component_of classes y ≤ slice_index_or ns x 0
falls_at classes ns [] x y a h = cc
falls_at classes [] (ys ∷ lists) x y a h = cc
falls_at classes (n ∷ ns) (ys ∷ lists) zero y a h = below_at classes n y ys (and_parts (are_below classes n ys) _ a).0 h
falls_at classes (n ∷ ns) (ys ∷ lists) (suc x) y a h = falls_at classes ns lists x y (and_parts (are_below classes n ys) _ a).1 h

falls_along : (classes : List ℕ) (lists : List (List ℕ)) {x y : ℕ} → fall classes lists ≡ true → Way lists x y → component_of classes y ≤ component_of classes x
falls_along classes lists {x} {y} a (directly step) = falls_at classes classes lists x y a step
falls_along classes lists {x} {y} a (through {y = z} step rest) =
    let first = falls_at classes classes lists x z a step in
    let later = falls_along classes lists a rest in
    omega (arith, first, later)

long_enough : (classes ns : List ℕ) (lists : List (List ℕ)) → fall_from classes ns lists ≡ true → length lists ≤ length ns
long_enough classes ns [] a = omega arith
long_enough classes [] (ys ∷ lists) a = cc
long_enough classes (n ∷ ns) (ys ∷ lists) a = let ih = long_enough classes ns lists (and_parts (are_below classes n ys) _ a).1 in omega (arith, ih)

once : (k : ℕ) (xs : List ℕ) (x : ℕ) → x < length xs → slice_index_or xs x 0 ≡ k → 1 ≤ how_often k xs
once k [] x lt e = absurd (omega (arith, lt))
once k (y ∷ xs) zero lt e = let is : (y == k) ≡ true = eq-eqb y k e in by (y == k) is
  where
    by : (b : Bool) → b ≡ true → 1 ≤ (if b then 1 else 0) + how_often k xs
    by true h = omega arith
    by false h = cc
once k (y ∷ xs) (suc x) lt e = let ih = once k xs x (omega (arith, lt)) e in omega (arith, ih)

twice : (k : ℕ) (xs : List ℕ) (x z : ℕ) → x ≢ z → x < length xs → z < length xs → slice_index_or xs x 0 ≡ k → slice_index_or xs z 0 ≡ k → 2 ≤ how_often k xs
twice k [] x z n lx lz ex ez = absurd (omega (arith, lx))
twice k (y ∷ xs) zero zero n lx lz ex ez = absurd (n refl)
twice k (y ∷ xs) zero (suc z) n lx lz ex ez = let is : (y == k) ≡ true = eq-eqb y k ex in let more = once k xs z (omega (arith, lz)) ez in by (y == k) is more
  where
    by : (b : Bool) → b ≡ true → 1 ≤ how_often k xs → 2 ≤ (if b then 1 else 0) + how_often k xs
    by true h m = omega (arith, m)
    by false h m = cc
twice k (y ∷ xs) (suc x) zero n lx lz ex ez = let is : (y == k) ≡ true = eq-eqb y k ez in let more = once k xs x (omega (arith, lx)) ex in by (y == k) is more
  where
    by : (b : Bool) → b ≡ true → 1 ≤ how_often k xs → 2 ≤ (if b then 1 else 0) + how_often k xs
    by true h m = omega (arith, m)
    by false h m = cc
twice k (y ∷ xs) (suc x) (suc z) n lx lz ex ez = let ih = twice k xs x z (λ e. n (ap suc e)) (omega (arith, lx)) (omega (arith, lz)) ex ez in omega (arith, ih)

-- the counts tell how often a number stands, up to two
pub record Counts (y : ℕ) (old new : List ℕ) (n : ℕ) : Type 0 where
  pub same_len : length new ≡ length old
  pub more : slice_index_or new y 0 ≡ min 2 (slice_index_or old y 0 + n)

one_counted : (y x : ℕ) (counts : List ℕ) → y < length counts → slice_index_or counts y 0 ≤ 2 → Counts y counts (counted counts x) (if x == y then 1 else 0)
one_counted y x counts lt small = by (x == y) refl
  where
    by : (b : Bool) → (x == y) ≡ b → Counts y counts (counted counts x) (if b then 1 else 0)
    by true e = record { same_len = length-set counts x _; more = subst (λ j. slice_index_or (slice_set counts j (min 2 (slice_index_or counts j 0 + 1))) y 0 ≡ min 2 (slice_index_or counts y 0 + 1)) (sym (eqb-true x y e)) (get_or-set_same counts y _ 0 lt) }
    by false e = record { same_len = length-set counts x _; more = get_or-set_other counts x y _ 0 (λ is. (let t : (x == y) ≡ true = eq-eqb x y (sym is) in let d : true ≡ false = sym t ∙ e in absurd cc)) ∙ omega (arith, small) }

pub all_counted : (y : ℕ) (xs counts : List ℕ) → y < length counts → slice_index_or counts y 0 ≤ 2 → Counts y counts (counted_all counts xs) (how_often y xs)
all_counted y [] counts lt small = record { same_len = refl; more = omega (arith, small) }
all_counted y (x ∷ xs) counts lt small =
    let first = one_counted y x counts lt small in
    let rest = all_counted y xs (counted counts x) (omega (arith, lt, first.same_len)) (omega (arith, first.more)) in
    record { same_len = rest.same_len ∙ first.same_len; more = omega (arith, first.more, rest.more) }

zeros-long : {X : Type 0} (xs : List X) → length (zeros xs) ≡ length xs
zeros-long [] = refl
zeros-long (x ∷ xs) = ap suc (zeros-long xs)

zeros-none : {X : Type 0} (xs : List X) (y : ℕ) → slice_index_or (zeros xs) y 0 ≡ 0
zeros-none [] y = refl
zeros-none (x ∷ xs) zero = refl
zeros-none (x ∷ xs) (suc y) = zeros-none xs y

pub counts_tell : {X : Type 0} (items : List X) (y : ℕ) (xs : List ℕ) → y < length items → slice_index_or (counted_all (zeros items) xs) y 0 ≡ min 2 (how_often y xs)
counts_tell items y xs lt =
    let none = zeros-none items y in
    let long = zeros-long items in
    let all = all_counted y xs (zeros items) (omega (arith, lt, long)) (omega (arith, none)) in
    omega (arith, none, all.more)

lists_counted : (y : ℕ) (lists : List (List ℕ)) (counts : List ℕ) → y < length counts → slice_index_or counts y 0 ≤ 2 → Counts y counts (fold counted_all counts lists) (how_often_in lists y)
lists_counted y [] counts lt small = record { same_len = refl; more = omega (arith, small) }
lists_counted y (xs ∷ lists) counts lt small =
    let first = all_counted y xs counts lt small in
    let rest = lists_counted y lists (counted_all counts xs) (omega (arith, lt, first.same_len)) (omega (arith, first.more)) in
    record { same_len = rest.same_len ∙ first.same_len; more = omega (arith, first.more, rest.more) }

pub lists_tell : (lists : List (List ℕ)) (y : ℕ) → y < length lists → slice_index_or (fold counted_all (zeros lists) lists) y 0 ≡ min 2 (how_often_in lists y)
lists_tell lists y lt =
    let none = zeros-none lists y in
    let long = zeros-long lists in
    let all = lists_counted y lists (zeros lists) (omega (arith, lt, long)) (omega (arith, none)) in
    omega (arith, none, all.more)

past_none : (xs : List ℕ) (k : ℕ) → slice_index_or xs k 0 ≢ 0 → k < length xs
past_none [] k h = absurd (h refl)
past_none (x ∷ xs) zero h = omega arith
past_none (x ∷ xs) (suc k) h = let ih = past_none xs k h in omega (arith, ih)

counted-long : (xs counts : List ℕ) → length (counted_all counts xs) ≡ length counts
counted-long [] counts = refl
counted-long (x ∷ xs) counts = counted-long xs (counted counts x) ∙ length-set counts x _

folded-long : (lists : List (List ℕ)) (counts : List ℕ) → length (fold counted_all counts lists) ≡ length counts
folded-long [] counts = refl
folded-long (xs ∷ lists) counts = folded-long lists (counted_all counts xs) ∙ counted-long xs counts

pub lists-long : (lists : List (List ℕ)) → length (fold counted_all (zeros lists) lists) ≡ length lists
lists-long lists = folded-long lists (zeros lists) ∙ zeros-long lists

used_once : {X : Type 0} (items : List X) (classes : List ℕ) (x : ℕ) → is_alone classes (counted_all (zeros items) classes) x ≡ true → how_often (component_of classes x) classes ≡ 1
used_once items classes x h =
    let one : slice_index_or (counted_all (zeros items) classes) (component_of classes x) 0 ≡ 1 = eqb-true _ _ h in
    let at = past_none (counted_all (zeros items) classes) (component_of classes x) (λ none. (let e : 1 ≡ 0 = sym one ∙ none in absurd (omega (arith, e)))) in
    let long = counted-long classes (zeros items) in
    let long' = zeros-long items in
    let told = counts_tell items (component_of classes x) classes (omega (arith, at, long, long')) in
    omega (arith, one, told)

pub alone_off_cycle : (lists : List (List ℕ)) (classes uses : List ℕ) (x : ℕ) → fall classes lists ≡ true → uses ≡ counted_all (zeros lists) classes
    → x < length lists → is_alone classes uses x ≡ true → leads lists x x ≡ false → is_on_cycle lists x ≡ false
alone_off_cycle lists classes uses x falls same lt alone single = refuted _ (λ c. none (on_cycle-way lists x c))
  where
    used : how_often (component_of classes x) classes ≡ 1
    used = used_once lists classes x (subst (λ u. is_alone classes u x ≡ true) same alone)

    meet : (z : ℕ) → leads lists x z ≡ true → Way lists z x → ⊥
    meet z step rest = elim (cases_eq x z) [
      | inl is ↦ (let d : true ≡ false = sym (subst (λ k. leads lists x k ≡ true) (sym is) step) ∙ single in absurd cc)
      | inr other ↦
          (let down = falls_at classes classes lists x z falls step in
          let up = falls_along classes lists falls rest in
          let long = long_enough classes classes lists falls in
          let there = begins lists rest in
          let two = twice (component_of classes x) classes x z other (omega (arith, lt, long)) (omega (arith, there, long)) refl (omega (arith, down, up)) in
          absurd (omega (arith, two, used)))
    ]

    none : Way lists x x → ⊥
    none (directly step) = let d : true ≡ false = sym step ∙ single in absurd cc
    none (through {y = z} step rest) = meet z step rest

zeros_below : {X : Type 0} (items : List X) (ys : List ℕ) → are_below (zeros items) 0 ys ≡ true
zeros_below items [] = refl
zeros_below items (y ∷ ys) = and_both _ _ (small y) (zeros_below items ys)
  where
    small : (y : ℕ) → nat_le (component_of (zeros items) y) 0 ≡ true
    small y = subst (λ k. nat_le k 0 ≡ true) (sym (zeros-none items y)) refl

zeros_fall_from : {X : Type 0} (items : List X) (lists : List (List ℕ)) → fall_from (zeros items) (zeros lists) lists ≡ true
zeros_fall_from items [] = refl
zeros_fall_from items (ys ∷ lists) = and_both _ _ (zeros_below items ys) (zeros_fall_from items lists)

pub zeros_fall : (lists : List (List ℕ)) → fall (zeros lists) lists ≡ true
zeros_fall lists = zeros_fall_from lists lists
