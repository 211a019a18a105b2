-- Answers, candidate by candidate.
use Rattle.std.proofs.Common.{nat_lt, Option, Some, None, subst, drop, drop-cons, get_or, length, suc, ◌<◌, ◌≤◌, ◌≡◌, ◌∙◌, ◌+◌, ℕ, Bool, true, false, List, [], ◌∷◌, ◌++◌, sym, ap, arith}
use Rattle.qvt_base.specs.declared.numbers.Oid.{Oid}
use Rattle.qvt_run_rules.specs.Resolve as rule
use Rattle.qvt_exec_answers.specs.Room.{IsSum}

-- the next of a list stands before those behind it
pub at_place : {A : Type 0} (xs : List A) (n : ℕ) (x : A) → n < length xs → x ≡ get_or xs n x → drop n xs ≡ x ∷ drop (n + 1) xs
at_place xs n x within is =
    let e : suc n ≡ n + 1 = omega arith in
    drop-cons xs n x within ∙ ap (λ y. y ∷ drop (suc n) xs) (sym is) ∙ ap (λ m. x ∷ drop m xs) e

-- The cost of an answer is not less than what was spent on the way.
taken_more : (one : Bool) (done : List Oid) (c : ℕ) (o : Oid) (on : List Oid → rule.ResolveAnswer) → ((more : List Oid) → c ≤ (on more).cost) → c ≤ (rule.sifted_by rule.Passes one done c o on).cost
taken_more true done c o on k = omega arith
taken_more false done c o on k = k (done ++ o ∷ [])

pub by_more : (v : rule.ConditionVerdict) (one : Bool) (done : List Oid) (c : ℕ) (o : Oid) (on : List Oid → rule.ResolveAnswer) → ((more : List Oid) → c ≤ (on more).cost) → c ≤ (rule.sifted_by v one done c o on).cost
by_more rule.Passes one done c o on k = taken_more one done c o on k
by_more rule.Fails one done c o on k = k done
by_more (rule.Invalid r p) one done c o on k = omega arith
by_more (rule.Stops e) one done c o on k = omega arith

pub sifted_more : (test : Oid → rule.Weighed) (one : Bool) (done : List Oid) (c : ℕ) (os : List Oid) → c ≤ (rule.sifted test one done c os).cost
sifted_more test one done c [] = omega arith
sifted_more test one done c (o ∷ os) =
    let below = by_more (test o).verdict one done (c + (test o).cost) o (λ more. rule.sifted test one more (c + (test o).cost) os) (λ more. sifted_more test one more (c + (test o).cost) os) in
    omega (arith, below)

module _ (test : Oid → rule.Weighed) (one : Bool) (done : List Oid) (cost : ℕ) (o : Oid) (os : List Oid) where
  abbrev pub on : List Oid → rule.ResolveAnswer
  on more = rule.sifted test one more (cost + (test o).cost) os

  -- where the cost of the candidate passes the fuel, that of the answer does
  pub past : (fuel spent : ℕ) → nat_lt fuel (spent + (cost + (test o).cost)) ≡ true → nat_lt fuel (spent + (rule.sifted test one done cost (o ∷ os)).cost) ≡ true
  past fuel spent above =
      let below = by_more (test o).verdict one done (cost + (test o).cost) o on (λ more. sifted_more test one more (cost + (test o).cost) os) in
      grind (arith, below, above)

-- the sum that is above the fuel, at the next of the candidates
above_none : (fuel spent n : ℕ) (r : Option ℕ) → IsSum fuel spent n r → r ≡ None → nat_lt fuel (spent + n) ≡ true
above_none fuel spent n None above none = above
above_none fuel spent n (Some m) sum none = absurd (cc)

pub past_at : (test : Oid → rule.Weighed) (one : Bool) (done : List Oid) (cost : ℕ) (list : List Oid) (i : ℕ) (o : Oid) (fuel spent : ℕ) (a : rule.ResolveAnswer) (r : Option ℕ) → i < length list → o ≡ get_or list i o
    → rule.sifted test one done cost (drop i list) ≡ a → IsSum fuel spent (cost + (test o).cost) r → r ≡ None → nat_lt fuel (spent + a.cost) ≡ true
past_at test one done cost list i o fuel spent a r within is rest sum none =
    let all : rule.sifted test one done cost (o ∷ drop (i + 1) list) ≡ a = ap (rule.sifted test one done cost) (sym (at_place list i o within is)) ∙ rest in
    subst (λ (x : rule.ResolveAnswer). nat_lt fuel (spent + x.cost) ≡ true) all (past test one done cost o (drop (i + 1) list) fuel spent (above_none fuel spent (cost + (test o).cost) r sum none))
