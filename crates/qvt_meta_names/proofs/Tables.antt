-- Tables of numbers by name, and the first place at which a test passes.
use Rattle.std.proofs.Common.{◌≡◌, ◌∙◌, ℕ, zero, suc, ◌+◌, List, [], ◌∷◌, ◌++◌, length, get_or, drop, Bool, true, false, cond, not, nat_lt, Option, Some, None, position, String, Global, string_bytes, refl, sym, ap, arith, subst, ◌<◌, ◌≤◌}
use Rattle.std.specs.Prelude.{if◌then◌else◌, option_map}
use Rattle.std.specs.Option.{option_or}
use Rattle.std.specs.List.{position_or_len}
use Rattle.std.specs.Map.{lookup}
use Rattle.std.specs.Str.{bytes_eq}
use Rattle.std.proofs.lemmas.List.{drop_more}
use Rattle.std.proofs.lemmas.Bool.{lt-ltb, ltb-true}
use Rattle.qvt_metamodel.proofs.Bools.{clash, not_true}
use Rattle.qvt_metamodel.proofs.Halves.{Half, old, new, half, old-at, new-at}
use Rattle.qvt_metamodel.proofs.Lookups.{position-first}
use Rattle.std.proofs.Math.ListN.{drop_of_length-le}
use Rattle.qvt_meta_names.specs.Named.{named}

pub lookup-named : (name : List ℕ) (es : List (String Global × ℕ)) → lookup (λ k. bytes_eq name (string_bytes k)) es ≡ lookup (bytes_eq name) (named es)
lookup-named name [] = refl
lookup-named name (e ∷ es) = ap (cond (bytes_eq name (string_bytes e.0)) (Some e.1)) (lookup-named name es)

pub named-last : (es : List (String Global × ℕ)) (k : String Global) (n : ℕ) → named (es ++ (k, n) ∷ []) ≡ named es ++ (string_bytes k, n) ∷ []
named-last [] k n = refl
named-last (e ∷ es) k n = ap (λ xs. (string_bytes e.0, e.1) ∷ xs) (named-last es k n)

pub lookup-last : {K : Type 0} (p : K → Bool) (es : List (K × ℕ)) (k : K) (n : ℕ) → lookup p (es ++ (k, n) ∷ []) ≡ option_or (lookup p es) (if p k then Some n else None)
lookup-last p [] k n = refl
lookup-last p (e ∷ es) k n = ap (cond (p e.0) (Some e.1)) (lookup-last p es k n) ∙ chosen (p e.0) e.1 (lookup p es) (if p k then Some n else None)
  where
    chosen : (b : Bool) (x : ℕ) (o r : Option ℕ) → cond b (Some x) (option_or o r) ≡ option_or (cond b (Some x) o) r
    chosen true x o r = refl
    chosen false x o r = refl

pub or_none : (o : Option ℕ) → option_or o None ≡ o
or_none None = refl
or_none (Some n) = refl

lt_next : (q l : ℕ) → nat_lt (suc q) (suc l) ≡ nat_lt q l
lt_next q l = by (nat_lt q l) refl
  where
    by : (b : Bool) → nat_lt q l ≡ b → nat_lt (suc q) (suc l) ≡ nat_lt q l
    by true e = lt-ltb (suc q) (suc l) (let low : q < l = ltb-true q l e in omega (arith, low)) ∙ sym e
    by false e = not_true (nat_lt (suc q) (suc l)) (λ h. (let low : suc q < suc l = ltb-true (suc q) (suc l) h in clash (lt-ltb q l (omega (arith, low))) e)) ∙ sym e

-- the first place at which a test passes, where the first item has this place
abbrev pub first_at : {X : Type 0} → (X → Bool) → ℕ → List X → Option ℕ
first_at p n [] = None
first_at p n (x ∷ xs) = if p x then Some n else first_at p (n + 1) xs

pub first_at-position : {X : Type 0} (p : X → Bool) (n : ℕ) (xs : List X) → first_at p n xs ≡ option_map (λ i. n + i) (position p xs)
first_at-position p n [] = refl
first_at-position p n (x ∷ xs) = by (p x) refl (first_at-position p (n + 1) xs)
  where
    shifted : (q l : ℕ) → option_map (λ i. n + 1 + i) (cond (nat_lt q l) (Some q) None) ≡ option_map (λ i. n + i) (cond (nat_lt (1 + q) (suc l)) (Some (1 + q)) None)
    shifted q l = by_test (nat_lt q l) ∙ ap (λ b. option_map (λ i. n + i) (cond b (Some (suc q)) None)) (sym (lt_next q l)) ∙ ap (λ k. option_map (λ i. n + i) (cond (nat_lt k (suc l)) (Some k) None)) (let one : suc q ≡ 1 + q = omega arith in one)
      where
        by_test : (b : Bool) → option_map (λ i. n + 1 + i) (cond b (Some q) None) ≡ option_map (λ i. n + i) (cond b (Some (suc q)) None)
        by_test true = ap Some (omega arith)
        by_test false = refl

    by : (b : Bool) → p x ≡ b → first_at p (n + 1) xs ≡ option_map (λ i. n + 1 + i) (position p xs) → first_at p n (x ∷ xs) ≡ option_map (λ i. n + i) (position p (x ∷ xs))
    by true e next = ap (λ b. if b then Some n else first_at p (n + 1) xs) e
        ∙ ap Some (let same : n ≡ n + 0 = omega arith in same)
        ∙ sym (ap (option_map (λ i. n + i)) (position-first p (x ∷ xs) 0 x (omega arith) e (λ j h. absurd (omega arith))))
    by false e next = ap (λ b. if b then Some n else first_at p (n + 1) xs) e ∙ next ∙ shifted (position_or_len p xs) (length xs)
        ∙ sym (ap (λ b. option_map (λ i. n + i) (cond (nat_lt (cond (not b) (1 + position_or_len p xs) 0) (suc (length xs))) (Some (cond (not b) (1 + position_or_len p xs) 0)) None)) e)

pub first-position : {X : Type 0} (p : X → Bool) (xs : List X) → first_at p 0 xs ≡ position p xs
first-position p xs = first_at-position p 0 xs ∙ same (position p xs)
  where
    same : (o : Option ℕ) → option_map (λ i. 0 + i) o ≡ o
    same None = refl
    same (Some i) = ap Some (omega arith)

-- a turn that looks at the next item
pub first-next : {X : Type 0} (p : X → Bool) (n : ℕ) (xs : List X) (d : X) (a b r : Option ℕ) → n < length xs → option_or a (first_at p n (drop n xs)) ≡ r
    → b ≡ option_or a (if p (get_or xs n d) then Some n else None) → option_or b (first_at p (n + 1) (drop (n + 1) xs)) ≡ r
first-next p n xs d a b r l before is =
    ap (λ o. option_or o (first_at p (n + 1) (drop (n + 1) xs))) is
    ∙ both a (p (get_or xs n d)) (first_at p (n + 1) (drop (n + 1) xs))
    ∙ ap (λ ys. option_or a (first_at p n ys)) (sym (drop_more xs n d l))
    ∙ before
  where
    both : (a : Option ℕ) (t : Bool) (s : Option ℕ) → option_or (option_or a (if t then Some n else None)) s ≡ option_or a (if t then Some n else s)
    both None true s = refl
    both None false s = refl
    both (Some x) t s = refl

-- all items are looked at
pub first-all : {X : Type 0} (p : X → Bool) (n : ℕ) (xs : List X) (o : Option ℕ) → length xs ≤ n → option_or o (first_at p n (drop n xs)) ≡ first_at p 0 xs → o ≡ position p xs
first-all p n xs o l is = sym (or_none o) ∙ ap (λ ys. option_or o (first_at p n ys)) (sym (drop_of_length-le xs l)) ∙ is ∙ first-position p xs

-- a fact of each item, when one more is put last
pub each-last : {X : Type 0} (P : ℕ → X → Type 0) (d : X) (ts : List X) (n : ℕ) (t : X) → length ts ≡ n → ((k : ℕ) → k < n → P k (get_or ts k d)) → P n t
    → (k : ℕ) → k < n + 1 → P k (get_or (ts ++ t ∷ []) k d)
each-last P d ts n t each all here k h = by k (half n k) h
  where
    place : (i : ℕ) → get_or (ts ++ t ∷ []) (n + i) d ≡ get_or (t ∷ []) i d
    place i = ap (λ x. get_or (ts ++ t ∷ []) (x + i) d) (sym each) ∙ new-at ts (t ∷ []) i d

    last : (i : ℕ) → n + i < n + 1 → P (n + i) (get_or (ts ++ t ∷ []) (n + i) d)
    last zero l = subst (P (n + 0)) (sym (place 0)) (subst (λ x. P x t) (let same : n ≡ n + 0 = omega arith in same) here)
    last (suc i) l = absurd (omega (arith, l))

    by : (k : ℕ) → Half n k → k < n + 1 → P k (get_or (ts ++ t ∷ []) k d)
    by _ (old k l) h = subst (P k) (sym (old-at ts (t ∷ []) k d (omega (arith, l, each)))) (all k l)
    by _ (new i) h = last i h

-- a fact of each table, when one more is put last
pub each-next : {K : Type 0} (P : ℕ → List (K × ℕ) → Type 0) (ts : List (List (K × ℕ))) (n : ℕ) (t : List (K × ℕ)) → length ts ≡ n → ((k : ℕ) → k < n → P k (get_or ts k [])) → P n t
    → (k : ℕ) → k < n + 1 → P k (get_or (ts ++ t ∷ []) k [])
each-next P ts n t each all here = each-last P [] ts n t each all here
