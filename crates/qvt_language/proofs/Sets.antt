-- Sets of classes, decided by computing.
use Rattle.std.proofs.Common.{◌≡◌, ℕ, List, [], ◌∷◌, ◌++◌, Bool, true, false, ◌&&◌, ◌||◌, not, ◌⊎◌, inl, inr, refl, sym, ap, ◌∙◌, subst, eqb, eqb-true}
use Rattle.qvt_grammar.proofs.Firsts.{Within, Apart}
use Rattle.qvt_language.specs.Tokens.{Tok, of, code_of}

abbrev pub has : ℕ → List ℕ → Bool
has k [] = false
has k (j ∷ js) = has k js || eqb k j

abbrev pub all_in : List ℕ → List ℕ → Bool
all_in [] b = true
all_in (k ∷ ks) b = all_in ks b && has k b

abbrev pub none_in : List ℕ → List ℕ → Bool
none_in [] b = true
none_in (k ∷ ks) b = none_in ks b && not (has k b)

or_cases : (a b : Bool) → (a || b) ≡ true → (a ≡ true) ⊎ (b ≡ true)
or_cases true b h = inl refl
or_cases false b h = inr h

or_left : (a b : Bool) → a ≡ true → (a || b) ≡ true
or_left true b h = refl
or_left false b h = absurd cc

or_right : (a b : Bool) → b ≡ true → (a || b) ≡ true
or_right true b h = refl
or_right false b h = h

pub and_parts : (a b : Bool) → (a && b) ≡ true → (a ≡ true) × (b ≡ true)
and_parts true b h = (refl, h)
and_parts false b h = absurd cc

not_true : (a : Bool) → not a ≡ true → a ≡ true → ⊥
not_true true h e = cc
not_true false h e = cc

of_has : (s : List ℕ) (t : Tok) → of s t ≡ has (code_of t.class) s
of_has [] t = refl
of_has (k ∷ ks) t = ap (λ z. z || eqb (code_of t.class) k) (of_has ks t)

all_in_has : (a b : List ℕ) (k : ℕ) → all_in a b ≡ true → has k a ≡ true → has k b ≡ true
all_in_has [] b k h e = absurd cc
all_in_has (j ∷ a) b k h e =
    let q = and_parts (all_in a b) (has j b) h in
    elim (or_cases (has k a) (eqb k j) e) [
      | inl w ↦ all_in_has a b k q.0 w
      | inr w ↦ (let z : k ≡ j = eqb-true k j w in subst (λ x. has x b ≡ true) (sym z) q.1)
    ]

none_in_has : (a b : List ℕ) (k : ℕ) → none_in a b ≡ true → has k a ≡ true → has k b ≡ true → ⊥
none_in_has [] b k h e f = cc
none_in_has (j ∷ a) b k h e f =
    let q = and_parts (none_in a b) (not (has j b)) h in
    elim (or_cases (has k a) (eqb k j) e) [
      | inl w ↦ none_in_has a b k q.0 w f
      | inr w ↦ (let z : k ≡ j = eqb-true k j w in not_true (has j b) q.1 (subst (λ x. has x b ≡ true) z f))
    ]

pub within : (a b : List ℕ) → all_in a b ≡ true → Within (of a) (of b)
within a b h t e = of_has b t ∙ all_in_has a b (code_of t.class) h (sym (of_has a t) ∙ e)

pub apart : (a b : List ℕ) → none_in a b ≡ true → Apart (of a) (of b)
apart a b h t e f = none_in_has a b (code_of t.class) h (sym (of_has a t) ∙ e) (sym (of_has b t) ∙ f)

pub within_left : (a b : List ℕ) → Within (of a) (of (a ++ b))
within_left [] b t h = absurd cc
within_left (k ∷ a) b t h = elim (or_cases (of a t) (eqb (code_of t.class) k) h) [
  | inl w ↦ or_left (of (a ++ b) t) (eqb (code_of t.class) k) (within_left a b t w)
  | inr w ↦ or_right (of (a ++ b) t) (eqb (code_of t.class) k) w
]

pub within_right : (a b : List ℕ) → Within (of b) (of (a ++ b))
within_right [] b t h = h
within_right (k ∷ a) b t h = or_left (of (a ++ b) t) (eqb (code_of t.class) k) (within_right a b t h)

pub within_both : (a b c : List ℕ) → Within (of a) (of c) → Within (of b) (of c) → Within (of (a ++ b)) (of c)
within_both [] b c w1 w2 t h = w2 t h
within_both (k ∷ a) b c w1 w2 t h = elim (or_cases (of (a ++ b) t) (eqb (code_of t.class) k) h) [
  | inl w ↦ within_both a b c (λ x q. w1 x (or_left (of a x) (eqb (code_of x.class) k) q)) w2 t w
  | inr w ↦ w1 t (or_right (of a t) (eqb (code_of t.class) k) w)
]

pub none_in_nothing : (a : List ℕ) → none_in a [] ≡ true
none_in_nothing [] = refl
none_in_nothing (k ∷ a) = ap (λ z. z && true) (none_in_nothing a)
