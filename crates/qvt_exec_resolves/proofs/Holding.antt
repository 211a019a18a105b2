-- Which numbers a list holds.
use Rattle.std.proofs.Common.{◌≡◌, ℕ, Bool, true, false, ◌==◌, ◌||◌, cond, ◌⊎◌, inl, inr, sym, refl, ap, subst, ◌∙◌, List, [], ◌∷◌, ◌++◌, fold, eq-eqb, eqb-true}
use Rattle.std.specs.List.{list_all, flat_map}
use Rattle.std.proofs.lemmas.List.Folds.{list_any-append}
use Rattle.qvt_relation.proofs.Bools.{and_left, and_right, or_cases, or_left, or_right, or_false}
use Rattle.qvt_meaning.specs.Program.{with_number}
use Rattle.qvt_exec_resolves.specs.Numbers.{has}

has-append : (xs ys : List ℕ) (k : ℕ) → has (xs ++ ys) k ≡ (has xs k || has ys k)
has-append xs ys k = list_any-append (λ j. j == k) xs ys

pub has-first : (k : ℕ) (ks : List ℕ) → has (k ∷ ks) k ≡ true
has-first k ks = or_left (k == k) (has ks k) (eq-eqb k k refl)

pub has-last : (ks : List ℕ) (k x : ℕ) → has (ks ++ k ∷ []) x ≡ (has ks x || (k == x))
has-last ks k x = has-append ks (k ∷ []) x ∙ ap (λ b. has ks x || b) (or_false (k == x))

-- ---- a number more

pub stays : (ks : List ℕ) (k x : ℕ) → has ks x ≡ true → has (with_number ks k) x ≡ true
stays ks k x h = by (has ks k)
  where
    by : (b : Bool) → has (cond b ks (ks ++ k ∷ [])) x ≡ true
    by true = h
    by false = has-last ks k x ∙ or_left (has ks x) (k == x) h

pub is_there : (ks : List ℕ) (k : ℕ) → has (with_number ks k) k ≡ true
is_there ks k = by (has ks k) refl
  where
    by : (b : Bool) → has ks k ≡ b → has (cond b ks (ks ++ k ∷ [])) k ≡ true
    by true h = h
    by false h = has-last ks k k ∙ or_right (has ks k) (k == k) (eq-eqb k k refl)

pub was_there : (ks : List ℕ) (k x : ℕ) → has (with_number ks k) x ≡ true → (k ≡ x) ⊎ (has ks x ≡ true)
was_there ks k x = by (has ks k)
  where
    by : (b : Bool) → has (cond b ks (ks ++ k ∷ [])) x ≡ true → (k ≡ x) ⊎ (has ks x ≡ true)
    by true h = inr h
    by false h = elim (or_cases (has ks x) (k == x) (sym (has-last ks k x) ∙ h)) [ inl old ↦ inr old | inr same ↦ inl (eqb-true k x same) ]

-- numbers that are there change nothing
pub all_there : (ks xs : List ℕ) → ((x : ℕ) → has xs x ≡ true → has ks x ≡ true) → fold with_number ks xs ≡ ks
all_there ks [] h = refl
all_there ks (x ∷ xs) h =
    ap (λ (l : List ℕ). fold with_number l xs) (ap (λ b. cond b ks (ks ++ x ∷ [])) (h x (has-first x xs)))
    ∙ all_there ks xs (λ y m. h y (or_right (x == y) (has xs y) m))

-- ---- lists of lists

pub in_some : (f : ℕ → List ℕ) (ks : List ℕ) (x : ℕ) → has (flat_map f ks) x ≡ true → (k : ℕ) × (has ks k ≡ true) × (has (f k) x ≡ true)
in_some f [] x h = cc
in_some f (k ∷ ks) x h = elim (or_cases (has (f k) x) (has (flat_map f ks) x) (sym (has-append (f k) (flat_map f ks) x) ∙ h)) [
  | inl here ↦ (k, has-first k ks, here)
  | inr there ↦ let r = in_some f ks x there in (r.0, or_right (k == r.0) (has ks r.0) r.1, r.2)
]

pub each_of : (p : ℕ → Bool) (ks : List ℕ) (k : ℕ) → list_all p ks ≡ true → has ks k ≡ true → p k ≡ true
each_of p [] k all h = cc
each_of p (j ∷ ks) k all h = elim (or_cases (j == k) (has ks k) h) [
  | inl same ↦ subst (λ x. p x ≡ true) (eqb-true j k same) (and_left (p j) (list_all p ks) all)
  | inr later ↦ each_of p ks k (and_right (p j) (list_all p ks) all) later
]
