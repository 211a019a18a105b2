-- Lists whose items before a place were changed one by one.
use Rattle.std.proofs.Common.{◌≡◌, ◌∙◌, ℕ, ◌+◌, ◌<◌, ◌≤◌, List, length, get_or, set, inl, inr, refl, sym, subst, arith}
use Rattle.std.proofs.lemmas.Bool.{cases_lt}
use Rattle.std.proofs.lemmas.List.{get_or-set_same, get_or-set_other, length-set}

pub record ChangedBefore {X : Type 0} (none : X) (R : ℕ → X → X → Type 0) (old new : List X) (p : ℕ) : Type 0 where
  pub each : length new ≡ length old
  pub done : (n : ℕ) → n < p → n < length old → R n (get_or old n none) (get_or new n none)
  pub rest : (n : ℕ) → p ≤ n → get_or new n none ≡ get_or old n none

pub none_changed : {X : Type 0} (none : X) (R : ℕ → X → X → Type 0) (old : List X) (p : ℕ) → ((n : ℕ) → n < p → (x : X) → R n x x) → ChangedBefore none R old old p
none_changed none R old p same = record { each = refl; done = λ n l k. same n l (get_or old n none); rest = λ n l. refl }

pub next_changed : {X : Type 0} (none : X) (R : ℕ → X → X → Type 0) (old new after : List X) (p : ℕ) (x : X) → p < length new → after ≡ set new p x
    → R p (get_or new p none) x → ChangedBefore none R old new p → ChangedBefore none R old after (p + 1)
next_changed none R old new after p x low are is had = subst (λ xs. ChangedBefore none R old xs (p + 1)) (sym are) (record {
  each = length-set new p x ∙ had.each;
  done = λ n l k. elim (cases_lt n p) [
    | inl before ↦ subst (R n (get_or old n none)) (sym (get_or-set_other new p n x none (λ e. absurd (omega (arith, e, before))))) (had.done n before k)
    | inr on ↦ (
        let same : n ≡ p = omega (arith, on, l) in
        subst (λ m. R m (get_or old m none) (get_or (set new p x) m none)) (sym same)
        (subst (R p (get_or old p none)) (sym (get_or-set_same new p x none low)) (subst (λ y. R p y x) (had.rest p (omega arith)) is)))
  ];
  rest = λ n l. get_or-set_other new p n x none (λ e. absurd (omega (arith, e, l))) ∙ had.rest n (omega (arith, l));
})

pub all_changed : {X : Type 0} (none : X) (R : ℕ → X → X → Type 0) (old new : List X) (p : ℕ) → ChangedBefore none R old new p
    → (n : ℕ) → n < length old → (p ≤ n → (x : X) → R n x x) → R n (get_or old n none) (get_or new n none)
all_changed none R old new p had n low same = elim (cases_lt n p) [
  | inl before ↦ had.done n before low
  | inr behind ↦ subst (R n (get_or old n none)) (sym (had.rest n behind)) (same behind (get_or old n none))
]
