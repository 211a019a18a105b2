-- Steps from one place up to another, and what is told of them.
use Rattle.std.proofs.Common.{◌≡◌, ◌∙◌, ℕ, ◌+◌, ◌-◌, ◌<◌, ◌≤◌, ◌==◌, sym, ap, arith, List, [], ◌++◌, length, take, drop, map}
use Rattle.std.specs.Prelude.{if◌then◌else◌}
use Rattle.std.specs.List.{fold}
use Rattle.std.proofs.lemmas.Bool.{ne_eqb}
use Rattle.std.proofs.lemmas.List.{length-drop, drop_all, take_all, take-map, map-append, take-append-drop, take-take, drop-take}
use Rattle.std.proofs.lemmas.List.Sums.{fold-append}

-- nothing stands between two places of which the second is no later
pub none_between : {A : Type 0} (xs : List A) (from upto : ℕ) → upto ≤ from → [] ≡ take (upto - from) (drop from xs)
none_between xs from upto h =
    let none : 0 ≡ upto - from = omega arith in
    ap (λ n. take n (drop from xs)) none

-- nor behind the last
pub none_behind : {A : Type 0} (xs : List A) (from upto : ℕ) → length xs ≤ from → [] ≡ take (upto - from) (drop from xs)
none_behind xs from upto h = sym (take_all (upto - from) (drop from xs) (omega (arith, length-drop from xs)) ∙ drop_all from xs h)

-- up to a place behind the last there are all
pub all_behind : {A : Type 0} (xs : List A) (from upto : ℕ) → length xs ≤ upto → drop from xs ≡ take (upto - from) (drop from xs)
all_behind xs from upto h = sym (take_all (upto - from) (drop from xs) (omega (arith, length-drop from xs)))

joined : {A : Type 0} (xs : List A) (from upto : ℕ) → from ≤ upto → take from xs ++ take (upto - from) (drop from xs) ≡ take upto xs
joined xs from upto h =
    let whole : from + (upto - from) ≡ upto = omega arith in
    ap (λ ys. take from xs ++ ys) (sym (drop-take from (upto - from) xs) ∙ ap (λ n. drop from (take n xs)) whole)
    ∙ ap (λ ys. ys ++ drop from (take upto xs)) (sym (take-take from upto xs h))
    ∙ take-append-drop from (take upto xs)

-- a fold over the first items goes on over those after them
pub goes_on : {A B C : Type 0} (f : C → B → C) (v : A → B) (o : C) (xs : List A) (from upto : ℕ) → from ≤ upto
    → fold f (fold f o (take from (map v xs))) (map v (take (upto - from) (drop from xs))) ≡ fold f o (take upto (map v xs))
goes_on f v o xs from upto h =
    ap (λ ys. fold f (fold f o ys) (map v (take (upto - from) (drop from xs)))) (take-map v from xs)
    ∙ sym (fold-append f o (map v (take from xs)) (map v (take (upto - from) (drop from xs))))
    ∙ ap (λ ys. fold f o ys) (sym (map-append v (take from xs) (take (upto - from) (drop from xs))) ∙ ap (λ ys. map v ys) (joined xs from upto h) ∙ sym (take-map v upto xs))

-- where that is told of the first items, it is told of more of them
pub told_next : {A B C : Type 0} (f : C → B → C) (v : A → B) (o : C) (xs : List A) (from upto : ℕ) (t last : C) (ys : List A) → from < upto
    → last ≡ fold f o (take from (map v xs)) → ys ≡ take (upto - from) (drop from xs) → t ≡ fold f last (map v ys)
    → (if upto == 0 then o else t) ≡ fold f o (take upto (map v xs))
told_next f v o xs from upto t last ys h e1 e2 e3 =
    ap (λ b. if b then o else t) (ne_eqb upto 0 (λ e. (let same : upto ≡ 0 = e in absurd (omega (arith, same, h)))))
    ∙ e3 ∙ ap (λ zs. fold f last (map v zs)) e2
    ∙ ap (λ y. fold f y (map v (take (upto - from) (drop from xs)))) e1
    ∙ goes_on f v o xs from upto (omega (arith, h))
