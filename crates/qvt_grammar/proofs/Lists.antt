-- A list that is cut in two.
use Rattle.std.proofs.Common.{◌≡◌, ◌≤◌, List, [], ◌∷◌, ◌++◌, length, ◌⊎◌, inl, inr, refl, sym, ap, ◌∙◌, arith, append_assoc, length-append}

-- the first part is cut once more
pub regroup : {T : Type 0} (ts u s v w : List T) → ts ≡ u ++ s → u ≡ v ++ w → ts ≡ v ++ (w ++ s)
regroup ts u s v w e d = e ∙ ap (λ z. z ++ s) d ∙ append_assoc v w s

-- the second part is cut once more
pub grouped : {T : Type 0} (ts r s u v : List T) → ts ≡ u ++ r → r ≡ v ++ s → ts ≡ (u ++ v) ++ s
grouped ts r s u v e d = e ∙ ap (λ z. u ++ z) d ∙ sym (append_assoc u v s)

pub rest_shorter : {T : Type 0} (ts u r : List T) → ts ≡ u ++ r → length r ≤ length ts
rest_shorter ts u r e = omega (arith, ap length e, length-append u r)

-- an empty first part leaves all
pub all_left : {T : Type 0} (ts u s : List T) → ts ≡ u ++ s → u ≡ [] → ts ≡ s
all_left ts u s e n = e ∙ ap (λ z. z ++ s) n

pub nil_left : {T : Type 0} (u v : List T) → [] ≡ u ++ v → u ≡ []
nil_left [] v e = refl
nil_left (x ∷ u) v e = absurd cc

pub nil_right : {T : Type 0} (u v : List T) → [] ≡ u ++ v → v ≡ []
nil_right [] v e = sym e
nil_right (x ∷ u) v e = absurd cc

-- of two cuts of one list the one stands within the other
pub two_cuts : {T : Type 0} (a b c d : List T) → a ++ b ≡ c ++ d → ((e : List T) × (c ≡ a ++ e) × (b ≡ e ++ d)) ⊎ ((e : List T) × (a ≡ c ++ e) × (d ≡ e ++ b))
two_cuts [] b c d h = inl (c, refl, h)
two_cuts (x ∷ a) b [] d h = inr (x ∷ a, refl, sym h)
two_cuts (x ∷ a) b (y ∷ c) d h =
    let tail : a ++ b ≡ c ++ d = cc in
    let head : x ≡ y = cc in
    elim (two_cuts a b c d tail) [
      | inl w ↦ inl (w.0, (λ i. sym head i ∷ w.1 i), w.2)
      | inr w ↦ inr (w.0, (λ i. head i ∷ w.1 i), w.2)
    ]
