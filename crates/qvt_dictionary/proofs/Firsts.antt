-- Texts of which each is found first at its own place stand in a list one after the other, each new.
use Rattle.std.proofs.Common.{◌≡◌, refl, ℕ, zero, suc, ◌<◌, List, [], ◌∷◌, ◌||◌, Bool, false, take, length, get_or, arith}
use Rattle.std.specs.List.{list_any}
use Rattle.std.specs.Str.{bytes_eq}
use Rattle.std.proofs.lemmas.List.Quantifiers.{position-Some}
use Rattle.qvt_dictionary.specs.Literals.{EachIsFirst}

neither : (a b : Bool) → a ≡ false → b ≡ false → (a || b) ≡ false
neither a b p q = λ i. p i || q i

none_in_front : {X : Type 0} (p : X → Bool) (xs : List X) (i : ℕ) (d : X) → ((k : ℕ) → k < i → p (get_or xs k d) ≡ false) → i < length xs → list_any p (take i xs) ≡ false
none_in_front p xs zero d none lt = refl
none_in_front p [] (suc i) d none lt = refl
none_in_front p (x ∷ xs) (suc i) d none lt = neither (p x) (list_any p (take i xs)) (none 0 (omega arith)) (none_in_front p xs i d (λ k below. none (suc k) (omega (arith, below))) (omega (arith, lt)))

pub each_is_new : (xs : List (List ℕ)) → EachIsFirst xs → (i : ℕ) → i < length xs → list_any (bytes_eq (get_or xs i [])) (take i xs) ≡ false
each_is_new xs first i lt =
    let p = bytes_eq (get_or xs i []) in
    let found = position-Some p xs i [] (first i lt) in
    none_in_front p xs i [] found.2 lt
