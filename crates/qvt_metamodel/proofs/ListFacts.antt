-- Facts of lists that the tables of metamodels stand on.
use Rattle.std.proofs.Common.{◌≡◌, ◌∙◌, ℕ, ◌+◌, ◌<◌, List, [], ◌∷◌, ◌++◌, length, map, get_or, Bool, true, false, refl, ap, sym, arith, ◌==◌, ◌||◌, eqb, append_assoc, drop}
use Rattle.std.specs.Prelude.{if◌then◌else◌}
use Rattle.std.specs.List.{list_any, flat_map, AllByRecursion}
use Rattle.std.proofs.lemmas.List.{map-append, drop_more}
use Rattle.std.proofs.lemmas.Bool.{eqb-true, eq-eqb}
use Rattle.qvt_base.specs.declared.numbers.ClassNo.{ClassNo}
use Rattle.qvt_base.specs.declared.numbers.FeatureNo.{FeatureNo}
use Rattle.qvt_metamodel.specs.declared.begin.Begin.{Begin}
use Rattle.qvt_metamodel.specs.Metamodels.{among_features, each_once}
use Rattle.qvt_metamodel.specs.Joined.{feature_on}
use Rattle.qvt_metamodel.proofs.Bools.{ap2, not_true, clash, or_left, or_right}

pub all-imply : {X : Type 0} (P Q : X → Type 0) (xs : List X) → ((x : X) → P x → Q x) → AllByRecursion P xs → AllByRecursion Q xs
all-imply P Q [] f all = tt
all-imply P Q (x ∷ xs) f all = (f x all.0, all-imply P Q xs f all.1)

pub all-every : {X : Type 0} (P : X → Type 0) (xs : List X) → ((x : X) → P x) → AllByRecursion P xs
all-every P [] f = tt
all-every P (x ∷ xs) f = (f x, all-every P xs f)

pub all-both : {X : Type 0} (P Q R : X → Type 0) (xs : List X) → ((x : X) → P x → Q x → R x) → AllByRecursion P xs → AllByRecursion Q xs → AllByRecursion R xs
all-both P Q R [] f a b = tt
all-both P Q R (x ∷ xs) f a b = (f x a.0 b.0, all-both P Q R xs f a.1 b.1)

pub list_any-cong : {X : Type 0} (p q : X → Bool) (xs : List X) → AllByRecursion (λ x. p x ≡ q x) xs → list_any p xs ≡ list_any q xs
list_any-cong p q [] all = refl
list_any-cong p q (x ∷ xs) all = ap2 (λ a b. a || b) all.0 (list_any-cong p q xs all.1)

pub list_any-map : {X Y : Type 0} (p : Y → Bool) (g : X → Y) (xs : List X) → list_any p (map g xs) ≡ list_any (λ x. p (g x)) xs
list_any-map p g [] = refl
list_any-map p g (x ∷ xs) = ap (λ b. p (g x) || b) (list_any-map p g xs)

pub list_any-none : {X : Type 0} (p : X → Bool) (xs : List X) → AllByRecursion (λ x. p x ≡ false) xs → list_any p xs ≡ false
list_any-none p [] all = refl
list_any-none p (x ∷ xs) all = ap2 (λ a b. a || b) all.0 (list_any-none p xs all.1)

pub flat_map-cong : {X Y : Type 0} (f g : X → List Y) (xs : List X) → AllByRecursion (λ x. f x ≡ g x) xs → flat_map f xs ≡ flat_map g xs
flat_map-cong f g [] all = refl
flat_map-cong f g (x ∷ xs) all = ap2 (λ a b. a ++ b) all.0 (flat_map-cong f g xs all.1)

pub flat_map-map : {X Y Z : Type 0} (f : Y → List Z) (g : X → Y) (xs : List X) → flat_map f (map g xs) ≡ flat_map (λ x. f (g x)) xs
flat_map-map f g [] = refl
flat_map-map f g (x ∷ xs) = ap (λ l. f (g x) ++ l) (flat_map-map f g xs)

pub map-flat_map : {X Y Z : Type 0} (g : Y → Z) (f : X → List Y) (xs : List X) → flat_map (λ x. map g (f x)) xs ≡ map g (flat_map f xs)
map-flat_map g f [] = refl
map-flat_map g f (x ∷ xs) = ap (λ l. map g (f x) ++ l) (map-flat_map g f xs) ∙ sym (map-append g (f x) (flat_map f xs))

-- a fact of each number that stands in a list of classes
pub all-found : (P : ℕ → Type 0) (xs : List ClassNo) → ((d : ℕ) → list_any (λ s. s.0 == d) xs ≡ true → P d) → AllByRecursion (λ s. P s.0) xs
all-found P [] f = tt
all-found P (x ∷ xs) f = (f x.0 (or_left (x.0 == x.0) (list_any (λ s. s.0 == x.0) xs) (eq-eqb x.0 x.0 refl)), all-found P xs (λ d h. f d (or_right (x.0 == d) (list_any (λ s. s.0 == d) xs) h)))

pub eqb-add : (b x y : ℕ) → eqb (b + x) (b + y) ≡ eqb x y
eqb-add b x y = by (eqb x y) refl
  where
    by : (t : Bool) → eqb x y ≡ t → eqb (b + x) (b + y) ≡ t
    by true e = eq-eqb (b + x) (b + y) (let same : x ≡ y = eqb-true x y e in ap (λ z. b + z) same)
    by false e = not_true (eqb (b + x) (b + y)) (λ h. clash (eq-eqb x y (let same : b + x ≡ b + y = eqb-true (b + x) (b + y) h in omega (arith, same))) e)

pub among-on : (b : Begin) (f : ℕ) (gs : List FeatureNo) → among_features (b.feature + f) (map (feature_on b) gs) ≡ among_features f gs
among-on b f [] = refl
among-on b f (g ∷ gs) = ap2 (λ x y. x || y) (eqb-add b.feature g.0 f) (among-on b f gs)

once_step : (b : Begin) (seen : List FeatureNo) (g : FeatureNo) (gs : List FeatureNo) (t : Bool)
    → each_once (map (feature_on b) seen) (map (feature_on b) gs) ≡ map (feature_on b) (each_once seen gs)
    → each_once (map (feature_on b) (seen ++ g ∷ [])) (map (feature_on b) gs) ≡ map (feature_on b) (each_once (seen ++ g ∷ []) gs)
    → (if t then each_once (map (feature_on b) seen) (map (feature_on b) gs) else feature_on b g ∷ each_once (map (feature_on b) seen ++ feature_on b g ∷ []) (map (feature_on b) gs))
    ≡ map (feature_on b) (if t then each_once seen gs else g ∷ each_once (seen ++ g ∷ []) gs)
once_step b seen g gs true same more = same
once_step b seen g gs false same more = ap (λ l. feature_on b g ∷ l) (ap (λ x. each_once x (map (feature_on b) gs)) (sym (map-append (feature_on b) seen (g ∷ []))) ∙ more)

pub each_once-on : (b : Begin) (seen gs : List FeatureNo) → each_once (map (feature_on b) seen) (map (feature_on b) gs) ≡ map (feature_on b) (each_once seen gs)
each_once-on b seen [] = refl
each_once-on b seen (g ∷ gs) =
    ap (λ t. if t then each_once (map (feature_on b) seen) (map (feature_on b) gs) else feature_on b g ∷ each_once (map (feature_on b) seen ++ feature_on b g ∷ []) (map (feature_on b) gs)) (among-on b g.0 seen)
    ∙ once_step b seen g gs (among_features g.0 seen) (each_once-on b seen gs) (each_once-on b (seen ++ g ∷ []) gs)

append_none : {X : Type 0} (xs : List X) → xs ++ [] ≡ xs
append_none [] = refl
append_none (x ∷ xs) = ap (λ l. x ∷ l) (append_none xs)

-- those of more features come after those of the first ones
pub once-append : (list xs ys : List FeatureNo) → (list ++ each_once list xs) ++ each_once (list ++ each_once list xs) ys ≡ list ++ each_once list (xs ++ ys)
once-append list [] ys = ap (λ l. l ++ each_once l ys) (append_none list)
once-append list (x ∷ xs) ys = by (among_features x.0 list) (once-append list xs ys) (once-append (list ++ x ∷ []) xs ys)
  where
    by : (t : Bool) → (list ++ each_once list xs) ++ each_once (list ++ each_once list xs) ys ≡ list ++ each_once list (xs ++ ys)
        → ((list ++ x ∷ []) ++ each_once (list ++ x ∷ []) xs) ++ each_once ((list ++ x ∷ []) ++ each_once (list ++ x ∷ []) xs) ys ≡ (list ++ x ∷ []) ++ each_once (list ++ x ∷ []) (xs ++ ys)
        → (list ++ (if t then each_once list xs else x ∷ each_once (list ++ x ∷ []) xs)) ++ each_once (list ++ (if t then each_once list xs else x ∷ each_once (list ++ x ∷ []) xs)) ys
        ≡ list ++ (if t then each_once list (xs ++ ys) else x ∷ each_once (list ++ x ∷ []) (xs ++ ys))
    by true same more = same
    by false same more =
        ap (λ l. l ++ each_once l ys) (sym (append_assoc list (x ∷ []) (each_once (list ++ x ∷ []) xs))) ∙ more ∙ append_assoc list (x ∷ []) (each_once (list ++ x ∷ []) (xs ++ ys))

pub among-map : (f : ℕ) (gs : List FeatureNo) → list_any (eqb f) (map (λ g. g.0) gs) ≡ among_features f gs
among-map f [] = refl
among-map f (g ∷ gs) = ap2 (λ a b. a || b) (flip f g.0) (among-map f gs)
  where
    flip : (x y : ℕ) → eqb x y ≡ eqb y x
    flip x y = by (eqb y x) refl
      where
        by : (t : Bool) → eqb y x ≡ t → eqb x y ≡ t
        by true e = eq-eqb x y (sym (eqb-true y x e))
        by false e = not_true (eqb x y) (λ h. clash (eq-eqb y x (sym (eqb-true x y h))) e)

pub once-there : (g : FeatureNo) (list : List FeatureNo) → among_features g.0 list ≡ true → list ≡ list ++ each_once list (g ∷ [])
once-there g list h = sym (ap (λ t. list ++ (if t then [] else g ∷ [])) h ∙ append_none list)

pub once-new : (g : FeatureNo) (list : List FeatureNo) → among_features g.0 list ≡ false → list ++ g ∷ [] ≡ list ++ each_once list (g ∷ [])
once-new g list h = sym (ap (λ t. list ++ (if t then [] else g ∷ [])) h)

-- the next list of those that are left
pub once_next : {X : Type 0} (f : X → List FeatureNo) (all : List FeatureNo) (list : List FeatureNo) (next : List FeatureNo) (xs : List X) (i : ℕ) (d : X) → i < length xs
    → list ++ each_once list (flat_map f (drop i xs)) ≡ all → next ≡ list ++ each_once list (f (get_or xs i d)) → next ++ each_once next (flat_map f (drop (i + 1) xs)) ≡ all
once_next f all list next xs i d l h e =
    ap (λ n. n ++ each_once n (flat_map f (drop (i + 1) xs))) e
    ∙ once-append list (f (get_or xs i d)) (flat_map f (drop (i + 1) xs))
    ∙ sym (ap (λ ys. list ++ each_once list (flat_map f ys)) (drop_more xs i d l)) ∙ h
