-- The numbered classes and features of a metamodel that is added, at each place.
use Rattle.std.proofs.Common.{◌≡◌, ◌∙◌, ℕ, zero, suc, ◌+◌, ◌-◌, ◌<◌, ◌≤◌, List, [], ◌∷◌, ◌++◌, length, map, take, get_or, Bool, true, false, None, refl, ap, sym, subst, arith, leb, ◌⊎◌, inl, inr}
use Rattle.std.proofs.lemmas.Bool.{eqb-true}
use Rattle.std.proofs.lemmas.Bool.Decides.{leb_tells}
use Rattle.std.specs.Prelude.{slice_index_or}
use Rattle.std.specs.List.{list_all}
use Rattle.std.proofs.lemmas.List.{length-append, length-map, get_or_append_left, get_or-append-add}
use Rattle.qvt_base.specs.declared.numbers.FeatureNo.{FeatureNo}
use Rattle.qvt_metamodel.specs.declared.info.ClassInfo.{ClassInfo}
use Rattle.qvt_metamodel.specs.declared.info.FeatureInfo.{FeatureInfo}
use Rattle.qvt_metamodel.specs.declared.declared.DeclaredFeature.{DeclaredFeature}
use Rattle.qvt_metamodel.specs.declared.declared.DeclaredClass.{DeclaredClass}
use Rattle.qvt_metamodel.specs.declared.begin.Begin.{Begin}
use Rattle.qvt_metamodel.specs.Metamodels.{among_features}
use Rattle.qvt_metamodel.specs.Added.{declared_at, feature_count, feature_info, feature_infos, numbers_from, class_info, class_infos}
use Rattle.qvt_metamodel.proofs.Bools.{and_left, and_right, or_cases}

abbrev pub nothing_featured : DeclaredFeature
nothing_featured = record { name = []; kind = []; lower = 0; upper = None; ordered = false; unique = false; containment = false; opposite = None }

abbrev pub featured_at : DeclaredClass → ℕ → DeclaredFeature
featured_at k j = slice_index_or k.features j nothing_featured

pub all-at : {X : Type 0} (p : X → Bool) (xs : List X) (i : ℕ) (d : X) → p d ≡ true → list_all p xs ≡ true → p (get_or xs i d) ≡ true
all-at p [] i d past all = past
all-at p (x ∷ xs) zero d past all = and_left (p x) (list_all p xs) all
all-at p (x ∷ xs) (suc i) d past all = all-at p xs i d past (and_right (p x) (list_all p xs) all)

pub map-at : {X Y : Type 0} (g : X → Y) (xs : List X) (i : ℕ) (d : X) (e : Y) → i < length xs → get_or (map g xs) i e ≡ g (get_or xs i d)
map-at g [] i d e h = absurd (omega arith)
map-at g (x ∷ xs) zero d e h = refl
map-at g (x ∷ xs) (suc i) d e h = map-at g xs i d e (omega arith)

-- where both defaults agree
pub map-at_all : {X Y : Type 0} (g : X → Y) (xs : List X) (i : ℕ) (d : X) → get_or (map g xs) i (g d) ≡ g (get_or xs i d)
map-at_all g [] i d = refl
map-at_all g (x ∷ xs) zero d = refl
map-at_all g (x ∷ xs) (suc i) d = map-at_all g xs i d

pub length-class_infos : (b : Begin) (ns : List (List ℕ)) (f : ℕ) (ks : List DeclaredClass) → length (class_infos b ns f ks) ≡ length ks
length-class_infos b ns f [] = refl
length-class_infos b ns f (k ∷ ks) = ap suc (length-class_infos b ns (f + length k.features) ks)

pub class_infos-at : (b : Begin) (ns : List (List ℕ)) (f : ℕ) (ks : List DeclaredClass) (i : ℕ) (d : ClassInfo) → i < length ks
    → get_or (class_infos b ns f ks) i d ≡ class_info b ns (f + feature_count (take i ks)) (declared_at ks i)
class_infos-at b ns f [] i d h = absurd (omega arith)
class_infos-at b ns f (k ∷ ks) zero d h = ap (λ n. class_info b ns n k) (omega arith)
class_infos-at b ns f (k ∷ ks) (suc i) d h =
    class_infos-at b ns (f + length k.features) ks i d (omega arith) ∙ ap (λ n. class_info b ns n (declared_at ks i)) (omega arith)

pub length-feature_infos : (b : Begin) (es : List (List ℕ)) (ks : List DeclaredClass) (c : ℕ) (left : List DeclaredClass) → length (feature_infos b es ks c left) ≡ feature_count left
length-feature_infos b es ks c [] = refl
length-feature_infos b es ks c (l ∷ left) =
    length-append (map (feature_info b es ks c) l.features) (feature_infos b es ks (c + 1) left)
    ∙ (λ i. length-map l.features (feature_info b es ks c) i + length-feature_infos b es ks (c + 1) left i)

pub feature_infos-at : (b : Begin) (es : List (List ℕ)) (ks : List DeclaredClass) (c : ℕ) (left : List DeclaredClass) (i j : ℕ) (d : FeatureInfo)
    → i < length left → j < length (declared_at left i).features
    → get_or (feature_infos b es ks c left) (feature_count (take i left) + j) d ≡ feature_info b es ks (c + i) (featured_at (declared_at left i) j)
feature_infos-at b es ks c [] i j d h w = absurd (omega arith)
feature_infos-at b es ks c (l ∷ left) zero j d h w =
    let here : j < length (map (feature_info b es ks c) l.features) = subst (λ n. j < n) (sym (length-map l.features (feature_info b es ks c))) w in
    ap (λ n. get_or (map (feature_info b es ks c) l.features ++ feature_infos b es ks (c + 1) left) n d) (omega arith)
    ∙ get_or_append_left (map (feature_info b es ks c) l.features) (feature_infos b es ks (c + 1) left) d j here
    ∙ map-at (feature_info b es ks c) l.features j nothing_featured d w
    ∙ ap (λ n. feature_info b es ks n (featured_at l j)) (omega arith)
feature_infos-at b es ks c (l ∷ left) (suc i) j d h w =
    ap (λ n. get_or (map (feature_info b es ks c) l.features ++ feature_infos b es ks (c + 1) left) n d) (omega (arith, length-map l.features (feature_info b es ks c)))
    ∙ get_or-append-add (map (feature_info b es ks c) l.features) (feature_infos b es ks (c + 1) left) (feature_count (take i left) + j) d
    ∙ feature_infos-at b es ks (c + 1) left i j d (omega arith) w
    ∙ ap (λ n. feature_info b es ks n (featured_at (declared_at left i) j)) (omega arith)

-- the class at i declares feature f, in place j
pub record FeatureAt (ks : List DeclaredClass) (f : ℕ) : Type 0 where
  pub class : ℕ
  pub place : ℕ
  pub live : class < length ks
  pub within : place < length (declared_at ks class).features
  pub is : f ≡ feature_count (take class ks) + place

feature_from : (k : DeclaredClass) (ks : List DeclaredClass) (f : ℕ) → f < length k.features + feature_count ks → (length k.features ≤ f → FeatureAt ks (f - length k.features))
    → ((leb (length k.features) f ≡ true) × (length k.features ≤ f)) ⊎ ((leb (length k.features) f ≡ false) × (f < length k.features)) → FeatureAt (k ∷ ks) f
feature_from k ks f h next (inl t) =
    let at : FeatureAt ks (f - length k.features) = next t.1 in
    record { class = suc at.class; place = at.place; live = omega (arith, at.live); within = at.within; is = omega (arith, at.is, t.1) }
feature_from k ks f h next (inr t) = record { class = 0; place = f; live = omega arith; within = t.1; is = omega arith }

pub feature_at_place : (ks : List DeclaredClass) (f : ℕ) → f < feature_count ks → FeatureAt ks f
feature_at_place [] f h = absurd (omega arith)
feature_at_place (k ∷ ks) f h = feature_from k ks f h (λ le. feature_at_place ks (f - length k.features) (omega arith)) (leb_tells (length k.features) f)

pub length-numbers_from : (s n : ℕ) → length (numbers_from s n) ≡ n
length-numbers_from s zero = refl
length-numbers_from s (suc n) = ap suc (length-numbers_from (s + 1) n)

pub numbers_from-at : (s n i : ℕ) (d : FeatureNo) → i < n → (get_or (numbers_from s n) i d).0 ≡ s + i
numbers_from-at s zero i d h = absurd (omega arith)
numbers_from-at s (suc n) zero d h = omega arith
numbers_from-at s (suc n) (suc i) d h = numbers_from-at (s + 1) n i d (omega arith) ∙ omega arith

pub among_numbers : (s n f : ℕ) → among_features f (numbers_from s n) ≡ true → (s ≤ f) × (f < s + n)
among_numbers s zero f h = absurd (cc)
among_numbers s (suc n) f h = elim (or_cases _ (among_features f (numbers_from (s + 1) n)) h) [
  | inl e ↦ (let is : s ≡ f = eqb-true s f e in (omega (arith, is), omega (arith, is)))
  | inr r ↦ (let more : (s + 1 ≤ f) × (f < s + 1 + n) = among_numbers (s + 1) n f r in (omega (arith, more.0), omega (arith, more.1)))
]
