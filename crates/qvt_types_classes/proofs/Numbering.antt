-- The numbers of the properties of classes: those of one class come after those of the classes before it.
use Rattle.std.proofs.Common.{◌≡◌, ◌∙◌, ℕ, zero, suc, ◌+◌, ◌<◌, ◌≤◌, List, [], ◌∷◌, ◌++◌, length, map, get_or, true, refl, ap, arith, ◌==◌, inl, inr}
use Rattle.std.specs.List.{AllByRecursion}
use Rattle.std.proofs.lemmas.Bool.{eq-eqb}
use Rattle.std.proofs.lemmas.Bool.{cases_eq}
use Rattle.std.proofs.lemmas.Bool.Decides.{leb_tells}
use Rattle.std.proofs.lemmas.List.{length-map, get_or_past}
use Rattle.qvt_metas.specs.Added.{numbers_from}
use Rattle.qvt_metas.specs.Extended.{given_class, given_classes, given_feature, given_features}
use Rattle.qvt_metas.specs.Metamodels.{among_features, nowhere_class, nowhere_feature}
use Rattle.qvt_metamodel.specs.declared.given.ClassData.{ClassData}
use Rattle.qvt_metamodel.specs.declared.given.FeatureData.{FeatureData}
use Rattle.qvt_metamodel.specs.declared.info.FeatureInfo.{FeatureInfo}
use Rattle.qvt_metamodel.proofs.Bools.{or_left, or_right}
use Rattle.qvt_metamodel.proofs.Halves.{Half, old, new, half, old-at, new-at}
use Rattle.qvt_metamodel.proofs.Infos.{map-at}
use Rattle.qvt_types_classes.specs.declared.declared.Declared.{Declared}
use Rattle.qvt_types_classes.specs.Inherited.{all_properties, no_property, numbered_class, numbered_from}
use Rattle.qvt_types_classes.specs.Classes.{class_data, feature_data, super_number}
use Rattle.qvt_types_classes.proofs.Cut.{nothing, at}

-- how many properties the classes before a place have
abbrev pub before : List Declared → ℕ → ℕ
before [] i = 0
before (d ∷ ds) zero = 0
before (d ∷ ds) (suc i) = length d.properties + before ds i

abbrev pub width : List Declared → ℕ → ℕ
width ds i = length (at ds i).properties

-- the number is that of a property of the class at i
abbrev pub IsOf : List Declared → ℕ → ℕ → Type 0
IsOf ds i x = (before ds i ≤ x) × (x < before ds i + width ds i)

rises : (ds : List Declared) (i j : ℕ) → i < j → before ds i + width ds i ≤ before ds j
rises [] i j l = omega arith
rises (d ∷ ds) i zero l = absurd (omega (arith, l))
rises (d ∷ ds) zero (suc j) l = omega arith
rises (d ∷ ds) (suc i) (suc j) l = (let more : before ds i + width ds i ≤ before ds j = rises ds i j (omega (arith, l)) in omega (arith, more))

pub one_class : (ds : List Declared) (i j x : ℕ) → IsOf ds i x → IsOf ds j x → i ≡ j
one_class ds i j x a b = elim (leb_tells (suc i) j) [
  | inl first ↦ (let far : before ds i + width ds i ≤ before ds j = rises ds i j (omega (arith, first.1)) in absurd (omega (arith, far, a.1, b.0)))
  | inr not_first ↦ elim (leb_tells (suc j) i) [
    | inl second ↦ (let far : before ds j + width ds j ≤ before ds i = rises ds j i (omega (arith, second.1)) in absurd (omega (arith, far, b.1, a.0)))
    | inr not_second ↦ omega (arith, not_first.1, not_second.1)
  ]
]

pub of_there : (ds : List Declared) (i x : ℕ) → IsOf ds i x → i < length ds
of_there ds i x h = by i (half (length ds) i) h
  where
    by : (i : ℕ) → Half (length ds) i → IsOf ds i x → i < length ds
    by _ (old i l) h = l
    by _ (new k) h = (let none : width ds (length ds + k) ≡ 0 = ap (λ (d : Declared). length d.properties) (get_or_past ds (length ds + k) nothing (omega arith)) in absurd (omega (arith, none, h.0, h.1)))

pub all_numbers : (P : ℕ → Type 0) (f n : ℕ) → ((x : ℕ) → f ≤ x → x < f + n → P x) → AllByRecursion (λ g. P g.0) (numbers_from f n)
all_numbers P f zero all = tt
all_numbers P f (suc n) all = (all f (omega arith) (omega arith), all_numbers P (f + 1) n (λ x low high. all x (omega (arith, low)) (omega (arith, high))))

pub numbers_have : (f n x : ℕ) → f ≤ x → x < f + n → among_features x (numbers_from f n) ≡ true
numbers_have f zero x low high = absurd (omega (arith, low, high))
numbers_have f (suc n) x low high = elim (cases_eq f x) [
  | inl same ↦ or_left (f == x) (among_features x (numbers_from (f + 1) n)) (eq-eqb f x same)
  | inr other ↦ or_right (f == x) (among_features x (numbers_from (f + 1) n)) (numbers_have (f + 1) n x (omega (arith, low, other)) (omega (arith, high)))
]

-- classes and properties by number
pub numbered_at : (f : ℕ) (ds : List Declared) (i : ℕ) → i < length ds → get_or (numbered_from f ds) i nowhere_class ≡ numbered_class (f + before ds i) (at ds i)
numbered_at f [] i l = absurd (omega (arith, l))
numbered_at f (d ∷ ds) zero l = ap (λ n. numbered_class n d) (let same : f ≡ f + 0 = omega arith in same)
numbered_at f (d ∷ ds) (suc i) l =
    numbered_at (f + length d.properties) ds i (omega (arith, l))
    ∙ ap (λ n. numbered_class n (at ds i)) (let same : f + length d.properties + before ds i ≡ f + (length d.properties + before ds i) = omega arith in same)

pub property_is : (ds : List Declared) (i k : ℕ) → k < width ds i → get_or (all_properties ds) (before ds i + k) no_property ≡ get_or (at ds i).properties k no_property
property_is [] i k l = absurd (omega (arith, l))
property_is (d ∷ ds) zero k l = ap (λ n. get_or (d.properties ++ all_properties ds) n no_property) (let same : 0 + k ≡ k = omega arith in same) ∙ old-at d.properties (all_properties ds) k no_property l
property_is (d ∷ ds) (suc i) k l =
    ap (λ n. get_or (d.properties ++ all_properties ds) n no_property) (let same : length d.properties + before ds i + k ≡ length d.properties + (before ds i + k) = omega arith in same)
    ∙ new-at d.properties (all_properties ds) (before ds i + k) no_property
    ∙ property_is ds i k l

-- the same of the classes that are given to metamodels
module _ (e : ℕ) where
  abbrev pub given : List Declared → List ClassData
  given ds = map (class_data e) ds

  data_count : (d : Declared) → length (map feature_data d.properties) ≡ length d.properties
  data_count d = length-map d.properties feature_data

  pub given_at : (k f : ℕ) (ds : List Declared) (i : ℕ) → i < length ds → get_or (given_classes k f (given ds)) i nowhere_class ≡ given_class k (f + before ds i) (class_data e (at ds i))
  given_at k f [] i l = absurd (omega (arith, l))
  given_at k f (d ∷ ds) zero l = ap (λ n. given_class k n (class_data e d)) (let same : f ≡ f + 0 = omega arith in same)
  given_at k f (d ∷ ds) (suc i) l =
      given_at k (f + length (map feature_data d.properties)) ds i (omega (arith, l))
      ∙ ap (λ n. given_class k n (class_data e (at ds i))) (let same : f + length (map feature_data d.properties) + before ds i ≡ f + (length d.properties + before ds i) = omega (arith, data_count d) in same)

  pub given_count : (k f : ℕ) (ds : List Declared) → length (given_classes k f (given ds)) ≡ length ds
  given_count k f [] = refl
  given_count k f (d ∷ ds) = ap suc (given_count k (f + length (map feature_data d.properties)) ds)

  pub given_supers_at : (k f : ℕ) (ds : List Declared) (i : ℕ) → (get_or (given_classes k f (given ds)) i nowhere_class).supers ≡ map (super_number e) (at ds i).supers
  given_supers_at k f [] i = refl
  given_supers_at k f (d ∷ ds) zero = refl
  given_supers_at k f (d ∷ ds) (suc i) = given_supers_at k (f + length (map feature_data d.properties)) ds i

  pub given_name : (o : ℕ) (ds : List Declared) (i k : ℕ) → k < width ds i → (get_or (given_features o (given ds)) (before ds i + k) nowhere_feature).name ≡ (get_or (at ds i).properties k no_property).name
  given_name o [] i k l = absurd (omega (arith, l))
  given_name o (d ∷ ds) zero k l =
      let l' : k < length (map feature_data d.properties) = omega (arith, l, data_count d) in
      let all : length (map (given_feature o) (map feature_data d.properties)) ≡ length (map feature_data d.properties) = length-map (map feature_data d.properties) (given_feature o) in
      ap (λ (x : FeatureInfo). x.name) (
      ap (λ n. get_or (map (given_feature o) (map feature_data d.properties) ++ given_features (o + 1) (given ds)) n nowhere_feature) (let same : 0 + k ≡ k = omega arith in same)
      ∙ old-at (map (given_feature o) (map feature_data d.properties)) (given_features (o + 1) (given ds)) k nowhere_feature (omega (arith, l', all))
      ∙ map-at (given_feature o) (map feature_data d.properties) k (feature_data no_property) nowhere_feature l')
      ∙ ap (λ (x : FeatureData). x.name) (map-at feature_data d.properties k no_property (feature_data no_property) l)
  given_name o (d ∷ ds) (suc i) k l =
      let all : length (map (given_feature o) (map feature_data d.properties)) ≡ length (map feature_data d.properties) = length-map (map feature_data d.properties) (given_feature o) in
      ap (λ (x : FeatureInfo). x.name) (
      ap (λ n. get_or (map (given_feature o) (map feature_data d.properties) ++ given_features (o + 1) (given ds)) n nowhere_feature)
      (let same : length d.properties + before ds i + k ≡ length (map (given_feature o) (map feature_data d.properties)) + (before ds i + k) = omega (arith, all, data_count d) in same)
      ∙ new-at (map (given_feature o) (map feature_data d.properties)) (given_features (o + 1) (given ds)) (before ds i + k) nowhere_feature)
      ∙ given_name (o + 1) ds i k l
