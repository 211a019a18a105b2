-- No class is above itself after given classes have come, exactly where none of these is.
use Rattle.std.proofs.Common.{◌≡◌, ◌∙◌, ℕ, zero, suc, ◌+◌, ◌-◌, ◌<◌, List, [], ◌∷◌, length, get_or, true, ap, sym, subst, arith, refl, ◌==◌}
use Rattle.std.specs.List.{list_any, AllByRecursion}
use Rattle.qvt_base.specs.declared.numbers.ClassNo.{ClassNo}
use Rattle.qvt_relation.specs.Closure.{Closure, directly, through}
use Rattle.qvt_relation.proofs.Closures.{first_step}
use Rattle.qvt_metamodel.specs.declared.given.ClassData.{ClassData}
use Rattle.qvt_metamodel.specs.declared.info.ClassInfo.{ClassInfo}
use Rattle.qvt_metamodel.specs.Metamodels.{Metamodels, class_at, nowhere_class}
use Rattle.qvt_metamodel.specs.Descends.{is_superclass}
use Rattle.qvt_metamodel.specs.WellFormed.{IsWellFormed}
use Rattle.qvt_metamodel.specs.Extended.{element_class, given_classes, nothing_given, is_given_superclass, IsGivenNumber}
use Rattle.qvt_metamodel.proofs.Regular.{regular_of}
use Rattle.qvt_metamodel.proofs.Halves.{Half, old, new, half, old-at}
use Rattle.qvt_metas.proofs.Extends.{W, class_new, given_supers, super_in}

given_supers_are : (k f : ℕ) (cs : List ClassData) (i : ℕ) → (get_or (given_classes k f cs) i nowhere_class).supers ≡ (get_or cs i nothing_given).supers
given_supers_are k f [] i = refl
given_supers_are k f (c ∷ cs) zero = refl
given_supers_are k f (c ∷ cs) (suc i) = given_supers_are k (f + length c.features) cs i

module _ (m : Metamodels) (cs : List ClassData) where
  abbrev B : ℕ
  B = length m.classes

  abbrev Over : ℕ → ℕ → Type 0
  Over x y = is_superclass (W m cs) x y ≡ true

  abbrev Given : ℕ → ℕ → Type 0
  Given i j = is_given_superclass m cs i j ≡ true

  supers_at : (i : ℕ) → (class_at (W m cs) (B + suc i)).supers ≡ (get_or cs i nothing_given).supers
  supers_at i = ap (λ (k : ClassInfo). k.supers) (class_new m cs (suc i)) ∙ given_supers_are (length m.metamodels) (length m.features) cs i

  -- a path among the given classes is one among all
  into : (i j : ℕ) → Given i j → Over (B + suc i) (B + suc j)
  into i j h =
      ap (λ (ss : List ClassNo). list_any (λ s. s.0 == (B + suc j)) ss) (supers_at i)
      ∙ subst (λ n. list_any (λ s. s.0 == n) (get_or cs i nothing_given).supers ≡ true) (let same : B + (1 + j) ≡ B + suc j = omega arith in same) h

  path_into : {i j : ℕ} → Closure Given i j → Closure Over (B + suc i) (B + suc j)
  path_into (directly {x} {y} h) = directly (into x y h)
  path_into (through {x} {y} {z} h p) = through (into x y h) (path_into p)

  pub given_acyclic : ((c : ℕ) → Closure Over c c → ⊥) → (i : ℕ) → Closure Given i i → ⊥
  given_acyclic whole i p = whole (B + suc i) (path_into p)

  module _ (wm : IsWellFormed m) (supers : AllByRecursion (λ c. AllByRecursion (IsGivenNumber m cs) c.supers) cs) where
    -- a path from a class that was there was there
    old_step : (c d : ℕ) → c < B → Over c d → (d < B) × (is_superclass m c d ≡ true)
    old_step c d l h =
        (let there : is_superclass m c d ≡ true = ap (λ (k : ClassInfo). list_any (λ s. s.0 == d) k.supers) (sym (old-at m.classes (element_class (length m.metamodels) ∷ given_classes (length m.metamodels) (length m.features) cs) c nowhere_class l)) ∙ h in
        (wm.live_superclass c d there, there))

    old_path : {c d : ℕ} → Closure Over c d → c < B → Closure (λ x y. is_superclass m x y ≡ true) c d
    old_path (directly {x} {y} h) l = directly (old_step x y l h).1
    old_path (through {x} {y} {z} h p) l = (let s : (y < B) × (is_superclass m x y ≡ true) = old_step x y l h in through s.1 (old_path p s.0))

    -- a path from a given class is one among the given classes
    record Step (i y : ℕ) : Type 0 where
      place : ℕ
      is : y ≡ B + suc place
      there : Given i place

    step : (i y : ℕ) → Over (B + suc i) y → Step i y
    step i y h =
        let low : (B < y) × (y < B + (1 + length cs)) = super_in (λ x. (B < x) × (x < B + (1 + length cs))) (get_or (given_classes (length m.metamodels) (length m.features) cs) i nowhere_class).supers y
        (given_supers (IsGivenNumber m cs) (length m.metamodels) (length m.features) cs supers i)
        (subst (λ (k : ClassInfo). list_any (λ s. s.0 == y) k.supers ≡ true) (class_new m cs (suc i)) h) in
        record {
          place = y - (B + 1);
          is = omega (arith, low.0);
          there = subst (λ n. list_any (λ s. s.0 == n) (get_or cs i nothing_given).supers ≡ true) (let same : y ≡ B + (1 + (y - (B + 1))) = omega (arith, low.0) in same)
              (subst (λ (ss : List ClassNo). list_any (λ s. s.0 == y) ss ≡ true) (supers_at i) h);
        }

    record Reached (i d : ℕ) : Type 0 where
      place : ℕ
      is : d ≡ B + suc place
      path : Closure Given i place

    new_path : {c d : ℕ} → Closure Over c d → (i : ℕ) → c ≡ B + suc i → Reached i d
    new_path (directly {x} {y} h) i e =
        (let s : Step i y = step i y (subst (λ n. Over n y) e h) in record { place = s.place; is = s.is; path = directly s.there })
    new_path (through {x} {y} {z} h p) i e =
        (let s : Step i y = step i y (subst (λ n. Over n y) e h) in
        let r : Reached s.place z = new_path p s.place s.is in record { place = r.place; is = r.is; path = through s.there r.path })

    from_element : (y : ℕ) → Over (B + 0) y → ⊥
    from_element y h = (let never : list_any (λ s. s.0 == y) (element_class (length m.metamodels)).supers ≡ true = subst (λ (k : ClassInfo). list_any (λ s. s.0 == y) k.supers ≡ true) (class_new m cs 0) h in cc)

    pub whole_acyclic : ((i : ℕ) → Closure Given i i → ⊥) → (c : ℕ) → Closure Over c c → ⊥
    whole_acyclic alone c p = by c (half B c) p
      where
        given : (i c : ℕ) → Reached i c → c ≡ B + suc i → ⊥
        given i c r e = alone i (subst (λ j. Closure Given i j) (let same : r.place ≡ i = omega (arith, r.is, e) in same) r.path)

        new_class : (i : ℕ) → Closure Over (B + i) (B + i) → ⊥
        new_class zero p = (let s : (y : ℕ) × Over (B + 0) y = first_step Over p in from_element s.0 s.1)
        new_class (suc i) p = given i (B + suc i) (new_path p i refl) refl

        by : (c : ℕ) → Half B c → Closure Over c c → ⊥
        by _ (old c l) p = (regular_of m wm).acyclic c (old_path p l)
        by _ (new i) p = new_class i p
