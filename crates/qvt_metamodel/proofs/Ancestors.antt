-- The test for what is above a class tells exactly the least set.
use Rattle.std.proofs.Common.{◌≡◌, ◌∙◌, ℕ, ◌+◌, ◌<◌, ◌≤◌, List, [], ◌∷◌, length, Bool, true, false, refl, ap, sym, arith, ◌==◌, ◌||◌, subst, ◌⊎◌, inl, inr}
use Rattle.std.specs.Prelude.{◌↔◌, IsTrue}
use Rattle.std.specs.List.{list_any}
use Rattle.std.proofs.lemmas.Bool.{eqb-true, eq-eqb}
use Rattle.std.proofs.lemmas.List.{get_or_past}
use Rattle.qvt_base.specs.declared.numbers.ClassNo.{ClassNo}
use Rattle.qvt_relation.specs.Closure.{directly, through, Decides}
use Rattle.qvt_relation.proofs.Bools.{same_test}
use Rattle.qvt_relation.proofs.Closures.{reaches-closure, closure-reaches}
use Rattle.qvt_metamodel.specs.declared.info.ClassInfo.{ClassInfo}
use Rattle.qvt_metamodel.specs.Metamodels.{Metamodels, class_at, nowhere_class, is_element}
use Rattle.qvt_metamodel.specs.Descends.{is_superclass, Inherits, reaches, descends, Descends}
use Rattle.qvt_metamodel.proofs.Bools.{or_cases, or_left, or_right, clash, not_true}
use Rattle.qvt_metamodel.proofs.Halves.{Half, old, new, half}

pub record Found (p : ℕ → Bool) (xs : List ClassNo) : Type 0 where
  pub class : ℕ
  pub there : list_any (λ s. s.0 == class) xs ≡ true
  pub passes : p class ≡ true

pub found : (p : ℕ → Bool) (xs : List ClassNo) → list_any (λ s. p s.0) xs ≡ true → Found p xs
found p [] h = absurd (cc)
found p (x ∷ xs) h = elim (or_cases (p x.0) (list_any (λ s. p s.0) xs) h) [
  | inl here ↦ record { class = x.0; there = or_left (x.0 == x.0) (list_any (λ s. s.0 == x.0) xs) (eq-eqb x.0 x.0 refl); passes = here }
  | inr later ↦ (let f : Found p xs = found p xs later in record { class = f.class; there = or_right (x.0 == f.class) (list_any (λ s. s.0 == f.class) xs) f.there; passes = f.passes })
]

pub passing : (p : ℕ → Bool) (xs : List ClassNo) (d : ℕ) → list_any (λ s. s.0 == d) xs ≡ true → p d ≡ true → list_any (λ s. p s.0) xs ≡ true
passing p [] d h t = absurd (cc)
passing p (x ∷ xs) d h t = elim (or_cases (x.0 == d) (list_any (λ s. s.0 == d) xs) h) [
  | inl e ↦ or_left (p x.0) (list_any (λ s. p s.0) xs) (ap p (eqb-true x.0 d e) ∙ t)
  | inr later ↦ or_right (p x.0) (list_any (λ s. p s.0) xs) (passing p xs d later t)
]

module _ (m : Metamodels) where
  pub live : (c d : ℕ) → is_superclass m c d ≡ true → c < length m.classes
  live c d h = by c (half (length m.classes) c) h
    where
      by : (c : ℕ) → Half (length m.classes) c → is_superclass m c d ≡ true → c < length m.classes
      by _ (old c l) h = l
      by _ (new k) h = clash h (ap (λ (x : ClassInfo). list_any (λ s. s.0 == d) x.supers) (get_or_past m.classes (length m.classes + k) nowhere_class (omega arith)))

  decides : Decides (is_superclass m) (λ c d. is_superclass m c d ≡ true)
  decides = record { sound = λ c d h. h; complete = λ c d h. h }

  pub reached : {c d : ℕ} → Inherits m c d → reaches m c d ≡ true
  reached p = closure-reaches (is_superclass m) (λ c d. is_superclass m c d ≡ true) decides (length m.classes) (record { starts = live }) p

  pub path : (c d : ℕ) → reaches m c d ≡ true → Inherits m c d
  path c d h = reaches-closure (is_superclass m) (λ c d. is_superclass m c d ≡ true) decides (length m.classes) c d h

  -- a class below another is so by its superclasses
  pub begins : (c d : ℕ) → Inherits m c d → (s : ℕ) × (is_superclass m c s ≡ true) × ((s ≡ d) ⊎ Inherits m s d)
  begins _ _ (directly {x} {y} h) = (y, h, inl refl)
  begins _ _ (through {x} {y} {z} h p) = (y, h, inr p)

  pub over : (c s d : ℕ) → is_superclass m c s ≡ true → (s ≡ d) ⊎ Inherits m s d → Inherits m c d
  over c s d h (inl same) = directly (subst (λ x. is_superclass m c x ≡ true) same h)
  over c s d h (inr p) = through h p

  pub one_more : (c d : ℕ) → reaches m c d ≡ list_any (λ s. (s.0 == d) || reaches m s.0 d) (class_at m c).supers
  one_more c d = same_test (reaches m c d) (list_any (λ s. (s.0 == d) || reaches m s.0 d) (class_at m c).supers)
      (λ h. (let s : (s : ℕ) × (is_superclass m c s ≡ true) × ((s ≡ d) ⊎ Inherits m s d) = begins c d (path c d h) in
      passing (λ s. (s == d) || reaches m s d) (class_at m c).supers s.0 s.1 (further s.0 s.2)))
      (λ h. (let f : Found (λ s. (s == d) || reaches m s d) (class_at m c).supers = found (λ s. (s == d) || reaches m s d) (class_at m c).supers h in
      reached (over c f.class d f.there (back f.class (or_cases (f.class == d) (reaches m f.class d) f.passes)))))
    where
      further : (s : ℕ) → (s ≡ d) ⊎ Inherits m s d → ((s == d) || reaches m s d) ≡ true
      further s (inl same) = or_left (s == d) (reaches m s d) (eq-eqb s d same)
      further s (inr p) = or_right (s == d) (reaches m s d) (reached p)

      back : (s : ℕ) → ((s == d) ≡ true) ⊎ (reaches m s d ≡ true) → (s ≡ d) ⊎ Inherits m s d
      back s (inl e) = inl (eqb-true s d e)
      back s (inr up) = inr (path s d up)

  pub sound : (c d : ℕ) → descends m c d ≡ true → Descends m c d
  sound c d h = elim (or_cases ((c == d) || is_element m d) (reaches m c d) h) [
    | inl e ↦ elim (or_cases (c == d) (is_element m d) e) [ inl same ↦ inl (eqb-true c d same) | inr top ↦ inr (inr top) ]
    | inr up ↦ inr (inl (path c d up))
  ]

  pub complete : (c d : ℕ) → Descends m c d → descends m c d ≡ true
  complete c d (inl same) = or_left ((c == d) || is_element m d) (reaches m c d) (or_left (c == d) (is_element m d) (eq-eqb c d same))
  complete c d (inr (inl p)) = or_right ((c == d) || is_element m d) (reaches m c d) (reached p)
  complete c d (inr (inr top)) = or_left ((c == d) || is_element m d) (reaches m c d) (or_right (c == d) (is_element m d) top)

  pub exact : (c d : ℕ) → IsTrue (descends m c d) ↔ Descends m c d
  exact c d = (sound c d, complete c d)

  pub none_past : (c d : ℕ) → length m.classes ≤ c → reaches m c d ≡ false
  none_past c d h = not_true (reaches m c d) (λ up. (let s : (s : ℕ) × (is_superclass m c s ≡ true) × ((s ≡ d) ⊎ Inherits m s d) = begins c d (path c d up) in
      let low : c < length m.classes = live c s.0 s.1 in omega (arith, low, h)))

  -- where superclasses are classes that are there
  module _ (live_super : (c d : ℕ) → is_superclass m c d ≡ true → d < length m.classes) where
    pub ends : {c d : ℕ} → Inherits m c d → d < length m.classes
    ends (directly {x} {y} h) = live_super x y h
    ends (through {x} {y} {z} h p) = ends p

    -- and all classes are in another list as they are
    module _ (w : Metamodels) (same : (c : ℕ) → c < length m.classes → class_at w c ≡ class_at m c) where
      stays : (c d : ℕ) → c < length m.classes → is_superclass w c d ≡ is_superclass m c d
      stays c d l = ap (λ (x : ClassInfo). list_any (λ s. s.0 == d) x.supers) (same c l)

      into : {c d : ℕ} → Inherits m c d → Inherits w c d
      into (directly {x} {y} h) = directly (stays x y (live x y h) ∙ h)
      into (through {x} {y} {z} h p) = through (stays x y (live x y h) ∙ h) (into p)

      back_from : {c d : ℕ} → Inherits w c d → c < length m.classes → Inherits m c d
      back_from (directly {x} {y} h) l = directly (sym (stays x y l) ∙ h)
      back_from (through {x} {y} {z} h p) l = through (sym (stays x y l) ∙ h) (back_from p (live_super x y (sym (stays x y l) ∙ h)))

pub reaches_kept : (m w : Metamodels) → ((c d : ℕ) → is_superclass m c d ≡ true → d < length m.classes) → ((c : ℕ) → c < length m.classes → class_at w c ≡ class_at m c)
    → (c d : ℕ) → c < length m.classes → reaches w c d ≡ reaches m c d
reaches_kept m w live_super same c d l = same_test (reaches w c d) (reaches m c d)
    (λ h. reached m (back_from m live_super w same (path w c d h) l))
    (λ h. reached w (into m live_super w same (path m c d h)))
