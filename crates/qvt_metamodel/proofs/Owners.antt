-- Which class declares a feature of a class, and that a class has the features of those above it.
use Rattle.std.proofs.Common.{◌≡◌, ◌∙◌, ℕ, zero, suc, ◌<◌, List, [], ◌∷◌, ◌++◌, Bool, true, false, refl, ap, sym, subst, arith, ◌==◌, ◌||◌, ◌⊎◌, inl, inr}
use Rattle.std.specs.Prelude.{slice_index, if◌then◌else◌}
use Rattle.std.specs.List.{list_any, flat_map, AllByRecursion}
use Rattle.std.proofs.lemmas.Bool.{eqb-true}
use Rattle.qvt_base.specs.declared.numbers.ClassNo.{ClassNo}
use Rattle.qvt_base.specs.declared.numbers.FeatureNo.{FeatureNo}
use Rattle.qvt_metamodel.specs.Metamodels.{Metamodels, class_at, features_in, among_features, each_once}
use Rattle.qvt_metamodel.specs.Descends.{is_superclass, Inherits}
use Rattle.qvt_metamodel.specs.Kept.{AreRanks}
use Rattle.qvt_metamodel.proofs.Bools.{or_cases, or_left, or_right}
use Rattle.qvt_metamodel.proofs.Ancestors.{Found, found, passing, begins, over}

pub among-append : (f : ℕ) (xs ys : List FeatureNo) → among_features f (xs ++ ys) ≡ (among_features f xs || among_features f ys)
among-append f [] ys = refl
among-append f (x ∷ xs) ys = ap (λ t. (x.0 == f) || t) (among-append f xs ys) ∙ by (x.0 == f)
  where
    by : (t : Bool) → (t || (among_features f xs || among_features f ys)) ≡ ((t || among_features f xs) || among_features f ys)
    by true = refl
    by false = refl

pub among-flat : (h : ℕ → List FeatureNo) (ss : List ClassNo) (f : ℕ) → among_features f (flat_map (λ s. h s.0) ss) ≡ list_any (λ s. among_features f (h s.0)) ss
among-flat h [] f = refl
among-flat h (s ∷ ss) f = among-append f (h s.0) (flat_map (λ s. h s.0) ss) ∙ ap (λ t. among_features f (h s.0) || t) (among-flat h ss f)

pub once-from : (seen gs : List FeatureNo) (f : ℕ) → among_features f (each_once seen gs) ≡ true → among_features f gs ≡ true
once-from seen [] f h = absurd (cc)
once-from seen (g ∷ gs) f h = by (among_features g.0 seen) h (once-from seen gs f) (once-from (seen ++ g ∷ []) gs f)
  where
    by : (t : Bool) → among_features f (if t then each_once seen gs else g ∷ each_once (seen ++ g ∷ []) gs) ≡ true
        → (among_features f (each_once seen gs) ≡ true → among_features f gs ≡ true) → (among_features f (each_once (seen ++ g ∷ []) gs) ≡ true → among_features f gs ≡ true)
        → among_features f (g ∷ gs) ≡ true
    by true h same more = or_right (g.0 == f) (among_features f gs) (same h)
    by false h same more = elim (or_cases (g.0 == f) (among_features f (each_once (seen ++ g ∷ []) gs)) h) [
      | inl e ↦ or_left (g.0 == f) (among_features f gs) e
      | inr r ↦ or_right (g.0 == f) (among_features f gs) (more r)
    ]

among-last : (f : ℕ) (xs : List FeatureNo) (g : FeatureNo) → among_features f (xs ++ g ∷ []) ≡ true → (among_features f xs ≡ true) ⊎ ((g.0 == f) ≡ true)
among-last f xs g h = elim (or_cases (among_features f xs) (among_features f (g ∷ [])) (sym (among-append f xs (g ∷ [])) ∙ h)) [
  | inl a ↦ inl a
  | inr b ↦ elim (or_cases (g.0 == f) false b) [ inl e ↦ inr e | inr never ↦ absurd (cc) ]
]

pub once-has : (seen gs : List FeatureNo) (f : ℕ) → among_features f gs ≡ true → (among_features f seen ≡ true) ⊎ (among_features f (each_once seen gs) ≡ true)
once-has seen [] f h = absurd (cc)
once-has seen (g ∷ gs) f h = by (among_features g.0 seen) refl (once-has seen gs f) (once-has (seen ++ g ∷ []) gs f)
  where
    by : (t : Bool) → among_features g.0 seen ≡ t
        → (among_features f gs ≡ true → (among_features f seen ≡ true) ⊎ (among_features f (each_once seen gs) ≡ true))
        → (among_features f gs ≡ true → (among_features f (seen ++ g ∷ []) ≡ true) ⊎ (among_features f (each_once (seen ++ g ∷ []) gs) ≡ true))
        → (among_features f seen ≡ true) ⊎ (among_features f (if t then each_once seen gs else g ∷ each_once (seen ++ g ∷ []) gs) ≡ true)
    by true e same more = elim (or_cases (g.0 == f) (among_features f gs) h) [
      | inl here ↦ inl (subst (λ n. among_features n seen ≡ true) (eqb-true g.0 f here) e)
      | inr later ↦ same later
    ]
    by false e same more = elim (or_cases (g.0 == f) (among_features f gs) h) [
      | inl here ↦ inr (or_left (g.0 == f) (among_features f (each_once (seen ++ g ∷ []) gs)) here)
      | inr later ↦ elim (more later) [
        | inl old ↦ elim (among-last f seen g old) [
          | inl was ↦ inl was
          | inr here ↦ inr (or_left (g.0 == f) (among_features f (each_once (seen ++ g ∷ []) gs)) here)
        ]
        | inr new ↦ inr (or_right (g.0 == f) (among_features f (each_once (seen ++ g ∷ []) gs)) new)
      ]
    ]

pub all-there : (P : ℕ → Type 0) (xs : List ClassNo) (d : ℕ) → AllByRecursion (λ s. P s.0) xs → list_any (λ s. s.0 == d) xs ≡ true → P d
all-there P [] d all h = absurd (cc)
all-there P (x ∷ xs) d all h = elim (or_cases (x.0 == d) (list_any (λ s. s.0 == d) xs) h) [
  | inl e ↦ subst P (eqb-true x.0 d e) all.0
  | inr later ↦ all-there P xs d all.1 later
]

-- the class that declares f is c, or above it
pub record Declared (m : Metamodels) (c f : ℕ) : Type 0 where
  pub class : ℕ
  pub own : among_features f (class_at m class).own ≡ true
  pub up : (c ≡ class) ⊎ Inherits m c class

module _ (m : Metamodels) where
  abbrev flat : ℕ → ℕ → List FeatureNo
  flat k c = flat_map (λ s. features_in k m s.0) (class_at m c).supers

  pub declared : (k c f : ℕ) → among_features f (features_in k m c) ≡ true → Declared m c f
  declared zero c f h = absurd (cc)
  declared (suc k) c f h =
      elim (or_cases (among_features f (each_once [] (flat k c))) (among_features f (class_at m c).own) (sym (among-append f (each_once [] (flat k c)) (class_at m c).own) ∙ h)) [
        | inl i ↦ (let g : Found (λ s. among_features f (features_in k m s)) (class_at m c).supers =
            found (λ s. among_features f (features_in k m s)) (class_at m c).supers (sym (among-flat (λ s. features_in k m s) (class_at m c).supers f) ∙ once-from [] (flat k c) f i) in
            let r : Declared m g.class f = declared k g.class f g.passes in
            record { class = r.class; own = r.own; up = inr (over m c g.class r.class g.there r.up) })
        | inr o ↦ record { class = c; own = o; up = inl refl }
      ]

  module _ (ranks : List ℕ) (ok : AreRanks m ranks) where
    pub includes : (k i c f : ℕ) → slice_index ranks c < k → (c ≡ i) ⊎ Inherits m c i → among_features f (class_at m i).own ≡ true → among_features f (features_in k m c) ≡ true
    includes zero i c f low up own = absurd (omega arith)
    includes (suc k) i c f low (inl same) own =
        among-append f (each_once [] (flat k c)) (class_at m c).own
        ∙ or_right (among_features f (each_once [] (flat k c))) (among_features f (class_at m c).own) (subst (λ x. among_features f (class_at m x).own ≡ true) (sym same) own)
    includes (suc k) i c f low (inr up) own =
        let s : (s : ℕ) × (is_superclass m c s ≡ true) × ((s ≡ i) ⊎ Inherits m s i) = begins m c i up in
        let less : slice_index ranks s.0 < slice_index ranks c = all-there (λ s. slice_index ranks s < slice_index ranks c) (class_at m c).supers s.0 (ok.rise c) s.1 in
        let there : among_features f (features_in k m s.0) ≡ true = includes k i s.0 f (omega (arith, less, low)) s.2 own in
        let flat_has : among_features f (flat k c) ≡ true = among-flat (λ s. features_in k m s) (class_at m c).supers f ∙ passing (λ s. among_features f (features_in k m s)) (class_at m c).supers s.0 s.1 there in
        among-append f (each_once [] (flat k c)) (class_at m c).own
        ∙ or_left (among_features f (each_once [] (flat k c))) (among_features f (class_at m c).own) (elim (once-has [] (flat k c) f flat_has) [ inl never ↦ absurd (cc) | inr after ↦ after ])
