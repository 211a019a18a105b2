-- Two lists of metamodels as one: what the first had stays, and what the second had goes on from there.
use Rattle.std.proofs.Common.{◌≡◌, ◌∙◌, ℕ, zero, suc, ◌+◌, ◌<◌, List, [], ◌++◌, length, map, true, false, option_map, refl, ap, sym, subst, arith, ◌==◌}
use Rattle.std.specs.List.{list_any, flat_map, AllByRecursion}
use Rattle.std.proofs.lemmas.List.{length-map, length-append, map-append, get_or_past}
use Rattle.std.proofs.lemmas.Bool.{eqb-true}
use Rattle.qvt_base.specs.declared.numbers.ClassNo.{ClassNo}
use Rattle.qvt_relation.specs.Closure.{directly, through}
use Rattle.qvt_relation.proofs.Bools.{same_test}
use Rattle.qvt_metamodel.specs.declared.info.ClassInfo.{ClassInfo}
use Rattle.qvt_metamodel.specs.declared.info.FeatureInfo.{FeatureInfo}
use Rattle.qvt_metamodel.specs.declared.begin.Begin.{Begin}
use Rattle.qvt_metamodel.specs.Metamodels.{Metamodels, class_at, feature_at, features_of, features_in, each_once, nowhere_class, nowhere_feature}
use Rattle.qvt_metamodel.specs.Descends.{is_superclass, Inherits, reaches}
use Rattle.qvt_metamodel.specs.WellFormed.{IsWellFormed}
use Rattle.qvt_metamodel.specs.Kept.{AreRanks}
use Rattle.qvt_metamodel.specs.Joined.{class_on, feature_on, class_info_on, feature_info_on, begin_after, first_some, joined}
use Rattle.qvt_metamodel.proofs.Ancestors.{Found, found, path, reached, reaches_kept}
use Rattle.qvt_metamodel.proofs.Bools.{ap2, not_true}
use Rattle.qvt_metamodel.proofs.Halves.{Half, old, new, half, old-at, new-at}
use Rattle.qvt_metamodel.proofs.Infos.{map-at}
use Rattle.qvt_metamodel.proofs.ListFacts.{all-imply, all-every, all-found, list_any-cong, list_any-map, flat_map-cong, flat_map-map, map-flat_map, eqb-add, each_once-on}
use Rattle.qvt_metamodel.proofs.Stable.{features-stable, no-features-past}

module _ (m n : Metamodels) (rm rn : List ℕ) (wm : IsWellFormed m) (wn : IsWellFormed n) (am : AreRanks m rm) (an : AreRanks n rn) where
  abbrev pub b : Begin
  b = begin_after m

  abbrev pub J : Metamodels
  J = record {
    metamodels = m.metamodels ++ n.metamodels;
    classes = m.classes ++ map (class_info_on b) n.classes;
    features = m.features ++ map (feature_info_on b) n.features;
    element = first_some m.element (option_map (class_on b) n.element);
  }

  pub is_joined : joined m n ≡ J
  unfolding joined
  is_joined = refl

  pub class_count : length J.classes ≡ length m.classes + length n.classes
  class_count = length-append m.classes (map (class_info_on b) n.classes) ∙ ap (λ k. length m.classes + k) (length-map n.classes (class_info_on b))

  pub feature_count : length J.features ≡ length m.features + length n.features
  feature_count = length-append m.features (map (feature_info_on b) n.features) ∙ ap (λ k. length m.features + k) (length-map n.features (feature_info_on b))

  pub metamodel_count : length J.metamodels ≡ length m.metamodels + length n.metamodels
  metamodel_count = length-append m.metamodels n.metamodels

  pub class_old : (c : ℕ) → c < length m.classes → class_at J c ≡ class_at m c
  class_old c h = old-at m.classes (map (class_info_on b) n.classes) c nowhere_class h

  pub class_new : (c : ℕ) → c < length n.classes → class_at J (length m.classes + c) ≡ class_info_on b (class_at n c)
  class_new c h = new-at m.classes (map (class_info_on b) n.classes) c nowhere_class ∙ map-at (class_info_on b) n.classes c nowhere_class nowhere_class h

  -- a fact of a class of the second and of what it becomes, past the last one of the default
  pub either_class : (P : ClassInfo → ClassInfo → Type 0) (c : ℕ) → ((k : ClassInfo) → P (class_info_on b k) k) → P nowhere_class nowhere_class → P (class_at J (length m.classes + c)) (class_at n c)
  either_class P c here past = by c (half (length n.classes) c)
    where
      by : (c : ℕ) → Half (length n.classes) c → P (class_at J (length m.classes + c)) (class_at n c)
      by _ (old c h) = subst (λ x. P x (class_at n c)) (sym (class_new c h)) (here (class_at n c))
      by _ (new k) =
          subst (λ x. P x (class_at n (length n.classes + k))) (sym (get_or_past J.classes (length m.classes + (length n.classes + k)) nowhere_class (omega (arith, class_count))))
          (subst (λ x. P nowhere_class x) (sym (get_or_past n.classes (length n.classes + k) nowhere_class (omega arith))) past)

  pub feature_old : (f : ℕ) → f < length m.features → feature_at J f ≡ feature_at m f
  feature_old f h = old-at m.features (map (feature_info_on b) n.features) f nowhere_feature h

  pub feature_new : (f : ℕ) → f < length n.features → feature_at J (length m.features + f) ≡ feature_info_on b (feature_at n f)
  feature_new f h = new-at m.features (map (feature_info_on b) n.features) f nowhere_feature ∙ map-at (feature_info_on b) n.features f nowhere_feature nowhere_feature h

  pub either_feature : (P : FeatureInfo → FeatureInfo → Type 0) (f : ℕ) → ((k : FeatureInfo) → P (feature_info_on b k) k) → P nowhere_feature nowhere_feature → P (feature_at J (length m.features + f)) (feature_at n f)
  either_feature P f here past = by f (half (length n.features) f)
    where
      by : (f : ℕ) → Half (length n.features) f → P (feature_at J (length m.features + f)) (feature_at n f)
      by _ (old f h) = subst (λ x. P x (feature_at n f)) (sym (feature_new f h)) (here (feature_at n f))
      by _ (new k) =
          subst (λ x. P x (feature_at n (length n.features + k))) (sym (get_or_past J.features (length m.features + (length n.features + k)) nowhere_feature (omega (arith, feature_count))))
          (subst (λ x. P nowhere_feature x) (sym (get_or_past n.features (length n.features + k) nowhere_feature (omega arith))) past)

  supers_new : (c : ℕ) → (class_at J (length m.classes + c)).supers ≡ map (class_on b) (class_at n c).supers
  unfolding class_info_on
  supers_new c = either_class (λ x y. x.supers ≡ map (class_on b) y.supers) c (λ k. refl) refl

  own_new : (c : ℕ) → (class_at J (length m.classes + c)).own ≡ map (feature_on b) (class_at n c).own
  unfolding class_info_on
  own_new c = either_class (λ x y. x.own ≡ map (feature_on b) y.own) c (λ k. refl) refl

  supers_live : (c : ℕ) → AllByRecursion (λ (s : ClassNo). s.0 < length m.classes) (class_at m c).supers
  supers_live c = all-found (λ d. d < length m.classes) (class_at m c).supers (wm.live_superclass c)

  features_old_in : (k c : ℕ) → c < length m.classes → features_in k J c ≡ features_in k m c
  features_old_in zero c h = refl
  features_old_in (suc k) c h =
      ap (λ (x : ClassInfo). each_once [] (flat_map (λ s. features_in k J s.0) x.supers) ++ x.own) (class_old c h)
      ∙ ap (λ l. each_once [] l ++ (class_at m c).own) (flat_map-cong _ _ (class_at m c).supers
      (all-imply (λ (s : ClassNo). s.0 < length m.classes) (λ (s : ClassNo). features_in k J s.0 ≡ features_in k m s.0) (class_at m c).supers (λ s live. features_old_in k s.0 live) (supers_live c)))

  features_new_in : (k c : ℕ) → features_in k J (length m.classes + c) ≡ map (feature_on b) (features_in k n c)
  features_new_in zero c = refl
  features_new_in (suc k) c =
      ap2 (λ ss own. each_once [] (flat_map (λ (s : ClassNo). features_in k J s.0) ss) ++ own) (supers_new c) (own_new c)
      ∙ ap (λ l. each_once [] l ++ map (feature_on b) (class_at n c).own)
      (flat_map-map (λ (s : ClassNo). features_in k J s.0) (class_on b) (class_at n c).supers
      ∙ flat_map-cong _ _ (class_at n c).supers (all-every (λ (s : ClassNo). features_in k J (length m.classes + s.0) ≡ map (feature_on b) (features_in k n s.0)) (class_at n c).supers (λ s. features_new_in k s.0))
      ∙ map-flat_map (feature_on b) (λ (s : ClassNo). features_in k n s.0) (class_at n c).supers)
      ∙ ap (λ l. l ++ map (feature_on b) (class_at n c).own) (each_once-on b [] (flat_map (λ (s : ClassNo). features_in k n s.0) (class_at n c).supers))
      ∙ sym (map-append (feature_on b) (each_once [] (flat_map (λ (s : ClassNo). features_in k n s.0) (class_at n c).supers)) (class_at n c).own)

  -- the superclasses of a class of the second are those it had
  super_new : (c d : ℕ) → is_superclass J (length m.classes + c) (length m.classes + d) ≡ is_superclass n c d
  super_new c d =
      ap (list_any (λ (s : ClassNo). s.0 == (length m.classes + d))) (supers_new c)
      ∙ list_any-map (λ (s : ClassNo). s.0 == (length m.classes + d)) (class_on b) (class_at n c).supers
      ∙ list_any-cong _ _ (class_at n c).supers
      (all-every (λ (s : ClassNo). ((length m.classes + s.0) == (length m.classes + d)) ≡ (s.0 == d)) (class_at n c).supers (λ s. eqb-add (length m.classes) s.0 d))

  super_from : (c y : ℕ) → is_superclass J (length m.classes + c) y ≡ true → (e : ℕ) × (y ≡ length m.classes + e) × (is_superclass n c e ≡ true)
  super_from c y h =
      let f : Found (λ s. (length m.classes + s) == y) (class_at n c).supers = found (λ s. (length m.classes + s) == y) (class_at n c).supers
      (sym (ap (list_any (λ (s : ClassNo). s.0 == y)) (supers_new c) ∙ list_any-map (λ (s : ClassNo). s.0 == y) (class_on b) (class_at n c).supers) ∙ h) in
      (f.class, sym (eqb-true (length m.classes + f.class) y f.passes), f.there)

  inherits_new : {c d : ℕ} → Inherits n c d → Inherits J (length m.classes + c) (length m.classes + d)
  inherits_new (directly {x} {y} h) = directly (super_new x y ∙ h)
  inherits_new (through {x} {y} {z} h p) = through (super_new x y ∙ h) (inherits_new p)

  inherits_from : {x y : ℕ} → Inherits J x y → (c : ℕ) → x ≡ length m.classes + c → (e : ℕ) × (y ≡ length m.classes + e) × Inherits n c e
  inherits_from (directly {x} {y} h) c at =
      let s : (e : ℕ) × (y ≡ length m.classes + e) × (is_superclass n c e ≡ true) = super_from c y (subst (λ k. is_superclass J k y ≡ true) at h) in
      (s.0, s.1, directly s.2)
  inherits_from (through {x} {y} {z} h p) c at =
      let s : (e : ℕ) × (y ≡ length m.classes + e) × (is_superclass n c e ≡ true) = super_from c y (subst (λ k. is_superclass J k y ≡ true) at h) in
      let more : (e : ℕ) × (z ≡ length m.classes + e) × Inherits n s.0 e = inherits_from p s.0 s.1 in
      (more.0, more.1, through {z = more.0} s.2 more.2)

  pub features_old : (c : ℕ) → c < length m.classes → features_of J c ≡ features_of m c
  unfolding features_of
  features_old c h = features_old_in (length J.classes) c h
      ∙ features-stable m rm am (length J.classes) (length m.classes) c (omega (arith, am.bounded c h, class_count)) (am.bounded c h)

  pub features_new : (c : ℕ) → features_of J (length m.classes + c) ≡ map (feature_on b) (features_of n c)
  unfolding features_of
  features_new c = features_new_in (length J.classes) c ∙ ap (map (feature_on b)) (by c (half (length n.classes) c))
    where
      by : (c : ℕ) → Half (length n.classes) c → features_in (length J.classes) n c ≡ features_in (length n.classes) n c
      by _ (old c h) = features-stable n rn an (length J.classes) (length n.classes) c (omega (arith, an.bounded c h, class_count)) (an.bounded c h)
      by _ (new k) = (let past = get_or_past n.classes (length n.classes + k) nowhere_class (omega arith) in
          no-features-past n (length J.classes) (length n.classes + k) past ∙ sym (no-features-past n (length n.classes) (length n.classes + k) past))

  pub reaches_old : (c d : ℕ) → c < length m.classes → reaches J c d ≡ reaches m c d
  reaches_old = reaches_kept m J wm.live_superclass class_old

  pub reaches_new : (c d : ℕ) → reaches J (length m.classes + c) (length m.classes + d) ≡ reaches n c d
  reaches_new c d = same_test (reaches J (length m.classes + c) (length m.classes + d)) (reaches n c d)
      (λ h. (let r : (e : ℕ) × (length m.classes + d ≡ length m.classes + e) × Inherits n c e = inherits_from (path J (length m.classes + c) (length m.classes + d) h) c refl in
      reached n (subst (λ e. Inherits n c e) (let same : r.0 ≡ d = omega (arith, r.1) in same) r.2)))
      (λ h. reached J (inherits_new (path n c d h)))

  pub reaches_new_old : (c d : ℕ) → d < length m.classes → reaches J (length m.classes + c) d ≡ false
  reaches_new_old c d h = not_true (reaches J (length m.classes + c) d) (λ up.
      (let r : (e : ℕ) × (d ≡ length m.classes + e) × Inherits n c e = inherits_from (path J (length m.classes + c) d up) c refl in omega (arith, r.1, h)))
