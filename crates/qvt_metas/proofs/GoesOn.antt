-- A list of metamodels that goes on from another: what the other had stays.
use Rattle.std.proofs.Common.{◌≡◌, ◌∙◌, ℕ, zero, suc, ◌<◌, ◌≤◌, List, [], ◌∷◌, ◌++◌, length, map, get_or, false, refl, ap, arith, ◌==◌, ◌&&◌, ◌||◌, eqb, position, find}
use Rattle.std.specs.List.{flat_map, AllByRecursion}
use Rattle.std.specs.Str.{bytes_eq}
use Rattle.std.proofs.lemmas.List.{length-append}
use Rattle.std.proofs.lemmas.Bool.{eqb-true}
use Rattle.qvt_base.specs.declared.numbers.ClassNo.{ClassNo}
use Rattle.qvt_base.specs.declared.numbers.FeatureNo.{FeatureNo}
use Rattle.qvt_metamodel.specs.declared.info.ClassInfo.{ClassInfo}
use Rattle.qvt_metamodel.specs.declared.info.FeatureInfo.{FeatureInfo}
use Rattle.qvt_metamodel.specs.declared.info.MetamodelInfo.{MetamodelInfo}
use Rattle.qvt_metamodel.specs.Metamodels.{Metamodels, class_at, feature_at, features_of, features_in, each_once, nowhere_class, nowhere_feature, is_element, is_class_number}
use Rattle.qvt_metamodel.specs.Descends.{reaches}
use Rattle.qvt_metamodel.specs.Named.{metamodel_at, nowhere_metamodel, nowhere_enumeration, is_text, class_named, feature_named}
use Rattle.qvt_metamodel.specs.WellFormed.{IsWellFormed}
use Rattle.qvt_metamodel.specs.Kept.{AreRanks}
use Rattle.qvt_metamodel.specs.Stay.{NumbersStay}
use Rattle.qvt_metamodel.specs.declared.begin.Begin.{Begin}
use Rattle.qvt_metamodel.specs.declared.declared.MetaData.{MetaData}
use Rattle.qvt_metamodel.specs.Joined.{joined, begin_after, class_info_on, feature_info_on}
use Rattle.qvt_metamodel.specs.Added.{added, numbered}
use Rattle.qvt_metamodel.proofs.Ancestors.{reaches_kept}
use Rattle.qvt_metamodel.proofs.Bools.{ap2, not_true, no-and}
use Rattle.qvt_metamodel.proofs.Halves.{old-at}
use Rattle.qvt_metamodel.proofs.ListFacts.{all-imply, all-found, flat_map-cong}
use Rattle.qvt_metamodel.proofs.Lookups.{position-left, position-none_past, find-cong}
use Rattle.qvt_metamodel.proofs.Stable.{features-stable}
use Rattle.qvt_metas.proofs.JoinsKept.{all-among, first_none}

pub record GoesOn (m w : Metamodels) : Type 0 where
  pub metamodels_after : List MetamodelInfo
  pub classes_after : List ClassInfo
  pub features_after : List FeatureInfo
  pub metamodels : w.metamodels ≡ m.metamodels ++ metamodels_after
  pub classes : w.classes ≡ m.classes ++ classes_after
  pub features : w.features ≡ m.features ++ features_after
  -- classes that come are of metamodels that come
  pub apart : AllByRecursion (λ (k : ClassInfo). length m.metamodels ≤ k.metamodel) classes_after
  pub element : (d : ℕ) → d < length m.classes → is_element w d ≡ is_element m d

module _ (m w : Metamodels) (ranks : List ℕ) (wm : IsWellFormed m) (am : AreRanks m ranks) (on : GoesOn m w) where
  pub metamodel_old : (k : ℕ) → k < length m.metamodels → metamodel_at w k ≡ metamodel_at m k
  metamodel_old k h = ap (λ is. get_or is k nowhere_metamodel) on.metamodels ∙ old-at m.metamodels on.metamodels_after k nowhere_metamodel h

  pub class_old : (c : ℕ) → c < length m.classes → class_at w c ≡ class_at m c
  class_old c h = ap (λ ks. get_or ks c nowhere_class) on.classes ∙ old-at m.classes on.classes_after c nowhere_class h

  pub feature_old : (f : ℕ) → f < length m.features → feature_at w f ≡ feature_at m f
  feature_old f h = ap (λ fs. get_or fs f nowhere_feature) on.features ∙ old-at m.features on.features_after f nowhere_feature h

  more : length m.classes ≤ length w.classes
  more = omega (arith, ap length on.classes, length-append m.classes on.classes_after)

  supers_live : (c : ℕ) → AllByRecursion (λ (s : ClassNo). s.0 < length m.classes) (class_at m c).supers
  supers_live c = all-found (λ d. d < length m.classes) (class_at m c).supers (wm.live_superclass c)

  features_in_old : (k c : ℕ) → c < length m.classes → features_in k w c ≡ features_in k m c
  features_in_old zero c h = refl
  features_in_old (suc k) c h =
      ap (λ (x : ClassInfo). each_once [] (flat_map (λ s. features_in k w s.0) x.supers) ++ x.own) (class_old c h)
      ∙ ap (λ l. each_once [] l ++ (class_at m c).own) (flat_map-cong _ _ (class_at m c).supers
      (all-imply (λ (s : ClassNo). s.0 < length m.classes) (λ (s : ClassNo). features_in k w s.0 ≡ features_in k m s.0) (class_at m c).supers (λ s live. features_in_old k s.0 live) (supers_live c)))

  pub features_old : (c : ℕ) → c < length m.classes → features_of w c ≡ features_of m c
  unfolding features_of
  features_old c h = features_in_old (length w.classes) c h
      ∙ features-stable m ranks am (length w.classes) (length m.classes) c (omega (arith, am.bounded c h, more)) (am.bounded c h)

  pub reaches_old : (c d : ℕ) → c < length m.classes → reaches w c d ≡ reaches m c d
  reaches_old = reaches_kept m w wm.live_superclass class_old

  none_named : (k : ℕ) (name : List ℕ) → k < length m.metamodels → (ks : List ClassInfo) → AllByRecursion (λ (x : ClassInfo). length m.metamodels ≤ x.metamodel) ks
      → AllByRecursion (λ (x : ClassInfo). ((x.metamodel == k) && bytes_eq name x.name) ≡ false) ks
  none_named k name h ks far = all-imply (λ (x : ClassInfo). length m.metamodels ≤ x.metamodel) (λ (x : ClassInfo). ((x.metamodel == k) && bytes_eq name x.name) ≡ false) ks
      (λ x l. no-and (eqb x.metamodel k) (bytes_eq name x.name) (not_true (eqb x.metamodel k) (λ e. (let same : x.metamodel ≡ k = eqb-true x.metamodel k e in omega (arith, same, l, h))))) far

  pub class_named_old : (k : ℕ) (name : List ℕ) → k < length m.metamodels → class_named w k name ≡ class_named m k name
  class_named_old k name h =
      ap (position (λ (x : ClassInfo). (x.metamodel == k) && bytes_eq name x.name)) on.classes
      ∙ position-none_past (λ (x : ClassInfo). (x.metamodel == k) && bytes_eq name x.name) m.classes on.classes_after (none_named k name h on.classes_after on.apart)

  pub feature_named_old : (c : ℕ) (name : List ℕ) → c < length m.classes → feature_named w c name ≡ feature_named m c name
  feature_named_old c name h =
      ap (find (λ (g : FeatureNo). bytes_eq name (feature_at w g.0).name)) (features_old c h)
      ∙ find-cong _ (λ (g : FeatureNo). bytes_eq name (feature_at m g.0).name) (features_of m c)
      (all-imply (λ (g : FeatureNo). g.0 < length m.features) (λ (g : FeatureNo). bytes_eq name (feature_at w g.0).name ≡ bytes_eq name (feature_at m g.0).name) (features_of m c)
      (λ g live. ap (λ (x : FeatureInfo). bytes_eq name x.name) (feature_old g.0 live)) (all-among (λ x. x < length m.features) (features_of m c) (wm.live_feature c)))

  pub stays_in : NumbersStay m w
  stays_in = record {
    metamodel = metamodel_old;
    class = class_old;
    feature = feature_old;
    features = features_old;
    descends = λ c d h l. ap2 (λ x y. ((c == d) || x) || y) (on.element d l) (reaches_old c d h);
    metamodel_named = λ name k e. ap (position (λ (i : MetamodelInfo). bytes_eq name i.name || is_text i.uri name)) on.metamodels
        ∙ position-left (λ (i : MetamodelInfo). bytes_eq name i.name || is_text i.uri name) m.metamodels on.metamodels_after k e;
    class_named = class_named_old;
    feature_named = feature_named_old;
    enumeration_named = λ k name h. ap (λ (i : MetamodelInfo). position (λ e. bytes_eq name e.name) i.enums) (metamodel_old k h);
    literal_named = λ k e name h. ap (λ (i : MetamodelInfo). position (bytes_eq name) (get_or i.enums e nowhere_enumeration).literals) (metamodel_old k h);
  }

later : (b : Begin) (ks : List ClassInfo) → AllByRecursion (λ (k : ClassInfo). b.metamodel ≤ k.metamodel) (map (class_info_on b) ks)
unfolding class_info_on
later b [] = tt
later b (k ∷ ks) = (omega arith, later b ks)

added_goes_on : (m : Metamodels) (d : MetaData) → GoesOn m (added m d)
unfolding joined numbered
added_goes_on m d = record {
  metamodels_after = (numbered d).metamodels;
  classes_after = map (class_info_on (begin_after m)) (numbered d).classes;
  features_after = map (feature_info_on (begin_after m)) (numbered d).features;
  metamodels = refl;
  classes = refl;
  features = refl;
  apart = later (begin_after m) (numbered d).classes;
  element = λ c l. ap (λ o. is_class_number o c) (first_none m.element);
}

pub added_stays : (m : Metamodels) (ranks : List ℕ) → IsWellFormed m → AreRanks m ranks → (d : MetaData) → NumbersStay m (added m d)
added_stays m ranks wm am d = stays_in m (added m d) ranks wm am (added_goes_on m d)
