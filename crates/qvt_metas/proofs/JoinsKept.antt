-- Two well formed lists of metamodels are well formed as one.
use Rattle.std.proofs.Common.{◌≡◌, ◌≢◌, ◌∙◌, ℕ, suc, ◌+◌, ◌<◌, ◌≤◌, ◌^◌, List, [], ◌∷◌, length, map, get_or, Bool, true, false, None, Some, Option, option_map, refl, ap, sym, subst, arith, ◌==◌, ◌&&◌, ◌||◌, eqb, position, find}
use Rattle.std.specs.Prelude.{slice_index_or}
use Rattle.std.specs.List.{list_any, AllByRecursion}
use Rattle.std.specs.Str.{is_utf8, bytes_eq}
use Rattle.std.proofs.lemmas.List.{length-map}
use Rattle.std.proofs.lemmas.Bool.{eqb-true, eq-eqb}
use Rattle.qvt_base.specs.declared.numbers.ClassNo.{ClassNo}
use Rattle.qvt_base.specs.declared.numbers.FeatureNo.{FeatureNo}
use Rattle.qvt_metamodel.specs.declared.info.TypeKind.{TypeKind}
use Rattle.qvt_metamodel.specs.declared.info.TypeKind.TheVariants.{Bool as BoolKind, Int, Str, Enum, Class}
use Rattle.qvt_metamodel.specs.declared.info.MetamodelInfo.{MetamodelInfo}
use Rattle.qvt_metamodel.specs.declared.info.ClassInfo.{ClassInfo}
use Rattle.qvt_metamodel.specs.Metamodels.{Metamodels, class_at, feature_at, shape_of, opposite, is_opposite, is_feature_number, is_element, is_class_number, features_of, has_feature, among_features, nowhere_class, is_single, is_containment, is_one}
use Rattle.qvt_metamodel.specs.Descends.{is_superclass, reaches, descends, is_class_kind, is_class_type}
use Rattle.qvt_metamodel.specs.Named.{metamodel_at, nowhere_metamodel, nowhere_enumeration, enumeration_at, literal_at, class_named, feature_named, enumeration_named, literal_named}
use Rattle.qvt_metamodel.specs.WellFormed.{IsWellFormed, IsRegular, IsLiveKind}
use Rattle.qvt_metamodel.specs.Kept.{AreRanks}
use Rattle.qvt_metamodel.specs.Joined.{class_on, feature_on, kind_on, class_info_on, feature_info_on, begin_after, first_some}
use Rattle.qvt_metamodel.proofs.Bools.{ap2, clash, not_true, or_left, or_right, no-and}
use Rattle.qvt_metamodel.proofs.Halves.{Half, old, new, half, old-at, new-at}
use Rattle.qvt_metamodel.proofs.Infos.{map-at}
use Rattle.qvt_metamodel.proofs.ListFacts.{all-imply, all-every, list_any-cong, list_any-map, list_any-none, eqb-add, among-on}
use Rattle.qvt_metamodel.proofs.Lookups.{position-left, position-right, position-cong, position-map, find-cong, find-map}
use Rattle.qvt_metamodel.proofs.Ancestors.{path, ends}
use Rattle.qvt_metamodel.proofs.Order.{acyclic, antisymmetric, transitive, inherited}
use Rattle.qvt_metamodel.proofs.Regular.{regular, regular_of}
use Rattle.qvt_metas.proofs.Joins.{J, class_count, feature_count, metamodel_count, class_old, class_new, either_class, feature_old, feature_new, either_feature, features_old, features_new, reaches_old, reaches_new, reaches_new_old}

-- a fact at each index is one of each item
pub all-at_index : {X : Type 0} (P : X → Type 0) (xs : List X) (d : X) → ((i : ℕ) → i < length xs → P (get_or xs i d)) → AllByRecursion P xs
all-at_index P [] d f = tt
all-at_index P (x ∷ xs) d f = (f 0 (omega arith), all-at_index P xs d (λ i h. f (suc i) (omega arith)))

pub all-among : (P : ℕ → Type 0) (gs : List FeatureNo) → ((f : ℕ) → among_features f gs ≡ true → P f) → AllByRecursion (λ g. P g.0) gs
all-among P [] f = tt
all-among P (g ∷ gs) f = (f g.0 (or_left (g.0 == g.0) (among_features g.0 gs) (eq-eqb g.0 g.0 refl)), all-among P gs (λ x h. f x (or_right (g.0 == x) (among_features x gs) h)))

or-false : (t : Bool) → (t || false) ≡ t
or-false true = refl
or-false false = refl

pub first_none : (o : Option ClassNo) → first_some o None ≡ o
first_none None = refl
first_none (Some x) = refl

module _ (m n : Metamodels) (rm rn : List ℕ) (wm : IsWellFormed m) (wn : IsWellFormed n) (am : AreRanks m rm) (an : AreRanks n rn) (other : n.element ≡ None) where
  abbrev K : ℕ
  K = length m.metamodels

  abbrev B : ℕ
  B = length m.classes

  abbrev F : ℕ
  F = length m.features

  abbrev W : Metamodels
  W = J m n rm rn wm wn am an

  old_regular : IsRegular m
  old_regular = regular_of m wm

  new_regular : IsRegular n
  new_regular = regular_of n wn

  apart : (x y z : ℕ) → y < x → eqb (x + z) y ≡ false
  apart x y z h = not_true (eqb (x + z) y) (λ e. (let same : x + z ≡ y = eqb-true (x + z) y e in omega (arith, same, h)))

  -- features of a class
  data Has : ℕ → ℕ → Type 0 where
    olds : (c f : ℕ) → c < B → f < F → has_feature m c f ≡ true → Has c f
    news : (c f : ℕ) → has_feature n c f ≡ true → Has (B + c) (F + f)

  has_old : (c f : ℕ) → c < B → has_feature W c f ≡ has_feature m c f
  has_old c f h = ap (among_features f) (features_old m n rm rn wm wn am an c h)

  has_new : (c f : ℕ) → has_feature W (B + c) (F + f) ≡ has_feature n c f
  has_new c f = ap (among_features (F + f)) (features_new m n rm rn wm wn am an c) ∙ among-on (begin_after m) f (features_of n c)

  has_new_old : (c f : ℕ) → f < F → has_feature W (B + c) f ≡ false
  has_new_old c f h = ap (among_features f) (features_new m n rm rn wm wn am an c)
      ∙ list_any-map (λ (g : FeatureNo). g.0 == f) (feature_on (begin_after m)) (features_of n c)
      ∙ list_any-none (λ (g : FeatureNo). (F + g.0) == f) (features_of n c) (all-every (λ (g : FeatureNo). ((F + g.0) == f) ≡ false) (features_of n c) (λ g. apart F f g.0 h))

  has : (c f : ℕ) → has_feature W c f ≡ true → Has c f
  has c f h = by c f (half B c) (half F f) h
    where
      by : (c f : ℕ) → Half B c → Half F f → has_feature W c f ≡ true → Has c f
      by _ f (old c l) any h = (let there : has_feature m c f ≡ true = sym (has_old c f l) ∙ h in olds c f l (wm.live_feature c f there) there)
      by _ _ (new c) (old f l) h = clash h (has_new_old c f l)
      by _ _ (new c) (new f) h = news c f (sym (has_new c f) ∙ h)

  -- opposites
  opposite_old : (p : ℕ) → p < F → opposite W p ≡ opposite m p
  opposite_old p h = ap (λ k. k.opposite) (feature_old m n rm rn wm wn am an p h)

  opposite_new : (p : ℕ) → opposite W (F + p) ≡ option_map (feature_on (begin_after m)) (opposite n p)
  unfolding feature_info_on
  opposite_new p = either_feature m n rm rn wm wn am an (λ x y. x.opposite ≡ option_map (feature_on (begin_after m)) y.opposite) p (λ k. refl) refl

  number-on : (o : Option FeatureNo) (q : ℕ) → is_feature_number (option_map (feature_on (begin_after m)) o) (F + q) ≡ is_feature_number o q
  number-on None q = refl
  number-on (Some g) q = eqb-add F g.0 q

  number-on_old : (o : Option FeatureNo) (q : ℕ) → q < F → is_feature_number (option_map (feature_on (begin_after m)) o) q ≡ false
  number-on_old None q h = refl
  number-on_old (Some g) q h = apart F q g.0 h

  is_opposite_old : (p q : ℕ) → p < F → is_opposite W p q ≡ is_opposite m p q
  is_opposite_old p q h = ap (λ o. is_feature_number o q) (opposite_old p h)

  is_opposite_new : (p q : ℕ) → is_opposite W (F + p) (F + q) ≡ is_opposite n p q
  is_opposite_new p q = ap (λ o. is_feature_number o (F + q)) (opposite_new p) ∙ number-on (opposite n p) q

  data Pair : ℕ → ℕ → Type 0 where
    pairs : (p q : ℕ) → p < F → q < F → is_opposite m p q ≡ true → Pair p q
    new_pairs : (p q : ℕ) → is_opposite n p q ≡ true → Pair (F + p) (F + q)

  pair : (p q : ℕ) → is_opposite W p q ≡ true → Pair p q
  pair p q h = by p q (half F p) (half F q) h
    where
      by : (p q : ℕ) → Half F p → Half F q → is_opposite W p q ≡ true → Pair p q
      by _ q (old p l) any h = (let there : is_opposite m p q ≡ true = sym (is_opposite_old p q l) ∙ h in pairs p q l (wm.live_opposite p q there) there)
      by _ _ (new p) (old q l) h = clash h (ap (λ o. is_feature_number o q) (opposite_new p) ∙ number-on_old (opposite n p) q l)
      by _ _ (new p) (new q) h = new_pairs p q (sym (is_opposite_new p q) ∙ h)

  shape_old : (f : ℕ) → f < F → shape_of W f ≡ shape_of m f
  shape_old f h = ap (λ k. k.shape) (feature_old m n rm rn wm wn am an f h)

  kind_new : (f : ℕ) → (shape_of W (F + f)).kind ≡ kind_on (begin_after m) (shape_of n f).kind
  unfolding feature_info_on
  kind_new f = either_feature m n rm rn wm wn am an (λ x y. x.shape.kind ≡ kind_on (begin_after m) y.shape.kind) f (λ k. refl) refl

  containment_new : (f : ℕ) → is_containment W (F + f) ≡ is_containment n f
  unfolding feature_info_on
  containment_new f = either_feature m n rm rn wm wn am an (λ x y. x.shape.containment ≡ y.shape.containment) f (λ k. refl) refl

  single_new : (f : ℕ) → is_single W (F + f) ≡ is_single n f
  unfolding feature_info_on
  single_new f = either_feature m n rm rn wm wn am an (λ x y. is_one x.shape.upper ≡ is_one y.shape.upper) f (λ k. refl) refl

  unique_new : (f : ℕ) → (shape_of W (F + f)).unique ≡ (shape_of n f).unique
  unfolding feature_info_on
  unique_new f = either_feature m n rm rn wm wn am an (λ x y. x.shape.unique ≡ y.shape.unique) f (λ k. refl) refl

  lower_new : (f : ℕ) → (shape_of W (F + f)).lower ≡ (shape_of n f).lower
  unfolding feature_info_on
  lower_new f = either_feature m n rm rn wm wn am an (λ x y. x.shape.lower ≡ y.shape.lower) f (λ k. refl) refl

  -- descent
  element_is : (d : ℕ) → is_element W d ≡ is_element m d
  element_is d = ap (λ e. is_class_number (first_some m.element (option_map (class_on (begin_after m)) e)) d) other ∙ ap (λ e. is_class_number e d) (first_none m.element)

  element_new : (d : ℕ) → is_element W (B + d) ≡ false
  element_new d = not_true (is_element W (B + d)) (λ h. (let far : B + d < B = old_regular.live_element (B + d) (sym (element_is (B + d)) ∙ h) in omega (arith, far)))

  element_none : (d : ℕ) → is_element n d ≡ false
  element_none d = ap (λ e. is_class_number e d) other

  descends_old : (c d : ℕ) → c < B → d < B → descends W c d ≡ descends m c d
  descends_old c d h l = λ i. ((c == d) || element_is d i) || reaches_old m n rm rn wm wn am an c d h i

  descends_new : (c d : ℕ) → descends W (B + c) (B + d) ≡ descends n c d
  descends_new c d = λ i. (eqb-add B c d i || (element_new d ∙ sym (element_none d)) i) || reaches_new m n rm rn wm wn am an c d i

  -- a class of the second descends from one of the first only where that is the class above all
  descends_new_old : (c d : ℕ) → d < B → descends W (B + c) d ≡ is_element m d
  descends_new_old c d h = (λ i. (apart B d c h i || element_is d i) || reaches_new_old m n rm rn wm wn am an c d h i) ∙ or-false (is_element m d)

  none_to_past : (c d : ℕ) → B ≤ d → reaches m c d ≡ false
  none_to_past c d h = not_true (reaches m c d) (λ up. (let low : d < B = ends m wm.live_superclass (path m c d up) in omega (arith, low, h)))

  descends_old_new : (c d : ℕ) → c < B → descends W c (B + d) ≡ false
  descends_old_new c d h =
      λ i. (not_true (eqb c (B + d)) (λ e. (let same : c ≡ B + d = eqb-true c (B + d) e in omega (arith, same, h))) i || element_new d i) || (reaches_old m n rm rn wm wn am an c (B + d) h ∙ none_to_past c (B + d) (omega arith)) i

  kind_old : (c : ℕ) (k : TypeKind) → c < B → IsLiveKind m k → is_class_kind W c k ≡ is_class_kind m c k
  kind_old c BoolKind h live = refl
  kind_old c Int h live = refl
  kind_old c Str h live = refl
  kind_old c (Enum x e) h live = refl
  kind_old c (Class d) h live = descends_old c d.0 h live

  kind_on_new : (c : ℕ) (k : TypeKind) → is_class_kind W (B + c) (kind_on (begin_after m) k) ≡ is_class_kind n c k
  kind_on_new c BoolKind = refl
  kind_on_new c Int = refl
  kind_on_new c Str = refl
  kind_on_new c (Enum x e) = refl
  kind_on_new c (Class d) = descends_new c d.0

  -- a class of the second conforms to a type of the first only where that is the class above all
  kind_new_old : (c : ℕ) (k : TypeKind) → IsLiveKind m k → is_class_kind W (B + c) k ≡ true → is_class_kind m B k ≡ true
  kind_new_old c BoolKind live is = is
  kind_new_old c Int live is = is
  kind_new_old c Str live is = is
  kind_new_old c (Enum x e) live is = is
  kind_new_old c (Class d) live is =
      or_left ((B == d.0) || is_element m d.0) (reaches m B d.0) (or_right (B == d.0) (is_element m d.0) (sym (descends_new_old c d.0 live) ∙ is))

  kind_old_new : (c : ℕ) (k : TypeKind) → c < B → is_class_kind W c (kind_on (begin_after m) k) ≡ false
  kind_old_new c BoolKind h = refl
  kind_old_new c Int h = refl
  kind_old_new c Str h = refl
  kind_old_new c (Enum x e) h = refl
  kind_old_new c (Class d) h = descends_old_new c d.0 h

  live_kind_old : (k : TypeKind) → IsLiveKind m k → IsLiveKind W k
  live_kind_old BoolKind live = tt
  live_kind_old Int live = tt
  live_kind_old Str live = tt
  live_kind_old (Enum x e) live = (
    omega (arith, live.0, metamodel_count m n rm rn wm wn am an),
    subst (λ (i : MetamodelInfo). e < length i.enums) (sym (old-at m.metamodels n.metamodels x nowhere_metamodel live.0)) live.1,
  )
  live_kind_old (Class d) live = omega (arith, live, class_count m n rm rn wm wn am an)

  live_kind_new : (k : TypeKind) → IsLiveKind n k → IsLiveKind W (kind_on (begin_after m) k)
  live_kind_new BoolKind live = tt
  live_kind_new Int live = tt
  live_kind_new Str live = tt
  live_kind_new (Enum x e) live = (
    omega (arith, live.0, metamodel_count m n rm rn wm wn am an),
    subst (λ (i : MetamodelInfo). e < length i.enums) (sym (new-at m.metamodels n.metamodels x nowhere_metamodel)) live.1,
  )
  live_kind_new (Class d) live = omega (arith, live, class_count m n rm rn wm wn am an)

  -- names and metamodels
  metamodel_old : (k : ℕ) → k < K → metamodel_at W k ≡ metamodel_at m k
  metamodel_old k h = old-at m.metamodels n.metamodels k nowhere_metamodel h

  metamodel_new : (k : ℕ) → metamodel_at W (K + k) ≡ metamodel_at n k
  metamodel_new k = new-at m.metamodels n.metamodels k nowhere_metamodel

  -- a fact of each metamodel of both
  each_metamodel : (P : ℕ → MetamodelInfo → Type 0) → ((k : ℕ) → k < K → P k (metamodel_at m k)) → ((k : ℕ) → P (K + k) (metamodel_at n k)) → (k : ℕ) → P k (metamodel_at W k)
  each_metamodel P f g k = by k (half K k)
    where
      by : (k : ℕ) → Half K k → P k (metamodel_at W k)
      by _ (old k h) = subst (P k) (sym (metamodel_old k h)) (f k h)
      by _ (new k) = subst (P (K + k)) (sym (metamodel_new k)) (g k)

  class_name_new : (c : ℕ) → (class_at W (B + c)).name ≡ (class_at n c).name
  unfolding class_info_on
  class_name_new c = either_class m n rm rn wm wn am an (λ x y. x.name ≡ y.name) c (λ k. refl) refl

  class_metamodel_new : (c : ℕ) → c < length n.classes → (class_at W (B + c)).metamodel ≡ K + (class_at n c).metamodel
  unfolding class_info_on
  class_metamodel_new c h = ap (λ k. k.metamodel) (class_new m n rm rn wm wn am an c h)

  feature_name_new : (f : ℕ) → (feature_at W (F + f)).name ≡ (feature_at n f).name
  unfolding feature_info_on
  feature_name_new f = either_feature m n rm rn wm wn am an (λ x y. x.name ≡ y.name) f (λ k. refl) refl

  feature_name_old : (f : ℕ) → f < F → (feature_at W f).name ≡ (feature_at m f).name
  feature_name_old f h = ap (λ k. k.name) (feature_old m n rm rn wm wn am an f h)

  -- the fields
  live_metamodel : (c : ℕ) → c < length W.classes → (class_at W c).metamodel < length W.metamodels
  live_metamodel c h = by c (half B c) h
    where
      by : (c : ℕ) → Half B c → c < length W.classes → (class_at W c).metamodel < length W.metamodels
      by _ (old c l) h = omega (arith, wm.live_metamodel c l, ap (λ k. k.metamodel) (class_old m n rm rn wm wn am an c l), metamodel_count m n rm rn wm wn am an)
      by _ (new c) h =
          let l : c < length n.classes = omega (arith, h, class_count m n rm rn wm wn am an) in
          omega (arith, wn.live_metamodel c l, class_metamodel_new c l, metamodel_count m n rm rn wm wn am an)

  superclass_new : (c d : ℕ) → is_superclass W (B + c) (B + d) ≡ is_superclass n c d
  unfolding class_info_on
  superclass_new c d = either_class m n rm rn wm wn am an (λ x y. list_any (λ s. s.0 == (B + d)) x.supers ≡ list_any (λ s. s.0 == d) y.supers) c
      (λ k. list_any-map (λ (s : ClassNo). s.0 == (B + d)) (class_on (begin_after m)) k.supers ∙ list_any-cong _ _ k.supers (all-every (λ (s : ClassNo). ((B + s.0) == (B + d)) ≡ (s.0 == d)) k.supers (λ s. eqb-add B s.0 d))) refl

  live_superclass : (c d : ℕ) → is_superclass W c d ≡ true → d < length W.classes
  live_superclass c d h = by c d (half B c) (half B d) h
    where
      by : (c d : ℕ) → Half B c → Half B d → is_superclass W c d ≡ true → d < length W.classes
      by _ d (old c l) any h = omega (arith, wm.live_superclass c d (sym (ap (λ k. list_any (λ s. s.0 == d) k.supers) (class_old m n rm rn wm wn am an c l)) ∙ h), class_count m n rm rn wm wn am an)
      by _ _ (new c) (old d l) h = omega (arith, l, class_count m n rm rn wm wn am an)
      by _ _ (new c) (new d) h = omega (arith, wn.live_superclass c d (sym (superclass_new c d) ∙ h), class_count m n rm rn wm wn am an)

  live_owner : (f : ℕ) → f < length W.features → (feature_at W f).owner.0 < length W.classes
  unfolding feature_info_on
  live_owner f h = by f (half F f) h
    where
      by : (f : ℕ) → Half F f → f < length W.features → (feature_at W f).owner.0 < length W.classes
      by _ (old f l) h = omega (arith, wm.live_owner f l, ap (λ k. k.owner.0) (feature_old m n rm rn wm wn am an f l), class_count m n rm rn wm wn am an)
      by _ (new f) h =
          let l : f < length n.features = omega (arith, h, feature_count m n rm rn wm wn am an) in
          let is : (feature_at W (F + f)).owner.0 ≡ B + (feature_at n f).owner.0 = ap (λ k. k.owner.0) (feature_new m n rm rn wm wn am an f l) in
          omega (arith, wn.live_owner f l, is, class_count m n rm rn wm wn am an)

  live_feature : (c f : ℕ) → has_feature W c f ≡ true → f < length W.features
  live_feature c f h = by c f (has c f h)
    where
      by : (c f : ℕ) → Has c f → f < length W.features
      by _ _ (olds c f l k t) = omega (arith, k, feature_count m n rm rn wm wn am an)
      by _ _ (news c f t) = omega (arith, wn.live_feature c f t, feature_count m n rm rn wm wn am an)

  live_class : (c f : ℕ) → has_feature W c f ≡ true → c < length W.classes
  live_class c f h = by c f (has c f h)
    where
      by : (c f : ℕ) → Has c f → c < length W.classes
      by _ _ (olds c f l k t) = omega (arith, l, class_count m n rm rn wm wn am an)
      by _ _ (news c f t) = omega (arith, wn.live_class c f t, class_count m n rm rn wm wn am an)

  live_opposite : (p q : ℕ) → is_opposite W p q ≡ true → q < length W.features
  live_opposite p q h = by p q (pair p q h)
    where
      by : (p q : ℕ) → Pair p q → q < length W.features
      by _ _ (pairs p q l k t) = omega (arith, k, feature_count m n rm rn wm wn am an)
      by _ _ (new_pairs p q t) = omega (arith, wn.live_opposite p q t, feature_count m n rm rn wm wn am an)

  live_type : (f : ℕ) → f < length W.features → IsLiveKind W (shape_of W f).kind
  live_type f h = by f (half F f) h
    where
      by : (f : ℕ) → Half F f → f < length W.features → IsLiveKind W (shape_of W f).kind
      by _ (old f l) h = subst (IsLiveKind W) (ap (λ s. s.kind) (sym (shape_old f l))) (live_kind_old (shape_of m f).kind (wm.live_type f l))
      by _ (new f) h = subst (IsLiveKind W) (sym (kind_new f)) (live_kind_new (shape_of n f).kind (wn.live_type f (omega (arith, h, feature_count m n rm rn wm wn am an))))

  mutual_opposites : (p q : ℕ) → is_opposite W p q ≡ true → is_opposite W q p ≡ true
  mutual_opposites p q h = by p q (pair p q h)
    where
      by : (p q : ℕ) → Pair p q → is_opposite W q p ≡ true
      by _ _ (pairs p q l k t) = is_opposite_old q p k ∙ wm.mutual_opposites p q t
      by _ _ (new_pairs p q t) = is_opposite_new q p ∙ wn.mutual_opposites p q t

  other_feature : (p : ℕ) → is_opposite W p p ≡ false
  other_feature p = by p (half F p)
    where
      by : (p : ℕ) → Half F p → is_opposite W p p ≡ false
      by _ (old p l) = is_opposite_old p p l ∙ wm.other_feature p
      by _ (new p) = is_opposite_new p p ∙ wn.other_feature p

  one_containment : (p q : ℕ) → is_opposite W p q ≡ true → is_containment W p ≡ true → is_containment W q ≡ false
  one_containment p q h = by p q (pair p q h)
    where
      by : (p q : ℕ) → Pair p q → is_containment W p ≡ true → is_containment W q ≡ false
      by _ _ (pairs p q l k t) c = ap (λ s. s.containment) (shape_old q k) ∙ wm.one_containment p q t (ap (λ s. s.containment) (sym (shape_old p l)) ∙ c)
      by _ _ (new_pairs p q t) c = containment_new q ∙ wn.one_containment p q t (sym (containment_new p) ∙ c)

  one_container : (p q : ℕ) → is_opposite W p q ≡ true → is_containment W p ≡ true → is_single W q ≡ true
  one_container p q h = by p q (pair p q h)
    where
      by : (p q : ℕ) → Pair p q → is_containment W p ≡ true → is_single W q ≡ true
      by _ _ (pairs p q l k t) c = ap (λ s. is_one s.upper) (shape_old q k) ∙ wm.one_container p q t (ap (λ s. s.containment) (sym (shape_old p l)) ∙ c)
      by _ _ (new_pairs p q t) c = single_new q ∙ wn.one_container p q t (sym (containment_new p) ∙ c)

  unique_opposites : (p q : ℕ) → is_opposite W p q ≡ true → (shape_of W p).unique ≡ true
  unique_opposites p q h = by p q (pair p q h)
    where
      by : (p q : ℕ) → Pair p q → (shape_of W p).unique ≡ true
      by _ _ (pairs p q l k t) = ap (λ s. s.unique) (shape_old p l) ∙ wm.unique_opposites p q t
      by _ _ (new_pairs p q t) = unique_new p ∙ wn.unique_opposites p q t

  opposite_has_type : (p q c : ℕ) → is_opposite W p q ≡ true → has_feature W c p ≡ true → is_class_kind W c (shape_of W q).kind ≡ true
  opposite_has_type p q c h there = by p q c (pair p q h) (half B c) there
    where
      by : (p q c : ℕ) → Pair p q → Half B c → has_feature W c p ≡ true → is_class_kind W c (shape_of W q).kind ≡ true
      by _ _ _ (pairs p q l k t) (old c o) there =
          ap (λ s. is_class_kind W c s.kind) (shape_old q k) ∙ kind_old c (shape_of m q).kind o (wm.live_type q k) ∙ wm.opposite_has_type p q c t (sym (has_old c p o) ∙ there)
      by _ _ _ (pairs p q l k t) (new c) there = clash there (has_new_old c p l)
      by _ _ _ (new_pairs p q t) (old c o) there = absurd (let far : F + p < F = wm.live_feature c (F + p) (sym (has_old c (F + p) o) ∙ there) in omega (arith, far))
      by _ _ _ (new_pairs p q t) (new c) there =
          ap (is_class_kind W (B + c)) (kind_new q) ∙ kind_on_new c (shape_of n q).kind ∙ wn.opposite_has_type p q c t (sym (has_new c p) ∙ there)

  type_has_opposite : (p q c : ℕ) → is_opposite W p q ≡ true → is_class_kind W c (shape_of W p).kind ≡ true → has_feature W c q ≡ true
  type_has_opposite p q c h is = by p q c (pair p q h) (half B c) is
    where
      by : (p q c : ℕ) → Pair p q → Half B c → is_class_kind W c (shape_of W p).kind ≡ true → has_feature W c q ≡ true
      by _ _ _ (pairs p q l k t) (old c o) is =
          has_old c q o ∙ wm.type_has_opposite p q c t (sym (kind_old c (shape_of m p).kind o (wm.live_type p l)) ∙ ap (λ s. is_class_kind W c s.kind) (sym (shape_old p l)) ∙ is)
      by _ _ _ (pairs p q l k t) (new c) is =
          absurd (let far : B < B = wm.live_class B q (wm.type_has_opposite p q B t
          (kind_new_old c (shape_of m p).kind (wm.live_type p l) (ap (λ s. is_class_kind W (B + c) s.kind) (sym (shape_old p l)) ∙ is))) in omega (arith, far))
      by _ _ _ (new_pairs p q t) (old c o) is = clash is (ap (is_class_kind W c) (kind_new p) ∙ kind_old_new c (shape_of n p).kind o)
      by _ _ _ (new_pairs p q t) (new c) is =
          has_new c q ∙ wn.type_has_opposite p q c t (sym (kind_on_new c (shape_of n p).kind) ∙ ap (is_class_kind W (B + c)) (sym (kind_new p)) ∙ is)

  -- the metamodel of a class with a feature
  metamodel_of_old : (c : ℕ) → c < B → metamodel_at W (class_at W c).metamodel ≡ metamodel_at m (class_at m c).metamodel
  metamodel_of_old c l = ap (λ k. metamodel_at W k.metamodel) (class_old m n rm rn wm wn am an c l) ∙ metamodel_old (class_at m c).metamodel (wm.live_metamodel c l)

  metamodel_of_new : (c : ℕ) → c < length n.classes → metamodel_at W (class_at W (B + c)).metamodel ≡ metamodel_at n (class_at n c).metamodel
  metamodel_of_new c l = ap (metamodel_at W) (class_metamodel_new c l) ∙ metamodel_new (class_at n c).metamodel

  unnamed_alone : (p q c : ℕ) → has_feature W c p ≡ true → (metamodel_at W (class_at W c).metamodel).name ≡ [] → is_opposite W p q ≡ false
  unnamed_alone p q c there unnamed = not_true (is_opposite W p q) (λ h. by p q c (pair p q h) (has c p there) unnamed h)
    where
      by : (p q c : ℕ) → Pair p q → Has c p → (metamodel_at W (class_at W c).metamodel).name ≡ [] → is_opposite W p q ≡ true → ⊥
      by p q _ any (olds c _ l k t) unnamed h =
          let at : metamodel_at W (class_at W c).metamodel ≡ metamodel_at m (class_at m c).metamodel = metamodel_of_old c l in
          clash (sym (is_opposite_old p q k) ∙ h) (wm.unnamed_alone p q c t (ap (λ i. i.name) (sym at) ∙ unnamed))
      by _ q _ any (news c f t) unnamed h =
          let l : c < length n.classes = wn.live_class c f t in
          let at : metamodel_at W (class_at W (B + c)).metamodel ≡ metamodel_at n (class_at n c).metamodel = metamodel_of_new c l in
          of_new f q c t at unnamed h (half F q)
        where
          of_new : (f q c : ℕ) → has_feature n c f ≡ true → metamodel_at W (class_at W (B + c)).metamodel ≡ metamodel_at n (class_at n c).metamodel
              → (metamodel_at W (class_at W (B + c)).metamodel).name ≡ [] → is_opposite W (F + f) q ≡ true → Half F q → ⊥
          of_new f _ c t at unnamed h (old q l) = clash h (ap (λ o. is_feature_number o q) (opposite_new f) ∙ number-on_old (opposite n f) q l)
          of_new f _ c t at unnamed h (new q) = clash (sym (is_opposite_new f q) ∙ h) (wn.unnamed_alone f q c t (ap (λ i. i.name) (sym at) ∙ unnamed))

  unnamed_empty : (c f : ℕ) → has_feature W c f ≡ true → (metamodel_at W (class_at W c).metamodel).name ≡ [] → is_containment W f ≡ false
  unnamed_empty c f there none = by c f (has c f there) none
    where
      by : (c f : ℕ) → Has c f → (metamodel_at W (class_at W c).metamodel).name ≡ [] → is_containment W f ≡ false
      by _ _ (olds c f l k t) none = ap (λ s. s.containment) (shape_old f k) ∙ old_regular.unnamed_empty c f t (ap (λ i. i.name) (sym (metamodel_of_old c l)) ∙ none)
      by _ _ (news c f t) none = containment_new f ∙ new_regular.unnamed_empty c f t (ap (λ i. i.name) (sym (metamodel_of_new c (wn.live_class c f t))) ∙ none)

  unnamed_optional : (c f : ℕ) → has_feature W c f ≡ true → (metamodel_at W (class_at W c).metamodel).name ≡ [] → (shape_of W f).lower ≡ 0
  unnamed_optional c f there none = by c f (has c f there) none
    where
      by : (c f : ℕ) → Has c f → (metamodel_at W (class_at W c).metamodel).name ≡ [] → (shape_of W f).lower ≡ 0
      by _ _ (olds c f l k t) none = ap (λ s. s.lower) (shape_old f k) ∙ old_regular.unnamed_optional c f t (ap (λ i. i.name) (sym (metamodel_of_old c l)) ∙ none)
      by _ _ (news c f t) none = lower_new f ∙ new_regular.unnamed_optional c f t (ap (λ i. i.name) (sym (metamodel_of_new c (wn.live_class c f t))) ∙ none)

  -- containments
  class_type_on : (k : TypeKind) → is_class_type (kind_on (begin_after m) k) ≡ is_class_type k
  class_type_on BoolKind = refl
  class_type_on Int = refl
  class_type_on Str = refl
  class_type_on (Enum x e) = refl
  class_type_on (Class d) = refl

  object_containments : (f : ℕ) → is_containment W f ≡ true → is_class_type (shape_of W f).kind ≡ true
  object_containments f h = by f (half F f) h
    where
      by : (f : ℕ) → Half F f → is_containment W f ≡ true → is_class_type (shape_of W f).kind ≡ true
      by _ (old f l) h = ap (λ s. is_class_type s.kind) (shape_old f l) ∙ old_regular.object_containments f (ap (λ s. s.containment) (sym (shape_old f l)) ∙ h)
      by _ (new f) h = ap is_class_type (kind_new f) ∙ class_type_on (shape_of n f).kind ∙ new_regular.object_containments f (sym (containment_new f) ∙ h)

  unique_containments : (f : ℕ) → is_containment W f ≡ true → (shape_of W f).unique ≡ true
  unique_containments f h = by f (half F f) h
    where
      by : (f : ℕ) → Half F f → is_containment W f ≡ true → (shape_of W f).unique ≡ true
      by _ (old f l) h = ap (λ s. s.unique) (shape_old f l) ∙ old_regular.unique_containments f (ap (λ s. s.containment) (sym (shape_old f l)) ∙ h)
      by _ (new f) h = unique_new f ∙ new_regular.unique_containments f (sym (containment_new f) ∙ h)

  -- the class above all
  live_element : (c : ℕ) → is_element W c ≡ true → c < B
  live_element c h = old_regular.live_element c (sym (element_is c) ∙ h)

  abstract_element : (c : ℕ) → is_element W c ≡ true → (class_at W c).is_abstract ≡ true
  abstract_element c h = ap (λ k. k.is_abstract) (class_old m n rm rn wm wn am an c (live_element c h)) ∙ old_regular.abstract_element c (sym (element_is c) ∙ h)

  featureless_element : (c f : ℕ) → is_element W c ≡ true → has_feature W c f ≡ false
  featureless_element c f h = has_old c f (live_element c h) ∙ old_regular.featureless_element c f (sym (element_is c) ∙ h)

  topmost_element : (c d : ℕ) → is_element W c ≡ true → is_superclass W c d ≡ false
  topmost_element c d h = ap (λ k. list_any (λ s. s.0 == d) k.supers) (class_old m n rm rn wm wn am an c (live_element c h)) ∙ old_regular.topmost_element c d (sym (element_is c) ∙ h)

  element_within : (c : ℕ) → is_element W c ≡ true → c < length W.classes
  element_within c h = omega (arith, live_element c h, class_count m n rm rn wm wn am an)

  distinct_features : (c i j : ℕ) → i < j → j < length (features_of W c) → (get_or (features_of W c) i (record { 0 = 0 })).0 ≢ (get_or (features_of W c) j (record { 0 = 0 })).0
  distinct_features c i j before = by c (half B c)
    where
      on-at : (gs : List FeatureNo) (x : ℕ) → x < length gs → (get_or (map (feature_on (begin_after m)) gs) x (record { 0 = 0 })).0 ≡ F + (get_or gs x (record { 0 = 0 })).0
      on-at gs x h = ap (λ (g : FeatureNo). g.0) (map-at (feature_on (begin_after m)) gs x (record { 0 = 0 }) (record { 0 = 0 }) h)

      by : (c : ℕ) → Half B c → j < length (features_of W c) → (get_or (features_of W c) i (record { 0 = 0 })).0 ≢ (get_or (features_of W c) j (record { 0 = 0 })).0
      by _ (old c l) = subst (λ (gs : List FeatureNo). j < length gs → (get_or gs i (record { 0 = 0 })).0 ≢ (get_or gs j (record { 0 = 0 })).0)
          (sym (features_old m n rm rn wm wn am an c l)) (wm.distinct_features c i j before)
      by _ (new c) = subst (λ (gs : List FeatureNo). j < length gs → (get_or gs i (record { 0 = 0 })).0 ≢ (get_or gs j (record { 0 = 0 })).0)
          (sym (features_new m n rm rn wm wn am an c))
          (λ within e. (let w : j < length (features_of n c) = omega (arith, within, length-map (features_of n c) (feature_on (begin_after m))) in
          wn.distinct_features c i j before w (let same : F + (get_or (features_of n c) i (record { 0 = 0 })).0 ≡ F + (get_or (features_of n c) j (record { 0 = 0 })).0 =
          sym (on-at (features_of n c) i (omega (arith, before, w))) ∙ e ∙ on-at (features_of n c) j w in omega (arith, same))))

  text_metamodel : (k : ℕ) → is_utf8 (metamodel_at W k).name ≡ true
  text_metamodel = each_metamodel (λ k i. is_utf8 i.name ≡ true) (λ k h. wm.text_metamodel k) wn.text_metamodel

  text_enumeration : (k e : ℕ) → is_utf8 (enumeration_at W k e).name ≡ true
  text_enumeration k e = each_metamodel (λ k i. is_utf8 (slice_index_or i.enums e nowhere_enumeration).name ≡ true) (λ k h. wm.text_enumeration k e) (λ k. wn.text_enumeration k e) k

  text_literal : (k e l : ℕ) → is_utf8 (literal_at W k e l) ≡ true
  text_literal k e l = each_metamodel (λ k i. is_utf8 (slice_index_or (slice_index_or i.enums e nowhere_enumeration).literals l []) ≡ true) (λ k h. wm.text_literal k e l) (λ k. wn.text_literal k e l) k

  enumeration_found : (k e : ℕ) → e < length (metamodel_at W k).enums → enumeration_named W k (enumeration_at W k e).name ≡ Some e
  enumeration_found k e = each_metamodel (λ k i. e < length i.enums → position (λ x. bytes_eq (slice_index_or i.enums e nowhere_enumeration).name x.name) i.enums ≡ Some e)
      (λ k h. wm.enumeration_found k e) (λ k. wn.enumeration_found k e) k

  literal_found : (k e l : ℕ) → l < length (enumeration_at W k e).literals → literal_named W k e (literal_at W k e l) ≡ Some l
  literal_found k e l = each_metamodel (λ k i. l < length (slice_index_or i.enums e nowhere_enumeration).literals
      → position (bytes_eq (slice_index_or (slice_index_or i.enums e nowhere_enumeration).literals l [])) (slice_index_or i.enums e nowhere_enumeration).literals ≡ Some l)
      (λ k h. wm.literal_found k e l) (λ k. wn.literal_found k e l) k

  text_class : (c : ℕ) → is_utf8 (class_at W c).name ≡ true
  text_class c = by c (half B c)
    where
      by : (c : ℕ) → Half B c → is_utf8 (class_at W c).name ≡ true
      by _ (old c l) = ap (λ k. is_utf8 k.name) (class_old m n rm rn wm wn am an c l) ∙ wm.text_class c
      by _ (new c) = ap is_utf8 (class_name_new c) ∙ wn.text_class c

  text_feature : (f : ℕ) → is_utf8 (feature_at W f).name ≡ true
  text_feature f = by f (half F f)
    where
      by : (f : ℕ) → Half F f → is_utf8 (feature_at W f).name ≡ true
      by _ (old f l) = ap is_utf8 (feature_name_old f l) ∙ wm.text_feature f
      by _ (new f) = ap is_utf8 (feature_name_new f) ∙ wn.text_feature f

  class_found : (c : ℕ) → c < length W.classes → (metamodel_at W (class_at W c).metamodel).name ≢ [] → class_named W (class_at W c).metamodel (class_at W c).name ≡ Some c
  unfolding class_info_on
  class_found c h named = by c (half B c) h named
    where
      by : (c : ℕ) → Half B c → c < length W.classes → (metamodel_at W (class_at W c).metamodel).name ≢ [] → class_named W (class_at W c).metamodel (class_at W c).name ≡ Some c
      by _ (old c l) h named =
          ap (λ (k : ClassInfo). position (λ x. (x.metamodel == k.metamodel) && bytes_eq k.name x.name) W.classes) (class_old m n rm rn wm wn am an c l)
          ∙ position-left (λ (x : ClassInfo). (x.metamodel == (class_at m c).metamodel) && bytes_eq (class_at m c).name x.name) m.classes (map (class_info_on (begin_after m)) n.classes) c (wm.class_found c l
          (λ e. named (ap (λ i. i.name) (ap (λ (k : ClassInfo). metamodel_at W k.metamodel) (class_old m n rm rn wm wn am an c l) ∙ metamodel_old (class_at m c).metamodel (wm.live_metamodel c l)) ∙ e)))
      by _ (new c) h named =
          let l : c < length n.classes = omega (arith, h, class_count m n rm rn wm wn am an) in
          ap2 (λ (k : ℕ) (name : List ℕ). position (λ (x : ClassInfo). (x.metamodel == k) && bytes_eq name x.name) W.classes) (class_metamodel_new c l) (class_name_new c)
          ∙ position-right (λ (x : ClassInfo). (x.metamodel == (K + (class_at n c).metamodel)) && bytes_eq (class_at n c).name x.name) m.classes (map (class_info_on (begin_after m)) n.classes) c
          (all-at_index (λ (x : ClassInfo). ((x.metamodel == (K + (class_at n c).metamodel)) && bytes_eq (class_at n c).name x.name) ≡ false) m.classes nowhere_class
          (λ i live. no-and (eqb (class_at m i).metamodel (K + (class_at n c).metamodel)) (bytes_eq (class_at n c).name (class_at m i).name)
          (not_true (eqb (class_at m i).metamodel (K + (class_at n c).metamodel)) (λ e. (let same : (class_at m i).metamodel ≡ K + (class_at n c).metamodel = eqb-true (class_at m i).metamodel (K + (class_at n c).metamodel) e in
          omega (arith, same, wm.live_metamodel i live))))))
          (sym (position-map (λ (x : ClassInfo). (x.metamodel == (K + (class_at n c).metamodel)) && bytes_eq (class_at n c).name x.name) (class_info_on (begin_after m)) n.classes)
          ∙ position-cong _ (λ (x : ClassInfo). (x.metamodel == (class_at n c).metamodel) && bytes_eq (class_at n c).name x.name) n.classes
          (λ x. ap (λ t. t && bytes_eq (class_at n c).name x.name) (eqb-add K x.metamodel (class_at n c).metamodel))
          ∙ wn.class_found c l (λ e. named (ap (λ i. i.name) (ap (metamodel_at W) (class_metamodel_new c l) ∙ metamodel_new (class_at n c).metamodel) ∙ e)))

  feature_found : (c f : ℕ) → has_feature W c f ≡ true → feature_named W c (feature_at W f).name ≡ Some (record { 0 = f })
  feature_found c f there = by c f (has c f there)
    where
      by : (c f : ℕ) → Has c f → feature_named W c (feature_at W f).name ≡ Some (record { 0 = f })
      by _ _ (olds c f l k t) =
          ap2 (λ (name : List ℕ) (gs : List FeatureNo). find (λ (g : FeatureNo). bytes_eq name (feature_at W g.0).name) gs) (feature_name_old f k) (features_old m n rm rn wm wn am an c l)
          ∙ find-cong _ (λ (g : FeatureNo). bytes_eq (feature_at m f).name (feature_at m g.0).name) (features_of m c)
          (all-imply (λ (g : FeatureNo). g.0 < F) (λ (g : FeatureNo). bytes_eq (feature_at m f).name (feature_at W g.0).name ≡ bytes_eq (feature_at m f).name (feature_at m g.0).name) (features_of m c)
          (λ g live. ap (bytes_eq (feature_at m f).name) (feature_name_old g.0 live)) (all-among (λ x. x < F) (features_of m c) (wm.live_feature c)))
          ∙ wm.feature_found c f t
      by _ _ (news c f t) =
          ap2 (λ (name : List ℕ) (gs : List FeatureNo). find (λ (g : FeatureNo). bytes_eq name (feature_at W g.0).name) gs) (feature_name_new f) (features_new m n rm rn wm wn am an c)
          ∙ find-map (λ (g : FeatureNo). bytes_eq (feature_at n f).name (feature_at W g.0).name) (feature_on (begin_after m)) (features_of n c)
          ∙ ap (option_map (feature_on (begin_after m)))
          (find-cong _ (λ (g : FeatureNo). bytes_eq (feature_at n f).name (feature_at n g.0).name) (features_of n c)
          (all-every (λ (g : FeatureNo). bytes_eq (feature_at n f).name (feature_at W (F + g.0)).name ≡ bytes_eq (feature_at n f).name (feature_at n g.0).name) (features_of n c)
          (λ g. ap (bytes_eq (feature_at n f).name) (feature_name_new g.0)))
          ∙ wn.feature_found c f t)

  all_regular : (ranks : List ℕ) → AreRanks W ranks → IsRegular W
  all_regular ranks ranked = record {
    acyclic = acyclic W ranks ranked;
    antisymmetric = antisymmetric W ranks ranked topmost_element;
    transitive = transitive W ranks ranked topmost_element;
    inherited = inherited W ranks ranked topmost_element element_within featureless_element;
    live_element = element_within;
    abstract_element = abstract_element;
    featureless_element = featureless_element;
    topmost_element = topmost_element;
    object_containments = object_containments;
    unique_containments = unique_containments;
    unnamed_empty = unnamed_empty;
    unnamed_optional = unnamed_optional;
  }

  pub well_formed : K + length n.metamodels < 2 ^ 32 → B + length n.classes < 2 ^ 32 → F + length n.features < 2 ^ 32 → (ranks : List ℕ) → AreRanks W ranks → IsWellFormed W
  well_formed few_ms few_cs few_fs ranks ranked = record {
    few_metamodels = omega (arith, few_ms, metamodel_count m n rm rn wm wn am an);
    few_classes = omega (arith, few_cs, class_count m n rm rn wm wn am an);
    few_features = omega (arith, few_fs, feature_count m n rm rn wm wn am an);
    few_enumerations = each_metamodel (λ k i. length i.enums < 2 ^ 32) (λ k h. wm.few_enumerations k) wn.few_enumerations;
    few_literals = λ k e. each_metamodel (λ k i. length (slice_index_or i.enums e nowhere_enumeration).literals < 2 ^ 32) (λ k h. wm.few_literals k e) (λ k. wn.few_literals k e) k;
    live_metamodel = live_metamodel;
    live_superclass = live_superclass;
    live_owner = live_owner;
    live_feature = live_feature;
    live_class = live_class;
    live_opposite = live_opposite;
    live_type = live_type;
    regular = regular W (all_regular ranks ranked);
    mutual_opposites = mutual_opposites;
    other_feature = other_feature;
    one_containment = one_containment;
    one_container = one_container;
    unique_opposites = unique_opposites;
    opposite_has_type = opposite_has_type;
    type_has_opposite = type_has_opposite;
    unnamed_alone = unnamed_alone;
    distinct_features = distinct_features;
    text_metamodel = text_metamodel;
    text_class = text_class;
    text_feature = text_feature;
    text_enumeration = text_enumeration;
    text_literal = text_literal;
    class_found = class_found;
    feature_found = feature_found;
    enumeration_found = enumeration_found;
    literal_found = literal_found;
  }
