-- Metamodels that are well formed are so with the class Element and the given classes after them.
use Rattle.std.proofs.Common.{◌≡◌, ◌≢◌, ◌∙◌, ℕ, zero, suc, ◌+◌, ◌<◌, ◌≤◌, ◌^◌, List, [], ◌∷◌, ◌++◌, length, map, get_or, true, false, Some, None, refl, ap, sym, subst, arith, ◌==◌, ◌||◌, inl, inr, eqb, position, codes, lit<}
use Rattle.std.specs.Prelude.{slice_index_or, nat_lt}
use Rattle.std.specs.List.{list_any, list_all, flat_map, AllByRecursion}
use Rattle.std.specs.Str.{is_utf8, bytes_eq}
use Rattle.std.proofs.lemmas.List.{length-append, length-map, get_or_past}
use Rattle.std.proofs.lemmas.Bool.{eqb-true, ltb-true}
use Rattle.qvt_base.specs.declared.numbers.ClassNo.{ClassNo}
use Rattle.qvt_base.specs.declared.numbers.FeatureNo.{FeatureNo}
use Rattle.qvt_metamodel.specs.Repeated.{repeated}
use Rattle.qvt_relation.specs.Closure.{directly, through}
use Rattle.qvt_metamodel.specs.declared.given.ClassData.{ClassData}
use Rattle.qvt_metamodel.specs.declared.given.FeatureData.{FeatureData}
use Rattle.qvt_metamodel.specs.declared.info.TypeKind.{TypeKind}
use Rattle.qvt_metamodel.specs.declared.info.TypeKind.TheVariants.{Bool as BoolKind, Int, Str, Enum, Class}
use Rattle.qvt_metamodel.specs.declared.info.MetamodelInfo.{MetamodelInfo}
use Rattle.qvt_metamodel.specs.declared.info.ClassInfo.{ClassInfo}
use Rattle.qvt_metamodel.specs.declared.info.FeatureInfo.{FeatureInfo}
use Rattle.qvt_metamodel.specs.Metamodels.{Metamodels, class_at, feature_at, shape_of, is_opposite, is_feature_number, is_class_number, features_of, features_in, has_feature, among_features, each_once, nowhere_class, nowhere_feature, is_single, is_containment, is_one, is_element}
use Rattle.qvt_metamodel.specs.Descends.{is_superclass, Inherits, reaches, is_class_kind, is_class_type}
use Rattle.qvt_metamodel.specs.Named.{metamodel_at, nowhere_metamodel, nowhere_enumeration, class_named, feature_named}
use Rattle.qvt_metamodel.specs.WellFormed.{IsWellFormed, IsRegular, IsLiveKind}
use Rattle.qvt_metamodel.specs.Kept.{AreRanks, IsKept}
use Rattle.qvt_metamodel.specs.declared.row.Row.{Row}
use Rattle.qvt_meta_tables.specs.Tables.{of_classes, AreTables}
use Rattle.qvt_meta_tables.proofs.Same.{tables_same}
use Rattle.qvt_metamodel.specs.Extended.{unnamed, element_class, given_class, given_classes, given_feature, given_features, given_count, extended, IsGivenNumber, IsLoose, AreGiven, HasRoomFor, has_text, has_texts}
use Rattle.std.proofs.lemmas.Str.{is_utf8-from_IsUtf8, IsUtf8-nil, IsUtf8-from_ascii}
use Rattle.qvt_metamodel.proofs.Bools.{ap2, clash, not_true, or_cases, and_left, and_right}
use Rattle.qvt_metamodel.proofs.Halves.{Half, old, new, half, new-at}
use Rattle.qvt_metamodel.proofs.Ancestors.{path}
use Rattle.qvt_metamodel.proofs.Infos.{among_numbers}
use Rattle.qvt_metamodel.proofs.Owners.{Declared, declared}
use Rattle.qvt_metamodel.proofs.Order.{acyclic, antisymmetric, transitive, inherited}
use Rattle.qvt_metamodel.proofs.Regular.{regular, regular_of}
use Rattle.qvt_metamodel.proofs.Stable.{no-features-past}
use Rattle.qvt_metamodel.proofs.FeatureNames.{distinct, found_feature}
use Rattle.qvt_metamodel.specs.Stay.{NumbersStay}
use Rattle.qvt_metas.proofs.GoesOn.{stays_in, GoesOn, metamodel_old, class_old, feature_old, features_old, reaches_old, class_named_old, feature_named_old}

no_text : is_utf8 [] ≡ true
no_text = is_utf8-from_IsUtf8 [] IsUtf8-nil

ascii : (bs : List ℕ) → list_all (λ b. nat_lt b 128) bs ≡ true → (i : ℕ) → get_or bs i 0 < 128
ascii [] h i = lit< tt
ascii (b ∷ bs) h zero = ltb-true b 128 (and_left (nat_lt b 128) (list_all (λ b. nat_lt b 128) bs) h)
ascii (b ∷ bs) h (suc i) = ascii bs (and_right (nat_lt b 128) (list_all (λ b. nat_lt b 128) bs) h) i

element_text : is_utf8 (codes "Element") ≡ true
element_text = is_utf8-from_IsUtf8 (codes "Element") (IsUtf8-from_ascii (codes "Element") (ascii (codes "Element") refl))

-- the classes and features that are given
given_total : (k f : ℕ) (cs : List ClassData) → length (given_classes k f cs) ≡ length cs
given_total k f [] = refl
given_total k f (c ∷ cs) = ap suc (given_total k (f + length c.features) cs)

features_total : (o : ℕ) (cs : List ClassData) → length (given_features o cs) ≡ given_count cs
features_total o [] = refl
features_total o (c ∷ cs) =
    length-append (map (given_feature o) c.features) (given_features (o + 1) cs)
    ∙ ap2 (λ a b. a + b) (length-map c.features (given_feature o)) (features_total (o + 1) cs)

-- what holds of each given class
each_given : (P : ClassInfo → Type 0) (k f : ℕ) (cs : List ClassData) → ((f : ℕ) (c : ClassData) → P (given_class k f c)) → (i : ℕ) → i < length cs → P (get_or (given_classes k f cs) i nowhere_class)
each_given P k f [] all i l = absurd (omega arith)
each_given P k f (c ∷ cs) all zero l = all f c
each_given P k f (c ∷ cs) all (suc i) l = each_given P k (f + length c.features) cs all i (omega (arith, l))

pub given_supers : (P : ClassNo → Type 0) (k f : ℕ) (cs : List ClassData) → AllByRecursion (λ c. AllByRecursion P c.supers) cs → (i : ℕ) → AllByRecursion P (get_or (given_classes k f cs) i nowhere_class).supers
given_supers P k f [] all i = tt
given_supers P k f (c ∷ cs) all zero = all.0
given_supers P k f (c ∷ cs) all (suc i) = given_supers P k (f + length c.features) cs all.1 i

given_text : (k f : ℕ) (cs : List ClassData) → list_all has_texts cs ≡ true → (i : ℕ) → is_utf8 (get_or (given_classes k f cs) i nowhere_class).name ≡ true
given_text k f [] all i = no_text
given_text k f (c ∷ cs) all zero = and_left (is_utf8 c.name) (list_all has_text c.features) (and_left (has_texts c) (list_all has_texts cs) all)
given_text k f (c ∷ cs) all (suc i) = given_text k (f + length c.features) cs (and_right (has_texts c) (list_all has_texts cs) all) i

given_own : (k f : ℕ) (cs : List ClassData) (i x : ℕ) → among_features x (get_or (given_classes k f cs) i nowhere_class).own ≡ true → (f ≤ x) × (x < f + given_count cs)
given_own k f [] i x h = absurd (cc)
given_own k f (c ∷ cs) zero x h = (let r : (f ≤ x) × (x < f + length c.features) = among_numbers f (length c.features) x h in (r.0, omega (arith, r.1)))
given_own k f (c ∷ cs) (suc i) x h =
    (let r : (f + length c.features ≤ x) × (x < f + length c.features + given_count cs) = given_own k (f + length c.features) cs i x h in (omega (arith, r.0), omega (arith, r.1)))

-- what holds of each given feature
all_features : (P : FeatureInfo → Type 0) (Q : FeatureData → Type 0) (o n : ℕ) (cs : List ClassData) → ((o : ℕ) (f : FeatureData) → o < n → Q f → P (given_feature o f)) → o + length cs ≤ n
    → AllByRecursion (λ (c : ClassData). AllByRecursion Q c.features) cs → (j : ℕ) → j < length (given_features o cs) → P (get_or (given_features o cs) j nowhere_feature)
all_features P Q o n [] all room q j l = absurd (omega arith)
all_features P Q o n (c ∷ cs) all room q j l = split c.features q.0 j l (λ i h. all_features P Q (o + 1) n cs all (omega (arith, room)) q.1 i h)
  where
    split : (fs : List FeatureData) → AllByRecursion Q fs → (j : ℕ) → j < length (map (given_feature o) fs ++ given_features (o + 1) cs)
        → ((i : ℕ) → i < length (given_features (o + 1) cs) → P (get_or (given_features (o + 1) cs) i nowhere_feature)) → P (get_or (map (given_feature o) fs ++ given_features (o + 1) cs) j nowhere_feature)
    split [] q j l rest = rest j l
    split (f ∷ fs) q zero l rest = all o f (omega (arith, room)) q.0
    split (f ∷ fs) q (suc j) l rest = split fs q.1 j (omega (arith, l)) rest

no_opposite : (o : ℕ) (cs : List ClassData) (j : ℕ) → (get_or (given_features o cs) j nowhere_feature).opposite ≡ None
no_opposite o [] j = refl
no_opposite o (c ∷ cs) j = split c.features j (no_opposite (o + 1) cs)
  where
    split : (fs : List FeatureData) (j : ℕ) → ((i : ℕ) → (get_or (given_features (o + 1) cs) i nowhere_feature).opposite ≡ None)
        → (get_or (map (given_feature o) fs ++ given_features (o + 1) cs) j nowhere_feature).opposite ≡ None
    split [] j rest = rest j
    split (f ∷ fs) zero rest = refl
    split (f ∷ fs) (suc j) rest = split fs j rest

-- no given feature is a containment or has a lower bound
loose_feature : (o : ℕ) (cs : List ClassData) → AllByRecursion (λ c. AllByRecursion IsLoose c.features) cs → (j : ℕ)
    → ((get_or (given_features o cs) j nowhere_feature).shape.containment ≡ false) × ((get_or (given_features o cs) j nowhere_feature).shape.lower ≡ 0)
loose_feature o [] q j = (refl, refl)
loose_feature o (c ∷ cs) q j = split c.features q.0 j (loose_feature (o + 1) cs q.1)
  where
    split : (fs : List FeatureData) → AllByRecursion IsLoose fs → (j : ℕ)
        → ((i : ℕ) → ((get_or (given_features (o + 1) cs) i nowhere_feature).shape.containment ≡ false) × ((get_or (given_features (o + 1) cs) i nowhere_feature).shape.lower ≡ 0))
        → ((get_or (map (given_feature o) fs ++ given_features (o + 1) cs) j nowhere_feature).shape.containment ≡ false)
        × ((get_or (map (given_feature o) fs ++ given_features (o + 1) cs) j nowhere_feature).shape.lower ≡ 0)
    split [] q j rest = rest j
    split (f ∷ fs) q zero rest = (q.0.containment, q.0.lower)
    split (f ∷ fs) q (suc j) rest = split fs q.1 j rest

feature_text : (o : ℕ) (cs : List ClassData) → list_all has_texts cs ≡ true → (j : ℕ) → is_utf8 (get_or (given_features o cs) j nowhere_feature).name ≡ true
feature_text o [] q j = no_text
feature_text o (c ∷ cs) q j = split c.features (and_right (is_utf8 c.name) (list_all has_text c.features) (and_left (has_texts c) (list_all has_texts cs) q)) j (feature_text (o + 1) cs (and_right (has_texts c) (list_all has_texts cs) q))
  where
    split : (fs : List FeatureData) → list_all has_text fs ≡ true → (j : ℕ) → ((i : ℕ) → is_utf8 (get_or (given_features (o + 1) cs) i nowhere_feature).name ≡ true)
        → is_utf8 (get_or (map (given_feature o) fs ++ given_features (o + 1) cs) j nowhere_feature).name ≡ true
    split [] q j rest = rest j
    split (f ∷ fs) q zero rest = and_left (has_text f) (list_all has_text fs) q
    split (f ∷ fs) q (suc j) rest = split fs (and_right (has_text f) (list_all has_text fs) q) j rest

pub super_in : (P : ℕ → Type 0) (ss : List ClassNo) (d : ℕ) → AllByRecursion (λ s. P s.0) ss → list_any (λ s. s.0 == d) ss ≡ true → P d
super_in P [] d all h = absurd (cc)
super_in P (s ∷ ss) d all h = elim (or_cases (s.0 == d) (list_any (λ s. s.0 == d) ss) h) [ inl same ↦ subst P (eqb-true s.0 d same) all.0 | inr more ↦ super_in P ss d all.1 more ]

module _ (m : Metamodels) (cs : List ClassData) where
  abbrev pub W : Metamodels
  W = record {
    metamodels = m.metamodels ++ unnamed ∷ [];
    classes = m.classes ++ element_class (length m.metamodels) ∷ given_classes (length m.metamodels) (length m.features) cs;
    features = m.features ++ given_features (length m.classes + 1) cs;
    element = Some (record { 0 = length m.classes });
  }

  pub is_extended : extended m cs ≡ W
  unfolding extended
  is_extended = refl

  abbrev K : ℕ
  K = length m.metamodels

  abbrev B : ℕ
  B = length m.classes

  abbrev F : ℕ
  F = length m.features

  abbrev added_classes : List ClassInfo
  added_classes = element_class K ∷ given_classes K F cs

  abbrev added_features : List FeatureInfo
  added_features = given_features (B + 1) cs

  pub class_total : length W.classes ≡ B + (1 + length cs)
  class_total = (let one : length added_classes ≡ 1 + length cs = ap suc (given_total K F cs) ∙ (let n : suc (length cs) ≡ 1 + length cs = omega arith in n) in omega (arith, length-append m.classes added_classes, one))

  pub feature_total : length W.features ≡ F + given_count cs
  feature_total = omega (arith, length-append m.features added_features, features_total (B + 1) cs)

  metamodel_total : length W.metamodels ≡ K + 1
  metamodel_total = length-append m.metamodels (unnamed ∷ [])

  pub class_new : (i : ℕ) → class_at W (B + i) ≡ get_or added_classes i nowhere_class
  class_new i = new-at m.classes added_classes i nowhere_class

  feature_new : (j : ℕ) → feature_at W (F + j) ≡ get_or added_features j nowhere_feature
  feature_new j = new-at m.features added_features j nowhere_feature

  goes_on : m.element ≡ None → GoesOn m W
  goes_on alone = record {
    metamodels_after = unnamed ∷ [];
    classes_after = added_classes;
    features_after = added_features;
    metamodels = refl;
    classes = refl;
    features = refl;
    apart = (omega arith, later F cs);
    element = λ d l. not_true (eqb B d) (λ e. (let same : B ≡ d = eqb-true B d e in omega (arith, same, l))) ∙ sym (ap (λ o. is_class_number o d) alone);
  }
    where
      later : (f : ℕ) (cs : List ClassData) → AllByRecursion (λ (k : ClassInfo). K ≤ k.metamodel) (given_classes K f cs)
      later f [] = tt
      later f (c ∷ cs) = (omega arith, later (f + length c.features) cs)

  module _ (rm : List ℕ) (wm : IsWellFormed m) (am : AreRanks m rm) (alone : m.element ≡ None) (given : AreGiven m cs) (texts : list_all has_texts cs ≡ true) where
    on : GoesOn m W
    on = goes_on alone

    old_regular : IsRegular m
    old_regular = regular_of m wm

    -- the superclasses of a class that comes come too
    super_new : (i d : ℕ) → is_superclass W (B + i) d ≡ true → (B < d) × (d < B + (1 + length cs))
    super_new i d h = by i (subst (λ (k : ClassInfo). list_any (λ s. s.0 == d) k.supers ≡ true) (class_new i) h)
      where
        by : (i : ℕ) → list_any (λ s. s.0 == d) (get_or added_classes i nowhere_class).supers ≡ true → (B < d) × (d < B + (1 + length cs))
        by zero h = absurd (cc)
        by (suc i) h =
            super_in (λ x. (B < x) × (x < B + (1 + length cs))) (get_or (given_classes K F cs) i nowhere_class).supers d
            (given_supers (IsGivenNumber m cs) K F cs given.supers i) h

    -- what is above a class that comes comes too
    super_any : (y x : ℕ) → Half B y → B ≤ y → is_superclass W y x ≡ true → B ≤ x
    super_any _ x (old _ l) low h = absurd (omega (arith, l, low))
    super_any _ x (new i) low h = (let s : (B < x) × (x < B + (1 + length cs)) = super_new i x h in omega (arith, s.0))

    above_new : {x y : ℕ} → Inherits W x y → B ≤ x → B ≤ y
    above_new (directly {x} {y} h) low = super_any x y (half B x) low h
    above_new (through {x} {y} {z} h p) low = above_new p (super_any x y (half B x) low h)

    own_new : (i f : ℕ) → among_features f (class_at W (B + i)).own ≡ true → (F ≤ f) × (f < F + given_count cs)
    own_new i f h = by i (subst (λ (k : ClassInfo). among_features f k.own ≡ true) (class_new i) h)
      where
        by : (i : ℕ) → among_features f (get_or added_classes i nowhere_class).own ≡ true → (F ≤ f) × (f < F + given_count cs)
        by zero h = absurd (cc)
        by (suc i) h = given_own K F cs i f h

    -- the features of a class that comes come too
    own_any : (f x : ℕ) → Half B x → B ≤ x → among_features f (class_at W x).own ≡ true → (F ≤ f) × (f < F + given_count cs)
    own_any f _ (old _ l) low own = absurd (omega (arith, l, low))
    own_any f _ (new i) low own = own_new i f own

    has_new : (i f : ℕ) → has_feature W (B + i) f ≡ true → (F ≤ f) × (f < F + given_count cs)
    unfolding features_of
    has_new i f h =
        let t : Declared W (B + i) f = declared W (length W.classes) (B + i) f h in
        let low : B ≤ t.class = elim t.up [ inl same ↦ omega (arith, same) | inr up ↦ above_new up (omega arith) ] in
        own_any f t.class (half B t.class) low t.own

    past_class : (i : ℕ) → 1 + length cs ≤ i → class_at W (B + i) ≡ nowhere_class
    past_class i h = get_or_past W.classes (B + i) nowhere_class (omega (arith, h, class_total))

    none_past : (i : ℕ) → 1 + length cs ≤ i → features_of W (B + i) ≡ []
    unfolding features_of
    none_past i h = no-features-past W (length W.classes) (B + i) (past_class i h)

    within : (i f : ℕ) → has_feature W (B + i) f ≡ true → i < 1 + length cs
    within i f h = by i (half (1 + length cs) i) h
      where
        by : (i : ℕ) → Half (1 + length cs) i → has_feature W (B + i) f ≡ true → i < 1 + length cs
        by _ (old i l) h = l
        by _ (new j) h = clash h (ap (among_features f) (none_past (1 + length cs + j) (omega arith)))

    has_old : (c f : ℕ) → c < B → has_feature W c f ≡ has_feature m c f
    has_old c f l = ap (among_features f) (features_old m W rm wm am on c l)

    opposite_old : (p q : ℕ) → is_opposite W p q ≡ true → (p < F) × (is_opposite m p q ≡ true)
    opposite_old p q h = by p (half F p) h
      where
        by : (p : ℕ) → Half F p → is_opposite W p q ≡ true → (p < F) × (is_opposite m p q ≡ true)
        by _ (old p l) h = (l, ap (λ (x : FeatureInfo). is_feature_number x.opposite q) (sym (feature_old m W rm wm am on p l)) ∙ h)
        by _ (new j) h = clash h (ap (λ (x : FeatureInfo). is_feature_number x.opposite q) (feature_new j) ∙ ap (λ o. is_feature_number o q) (no_opposite (B + 1) cs j))

    shape_old : (p : ℕ) → p < F → shape_of W p ≡ shape_of m p
    shape_old p l = ap (λ (x : FeatureInfo). x.shape) (feature_old m W rm wm am on p l)

    -- an old type has the old classes
    kind_old : (c : ℕ) (kind : TypeKind) → c < B → IsLiveKind m kind → is_class_kind W c kind ≡ is_class_kind m c kind
    kind_old c BoolKind l live = refl
    kind_old c Int l live = refl
    kind_old c Str l live = refl
    kind_old c (Enum k e) l live = refl
    kind_old c (Class d) l live = ap2 (λ x y. ((c == d.0) || x) || y) (on.element d.0 live) (reaches_old m W rm wm am on c d.0 l)

    kind_new : (i : ℕ) (kind : TypeKind) → IsLiveKind m kind → is_class_kind W (B + i) kind ≡ false
    kind_new i BoolKind live = refl
    kind_new i Int live = refl
    kind_new i Str live = refl
    kind_new i (Enum k e) live = refl
    kind_new i (Class d) live =
        ap2 (λ x y. x || y) (ap2 (λ x y. x || y) (not_true (eqb (B + i) d.0) (λ e. (let same : B + i ≡ d.0 = eqb-true (B + i) d.0 e in omega (arith, same, live))))
        (not_true (eqb B d.0) (λ e. (let same : B ≡ d.0 = eqb-true B d.0 e in omega (arith, same, live)))))
        (not_true (reaches W (B + i) d.0) (λ up. (let low : B ≤ d.0 = above_new (path W (B + i) d.0 up) (omega arith) in omega (arith, low, live))))

    live_old : (kind : TypeKind) → IsLiveKind m kind → IsLiveKind W kind
    live_old BoolKind live = live
    live_old Int live = live
    live_old Str live = live
    live_old (Enum k e) live = (omega (arith, live.0, metamodel_total), subst (λ (i : MetamodelInfo). e < length i.enums) (sym (metamodel_old m W rm wm am on k live.0)) live.1)
    live_old (Class c) live = omega (arith, live, class_total)

    live_metamodel : (c : ℕ) → c < length W.classes → (class_at W c).metamodel < length W.metamodels
    live_metamodel c h = by c (half B c) h
      where
        by : (c : ℕ) → Half B c → c < length W.classes → (class_at W c).metamodel < length W.metamodels
        by _ (old c l) h = (let old_one : (class_at m c).metamodel < K = wm.live_metamodel c l in omega (arith, old_one, metamodel_total, ap (λ (k : ClassInfo). k.metamodel) (class_old m W rm wm am on c l)))
        by _ (new i) h = (let new_one : (get_or added_classes i nowhere_class).metamodel ≡ K = at i (omega (arith, h, class_total)) in omega (arith, new_one, metamodel_total, ap (λ (k : ClassInfo). k.metamodel) (class_new i)))
          where
            at : (i : ℕ) → i < 1 + length cs → (get_or added_classes i nowhere_class).metamodel ≡ K
            at zero l = refl
            at (suc i) l = each_given (λ k. k.metamodel ≡ K) K F cs (λ f c. refl) i (omega (arith, l))

    pub live_superclass : (c d : ℕ) → is_superclass W c d ≡ true → d < length W.classes
    live_superclass c d h = by c (half B c) h
      where
        by : (c : ℕ) → Half B c → is_superclass W c d ≡ true → d < length W.classes
        by _ (old c l) h =
            (let low : d < B = wm.live_superclass c d (ap (λ (k : ClassInfo). list_any (λ s. s.0 == d) k.supers) (sym (class_old m W rm wm am on c l)) ∙ h) in omega (arith, low, class_total))
        by _ (new i) h = (let low : d < B + (1 + length cs) = (super_new i d h).1 in omega (arith, low, class_total))

    live_owner : (f : ℕ) → f < length W.features → (feature_at W f).owner.0 < length W.classes
    live_owner f h = by f (half F f) h
      where
        by : (f : ℕ) → Half F f → f < length W.features → (feature_at W f).owner.0 < length W.classes
        by _ (old f l) h = (let low : (feature_at m f).owner.0 < B = wm.live_owner f l in omega (arith, low, class_total, ap (λ (x : FeatureInfo). x.owner.0) (feature_old m W rm wm am on f l)))
        by _ (new j) h =
            subst (λ (x : FeatureInfo). x.owner.0 < length W.classes) (sym (feature_new j))
            (all_features (λ x. x.owner.0 < length W.classes) (λ f. IsLiveKind (extended m cs) f.shape.kind) (B + 1) (B + (1 + length cs)) cs (λ o f l q. (let t : length W.classes ≡ B + (1 + length cs) = class_total in omega (arith, l, t))) (omega arith)
            given.types j (omega (arith, h, length-append m.features added_features)))

    live_feature : (c f : ℕ) → has_feature W c f ≡ true → f < length W.features
    live_feature c f h = by c (half B c) h
      where
        by : (c : ℕ) → Half B c → has_feature W c f ≡ true → f < length W.features
        by _ (old c l) h = (let low : f < F = wm.live_feature c f (sym (has_old c f l) ∙ h) in omega (arith, low, feature_total))
        by _ (new i) h = (let low : f < F + given_count cs = (has_new i f h).1 in omega (arith, low, feature_total))

    live_class : (c f : ℕ) → has_feature W c f ≡ true → c < length W.classes
    live_class c f h = by c (half B c) h
      where
        by : (c : ℕ) → Half B c → has_feature W c f ≡ true → c < length W.classes
        by _ (old c l) h = omega (arith, l, class_total)
        by _ (new i) h = (let low : i < 1 + length cs = within i f h in omega (arith, low, class_total))

    live_type : (f : ℕ) → f < length W.features → IsLiveKind W (shape_of W f).kind
    live_type f h = by f (half F f) h
      where
        by : (f : ℕ) → Half F f → f < length W.features → IsLiveKind W (shape_of W f).kind
        by _ (old f l) h = subst (λ s. IsLiveKind W s.kind) (sym (shape_old f l)) (live_old (shape_of m f).kind (wm.live_type f l))
        by _ (new j) h =
            subst (λ (x : FeatureInfo). IsLiveKind W x.shape.kind) (sym (feature_new j))
            (all_features (λ x. IsLiveKind W x.shape.kind) (λ f. IsLiveKind (extended m cs) f.shape.kind) (B + 1) (B + (1 + length cs)) cs (λ o f l q. subst (λ w. IsLiveKind w f.shape.kind) is_extended q) (omega arith)
            given.types j (omega (arith, h, length-append m.features added_features)))

    mutual_opposites : (p q : ℕ) → is_opposite W p q ≡ true → is_opposite W q p ≡ true
    mutual_opposites p q h =
        (let o : (p < F) × (is_opposite m p q ≡ true) = opposite_old p q h in
        ap (λ (x : FeatureInfo). is_feature_number x.opposite p) (feature_old m W rm wm am on q (wm.live_opposite p q o.1)) ∙ wm.mutual_opposites p q o.1)

    one_containment : (p q : ℕ) → is_opposite W p q ≡ true → is_containment W p ≡ true → is_containment W q ≡ false
    one_containment p q h c =
        (let o : (p < F) × (is_opposite m p q ≡ true) = opposite_old p q h in
        ap (λ s. s.containment) (shape_old q (wm.live_opposite p q o.1)) ∙ wm.one_containment p q o.1 (ap (λ s. s.containment) (sym (shape_old p o.0)) ∙ c))

    one_container : (p q : ℕ) → is_opposite W p q ≡ true → is_containment W p ≡ true → is_single W q ≡ true
    one_container p q h c =
        (let o : (p < F) × (is_opposite m p q ≡ true) = opposite_old p q h in
        ap (λ s. is_one s.upper) (shape_old q (wm.live_opposite p q o.1)) ∙ wm.one_container p q o.1 (ap (λ s. s.containment) (sym (shape_old p o.0)) ∙ c))

    opposite_has_type : (p q c : ℕ) → is_opposite W p q ≡ true → has_feature W c p ≡ true → is_class_kind W c (shape_of W q).kind ≡ true
    opposite_has_type p q c h there = (let o : (p < F) × (is_opposite m p q ≡ true) = opposite_old p q h in by c (half B c) o.0 o.1 there)
      where
        by : (c : ℕ) → Half B c → p < F → is_opposite m p q ≡ true → has_feature W c p ≡ true → is_class_kind W c (shape_of W q).kind ≡ true
        by _ (old c l) low is there =
            ap (λ s. is_class_kind W c s.kind) (shape_old q (wm.live_opposite p q is))
            ∙ kind_old c (shape_of m q).kind l (wm.live_type q (wm.live_opposite p q is))
            ∙ wm.opposite_has_type p q c is (sym (has_old c p l) ∙ there)
        by _ (new i) low is there = absurd (let far : F ≤ p = (has_new i p there).0 in omega (arith, far, low))

    type_has_opposite : (p q c : ℕ) → is_opposite W p q ≡ true → is_class_kind W c (shape_of W p).kind ≡ true → has_feature W c q ≡ true
    type_has_opposite p q c h kind = (let o : (p < F) × (is_opposite m p q ≡ true) = opposite_old p q h in by c (half B c) o.0 o.1 (ap (λ s. is_class_kind W c s.kind) (sym (shape_old p o.0)) ∙ kind))
      where
        by : (c : ℕ) → Half B c → p < F → is_opposite m p q ≡ true → is_class_kind W c (shape_of m p).kind ≡ true → has_feature W c q ≡ true
        by _ (old c l) low is kind = has_old c q l ∙ wm.type_has_opposite p q c is (sym (kind_old c (shape_of m p).kind l (wm.live_type p low)) ∙ kind)
        by _ (new i) low is kind = clash kind (kind_new i (shape_of m p).kind (wm.live_type p low))

    metamodel_of_old : (c : ℕ) → c < B → metamodel_at W (class_at W c).metamodel ≡ metamodel_at m (class_at m c).metamodel
    metamodel_of_old c l = ap (λ (k : ClassInfo). metamodel_at W k.metamodel) (class_old m W rm wm am on c l) ∙ metamodel_old m W rm wm am on (class_at m c).metamodel (wm.live_metamodel c l)

    unnamed_alone : (p q c : ℕ) → has_feature W c p ≡ true → (metamodel_at W (class_at W c).metamodel).name ≡ [] → is_opposite W p q ≡ false
    unnamed_alone p q c there none = not_true (is_opposite W p q) (λ h. (let o : (p < F) × (is_opposite m p q ≡ true) = opposite_old p q h in by c (half B c) o.0 o.1 there none))
      where
        by : (c : ℕ) → Half B c → p < F → is_opposite m p q ≡ true → has_feature W c p ≡ true → (metamodel_at W (class_at W c).metamodel).name ≡ [] → ⊥
        by _ (old c l) low is there none = clash is (wm.unnamed_alone p q c (sym (has_old c p l) ∙ there) (ap (λ i. i.name) (sym (metamodel_of_old c l)) ∙ none))
        by _ (new i) low is there none = (let far : F ≤ p = (has_new i p there).0 in omega (arith, far, low))

    -- a feature that comes is no containment and has no lower bound
    loose_new : (f : ℕ) → F ≤ f → (is_containment W f ≡ false) × ((shape_of W f).lower ≡ 0)
    loose_new f low = by f (half F f) low
      where
        by : (f : ℕ) → Half F f → F ≤ f → (is_containment W f ≡ false) × ((shape_of W f).lower ≡ 0)
        by _ (old f l) low = absurd (omega (arith, l, low))
        by _ (new j) low = (let at : ((get_or added_features j nowhere_feature).shape.containment ≡ false) × ((get_or added_features j nowhere_feature).shape.lower ≡ 0) = loose_feature (B + 1) cs given.loose j in
            (ap (λ (x : FeatureInfo). x.shape.containment) (feature_new j) ∙ at.0, ap (λ (x : FeatureInfo). x.shape.lower) (feature_new j) ∙ at.1))

    unnamed_empty : (c f : ℕ) → has_feature W c f ≡ true → (metamodel_at W (class_at W c).metamodel).name ≡ [] → is_containment W f ≡ false
    unnamed_empty c f there none = by c (half B c) there none
      where
        by : (c : ℕ) → Half B c → has_feature W c f ≡ true → (metamodel_at W (class_at W c).metamodel).name ≡ [] → is_containment W f ≡ false
        by _ (old c l) there none =
            (let was : has_feature m c f ≡ true = sym (has_old c f l) ∙ there in
            ap (λ s. s.containment) (shape_old f (wm.live_feature c f was)) ∙ old_regular.unnamed_empty c f was (ap (λ i. i.name) (sym (metamodel_of_old c l)) ∙ none))
        by _ (new i) there none = (loose_new f (has_new i f there).0).0

    unnamed_optional : (c f : ℕ) → has_feature W c f ≡ true → (metamodel_at W (class_at W c).metamodel).name ≡ [] → (shape_of W f).lower ≡ 0
    unnamed_optional c f there none = by c (half B c) there none
      where
        by : (c : ℕ) → Half B c → has_feature W c f ≡ true → (metamodel_at W (class_at W c).metamodel).name ≡ [] → (shape_of W f).lower ≡ 0
        by _ (old c l) there none =
            (let was : has_feature m c f ≡ true = sym (has_old c f l) ∙ there in
            ap (λ s. s.lower) (shape_old f (wm.live_feature c f was)) ∙ old_regular.unnamed_optional c f was (ap (λ i. i.name) (sym (metamodel_of_old c l)) ∙ none))
        by _ (new i) there none = (loose_new f (has_new i f there).0).1

    -- a containment was there
    containment_old : (f : ℕ) → is_containment W f ≡ true → (f < F) × (is_containment m f ≡ true)
    containment_old f h = by f (half F f) h
      where
        by : (f : ℕ) → Half F f → is_containment W f ≡ true → (f < F) × (is_containment m f ≡ true)
        by _ (old f l) h = (l, ap (λ s. s.containment) (sym (shape_old f l)) ∙ h)
        by _ (new j) h = clash h (loose_new (F + j) (omega arith)).0

    element_none : (k : ℕ) → features_in k W (B + 0) ≡ []
    element_none zero = refl
    element_none (suc k) = ap (λ (x : ClassInfo). each_once [] (flat_map (λ s. features_in k W s.0) x.supers) ++ x.own) (class_new 0)

    element_features : features_of W (B + 0) ≡ []
    unfolding features_of
    element_features = element_none (length W.classes)

    -- the class above all
    element_is : (c : ℕ) → is_element W c ≡ true → c ≡ B + 0
    element_is c h = (let same : B ≡ c = eqb-true B c h in omega (arith, same))

    live_element : (c : ℕ) → is_element W c ≡ true → c < length W.classes
    live_element c h = omega (arith, element_is c h, class_total)

    abstract_element : (c : ℕ) → is_element W c ≡ true → (class_at W c).is_abstract ≡ true
    abstract_element c h = ap (λ n. (class_at W n).is_abstract) (element_is c h) ∙ ap (λ (k : ClassInfo). k.is_abstract) (class_new 0)

    featureless_element : (c f : ℕ) → is_element W c ≡ true → has_feature W c f ≡ false
    featureless_element c f h = ap (λ n. has_feature W n f) (element_is c h) ∙ ap (among_features f) element_features

    topmost_element : (c d : ℕ) → is_element W c ≡ true → is_superclass W c d ≡ false
    topmost_element c d h = ap (λ n. is_superclass W n d) (element_is c h) ∙ ap (λ (k : ClassInfo). list_any (λ s. s.0 == d) k.supers) (class_new 0)

    -- no name stands twice among the features of a class that comes
    fresh_new : (i : ℕ) → repeated [] (map (λ g. (feature_at W g.0).name) (features_of W (B + i))) ≡ None
    fresh_new i = by i
      where
        nothing : (i : ℕ) → features_of W (B + i) ≡ [] → repeated [] (map (λ g. (feature_at W g.0).name) (features_of W (B + i))) ≡ None
        nothing i e = subst (λ (gs : List FeatureNo). repeated [] (map (λ g. (feature_at W g.0).name) gs) ≡ None) (sym e) refl

        some : (i : ℕ) → Half (length cs) i → repeated [] (map (λ g. (feature_at W g.0).name) (features_of W (B + suc i))) ≡ None
        some _ (old i l) = subst (λ w. repeated [] (map (λ g. (feature_at w g.0).name) (features_of w (B + suc i))) ≡ None) is_extended
            (subst (λ n. repeated [] (map (λ g. (feature_at (extended m cs) g.0).name) (features_of (extended m cs) n)) ≡ None) (let same : B + (1 + i) ≡ B + suc i = omega arith in same) (given.names i l))
        some _ (new j) = nothing (suc (length cs + j)) (none_past (suc (length cs + j)) (omega arith))

        by : (i : ℕ) → repeated [] (map (λ g. (feature_at W g.0).name) (features_of W (B + i))) ≡ None
        by zero = nothing 0 element_features
        by (suc i) = some i (half (length cs) i)

    distinct_features : (c i j : ℕ) → i < j → j < length (features_of W c) → (get_or (features_of W c) i (record { 0 = 0 })).0 ≢ (get_or (features_of W c) j (record { 0 = 0 })).0
    distinct_features c i j before = by c (half B c)
      where
        by : (c : ℕ) → Half B c → j < length (features_of W c) → (get_or (features_of W c) i (record { 0 = 0 })).0 ≢ (get_or (features_of W c) j (record { 0 = 0 })).0
        by _ (old c l) = subst (λ (gs : List FeatureNo). j < length gs → (get_or gs i (record { 0 = 0 })).0 ≢ (get_or gs j (record { 0 = 0 })).0)
            (sym (features_old m W rm wm am on c l)) (wm.distinct_features c i j before)
        by _ (new x) = distinct W (B + x) (fresh_new x) i j before

    feature_found : (c f : ℕ) → has_feature W c f ≡ true → feature_named W c (feature_at W f).name ≡ Some (record { 0 = f })
    feature_found c f h = by c (half B c) h
      where
        by : (c : ℕ) → Half B c → has_feature W c f ≡ true → feature_named W c (feature_at W f).name ≡ Some (record { 0 = f })
        by _ (old c l) h =
            (let there : has_feature m c f ≡ true = sym (has_old c f l) ∙ h in
            feature_named_old m W rm wm am on c (feature_at W f).name l
            ∙ ap (λ (x : FeatureInfo). feature_named m c x.name) (feature_old m W rm wm am on f (wm.live_feature c f there)) ∙ wm.feature_found c f there)
        by _ (new i) h = found_feature W (B + i) (fresh_new i) f h

    class_found : (c : ℕ) → c < length W.classes → (metamodel_at W (class_at W c).metamodel).name ≢ [] → class_named W (class_at W c).metamodel (class_at W c).name ≡ Some c
    class_found c h named = by c (half B c) h named
      where
        by : (c : ℕ) → Half B c → c < length W.classes → (metamodel_at W (class_at W c).metamodel).name ≢ [] → class_named W (class_at W c).metamodel (class_at W c).name ≡ Some c
        by _ (old c l) h named =
            ap (λ (k : ClassInfo). class_named W k.metamodel k.name) (class_old m W rm wm am on c l)
            ∙ class_named_old m W rm wm am on (class_at m c).metamodel (class_at m c).name (wm.live_metamodel c l)
            ∙ wm.class_found c l (λ e. named (ap (λ i. i.name) (metamodel_of_old c l) ∙ e))
        by _ (new i) h named = absurd (named (nameless i (omega (arith, h, class_total))))
          where
            at : (i : ℕ) → i < 1 + length cs → (get_or added_classes i nowhere_class).metamodel ≡ K
            at zero l = refl
            at (suc i) l = each_given (λ k. k.metamodel ≡ K) K F cs (λ f c. refl) i (omega (arith, l))

            last : metamodel_at W K ≡ unnamed
            last = ap (λ n. get_or W.metamodels n nowhere_metamodel) (let same : K ≡ K + 0 = omega arith in same) ∙ new-at m.metamodels (unnamed ∷ []) 0 nowhere_metamodel

            nameless : (i : ℕ) → i < 1 + length cs → (metamodel_at W (class_at W (B + i)).metamodel).name ≡ []
            nameless i l = ap (λ n. (metamodel_at W n).name) (ap (λ (k : ClassInfo). k.metamodel) (class_new i) ∙ at i l) ∙ ap (λ i. i.name) last

    -- a fact of each metamodel, of its enumerations and literals: the last has none
    each_metamodel : (P : MetamodelInfo → Type 0) → ((k : ℕ) → P (metamodel_at m k)) → P unnamed → P nowhere_metamodel → (k : ℕ) → P (metamodel_at W k)
    each_metamodel P there none past k = by k (half K k)
      where
        by : (k : ℕ) → Half K k → P (metamodel_at W k)
        by _ (old k l) = subst P (sym (metamodel_old m W rm wm am on k l)) (there k)
        by _ (new i) = subst P (sym (new-at m.metamodels (unnamed ∷ []) i nowhere_metamodel)) (at i)
          where
            at : (i : ℕ) → P (get_or (unnamed ∷ []) i nowhere_metamodel)
            at zero = none
            at (suc i) = past

    text_class : (c : ℕ) → is_utf8 (class_at W c).name ≡ true
    text_class c = by c (half B c)
      where
        by : (c : ℕ) → Half B c → is_utf8 (class_at W c).name ≡ true
        by _ (old c l) = ap (λ (k : ClassInfo). is_utf8 k.name) (class_old m W rm wm am on c l) ∙ wm.text_class c
        by _ (new i) = ap (λ (k : ClassInfo). is_utf8 k.name) (class_new i) ∙ at i
          where
            at : (i : ℕ) → is_utf8 (get_or added_classes i nowhere_class).name ≡ true
            at zero = element_text
            at (suc i) = given_text K F cs texts i

    text_feature : (f : ℕ) → is_utf8 (feature_at W f).name ≡ true
    text_feature f = by f (half F f)
      where
        by : (f : ℕ) → Half F f → is_utf8 (feature_at W f).name ≡ true
        by _ (old f l) = ap (λ (x : FeatureInfo). is_utf8 x.name) (feature_old m W rm wm am on f l) ∙ wm.text_feature f
        by _ (new j) = ap (λ (x : FeatureInfo). is_utf8 x.name) (feature_new j) ∙ feature_text (B + 1) cs texts j

    all_regular : (ranks : List ℕ) → AreRanks W ranks → IsRegular W
    all_regular ranks ranked = record {
      acyclic = acyclic W ranks ranked;
      antisymmetric = antisymmetric W ranks ranked topmost_element;
      transitive = transitive W ranks ranked topmost_element;
      inherited = inherited W ranks ranked topmost_element live_element featureless_element;
      live_element = live_element;
      abstract_element = abstract_element;
      featureless_element = featureless_element;
      topmost_element = topmost_element;
      object_containments = λ f h. (let o : (f < F) × (is_containment m f ≡ true) = containment_old f h in ap (λ s. is_class_type s.kind) (shape_old f o.0) ∙ old_regular.object_containments f o.1);
      unique_containments = λ f h. (let o : (f < F) × (is_containment m f ≡ true) = containment_old f h in ap (λ s. s.unique) (shape_old f o.0) ∙ old_regular.unique_containments f o.1);
      unnamed_empty = unnamed_empty;
      unnamed_optional = unnamed_optional;
    }

    pub well_formed : HasRoomFor m cs → (ranks : List ℕ) → AreRanks W ranks → IsWellFormed W
    well_formed room ranks ranked = record {
      few_metamodels = omega (arith, room.metamodels, metamodel_total);
      few_classes = omega (arith, room.classes, class_total);
      few_features = omega (arith, room.features, feature_total);
      few_enumerations = each_metamodel (λ i. length i.enums < 2 ^ 32) wm.few_enumerations (lit< tt) (lit< tt);
      few_literals = λ k e. each_metamodel (λ i. length (slice_index_or i.enums e nowhere_enumeration).literals < 2 ^ 32) (λ k. wm.few_literals k e) (lit< tt) (lit< tt) k;
      live_metamodel = live_metamodel;
      live_superclass = live_superclass;
      live_owner = live_owner;
      live_feature = live_feature;
      live_class = live_class;
      live_opposite = λ p q h. (let o : (p < F) × (is_opposite m p q ≡ true) = opposite_old p q h in let low : q < F = wm.live_opposite p q o.1 in omega (arith, low, feature_total));
      live_type = live_type;
      regular = regular W (all_regular ranks ranked);
      mutual_opposites = mutual_opposites;
      other_feature = λ p. not_true (is_opposite W p p) (λ h. (let o : (p < F) × (is_opposite m p p ≡ true) = opposite_old p p h in clash o.1 (wm.other_feature p)));
      one_containment = one_containment;
      one_container = one_container;
      unique_opposites = λ p q h. (let o : (p < F) × (is_opposite m p q ≡ true) = opposite_old p q h in ap (λ s. s.unique) (shape_old p o.0) ∙ wm.unique_opposites p q o.1);
      opposite_has_type = opposite_has_type;
      type_has_opposite = type_has_opposite;
      unnamed_alone = unnamed_alone;
      distinct_features = distinct_features;
      text_metamodel = each_metamodel (λ i. is_utf8 i.name ≡ true) wm.text_metamodel no_text no_text;
      text_class = text_class;
      text_feature = text_feature;
      text_enumeration = λ k e. each_metamodel (λ i. is_utf8 (slice_index_or i.enums e nowhere_enumeration).name ≡ true) (λ k. wm.text_enumeration k e) no_text no_text k;
      text_literal = λ k e l. each_metamodel (λ i. is_utf8 (slice_index_or (slice_index_or i.enums e nowhere_enumeration).literals l []) ≡ true) (λ k. wm.text_literal k e l) no_text no_text k;
      class_found = class_found;
      feature_found = feature_found;
      enumeration_found = λ k e. each_metamodel (λ i. e < length i.enums → position (λ x. bytes_eq (slice_index_or i.enums e nowhere_enumeration).name x.name) i.enums ≡ Some e) (λ k. wm.enumeration_found k e) (λ l. absurd (omega arith)) (λ l. absurd (omega arith)) k;
      literal_found = λ k e l. each_metamodel (λ i. l < length (slice_index_or i.enums e nowhere_enumeration).literals → position (bytes_eq (slice_index_or (slice_index_or i.enums e nowhere_enumeration).literals l [])) (slice_index_or i.enums e nowhere_enumeration).literals ≡ Some l)
          (λ k. wm.literal_found k e l) (λ x. absurd (omega arith)) (λ x. absurd (omega arith)) k;
    }

    -- what the code keeps of these metamodels
    pub kept : HasRoomFor m cs → (lists : List (List FeatureNo)) (rows : List Row) (ranks : List ℕ) → AreTables (of_classes W.classes) lists rows ranks → IsKept W lists rows ranks
    kept room lists rows ranks tables = (let t : AreTables W lists rows ranks = tables_same W lists rows ranks tables in record {
      well_formed = well_formed room ranks t.ranked;
      ranked = t.ranked;
      each = t.each;
      each_row = t.each_row;
      starts = t.starts;
      features = t.features;
      ancestors = t.ancestors;
    })

pub extended_stays : (m : Metamodels) (cs : List ClassData) (ranks : List ℕ) → IsWellFormed m → AreRanks m ranks → m.element ≡ None → NumbersStay m (extended m cs)
extended_stays m cs ranks wm am alone = subst (NumbersStay m) (sym (is_extended m cs)) (stays_in m (W m cs) ranks wm am (goes_on m cs alone))
