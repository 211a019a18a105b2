-- What the tests of given classes tell.
use Rattle.std.proofs.Common.{◌≡◌, ◌∙◌, ℕ, zero, suc, ◌+◌, ◌-◌, ◌<◌, ◌^◌, List, [], ◌∷◌, drop, length, get_or, Bool, true, false, not, Option, Some, None, refl, ap, sym, subst, arith, ◌==◌, ◌&&◌}
use Rattle.std.specs.Prelude.{nat_lt, is_none, is_some, if◌then◌else◌}
use Rattle.std.specs.List.{list_any, list_all, AllByRecursion}
use Rattle.std.proofs.lemmas.List.{length-append, get_or_past, get_or-drop, length-drop}
use Rattle.std.proofs.lemmas.Bool.{ltb-true, lt-ltb, eqb-true, eq-eqb}
use Rattle.qvt_base.specs.declared.numbers.ClassNo.{ClassNo}
use Rattle.qvt_base.specs.declared.numbers.FeatureNo.{FeatureNo}
use Rattle.qvt_metamodel.specs.declared.given.ClassData.{ClassData}
use Rattle.qvt_metamodel.specs.declared.given.FeatureData.{FeatureData}
use Rattle.qvt_metamodel.specs.declared.info.ClassInfo.{ClassInfo}
use Rattle.qvt_metamodel.specs.declared.info.MetamodelInfo.{MetamodelInfo}
use Rattle.qvt_metamodel.specs.declared.info.TypeKind.{TypeKind}
use Rattle.qvt_metamodel.specs.declared.info.TypeKind.TheVariants.{Bool as BoolKind, Int, Str, Enum, Class}
use Rattle.qvt_metamodel.specs.declared.row.Row.{Row}
use Rattle.qvt_metas.specs.Metamodels.{Metamodels, features_of, nowhere_class}
use Rattle.qvt_metas.specs.Descends.{is_superclass}
use Rattle.qvt_metas.specs.Named.{metamodel_at, nowhere_metamodel}
use Rattle.qvt_metas.specs.WellFormed.{IsWellFormed, IsLiveKind}
use Rattle.qvt_metamodel.specs.Checks.{repeated_feature}
use Rattle.qvt_metas.specs.Extended.{extended, unnamed, element_class, given_classes, given_count, IsGivenNumber, IsLoose, AreGiven}
use Rattle.qvt_metamodel.proofs.Ancestors.{path}
use Rattle.qvt_metamodel.proofs.Bools.{clash, and_both, and_left, and_right}
use Rattle.qvt_metamodel.proofs.Halves.{Half, old, new, half, old-at, new-at}
use Rattle.qvt_metamodel.proofs.Lookups.{none_from}
use Rattle.qvt_metas.specs.Tables.{of_classes, AreTables}
use Rattle.qvt_metas.specs.Search.{AreLive, IsAcyclic}
use Rattle.qvt_meta_tables.specs.Cycles.{is_own_ancestor, cycle_from, first_cycle}
use Rattle.qvt_meta_tables.proofs.Cyclic.{acyclic_of}
use Rattle.qvt_meta_tables.proofs.Same.{features_of_same}
use Rattle.qvt_metas.proofs.GivenOrder.{given_acyclic, whole_acyclic}
use Rattle.qvt_metas.proofs.Extends.{W, is_extended, class_total, class_new, given_supers, super_in}
use Rattle.qvt_meta_given.specs.Given.{fits, has_room_for, is_given_number, has_given_supers, is_live_kind, has_live_kind, has_live_kinds, are_live, is_loose, has_loose_features, are_loose, are_named_apart, AreSound}

-- tests of all items
all_of : {X : Type 0} (p : X → Bool) (P : X → Type 0) (xs : List X) → ((x : X) → p x ≡ true → P x) → list_all p xs ≡ true → AllByRecursion P xs
all_of p P [] f h = tt
all_of p P (x ∷ xs) f h = (f x (and_left (p x) (list_all p xs) h), all_of p P xs f (and_right (p x) (list_all p xs) h))

of_all : {X : Type 0} (p : X → Bool) (P : X → Type 0) (xs : List X) → ((x : X) → P x → p x ≡ true) → AllByRecursion P xs → list_all p xs ≡ true
of_all p P [] f all = refl
of_all p P (x ∷ xs) f all = and_both (p x) (list_all p xs) (f x all.0) (of_all p P xs f all.1)

at_all : {X : Type 0} (p : X → Bool) (xs : List X) (d : X) → list_all p xs ≡ true → (i : ℕ) → i < length xs → p (get_or xs i d) ≡ true
at_all p [] d h i l = absurd (omega arith)
at_all p (x ∷ xs) d h zero l = and_left (p x) (list_all p xs) h
at_all p (x ∷ xs) d h (suc i) l = at_all p xs d (and_right (p x) (list_all p xs) h) i (omega (arith, l))

all_at : {X : Type 0} (p : X → Bool) (xs : List X) (d : X) → ((i : ℕ) → i < length xs → p (get_or xs i d) ≡ true) → list_all p xs ≡ true
all_at p [] d f = refl
all_at p (x ∷ xs) d f = and_both (p x) (list_all p xs) (f zero (omega arith)) (all_at p xs d (λ i l. f (suc i) (omega (arith, l))))

none_is : {X : Type 0} (o : Option X) → o ≡ None → is_none o ≡ true
none_is o e = ap is_none e

-- a feature that is no containment and has no lower bound
feature_of : (f : FeatureData) → is_loose f ≡ true → IsLoose f
feature_of f h = record {
  containment = is_false f.shape.containment (and_left (not f.shape.containment) (f.shape.lower == 0) h);
  lower = eqb-true f.shape.lower 0 (and_right (not f.shape.containment) (f.shape.lower == 0) h);
}
  where
    is_false : (b : Bool) → not b ≡ true → b ≡ false
    is_false true h = absurd (cc)
    is_false false h = refl

of_feature : (f : FeatureData) → IsLoose f → is_loose f ≡ true
of_feature f l = and_both (not f.shape.containment) (f.shape.lower == 0) (ap not l.containment) (eq-eqb f.shape.lower 0 l.lower)

module _ (m : Metamodels) (cs : List ClassData) where
  abbrev E : Metamodels
  E = W m cs

  -- room
  pub few : has_room_for m cs ≡ true → length (extended m cs).classes < 2 ^ 32
  few h =
      let room : length m.classes + (1 + length cs) < 2 ^ 32 =
      ltb-true (length m.classes + (1 + length cs)) (2 ^ 32) (and_right (fits (length m.metamodels + 1)) (fits (length m.classes + (1 + length cs))) (and_left (fits (length m.metamodels + 1) && fits (length m.classes + (1 + length cs))) (fits (length m.features + given_count cs)) h)) in
      subst (λ (w : Metamodels). length w.classes < 2 ^ 32) (sym (is_extended m cs)) (let n : length E.classes ≡ length m.classes + (1 + length cs) = class_total m cs in omega (arith, n, room))

  -- superclasses
  number_of : (s : ClassNo) → is_given_number m cs s ≡ true → IsGivenNumber m cs s
  number_of s h = (
    ltb-true (length m.classes) s.0 (and_left (nat_lt (length m.classes) s.0) (nat_lt s.0 (length m.classes + (1 + length cs))) h),
    ltb-true s.0 (length m.classes + (1 + length cs)) (and_right (nat_lt (length m.classes) s.0) (nat_lt s.0 (length m.classes + (1 + length cs))) h),
  )

  of_number : (s : ClassNo) → IsGivenNumber m cs s → is_given_number m cs s ≡ true
  of_number s h = and_both (nat_lt (length m.classes) s.0) (nat_lt s.0 (length m.classes + (1 + length cs))) (lt-ltb (length m.classes) s.0 h.0) (lt-ltb s.0 (length m.classes + (1 + length cs)) h.1)

  pub supers_of : list_all (has_given_supers m cs) cs ≡ true → AllByRecursion (λ c. AllByRecursion (IsGivenNumber m cs) c.supers) cs
  supers_of h = all_of (has_given_supers m cs) (λ c. AllByRecursion (IsGivenNumber m cs) c.supers) cs (λ c g. all_of (is_given_number m cs) (IsGivenNumber m cs) c.supers number_of g) h

  pub of_supers : AllByRecursion (λ c. AllByRecursion (IsGivenNumber m cs) c.supers) cs → list_all (has_given_supers m cs) cs ≡ true
  of_supers all = of_all (has_given_supers m cs) (λ c. AllByRecursion (IsGivenNumber m cs) c.supers) cs (λ c g. of_all (is_given_number m cs) (IsGivenNumber m cs) c.supers of_number g) all

  -- types
  metamodel_old : (k : ℕ) → k < length m.metamodels → metamodel_at E k ≡ metamodel_at m k
  metamodel_old k l = old-at m.metamodels (unnamed ∷ []) k nowhere_metamodel l

  metamodel_new : (i : ℕ) → (metamodel_at E (length m.metamodels + i)).enums ≡ []
  metamodel_new i = ap (λ (x : MetamodelInfo). x.enums) (new-at m.metamodels (unnamed ∷ []) i nowhere_metamodel) ∙ at i
    where
      at : (i : ℕ) → (get_or (unnamed ∷ []) i nowhere_metamodel).enums ≡ []
      at zero = refl
      at (suc i) = refl

  enum_of : (k e : ℕ) → Half (length m.metamodels) k → e < length (metamodel_at m k).enums → (k < length E.metamodels) × (e < length (metamodel_at E k).enums)
  enum_of _ e (old k l) h = (let n : length E.metamodels ≡ length m.metamodels + 1 = length-append m.metamodels (unnamed ∷ []) in omega (arith, l, n), subst (λ (i : MetamodelInfo). e < length i.enums) (sym (metamodel_old k l)) h)
  enum_of _ e (new i) h = (let none : length (metamodel_at m (length m.metamodels + i)).enums ≡ 0 = ap (λ (x : MetamodelInfo). length x.enums) (get_or_past m.metamodels (length m.metamodels + i) nowhere_metamodel (omega arith)) in absurd (omega (arith, h, none)))

  of_enum : (k e : ℕ) → Half (length m.metamodels) k → e < length (metamodel_at E k).enums → e < length (metamodel_at m k).enums
  of_enum _ e (old k l) h = subst (λ (i : MetamodelInfo). e < length i.enums) (metamodel_old k l) h
  of_enum _ e (new i) h = (let none : length (metamodel_at E (length m.metamodels + i)).enums ≡ 0 = ap length (metamodel_new i) in absurd (omega (arith, h, none)))

  kind_of : (kind : TypeKind) → is_live_kind m cs kind ≡ true → IsLiveKind E kind
  kind_of BoolKind h = tt
  kind_of Int h = tt
  kind_of Str h = tt
  kind_of (Enum k e) h = enum_of k e (half (length m.metamodels) k) (ltb-true e (length (metamodel_at m k).enums) h)
  kind_of (Class c) h = (let l : c.0 < length m.classes + (1 + length cs) = ltb-true c.0 (length m.classes + (1 + length cs)) h in omega (arith, l, class_total m cs))

  of_kind : (kind : TypeKind) → IsLiveKind E kind → is_live_kind m cs kind ≡ true
  of_kind BoolKind h = refl
  of_kind Int h = refl
  of_kind Str h = refl
  of_kind (Enum k e) h = lt-ltb e (length (metamodel_at m k).enums) (of_enum k e (half (length m.metamodels) k) h.1)
  of_kind (Class c) h = lt-ltb c.0 (length m.classes + (1 + length cs)) (omega (arith, h, class_total m cs))

  pub types_of : list_all (has_live_kinds m cs) cs ≡ true → AllByRecursion (λ c. AllByRecursion (λ f. IsLiveKind (extended m cs) f.shape.kind) c.features) cs
  types_of h = subst (λ w. AllByRecursion (λ (c : ClassData). AllByRecursion (λ (f : FeatureData). IsLiveKind w f.shape.kind) c.features) cs) (sym (is_extended m cs))
      (all_of (has_live_kinds m cs) (λ c. AllByRecursion (λ f. IsLiveKind E f.shape.kind) c.features) cs (λ c g. all_of (has_live_kind m cs) (λ f. IsLiveKind E f.shape.kind) c.features (λ f. kind_of f.shape.kind) g) h)

  pub of_types : AllByRecursion (λ c. AllByRecursion (λ f. IsLiveKind (extended m cs) f.shape.kind) c.features) cs → list_all (has_live_kinds m cs) cs ≡ true
  of_types all = of_all (has_live_kinds m cs) (λ c. AllByRecursion (λ f. IsLiveKind E f.shape.kind) c.features) cs (λ c g. of_all (has_live_kind m cs) (λ f. IsLiveKind E f.shape.kind) c.features (λ f. of_kind f.shape.kind) g)
      (subst (λ w. AllByRecursion (λ (c : ClassData). AllByRecursion (λ (f : FeatureData). IsLiveKind w f.shape.kind) c.features) cs) (is_extended m cs) all)

  -- the superclasses of all classes are there
  live : IsWellFormed m → are_live m cs ≡ true → AreLive E.classes
  live wm h c d s = by c (half (length m.classes) c) s
    where
      by : (c : ℕ) → Half (length m.classes) c → is_superclass E c d ≡ true → d < length E.classes
      by _ (old c l) s =
          (let low : d < length m.classes = wm.live_superclass c d (subst (λ (k : ClassInfo). list_any (λ s. s.0 == d) k.supers ≡ true) (old-at m.classes _ c nowhere_class l) s) in omega (arith, low, class_total m cs))
      by _ (new i) s = at i (subst (λ (k : ClassInfo). list_any (λ s. s.0 == d) k.supers ≡ true) (class_new m cs i) s)
        where
          at : (i : ℕ) → list_any (λ s. s.0 == d) (get_or (element_class (length m.metamodels) ∷ given_classes (length m.metamodels) (length m.features) cs) i nowhere_class).supers ≡ true → d < length E.classes
          at zero s = absurd (cc)
          at (suc i) s =
              (let low : d < length m.classes + (1 + length cs) = super_in (λ x. x < length m.classes + (1 + length cs)) (get_or (given_classes (length m.metamodels) (length m.features) cs) i nowhere_class).supers d
              (given_supers (λ s. s.0 < length m.classes + (1 + length cs)) (length m.metamodels) (length m.features) cs
              (all_of (has_given_supers m cs) (λ c. AllByRecursion (λ s. s.0 < length m.classes + (1 + length cs)) c.supers) cs
              (λ c g. all_of (is_given_number m cs) (λ s. s.0 < length m.classes + (1 + length cs)) c.supers (λ s n. (number_of s n).1) g) (and_left (list_all (has_given_supers m cs) cs) (list_all (has_live_kinds m cs) cs) h)) i) s in omega (arith, low, class_total m cs))

  pub are_there : (ks : List ClassInfo) → ks ≡ (extended m cs).classes → IsWellFormed m → are_live m cs ≡ true → AreLive ks
  are_there ks e wm h = subst AreLive (sym (e ∙ ap (λ (w : Metamodels). w.classes) (is_extended m cs))) (live wm h)

  -- no class above itself
  found_at : (ks : List ClassInfo) (c n x : ℕ) → cycle_from ks c n ≡ Some x → is_own_ancestor ks x ≡ true
  found_at ks c zero x e = absurd (cc)
  found_at ks c (suc n) x e = by (is_own_ancestor ks c) refl e (found_at ks (suc c) n x)
    where
      by : (t : Bool) → is_own_ancestor ks c ≡ t → (if t then Some c else cycle_from ks (suc c) n) ≡ Some x → (cycle_from ks (suc c) n ≡ Some x → is_own_ancestor ks x ≡ true) → is_own_ancestor ks x ≡ true
      by true t e more = ap (is_own_ancestor ks) (let same : x ≡ c = cc in same) ∙ t
      by false t e more = more e

  no_cycle : (ks : List ClassInfo) → IsAcyclic ks → is_some (first_cycle ks) ≡ false
  no_cycle ks alone = by (first_cycle ks) refl
    where
      by : (o : Option ℕ) → first_cycle ks ≡ o → is_some o ≡ false
      by None e = refl
      by (Some x) e = absurd (alone x (path (of_classes ks) x x (found_at ks 0 (length ks) x e)))

  acyclic_in : (ks : List ClassInfo) → ks ≡ (extended m cs).classes → IsWellFormed m → are_live m cs ≡ true → AreSound m cs → IsAcyclic ks
  acyclic_in ks e wm h sound = subst IsAcyclic (sym (e ∙ ap (λ (w : Metamodels). w.classes) (is_extended m cs)))
      (whole_acyclic m cs wm (supers_of (and_left (list_all (has_given_supers m cs) cs) (list_all (has_live_kinds m cs) cs) h)) sound.acyclic)

  pub not_found : (ks : List ClassInfo) (o : Option ℕ) → ks ≡ (extended m cs).classes → o ≡ first_cycle ks → is_some o ≡ true → IsWellFormed m → are_live m cs ≡ true → AreSound m cs → ⊥
  not_found ks o e is there wm h sound = clash there (ap is_some is ∙ no_cycle ks (acyclic_in ks e wm h sound))

  pub none_found : (ks : List ClassInfo) (o : Option ℕ) → o ≡ first_cycle ks → is_some o ≡ false → IsAcyclic ks
  none_found ks o is none = acyclic_of ks (sym is ∙ by o none)
    where
      by : (o : Option ℕ) → is_some o ≡ false → o ≡ None
      by None e = refl
      by (Some x) e = absurd (cc)

  -- names
  module _ (ks : List ClassInfo) (lists : List (List FeatureNo)) (rows : List Row) (ranks : List ℕ) (same : ks ≡ (extended m cs).classes) (tables : AreTables (of_classes ks) lists rows ranks) where
    all_same : ks ≡ E.classes
    all_same = same ∙ ap (λ (w : Metamodels). w.classes) (is_extended m cs)

    pub lists_total : length lists ≡ length m.classes + (1 + length cs)
    lists_total = tables.each ∙ ap length all_same ∙ class_total m cs

    list_is : (c : ℕ) → get_or lists c [] ≡ features_of (extended m cs) c
    list_is c = tables.features c ∙ ap (λ ks. features_of (of_classes ks) c) same ∙ features_of_same (extended m cs) c

    list_at : (i : ℕ) → get_or (drop (length m.classes + 1) lists) i [] ≡ features_of (extended m cs) (length m.classes + (1 + i))
    list_at i = get_or-drop (length m.classes + 1) lists i [] ∙ ap (λ n. get_or lists n []) (let n : length m.classes + 1 + i ≡ length m.classes + (1 + i) = omega arith in n) ∙ list_is (length m.classes + (1 + i))

    given_total : length (drop (length m.classes + 1) lists) ≡ length cs
    given_total = (let n : length (drop (length m.classes + 1) lists) ≡ length lists - (length m.classes + 1) = length-drop (length m.classes + 1) lists in omega (arith, n, lists_total))

    names_of : list_all (are_named_apart (extended m cs).features) (drop (length m.classes + 1) lists) ≡ true → (i : ℕ) → i < length cs → repeated_feature (extended m cs) (length m.classes + (1 + i)) ≡ None
    names_of h i l = none_from _ (sym (ap (are_named_apart (extended m cs).features) (list_at i)) ∙ at_all (are_named_apart (extended m cs).features) (drop (length m.classes + 1) lists) [] h i (omega (arith, l, given_total)))

    of_names : ((i : ℕ) → i < length cs → repeated_feature (extended m cs) (length m.classes + (1 + i)) ≡ None) → list_all (are_named_apart (extended m cs).features) (drop (length m.classes + 1) lists) ≡ true
    of_names f = all_at (are_named_apart (extended m cs).features) (drop (length m.classes + 1) lists) [] (λ i l. ap (are_named_apart (extended m cs).features) (list_at i) ∙ none_is _ (f i (omega (arith, l, given_total))))

    pub sound_of : IsAcyclic ks → list_all (are_named_apart (extended m cs).features) (drop (length m.classes + 1) lists) ≡ true → AreSound m cs
    sound_of alone h = record {
      acyclic = given_acyclic m cs (subst IsAcyclic all_same alone);
      names = names_of h;
    }

    pub of_sound : list_all (are_named_apart (extended m cs).features) (drop (length m.classes + 1) lists) ≡ false → AreSound m cs → ⊥
    of_sound h sound = clash (of_names sound.names) h

  -- all together
  pub given_of : are_live m cs ≡ true → are_loose cs ≡ true → AreSound m cs → AreGiven m cs
  given_of h loose sound = record {
    supers = supers_of (and_left (list_all (has_given_supers m cs) cs) (list_all (has_live_kinds m cs) cs) h);
    acyclic = sound.acyclic;
    loose = all_of has_loose_features (λ c. AllByRecursion IsLoose c.features) cs (λ c g. all_of is_loose IsLoose c.features feature_of g) loose;
    types = types_of (and_right (list_all (has_given_supers m cs) cs) (list_all (has_live_kinds m cs) cs) h);
    names = sound.names;
  }

  pub live_given : AreGiven m cs → are_live m cs ≡ true
  live_given given = and_both (list_all (has_given_supers m cs) cs) (list_all (has_live_kinds m cs) cs) (of_supers given.supers) (of_types given.types)

  pub loose_given : AreGiven m cs → are_loose cs ≡ true
  loose_given given = of_all has_loose_features (λ c. AllByRecursion IsLoose c.features) cs (λ c g. of_all is_loose IsLoose c.features of_feature g) given.loose

  pub sound_given : AreGiven m cs → AreSound m cs
  sound_given given = record { acyclic = given.acyclic; names = given.names }
