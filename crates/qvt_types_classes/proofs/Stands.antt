-- No name stands twice among the properties of a class as it is read, and those that it inherits.
use Rattle.std.proofs.Common.{◌≡◌, ◌∙◌, ℕ, suc, ◌+◌, ◌-◌, ◌<◌, ◌≤◌, List, [], ◌∷◌, ◌++◌, length, map, get_or, true, false, None, refl, ap, sym, subst, arith, ◌==◌, ◌⊎◌, inl, inr}
use Rattle.std.specs.Prelude.{is_some}
use Rattle.std.specs.List.{AllByRecursion, flat_map, list_any}
use Rattle.std.proofs.lemmas.Bool.{eqb-true, eq-eqb}
use Rattle.std.proofs.lemmas.List.{length-map, get_or_past}
use Rattle.qvt_base.specs.declared.numbers.ClassNo.{ClassNo}
use Rattle.qvt_base.specs.declared.numbers.FeatureNo.{FeatureNo}
use Rattle.qvt_cycle.specs.Successors.{among}
use Rattle.qvt_relation.specs.Closure.{Closure, directly, through}
use Rattle.qvt_metas.specs.Added.{numbers_from}
use Rattle.qvt_metamodel.specs.Checks.{repeated_feature}
use Rattle.qvt_metas.specs.Descends.{is_superclass, Inherits}
use Rattle.qvt_metas.specs.Extended.{given_classes, given_features, is_given_superclass}
use Rattle.qvt_metas.specs.Kept.{AreRanks}
use Rattle.qvt_metas.specs.Metamodels.{Metamodels, among_features, class_at, each_once, feature_at, features_in, features_of, nowhere_class, nowhere_feature}
use Rattle.qvt_metamodel.specs.Names.{is_among, repeated}
use Rattle.qvt_metamodel.specs.declared.given.ClassData.{ClassData}
use Rattle.qvt_metamodel.specs.declared.info.ClassInfo.{ClassInfo}
use Rattle.qvt_metamodel.specs.declared.info.FeatureInfo.{FeatureInfo}
use Rattle.qvt_metamodel.proofs.Ancestors.{Found, found}
use Rattle.qvt_metamodel.proofs.Bools.{or_cases, or_left, or_right, clash}
use Rattle.qvt_metamodel.proofs.Halves.{Half, old, new, half, new-at}
use Rattle.qvt_metamodel.proofs.Infos.{among_numbers, map-at_all}
use Rattle.qvt_metamodel.proofs.Owners.{Declared as Owner, declared as owner, among-flat, among-append, once-from}
use Rattle.qvt_metas.proofs.Extends.{W, class_new, class_total, is_extended}
use Rattle.qvt_meta_given.specs.Given.{AreSound}
use Rattle.qvt_types_classes.specs.declared.declared.Property.{Property}
use Rattle.qvt_types_classes.specs.declared.declared.Declared.{Declared}
use Rattle.qvt_types_classes.specs.Inherited.{names_of, no_property}
use Rattle.qvt_types_classes.specs.Classes.{class_data, feature_data, super_number}
use Rattle.qvt_types_classes.proofs.Once.{all_among, all_get, append_fresh, fresh_names, name_among, names_apart, names_differ, numbers_fresh, once_fresh}
use Rattle.qvt_types_classes.proofs.Cut.{nothing, at, closure_map, Over, over_there}
use Rattle.qvt_types_classes.proofs.Numbering.{before, given, given_at, given_count, given_name, given_supers_at, IsOf, of_there, one_class, width}
use Rattle.qvt_types_classes.proofs.Ancestry.{cut, fresh_above, inherited, inherits, IsRead, kept, M, name_of, Owned}

-- classes ds, of which none is above itself, and the same as they are read
module _ (ds rs : List Declared) (alone : (i : ℕ) → Closure (Over ds) i i → ⊥) (ranks : List ℕ) (ranked : AreRanks (M ds) ranks) (all_read : (i : ℕ) → i < length ds → IsRead ds i (at rs i)) (as_many : length rs ≡ length ds) where
  -- a superclass that is read was written
  written_over : (i j : ℕ) → Over rs i j → Over ds i j
  written_over i j h = by (all_read i (let l : i < length rs = over_there rs i j h in omega (arith, l, as_many)))
    where
      by : IsRead ds i (at rs i) → Over ds i j
      by (cut twice none once) = clash h (ap (λ ss. among ss j) none)
      by (kept fresh same apart owned once) = ap (λ ss. among ss j) (sym same) ∙ h

  written_path : {i j : ℕ} → Closure (Over rs) i j → Closure (Over ds) i j
  written_path p = closure_map (Over rs) (Over ds) written_over p

  pub read_alone : (i : ℕ) → Closure (Over rs) i i → ⊥
  read_alone i p = alone i (written_path p)

  -- no name stands twice among the properties of a class
  once_in : (i : ℕ) → i < length ds → repeated [] (names_of (at rs i).properties) ≡ None
  once_in i l = by (all_read i l)
    where
      by : IsRead ds i (at rs i) → repeated [] (names_of (at rs i).properties) ≡ None
      by (cut twice none once) = once
      by (kept fresh same apart owned once) = once

  named_at : (i k : ℕ) → get_or (names_of (at rs i).properties) k [] ≡ (get_or (at rs i).properties k no_property).name
  named_at i k = map-at_all (λ (p : Property). p.name) (at rs i).properties k no_property

  abbrev name : ℕ → ℕ → List ℕ
  name i k = (get_or (at rs i).properties k no_property).name

  -- of a class that inherits no two properties of one name
  module _ (i : ℕ) (fresh : repeated [] (map (λ g. name_of ds g.0) (inherited ds i)) ≡ None) where
    owned_above : (j k : ℕ) → Closure (Over rs) i j → k < width rs j → Owned ds j (get_or (at rs j).properties k no_property)
    owned_above j k p l = by (all_read j (of_width j k l))
      where
        of_width : (j k : ℕ) → k < width rs j → j < length ds
        of_width j k l = (let there : j < length rs = of_there rs j (before rs j + k) (omega arith, omega (arith, l)) in omega (arith, there, as_many))

        by : IsRead ds j (at rs j) → Owned ds j (get_or (at rs j).properties k no_property)
        by (cut twice none once) = clash twice (ap is_some (fresh_above ds ranks ranked i j (written_path p) fresh))
        by (kept _ same apart owned once) = all_get (Owned ds j) (at rs j).properties k no_property owned l

    inherits_it : (j k : ℕ) → Closure (Over rs) i j → (l : k < width rs j) → (o : Owned ds j (get_or (at rs j).properties k no_property)) → among_features o.number (inherited ds i) ≡ true
    inherits_it j k p l o = inherits ds ranks ranked i j o.number (written_path p) o.own

    two_above : (j1 k1 j2 k2 : ℕ) → Closure (Over rs) i j1 → Closure (Over rs) i j2 → k1 < width rs j1 → k2 < width rs j2 → name j1 k1 ≡ name j2 k2 → j1 ≡ j2
    two_above j1 k1 j2 k2 p1 p2 l1 l2 same =
        let o1 : Owned ds j1 (get_or (at rs j1).properties k1 no_property) = owned_above j1 k1 p1 l1 in
        let o2 : Owned ds j2 (get_or (at rs j2).properties k2 no_property) = owned_above j2 k2 p2 l2 in
        let one : o1.number ≡ o2.number = names_apart (name_of ds) (inherited ds i) fresh o1.number o2.number (inherits_it j1 k1 p1 l1 o1) (inherits_it j2 k2 p2 l2 o2) (o1.named ∙ same ∙ sym o2.named) in
        one_class ds j1 j2 o1.number o1.own (subst (IsOf ds j2) (sym one) o2.own)

    own_and_above : AllByRecursion (λ p. is_among p.name (map (λ g. name_of ds g.0) (inherited ds i)) ≡ false) (at rs i).properties → (k1 j2 k2 : ℕ) → Closure (Over rs) i j2 → k1 < width rs i → k2 < width rs j2 → name i k1 ≡ name j2 k2 → ⊥
    own_and_above apart k1 j2 k2 p2 l1 l2 same =
        let o2 : Owned ds j2 (get_or (at rs j2).properties k2 no_property) = owned_above j2 k2 p2 l2 in
        clash (subst (λ n. is_among n (map (λ g. name_of ds g.0) (inherited ds i)) ≡ true) (o2.named ∙ sym same) (name_among (name_of ds) (inherited ds i) o2.number (inherits_it j2 k2 p2 l2 o2)))
        (all_get (λ p. is_among p.name (map (λ g. name_of ds g.0) (inherited ds i)) ≡ false) (at rs i).properties k1 no_property apart l1)

  -- a class that is this one, or above it
  abbrev pub Up : ℕ → ℕ → Type 0
  Up i j = (j ≡ i) ⊎ Closure (Over rs) i j

  none_above : (i j : ℕ) → (at rs i).supers ≡ [] → Up i j → j ≡ i
  none_above i j none (inl same) = same
  none_above i j none (inr p) = absurd (first p refl)
    where
      nowhere : (x y : ℕ) → x ≡ i → Over rs x y → ⊥
      nowhere x y e h = clash h (ap (λ n. among (at rs n).supers y) e ∙ ap (λ ss. among ss y) none)

      first : {x y : ℕ} → Closure (Over rs) x y → x ≡ i → ⊥
      first (directly {x} {y} h) e = nowhere x y e h
      first (through {x} {y} {z} h more) e = nowhere x y e h

  up_apart : (i : ℕ) → i < length ds → (j1 k1 j2 k2 : ℕ) → Up i j1 → Up i j2 → k1 < width rs j1 → k2 < width rs j2 → name j1 k1 ≡ name j2 k2 → j1 ≡ j2
  up_apart i low j1 k1 j2 k2 u1 u2 l1 l2 same = by (all_read i low)
    where
      by : IsRead ds i (at rs i) → j1 ≡ j2
      by (cut twice none once) = none_above i j1 none u1 ∙ sym (none_above i j2 none u2)
      by (kept fresh _ apart owned once) = both u1 u2
        where
          both : Up i j1 → Up i j2 → j1 ≡ j2
          both (inl e1) (inl e2) = e1 ∙ sym e2
          both (inl e1) (inr p2) = absurd (own_and_above i fresh apart k1 j2 k2 p2 (subst (λ j. k1 < width rs j) e1 l1) l2 (ap (λ j. name j k1) (sym e1) ∙ same))
          both (inr p1) (inl e2) = absurd (own_and_above i fresh apart k2 j1 k1 p1 (subst (λ j. k2 < width rs j) e2 l2) l1 (ap (λ j. name j k2) (sym e2) ∙ sym same))
          both (inr p1) (inr p2) = two_above i fresh j1 k1 j2 k2 p1 p2 l1 l2 same

  super_in : (b y : ℕ) (ss : List ℕ) → list_any (λ s. s.0 == y) (map (super_number b) ss) ≡ true → (x : ℕ) × (y ≡ b + suc x) × (among ss x ≡ true)
  super_in b y [] h = absurd (cc)
  super_in b y (s ∷ ss) h = elim (or_cases (b + (1 + s) == y) (list_any (λ s. s.0 == y) (map (super_number b) ss)) h) [
    | inl e ↦ (s, (let same : b + (1 + s) ≡ y = eqb-true (b + (1 + s)) y e in omega (arith, same)), or_left (s == s) (among ss s) (eq-eqb s s refl))
    | inr more ↦ (let r : (x : ℕ) × (y ≡ b + suc x) × (among ss x ≡ true) = super_in b y ss more in (r.0, r.1, or_right (s == r.0) (among ss r.0) r.2))
  ]

  module _ (m : Metamodels) where
    abbrev B : ℕ
    B = length m.classes

    abbrev F : ℕ
    F = length m.features

    abbrev pub cs : List ClassData
    cs = given B rs

    abbrev V : Metamodels
    V = W m cs

    cs_count : length cs ≡ length rs
    cs_count = length-map rs (class_data B)

    supers_are : (i : ℕ) → (class_at V (B + suc i)).supers ≡ map (super_number B) (at rs i).supers
    supers_are i = ap (λ (k : ClassInfo). k.supers) (class_new m cs (suc i)) ∙ given_supers_at B (length m.metamodels) F rs i

    super_of : (i y : ℕ) → list_any (λ s. s.0 == y) (class_at V (B + suc i)).supers ≡ true → (x : ℕ) × (y ≡ B + suc x) × Over rs i x
    super_of i y h = super_in B y (at rs i).supers (ap (λ (ss : List ClassNo). list_any (λ s. s.0 == y) ss) (sym (supers_are i)) ∙ h)

    above_new : {c d : ℕ} → Inherits V c d → (i : ℕ) → c ≡ B + suc i → (j : ℕ) × (d ≡ B + suc j) × Closure (Over rs) i j
    above_new (directly {x} {y} h) i at =
        let s : (j : ℕ) × (y ≡ B + suc j) × Over rs i j = super_of i y (subst (λ c. is_superclass V c y ≡ true) at h) in
        (s.0, s.1, directly s.2)
    above_new (through {x} {y} {z} h p) i at =
        let s : (j : ℕ) × (y ≡ B + suc j) × Over rs i j = super_of i y (subst (λ c. is_superclass V c y ≡ true) at h) in
        let more : (j : ℕ) × (z ≡ B + suc j) × Closure (Over rs) s.0 j = above_new p s.0 s.1 in
        (more.0, more.1, through {z = more.0} s.2 more.2)

    -- the number is that of a property of the class at j
    abbrev IsNew : ℕ → ℕ → Type 0
    IsNew j x = (F + before rs j ≤ x) × (x < F + before rs j + width rs j)

    own_is : (j : ℕ) → j < length rs → (class_at V (B + suc j)).own ≡ numbers_from (F + before rs j) (width rs j)
    own_is j l =
        ap (λ (k : ClassInfo). k.own) (class_new m cs (suc j) ∙ given_at B (length m.metamodels) F rs j l)
        ∙ ap (numbers_from (F + before rs j)) (length-map (at rs j).properties feature_data)

    own_new : (j x : ℕ) → among_features x (class_at V (B + suc j)).own ≡ true → IsNew j x
    own_new j x h = by j (half (length rs) j) h
      where
        by : (j : ℕ) → Half (length rs) j → among_features x (class_at V (B + suc j)).own ≡ true → IsNew j x
        by _ (old j l) h = among_numbers (F + before rs j) (width rs j) x (ap (among_features x) (sym (own_is j l)) ∙ h)
        by _ (new k) h =
            clash h (ap (λ (c : ClassInfo). among_features x c.own) (class_new m cs (suc (length rs + k))
            ∙ get_or_past (given_classes (length m.metamodels) F cs) (length rs + k) nowhere_class (omega (arith, given_count B (length m.metamodels) F rs))))

    own_at : (x c y : ℕ) → c ≡ y → among_features x (class_at V c).own ≡ true → among_features x (class_at V y).own ≡ true
    own_at x c y same own = subst (λ z. among_features x (class_at V z).own ≡ true) same own

    abbrev inherited_new : ℕ → List FeatureNo
    inherited_new i = each_once [] (flat_map (λ s. features_in (B + length cs) V s.0) (class_at V (B + suc i)).supers)

    source_new : (i x : ℕ) → among_features x (inherited_new i) ≡ true → (j : ℕ) × IsNew j x × Closure (Over rs) i j
    source_new i x h =
        let ss = (class_at V (B + suc i)).supers in
        let n = B + length cs in
        let f : Found (λ s. among_features x (features_in n V s)) ss =
        found (λ s. among_features x (features_in n V s)) ss (sym (among-flat (λ s. features_in n V s) ss x) ∙ once-from [] (flat_map (λ s. features_in n V s.0) ss) x h) in
        let o : Owner V f.class x = owner V n f.class x f.passes in
        let s : (y : ℕ) × (f.class ≡ B + suc y) × Over rs i y = super_of i f.class f.there in
        let at : (j : ℕ) × (o.class ≡ B + suc j) × Closure (Over rs) i j = elim o.up [
          | inl same ↦ (s.0, sym same ∙ s.1, directly s.2)
          | inr up ↦ (let more : (j : ℕ) × (o.class ≡ B + suc j) × Closure (Over rs) s.0 j = above_new up s.0 s.1 in (more.0, more.1, through {z = more.0} s.2 more.2))
        ] in
        (at.0, own_new at.0 x (own_at x o.class (B + suc at.0) at.1 o.own), at.2)

    features_new : (i : ℕ) → i < length rs → features_of V (B + suc i) ≡ inherited_new i ++ numbers_from (F + before rs i) (width rs i)
    unfolding features_of
    features_new i l =
        ap (λ k. features_in k V (B + suc i)) (let same : length V.classes ≡ suc (B + length cs) = omega (arith, class_total m cs) in same)
        ∙ ap (λ own. inherited_new i ++ own) (own_is i l)

    abbrev name_new : ℕ → List ℕ
    name_new x = (feature_at V x).name

    named_new : (j k : ℕ) → k < width rs j → name_new (F + (before rs j + k)) ≡ name j k
    named_new j k l = ap (λ (x : FeatureInfo). x.name) (new-at m.features (given_features (B + 1) cs) (before rs j + k) nowhere_feature) ∙ given_name B (B + 1) rs j k l

    -- a property of the class at i, or one that it inherits
    record Held (i x : ℕ) : Type 0 where
      class : ℕ
      place : ℕ
      within : place < width rs class
      is : x ≡ F + (before rs class + place)
      up : Up i class

    held : (i j x : ℕ) → IsNew j x → Up i j → Held i x
    held i j x h up = record { class = j; place = x - (F + before rs j); within = omega (arith, h.0, h.1); is = omega (arith, h.0); up = up }

    held_apart : (i : ℕ) → i < length ds → (f g : ℕ) → Held i f → Held i g → name_new f ≡ name_new g → f ≡ g
    held_apart i low f g a b same =
        let names : name a.class a.place ≡ name b.class b.place =
        sym (named_new a.class a.place a.within) ∙ ap name_new (sym a.is) ∙ same ∙ ap name_new b.is ∙ named_new b.class b.place b.within in
        let classes : a.class ≡ b.class = up_apart i low a.class a.place b.class b.place a.up b.up a.within b.within names in
        let there : a.class < length rs = of_there rs a.class (before rs a.class + a.place) (omega arith, omega (arith, a.within)) in
        let other : b.place < width rs a.class = subst (λ j. b.place < width rs j) (sym classes) b.within in
        let ns = names_of (at rs a.class).properties in
        let count : length ns ≡ width rs a.class = length-map (at rs a.class).properties (λ (p : Property). p.name) in
        let places : a.place ≡ b.place =
        names_differ ns (once_in a.class (omega (arith, there, as_many))) a.place b.place (omega (arith, a.within, count)) (omega (arith, other, count))
        (named_at a.class a.place ∙ names ∙ ap (λ j. name j b.place) (sym classes) ∙ sym (named_at a.class b.place)) in
        a.is ∙ (λ t. F + (before rs (classes t) + places t)) ∙ sym b.is

    fresh_new : (i : ℕ) → i < length rs → repeated [] (map (λ g. name_new g.0) (features_of V (B + suc i))) ≡ None
    fresh_new i l =
        let own = numbers_from (F + before rs i) (width rs i) in
        subst (λ (gs : List FeatureNo). repeated [] (map (λ g. name_new g.0) gs) ≡ None) (sym (features_new i l))
        (fresh_names name_new (Held i) (held_apart i (omega (arith, l, as_many))) [] (inherited_new i ++ own) tt
        (all_among (Held i) (inherited_new i ++ own) (λ x h. elim (or_cases (among_features x (inherited_new i)) (among_features x own) (sym (among-append x (inherited_new i) own) ∙ h)) [
          | inl a ↦ (let s : (j : ℕ) × IsNew j x × Closure (Over rs) i j = source_new i x a in held i s.0 x s.1 (inr s.2))
          | inr b ↦ held i i x (among_numbers (F + before rs i) (width rs i) x b) (inl refl)
        ]))
        (append_fresh [] (inherited_new i) own (once_fresh [] (flat_map (λ s. features_in (B + length cs) V s.0) (class_at V (B + suc i)).supers))
        (numbers_fresh (inherited_new i) (F + before rs i) (width rs i) (λ x h low high.
        (let s : (j : ℕ) × IsNew j x × Closure (Over rs) i j = source_new i x h in
        let same : s.0 ≡ i = one_class rs s.0 i (x - F) (omega (arith, s.1.0), omega (arith, s.1.0, s.1.1)) (omega (arith, low), omega (arith, low, high)) in
        read_alone i (subst (λ j. Closure (Over rs) i j) same s.2))))))

    given_over : (i j : ℕ) → is_given_superclass m cs i j ≡ true → Over rs i j
    given_over i j h =
        let r : (x : ℕ) × (B + (1 + j) ≡ B + suc x) × Over rs i x =
        super_in B (B + (1 + j)) (at rs i).supers (ap (λ (c : ClassData). list_any (λ s. s.0 == B + (1 + j)) c.supers) (sym (map-at_all (class_data B) rs i nothing)) ∙ h) in
        subst (λ x. Over rs i x) (let same : r.0 ≡ j = omega (arith, r.1) in same) r.2

    pub sound : AreSound m cs
    sound = record {
      acyclic = λ i p. read_alone i (closure_map _ (Over rs) given_over p);
      names = λ i l. subst (λ w. repeated_feature w (B + (1 + i)) ≡ None) (sym (is_extended m cs))
          (subst (λ n. repeated_feature V n ≡ None) (let same : B + suc i ≡ B + (1 + i) = omega arith in same) (fresh_new i (omega (arith, l, cs_count))));
    }
