-- Which properties a class inherits, and the class as its name is read.
use Rattle.std.proofs.Common.{◌≡◌, ◌∙◌, ℕ, zero, suc, ◌+◌, ◌-◌, ◌<◌, List, [], ◌∷◌, ◌++◌, length, map, get_or, take, drop, Bool, true, false, Option, Some, None, refl, ap, sym, subst, arith, ◌⊎◌, inl, inr}
use Rattle.std.specs.Prelude.{if◌then◌else◌, is_some, slice_index}
use Rattle.std.specs.List.{AllByRecursion, flat_map}
use Rattle.std.proofs.Math.Seq.{take-append_seam, drop-append_seam}
use Rattle.std.proofs.lemmas.List.{length-append, length-map, map-append, get_or_past}
use Rattle.std.proofs.lemmas.List.FromFn.{get_or-map-range_with_len}
use Rattle.qvt_base.specs.declared.numbers.FeatureNo.{FeatureNo}
use Rattle.qvt_relation.specs.Closure.{Closure, directly, through}
use Rattle.qvt_relation.proofs.Closures.{join}
use Rattle.qvt_metas.specs.Added.{numbers_from}
use Rattle.qvt_metas.specs.Descends.{is_superclass, Inherits}
use Rattle.qvt_metas.specs.Kept.{AreRanks}
use Rattle.qvt_metas.specs.Metamodels.{Metamodels, among_features, class_at, each_once, features_in, features_of, nowhere_class}
use Rattle.qvt_metamodel.specs.Names.{is_among, repeated}
use Rattle.qvt_metamodel.specs.declared.info.ClassInfo.{ClassInfo}
use Rattle.qvt_metamodel.proofs.Ancestors.{Found, found, passing, begins}
use Rattle.qvt_metamodel.proofs.Bools.{ap2, clash}
use Rattle.qvt_metamodel.proofs.Halves.{Half, old, new, half}
use Rattle.qvt_metamodel.proofs.Infos.{among_numbers, length-numbers_from}
use Rattle.qvt_metamodel.proofs.Lookups.{none_repeated, repeated-fewer}
use Rattle.qvt_metamodel.proofs.Owners.{Declared as Owner, declared as owner, among-flat, once-from, once-has, includes, all-there}
use Rattle.qvt_metas.specs.Tables.{of_classes}
use Rattle.qvt_types_data.specs.declared.refusal.TypingRefusal.{TypingRefusal}
use Rattle.qvt_types_data.specs.declared.refusal.RefusalKind.TheVariants.{SameName}
use Rattle.qvt_types_paths.specs.Told.{told_if}
use Rattle.qvt_types_classes.specs.declared.declared.Property.{Property}
use Rattle.qvt_types_classes.specs.declared.declared.Declared.{Declared}
use Rattle.qvt_types_classes.specs.Inherited.{all_properties, firsts, inherits_twice, names_of, no_property, numbered_from, own_told, properties_at, property_at, property_lists, read_class, read_from, same_told}
use Rattle.qvt_types_classes.proofs.Once.{all_map, all_among, firsts_after, firsts_all, firsts_new, firsts_once, fresh_names, names_apart, once_fresh}
use Rattle.qvt_types_classes.proofs.Cut.{at, closure_map, Over, from_there, is_over, numbered_count}
use Rattle.qvt_types_classes.proofs.Numbering.{before, width, IsOf, all_numbers, numbered_at, numbers_have, of_there, property_is}

-- lists whose first part is inherited
module _ (xs ys : List Property) (d : Declared) (same : length ys ≡ length d.properties) where
  inherited_part : length (xs ++ ys) - length d.properties ≡ length xs
  inherited_part = omega (arith, same, length-append xs ys)

  twice_is : inherits_twice (xs ++ ys) d ≡ is_some (repeated [] (names_of xs))
  unfolding inherits_twice
  twice_is = ap (λ n. is_some (repeated [] (names_of (take n (xs ++ ys))))) inherited_part ∙ ap (λ ps. is_some (repeated [] (names_of ps))) (take-append_seam xs ys)

  -- what is read of a class that inherits two properties of one name, and of another
  pub read_cut : inherits_twice (xs ++ ys) d ≡ true → read_class (xs ++ ys) d ≡ record { name = d.name; supers = []; properties = firsts [] (xs ++ ys); place = d.place }
  unfolding read_class
  read_cut h = ap (λ b. if b
      then (let cut : Declared = record { name = d.name; supers = []; properties = firsts [] (xs ++ ys); place = d.place } in cut)
      else record { name = d.name; supers = d.supers; properties = drop (length (xs ++ ys) - length d.properties) (firsts [] (xs ++ ys)); place = d.place }) h

  pub read_kept : repeated [] (names_of xs) ≡ None → read_class (xs ++ ys) d ≡ record { name = d.name; supers = d.supers; properties = firsts (names_of xs) ys; place = d.place }
  unfolding read_class
  read_kept fresh =
      ap (λ b. if b
      then (let cut : Declared = record { name = d.name; supers = []; properties = firsts [] (xs ++ ys); place = d.place } in cut)
      else record { name = d.name; supers = d.supers; properties = drop (length (xs ++ ys) - length d.properties) (firsts [] (xs ++ ys)); place = d.place }) (twice_is ∙ ap is_some fresh)
      ∙ ap (λ (ps : List Property). (let kept : Declared = record { name = d.name; supers = d.supers; properties = ps; place = d.place } in kept)) (
      ap2 (λ n ps. drop n ps) inherited_part (firsts_after [] xs ys fresh)
      ∙ drop-append_seam xs (firsts (names_of xs) ys))

own_silent : (earlier : List (List ℕ)) (ps : List Property) → repeated earlier (names_of ps) ≡ None → own_told earlier ps ≡ []
own_silent earlier [] fresh = refl
own_silent earlier (p ∷ ps) fresh =
    let two : (is_among p.name earlier ≡ false) × (repeated (earlier ++ p.name ∷ []) (names_of ps) ≡ None) =
    none_repeated (is_among p.name earlier) p.name (repeated (earlier ++ p.name ∷ []) (names_of ps)) fresh in
    ap2 (λ (b : Bool) (rs : List TypingRefusal). told_if b SameName p.place ++ rs) two.0 (own_silent (earlier ++ p.name ∷ []) ps two.1)

-- nothing is told of a class whose properties all differ in their names
pub silent : (xs ys : List Property) (d : Declared) → length ys ≡ length d.properties → repeated [] (names_of xs) ≡ None → repeated (names_of xs) (names_of d.properties) ≡ None → same_told (xs ++ ys) d ≡ []
unfolding same_told
silent xs ys d same fresh own = ap2 (λ (b : Bool) (rs : List TypingRefusal). told_if b SameName d.place ++ rs) (twice_is xs ys d same ∙ ap is_some fresh)
    (ap (λ n. own_told (names_of (take n (xs ++ ys))) d.properties) (inherited_part xs ys d same)
    ∙ ap (λ (ps : List Property). own_told (names_of ps) d.properties) (take-append_seam xs ys)
    ∙ own_silent (names_of xs) d.properties own)

none_some : (o : Option (List ℕ)) → is_some o ≡ false → o ≡ None
none_some None h = refl
none_some (Some x) h = absurd (cc)

pub names_of_map : (p : FeatureNo → Property) (gs : List FeatureNo) → names_of (map p gs) ≡ map (λ g. (p g).name) gs
names_of_map p [] = refl
names_of_map p (g ∷ gs) = ap (λ l. (p g).name ∷ l) (names_of_map p gs)

pub read_count : (all : List Property) (lists : List (List FeatureNo)) (k : ℕ) (ds : List Declared) → length (read_from all lists k ds) ≡ length ds
read_count all lists k [] = refl
read_count all lists k (d ∷ ds) = ap suc (read_count all lists (k + 1) ds)

read_at : (all : List Property) (lists : List (List FeatureNo)) (k : ℕ) (ds : List Declared) (i : ℕ) → i < length ds → at (read_from all lists k ds) i ≡ read_class (properties_at all lists (k + i)) (at ds i)
read_at all lists k [] i l = absurd (omega (arith, l))
read_at all lists k (d ∷ ds) zero l = ap (λ n. read_class (properties_at all lists n) d) (let same : k ≡ k + 0 = omega arith in same)
read_at all lists k (d ∷ ds) (suc i) l =
    read_at all lists (k + 1) ds i (omega (arith, l)) ∙ ap (λ n. read_class (properties_at all lists n) (at ds i)) (let same : k + 1 + i ≡ k + suc i = omega arith in same)

module _ (ds : List Declared) where
  abbrev pub M : Metamodels
  M = of_classes (numbered_from 0 ds)

  -- the numbers of the properties that the class inherits
  abbrev pub inherited : ℕ → List FeatureNo
  inherited i = each_once [] (flat_map (λ s. features_in (length ds - 1) M s.0) (class_at M i).supers)

  abbrev pub name_of : ℕ → List ℕ
  name_of x = (property_at (all_properties ds) (record { 0 = x })).name

  pub named : (i k : ℕ) → k < width ds i → name_of (before ds i + k) ≡ (get_or (at ds i).properties k no_property).name
  named i k l = ap (λ (p : Property). p.name) (property_is ds i k l)

  own_is : (i : ℕ) → i < length ds → (class_at M i).own ≡ numbers_from (before ds i) (width ds i)
  own_is i l = ap (λ (k : ClassInfo). k.own) (numbered_at 0 ds i l) ∙ ap (λ n. numbers_from n (width ds i)) (let same : 0 + before ds i ≡ before ds i = omega arith in same)

  features_are : (i : ℕ) → i < length ds → features_of M i ≡ inherited i ++ numbers_from (before ds i) (width ds i)
  unfolding features_of
  features_are i l =
      ap (λ k. features_in k M i) (let same : length (numbered_from 0 ds) ≡ suc (length ds - 1) = omega (arith, l, numbered_count 0 ds) in same)
      ∙ ap (λ own. inherited i ++ own) (own_is i l)

  own_of : (i x : ℕ) → among_features x (class_at M i).own ≡ true → IsOf ds i x
  own_of i x h = by i (half (length ds) i) h
    where
      by : (i : ℕ) → Half (length ds) i → among_features x (class_at M i).own ≡ true → IsOf ds i x
      by _ (old i l) h = among_numbers (before ds i) (width ds i) x (ap (among_features x) (sym (own_is i l)) ∙ h)
      by _ (new k) h = clash h (ap (λ (c : ClassInfo). among_features x c.own) (get_or_past (numbered_from 0 ds) (length ds + k) nowhere_class (omega (arith, numbered_count 0 ds))))

  over_of : {i j : ℕ} → Inherits M i j → Closure (Over ds) i j
  over_of p = closure_map (λ x y. is_superclass M x y ≡ true) (Over ds) (λ x y h. sym (is_over ds x y) ∙ h) p

  inherits_of : {i j : ℕ} → Closure (Over ds) i j → Inherits M i j
  inherits_of p = closure_map (Over ds) (λ x y. is_superclass M x y ≡ true) (λ x y h. is_over ds x y ∙ h) p

  -- where an inherited property comes from
  pub record Source (i x : ℕ) : Type 0 where
    pub class : ℕ
    pub own : IsOf ds class x
    pub path : Closure (Over ds) i class

  pub source : (i x : ℕ) → among_features x (inherited i) ≡ true → Source i x
  source i x h =
      let ss = (class_at M i).supers in
      let n = length ds - 1 in
      let f : Found (λ s. among_features x (features_in n M s)) ss =
      found (λ s. among_features x (features_in n M s)) ss (sym (among-flat (λ s. features_in n M s) ss x) ∙ once-from [] (flat_map (λ s. features_in n M s.0) ss) x h) in
      let o : Owner M f.class x = owner M n f.class x f.passes in
      let step : Over ds i f.class = sym (is_over ds i f.class) ∙ f.there in
      record {
        class = o.class;
        own = own_of o.class x o.own;
        path = elim o.up [
          | inl same ↦ directly (subst (λ c. Over ds i c) same step)
          | inr up ↦ through step (over_of up)
        ];
      }

  module _ (ranks : List ℕ) (ranked : AreRanks M ranks) where
    -- a class inherits the properties of those above it
    pub inherits : (i j x : ℕ) → Closure (Over ds) i j → IsOf ds j x → among_features x (inherited i) ≡ true
    inherits i j x p own =
        let n = length ds - 1 in
        let ss = (class_at M i).supers in
        let low : i < length ds = from_there ds p in
        let s : (s : ℕ) × (is_superclass M i s ≡ true) × ((s ≡ j) ⊎ Inherits M s j) = begins M i j (inherits_of p) in
        let less : slice_index ranks s.0 < slice_index ranks i = all-there (λ s. slice_index ranks s < slice_index ranks i) ss s.0 (ranked.rise i) s.1 in
        let bound : slice_index ranks i < length (numbered_from 0 ds) = ranked.bounded i (omega (arith, low, numbered_count 0 ds)) in
        let rank : slice_index ranks s.0 < n = omega (arith, less, bound, numbered_count 0 ds) in
        let there : among_features x (class_at M j).own ≡ true = ap (among_features x) (own_is j (of_there ds j x own)) ∙ numbers_have (before ds j) (width ds j) x own.0 own.1 in
        let has : among_features x (features_in n M s.0) ≡ true = includes M ranks ranked n j s.0 x rank s.2 there in
        let flat : among_features x (flat_map (λ s. features_in n M s.0) ss) ≡ true =
        among-flat (λ s. features_in n M s) ss x ∙ passing (λ s. among_features x (features_in n M s)) ss s.0 s.1 has in
        elim (once-has [] (flat_map (λ s. features_in n M s.0) ss) x flat) [ inl never ↦ absurd (cc) | inr after ↦ after ]

    -- what is above a class that inherits no two properties of one name does not do so either
    pub fresh_above : (i j : ℕ) → Closure (Over ds) i j → repeated [] (map (λ g. name_of g.0) (inherited i)) ≡ None → repeated [] (map (λ g. name_of g.0) (inherited j)) ≡ None
    fresh_above i j p fresh =
        fresh_names name_of (λ x. among_features x (inherited i) ≡ true) (λ f g hf hg same. names_apart name_of (inherited i) fresh f g hf hg same) [] (inherited j) tt
        (all_among (λ x. among_features x (inherited i) ≡ true) (inherited j) (λ x h. (let s : Source j x = source j x h in inherits i s.class x (join (Over ds) p s.path) s.own)))
        (once_fresh [] (flat_map (λ s. features_in (length ds - 1) M s.0) (class_at M j).supers))

  -- a property of this name is one of the class
  pub record Owned (i : ℕ) (p : Property) : Type 0 where
    pub number : ℕ
    pub own : IsOf ds i number
    pub named : name_of number ≡ p.name

  -- how a class is read: it inherits two properties of one name, or none
  pub data IsRead (i : ℕ) (r : Declared) : Type 0 where
    cut : is_some (repeated [] (map (λ g. name_of g.0) (inherited i))) ≡ true → r.supers ≡ [] → repeated [] (names_of r.properties) ≡ None → IsRead i r
    kept : repeated [] (map (λ g. name_of g.0) (inherited i)) ≡ None → r.supers ≡ (at ds i).supers
        → AllByRecursion (λ p. is_among p.name (map (λ g. name_of g.0) (inherited i)) ≡ false) r.properties → AllByRecursion (Owned i) r.properties
        → repeated [] (names_of r.properties) ≡ None → IsRead i r

  module _ (i : ℕ) (low : i < length ds) where
    abbrev all : List Property
    all = all_properties ds

    abbrev pub xs : List Property
    xs = map (property_at all) (inherited i)

    abbrev pub ys : List Property
    ys = map (property_at all) (numbers_from (before ds i) (width ds i))

    pub own_width : length ys ≡ width ds i
    own_width = length-map (numbers_from (before ds i) (width ds i)) (property_at all) ∙ length-numbers_from (before ds i) (width ds i)

    -- the numbers of its properties: its own are the last
    pub list_is : get_or (property_lists (numbered_from 0 ds)) i [] ≡ inherited i ++ numbers_from (before ds i) (width ds i)
    list_is =
        get_or-map-range_with_len (features_of M) 0 (length (numbered_from 0 ds)) i i [] (omega (arith, low, numbered_count 0 ds)) (let same : 0 + i ≡ i = omega arith in same)
        ∙ features_are i low

    pub parts : properties_at all (property_lists (numbered_from 0 ds)) i ≡ xs ++ ys
    parts = ap (map (property_at all)) list_is ∙ map-append (property_at all) (inherited i) (numbers_from (before ds i) (width ds i))

    names_are : names_of xs ≡ map (λ g. name_of g.0) (inherited i)
    names_are = names_of_map (property_at all) (inherited i)

    pub is_read : (r : Declared) → r ≡ read_class (properties_at all (property_lists (numbered_from 0 ds)) i) (at ds i) → IsRead i r
    is_read r e = by (repeated [] (names_of xs)) refl
      where
        is : r ≡ read_class (xs ++ ys) (at ds i)
        is = e ∙ ap (λ ps. read_class ps (at ds i)) parts

        by : (o : Option (List ℕ)) → repeated [] (names_of xs) ≡ o → IsRead i r
        by (Some n) h =
            let to : r ≡ record { name = (at ds i).name; supers = []; properties = firsts [] (xs ++ ys); place = (at ds i).place } =
            is ∙ read_cut xs ys (at ds i) own_width (twice_is xs ys (at ds i) own_width ∙ ap is_some h) in
            cut (ap (λ ns. is_some (repeated [] ns)) (sym names_are) ∙ ap is_some h) (ap (λ (x : Declared). x.supers) to)
            (ap (λ (x : Declared). repeated [] (names_of x.properties)) to ∙ firsts_once [] (xs ++ ys))
        by None h =
            let to : r ≡ record { name = (at ds i).name; supers = (at ds i).supers; properties = firsts (names_of xs) ys; place = (at ds i).place } =
            is ∙ read_kept xs ys (at ds i) own_width h in
            let held : r.properties ≡ firsts (names_of xs) ys = ap (λ (x : Declared). x.properties) to in
            kept (ap (repeated []) (sym names_are) ∙ h) (ap (λ (x : Declared). x.supers) to)
            (subst (λ ps. AllByRecursion (λ p. is_among p.name (map (λ g. name_of g.0) (inherited i)) ≡ false) ps) (sym held)
            (subst (λ ns. AllByRecursion (λ p. is_among p.name ns ≡ false) (firsts (names_of xs) ys)) names_are (firsts_new (names_of xs) ys)))
            (subst (AllByRecursion (Owned i)) (sym held) (firsts_all (Owned i) (names_of xs) ys
            (all_map (Owned i) (property_at all) (numbers_from (before ds i) (width ds i)) (all_numbers (λ x. Owned i (property_at all (record { 0 = x }))) (before ds i) (width ds i) (λ x low high. record { number = x; own = (low, high); named = refl })))))
            (ap (λ ps. repeated [] (names_of ps)) held ∙ repeated-fewer (names_of xs) [] (names_of (firsts (names_of xs) ys)) (λ x never. absurd (cc)) (firsts_once (names_of xs) ys))

  pub all_read : (i : ℕ) → i < length ds → IsRead i (at (read_from (all_properties ds) (property_lists (numbered_from 0 ds)) 0 ds) i)
  all_read i low =
      is_read i low _ (read_at (all_properties ds) (property_lists (numbered_from 0 ds)) 0 ds i low ∙ ap (λ n. read_class (properties_at (all_properties ds) (property_lists (numbered_from 0 ds)) n) (at ds i)) (let same : 0 + i ≡ i = omega arith in same))
