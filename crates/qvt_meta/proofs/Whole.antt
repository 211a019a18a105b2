-- A metamodel that passed the checks is well formed alone.
use Rattle.std.proofs.Common.{◌≡◌, ◌≢◌, ◌∙◌, ℕ, zero, suc, ◌+◌, ◌-◌, ◌<◌, ◌≤◌, ◌^◌, List, [], ◌∷◌, ◌++◌, length, map, take, get_or, Bool, true, false, None, Some, Option, option_map, refl, ap, sym, subst, arith, ◌==◌, ◌&&◌, ◌||◌, not, lit<, position, ◌⊎◌, inl, inr}
use Rattle.std.specs.Prelude.{slice_index, is_some, codes, if◌then◌else◌}
use Rattle.std.specs.List.{list_all, list_any, flat_map, position_or_len}
use Rattle.std.specs.Str.{is_utf8, bytes_eq}
use Rattle.std.proofs.lemmas.Str.{is_utf8-from_IsUtf8, IsUtf8-nil}
use Rattle.std.proofs.lemmas.Slice.Eq.{bytes_eq-Decides}
use Rattle.std.proofs.lemmas.List.{length-map, get_or_past, map-append}
use Rattle.std.proofs.lemmas.Bool.{eq-eqb, eqb-true, leb-true}
use Rattle.std.proofs.lemmas.Bool.Decides.{leb_tells}
use Rattle.qvt_relation.proofs.Bools.{none_left, none_right}
use Rattle.qvt_base.specs.declared.numbers.ClassNo.{ClassNo}
use Rattle.qvt_base.specs.declared.numbers.FeatureNo.{FeatureNo}
use Rattle.qvt_metamodel.specs.declared.info.TypeKind.TheVariants.{Bool as BoolKind, Int, Str, Class}
use Rattle.qvt_metamodel.specs.declared.info.ClassInfo.{ClassInfo}
use Rattle.qvt_metamodel.specs.declared.info.FeatureInfo.{FeatureInfo}
use Rattle.qvt_metamodel.specs.declared.info.EnumInfo.{EnumInfo}
use Rattle.qvt_metamodel.specs.declared.declared.DeclaredFeature.{DeclaredFeature}
use Rattle.qvt_metamodel.specs.declared.declared.DeclaredClass.{DeclaredClass}
use Rattle.qvt_metas.specs.Metamodels.{Metamodels, class_at, feature_at, shape_of, is_opposite, is_feature_number, features_of, features_in, each_once, has_feature, among_features, nowhere_class, nowhere_feature, is_single, is_one, is_containment, is_element}
use Rattle.qvt_metas.specs.Descends.{is_superclass, Inherits, reaches, descends, is_class_kind, is_class_type}
use Rattle.qvt_metas.specs.Named.{metamodel_at, enumeration_at, literal_at, nowhere_enumeration, class_named, feature_named, enumeration_named, literal_named}
use Rattle.qvt_metas.specs.WellFormed.{IsWellFormed, IsRegular, IsLiveKind}
use Rattle.qvt_metas.specs.Kept.{AreRanks}
use Rattle.qvt_metamodel.specs.declared.declared.MetaData.{MetaData}
use Rattle.qvt_metamodel.specs.MetaData.{enum_names, class_names, feature_names}
use Rattle.qvt_json.specs.Repeated.{repeated}
use Rattle.qvt_metamodel.specs.Names.{primitive_names, is_among}
use Rattle.qvt_metamodel.specs.Checks.{same_feature, repeated_feature, bad_opposite, is_bad_opposite, is_mutual, is_one_at_most, type_features, is_given_name as is_named}
use Rattle.qvt_metamodel.specs.Checked.{has_text, has_texts, are_texts, IsChecked}
use Rattle.qvt_metas.specs.Added.{declared_at, names_of, feature_count, feature_info, feature_infos, feature_number, numbers_from, class_info, class_infos, numbered, first_begin, HasRoom, kind_of, enum_or_class, nothing_declared, place_in}
use Rattle.qvt_meta.specs.Numbers.{has_few_literals}
use Rattle.qvt_metamodel.proofs.Bools.{and_both, and_left, and_right, and_no, ap2, clash, or_cases, or_left, or_right, not_true}
use Rattle.qvt_meta.proofs.Counts.{count_within}
use Rattle.qvt_metamodel.proofs.Empty.{no_metamodels}
use Rattle.qvt_metamodel.proofs.Infos.{featured_at, nothing_featured, all-at, map-at, map-at_all, length-class_infos, class_infos-at, length-feature_infos, feature_infos-at, FeatureAt, feature_at_place, length-numbers_from, numbers_from-at, among_numbers}
use Rattle.qvt_metamodel.proofs.Lookups.{position-first, bytes_eq-refl, differ-before, some-within, untaken}
use Rattle.qvt_metamodel.proofs.FeatureNames.{distinct as distinct_features, found_feature as named_feature}
use Rattle.qvt_metamodel.proofs.Ancestors.{live as live_sub, path, reached, begins}
use Rattle.qvt_metamodel.proofs.Owners.{Declared, declared, includes}
use Rattle.qvt_metamodel.proofs.Opposites.{is_contained_wrong, typed_by_class, linked_once, declared_opposite, other_opposite, contained_right}
use Rattle.qvt_metamodel.proofs.Order.{acyclic, antisymmetric, transitive, inherited}
use Rattle.qvt_metamodel.proofs.Regular.{regular}
use Rattle.qvt_meta_checks.proofs.Passing.{map_none, first_from-none, no_fault, repeated-append, repeated-alone, enums_alone, literals_alone, classes_differ}
use Rattle.qvt_metamodel.proofs.Positions.{any-within, any-passes, none-at, no-position, place-below, place-found, place-is}
use Rattle.qvt_metamodel.proofs.Stable.{no-features-past}

no_text : is_utf8 [] ≡ true
no_text = is_utf8-from_IsUtf8 [] IsUtf8-nil

same_bytes : (x y : List ℕ) → bytes_eq x y ≡ true → x ≡ y
same_bytes x y h = (bytes_eq-Decides x y).0 h

and_false_right : (a b : Bool) → a ≡ true → (a && b) ≡ false → b ≡ false
and_false_right true b h f = f
and_false_right false b h f = absurd (cc)

not_false : (a : Bool) → not a ≡ false → a ≡ true
not_false true h = refl
not_false false h = absurd (cc)

name_is : (o : Option (List ℕ)) (x : List ℕ) → is_named o x ≡ true → o ≡ Some x
name_is None x h = absurd (cc)
name_is (Some y) x h = ap (λ z. Some z) (sym (same_bytes x y h))

one_is : (o : Option ℕ) → is_one_at_most o ≡ true → is_one o ≡ true
one_is None h = absurd (cc)
one_is (Some n) h = h

numbers-among : (s n f : ℕ) → s ≤ f → f < s + n → among_features f (numbers_from s n) ≡ true
numbers-among s zero f l h = absurd (omega arith)
numbers-among s (suc n) f l h = elim (leb_tells (suc s) f) [
  | inl t ↦ or_right (s == f) (among_features f (numbers_from (s + 1) n)) (numbers-among (s + 1) n f (omega (arith, t.1)) (omega (arith, h)))
  | inr p ↦ or_left (s == f) (among_features f (numbers_from (s + 1) n)) (eq-eqb s f (omega (arith, l, p.1)))
]

abbrev pub M : MetaData → Metamodels
M d = record {
  metamodels = record { name = d.name; uri = d.uri; enums = d.enums } ∷ [];
  classes = class_infos first_begin (names_of d.classes) 0 d.classes;
  features = feature_infos first_begin (enum_names d) d.classes 0 d.classes;
  element = None;
}

pub is_numbered : (d : MetaData) → numbered d ≡ M d
unfolding numbered
is_numbered d = refl

module _ (d : MetaData) where
  abbrev ks : List DeclaredClass
  ks = d.classes

  abbrev names : List (List ℕ)
  names = names_of ks

  abbrev m : Metamodels
  m = M d

  abbrev infos : List ClassInfo
  infos = class_infos first_begin names 0 ks

  abbrev features : List FeatureInfo
  features = feature_infos first_begin (enum_names d) ks 0 ks

  abbrev before : ℕ → ℕ
  before c = feature_count (take c ks)

  abbrev many : ℕ → ℕ
  many c = length (declared_at ks c).features

  class_total : length infos ≡ length ks
  class_total = length-class_infos first_begin names 0 ks

  feature_total : length features ≡ feature_count ks
  feature_total = length-feature_infos first_begin (enum_names d) ks 0 ks

  name_total : length names ≡ length ks
  name_total = length-map ks (λ (k : DeclaredClass). k.name)

  -- what the class at a place is
  pub class_is : (c : ℕ) → c < length ks → class_at m c ≡ class_info first_begin names (before c) (declared_at ks c)
  class_is c h = class_infos-at first_begin names 0 ks c nowhere_class h ∙ ap (λ n. class_info first_begin names n (declared_at ks c)) (omega arith)

  pub past_class : (c : ℕ) → length ks ≤ c → class_at m c ≡ nowhere_class
  past_class c h = get_or_past infos c nowhere_class (omega (arith, class_total, h))

  either_class : (P : ClassInfo → Type 0) (c : ℕ) → (c < length ks → P (class_info first_begin names (before c) (declared_at ks c))) → P nowhere_class → P (class_at m c)
  either_class P c here past = elim (leb_tells (suc c) (length ks)) [
    | inl t ↦ subst P (sym (class_is c (omega (arith, t.1)))) (here (omega (arith, t.1)))
    | inr f ↦ subst P (sym (past_class c (omega (arith, f.1)))) past
  ]

  super_below : (xs : List (List ℕ)) (e : ℕ) → 0 < length ks → list_any (λ (s : ClassNo). s.0 == e) (map (λ name. record { 0 = 0 + place_in names name }) xs) ≡ true → e < length ks
  super_below [] e l h = absurd (cc)
  super_below (x ∷ xs) e l h = elim (or_cases (0 + place_in names x == e) (list_any (λ (s : ClassNo). s.0 == e) (map (λ name. record { 0 = 0 + place_in names name }) xs)) h) [
    | inl same ↦ (let is : 0 + place_in names x ≡ e = eqb-true (0 + place_in names x) e same in omega (arith, is, place-below names x (omega (arith, name_total, l)), name_total))
    | inr later ↦ super_below xs e l later
  ]

  pub live_superclass_at : (c e : ℕ) → is_superclass m c e ≡ true → e < length infos
  unfolding class_info
  live_superclass_at c e = either_class (λ k. list_any (λ s. s.0 == e) k.supers ≡ true → e < length infos) c
      (λ l h. omega (arith, super_below (declared_at ks c).supers e (omega (arith, l)) h, class_total)) (λ h. absurd (cc))

  -- the class at c declares f in place j
  record Own (c f : ℕ) : Type 0 where
    live : c < length ks
    place : ℕ
    within : place < many c
    is : f ≡ before c + place

  own_is : (c : ℕ) → c < length ks → (class_at m c).own ≡ numbers_from (before c) (many c)
  unfolding class_info
  own_is c h = ap (λ k. k.own) (class_is c h)

  owns : (c f : ℕ) → among_features f (class_at m c).own ≡ true → Own c f
  owns c f h = elim (leb_tells (suc c) (length ks)) [
    | inl t ↦ (let live : c < length ks = omega (arith, t.1) in
        let in_range : (before c ≤ f) × (f < before c + many c) = among_numbers _ _ f (subst (λ (gs : List FeatureNo). among_features f gs ≡ true) (own_is c live) h) in
        record { live = live; place = f - before c; within = omega (arith, in_range.0, in_range.1); is = omega (arith, in_range.0) })
    | inr p ↦ absurd (clash (subst (λ (k : ClassInfo). among_features f k.own ≡ true) (past_class c (omega (arith, p.1))) h) refl)
  ]

  own_has : (c j : ℕ) → c < length ks → j < many c → among_features (before c + j) (class_at m c).own ≡ true
  own_has c j l w = subst (λ (gs : List FeatureNo). among_features (before c + j) gs ≡ true) (sym (own_is c l)) (numbers-among (before c) (many c) (before c + j) (omega arith) (omega (arith, w)))

  feature_is : (c j : ℕ) → c < length ks → j < many c → feature_at m (before c + j) ≡ feature_info first_begin (enum_names d) ks c (featured_at (declared_at ks c) j)
  feature_is c j h w = feature_infos-at first_begin (enum_names d) ks 0 ks c j nowhere_feature h w ∙ ap (λ n. feature_info first_begin (enum_names d) ks n (featured_at (declared_at ks c) j)) (omega arith)

  either_feature : (P : FeatureInfo → Type 0) (f : ℕ)
      → ((c j : ℕ) → c < length ks → j < many c → P (feature_info first_begin (enum_names d) ks c (featured_at (declared_at ks c) j))) → P nowhere_feature → P (feature_at m f)
  either_feature P f here past = elim (leb_tells (suc f) (feature_count ks)) [
    | inl t ↦ (let at : FeatureAt ks f = feature_at_place ks f (omega (arith, t.1)) in
        subst (λ n. P (feature_at m n)) (sym at.is) (subst P (sym (feature_is at.class at.place at.live at.within)) (here at.class at.place at.live at.within)))
    | inr p ↦ subst P (sym (get_or_past features f nowhere_feature (omega (arith, feature_total, p.1)))) past
  ]

  owner_is : (c j : ℕ) → c < length ks → j < many c → (feature_at m (before c + j)).owner.0 ≡ c
  unfolding feature_info
  owner_is c j h w = ap (λ k. k.owner.0) (feature_is c j h w)

  feature_name_is : (c j : ℕ) → c < length ks → j < many c → (feature_at m (before c + j)).name ≡ (featured_at (declared_at ks c) j).name
  unfolding feature_info
  feature_name_is c j h w = ap (λ k. k.name) (feature_is c j h w)

  class_name_is : (c : ℕ) → get_or names c [] ≡ (declared_at ks c).name
  class_name_is c = map-at_all (λ (k : DeclaredClass). k.name) ks c nothing_declared

  declares : (c f : ℕ) → has_feature m c f ≡ true → Declared m c f
  unfolding features_of
  declares c f h = declared m (length infos) c f h

  no_features : (c : ℕ) → length ks ≤ c → features_of m c ≡ []
  unfolding features_of
  no_features c h = no-features-past m (length infos) c (past_class c h)

  pub live_owner_at : (f : ℕ) → f < length features → (feature_at m f).owner.0 < length infos
  live_owner_at f h =
      let at : FeatureAt ks f = feature_at_place ks f (omega (arith, h, feature_total)) in
      let is : (feature_at m f).owner.0 ≡ at.class = ap (λ n. (feature_at m n).owner.0) at.is ∙ owner_is at.class at.place at.live at.within in
      omega (arith, is, at.live, class_total)

  pub live_feature_of : (c f : ℕ) → has_feature m c f ≡ true → f < length features
  live_feature_of c f h =
      let o : Own (declares c f h).class f = owns (declares c f h).class f (declares c f h).own in
      omega (arith, o.is, o.within, count_within ks (declares c f h).class, feature_total)

  pub live_class_of : (c f : ℕ) → has_feature m c f ≡ true → c < length infos
  live_class_of c f h = elim (leb_tells (suc c) (length ks)) [
    | inl t ↦ omega (arith, t.1, class_total)
    | inr p ↦ absurd (clash (subst (λ (gs : List FeatureNo). among_features f gs ≡ true) (no_features c (omega (arith, p.1))) h) refl)
  ]

  pub live_metamodel_of : (c : ℕ) → (class_at m c).metamodel < 1
  unfolding class_info
  live_metamodel_of c = either_class (λ k. k.metamodel < 1) c (λ h. lit< tt) (lit< tt)

  pub metamodel_is : (c : ℕ) → (class_at m c).metamodel ≡ 0
  unfolding class_info
  metamodel_is c = either_class (λ k. k.metamodel ≡ 0) c (λ h. refl) refl

  live_kind : (x y z : Bool) (name : List ℕ) → 0 < length ks → IsLiveKind m (if x then BoolKind else (if y then Int else (if z then Str else enum_or_class first_begin names name (position (bytes_eq name) (enum_names d)))))
  live_kind true y z name l = tt
  live_kind false true z name l = tt
  live_kind false false true name l = tt
  live_kind false false false name l = by (position (bytes_eq name) (enum_names d)) refl
    where
      by : (o : Option ℕ) → position (bytes_eq name) (enum_names d) ≡ o → IsLiveKind m (enum_or_class first_begin names name o)
      by None e = (let low : place_in names name < length names = place-below names name (omega (arith, l, name_total)) in omega (arith, low, name_total, class_total))
      by (Some i) e = (let at : (position_or_len (bytes_eq name) (enum_names d) < length (enum_names d)) × (position_or_len (bytes_eq name) (enum_names d) ≡ i) =
          some-within (position_or_len (bytes_eq name) (enum_names d)) (length (enum_names d)) i e in (lit< tt, omega (arith, at.0, at.1, length-map d.enums (λ (e : EnumInfo). e.name))))

  pub live_type_of : (f : ℕ) → f < length features → IsLiveKind m (shape_of m f).kind
  unfolding feature_info
  live_type_of f h =
      let at : FeatureAt ks f = feature_at_place ks f (omega (arith, h, feature_total)) in
      let name : List ℕ = (featured_at (declared_at ks at.class) at.place).kind in
      subst (λ n. IsLiveKind m (shape_of m n).kind) (sym at.is)
      (subst (λ (k : FeatureInfo). IsLiveKind m k.shape.kind) (sym (feature_is at.class at.place at.live at.within))
      (live_kind (bytes_eq name (codes "Boolean")) (bytes_eq name (codes "Integer")) (bytes_eq name (codes "String")) name (omega (arith, at.live))))

module _ (d : MetaData) (ok : IsChecked d) (ranks : List ℕ) (ranked : AreRanks (M d) ranks) where
  abbrev ls : List DeclaredClass
  ls = d.classes

  abbrev w : Metamodels
  w = M d

  abbrev r : FeatureNo
  r = record { 0 = 0 }

  classes_fresh : repeated (primitive_names ++ enum_names d) (class_names d) ≡ None
  classes_fresh = classes_differ d ok.passes.same_name

  class_differ : (c j : ℕ) → c < length ls → j < c → bytes_eq (get_or (names_of ls) c []) (get_or (names_of ls) j []) ≡ false
  class_differ c j l h = differ-before (primitive_names ++ enum_names d) (class_names d) c j classes_fresh (omega (arith, l, name_total d)) h

  class_place : (c : ℕ) → c < length ls → place_in (names_of ls) (declared_at ls c).name ≡ c
  class_place c l = ap (place_in (names_of ls)) (sym (class_name_is d c)) ∙ place-is (names_of ls) c (omega (arith, l, name_total d)) (λ j h. class_differ c j l h)

  -- no name stands twice among the features of a class
  abbrev named : FeatureNo → List ℕ
  named g = (feature_at w g.0).name

  fresh_at : (c : ℕ) → c < length ls → repeated_feature (numbered d) c ≡ None
  unfolding same_feature
  fresh_at c l =
      ap (repeated_feature (numbered d)) (let same : c ≡ 0 + c = omega arith in same)
      ∙ map_none (λ name. ((declared_at ls c).name, name)) (repeated_feature (numbered d) (0 + c))
      (first_from-none (λ i k. option_map (λ name. (k.name, name)) (repeated_feature (numbered d) i)) 0 ls c nothing_declared ok.passes.same_feature l)

  fresh_names : (c : ℕ) → repeated [] (map named (features_of w c)) ≡ None
  fresh_names c = elim (leb_tells (suc c) (length ls)) [
    | inl t ↦ subst (λ x. repeated_feature x c ≡ None) (is_numbered d) (fresh_at c (omega (arith, t.1)))
    | inr p ↦ subst (λ (gs : List FeatureNo). repeated [] (map named gs) ≡ None) (sym (no_features d c (omega (arith, p.1)))) refl
  ]

  distinct : (c i j : ℕ) → i < j → j < length (features_of w c) → (get_or (features_of w c) i r).0 ≢ (get_or (features_of w c) j r).0
  distinct c i j h l = distinct_features w c (fresh_names c) i j h l

  found_feature : (c f : ℕ) → has_feature w c f ≡ true → feature_named w c (feature_at w f).name ≡ Some (record { 0 = f })
  found_feature c f h = named_feature w c (fresh_names c) f h

  -- the features that a class declares stand last among its features
  record Split (c : ℕ) : Type 0 where
    front : List FeatureNo
    is : features_of w c ≡ front ++ (class_at w c).own

  split_in : (n c : ℕ) → 0 < n → (front : List FeatureNo) × (features_in n w c ≡ front ++ (class_at w c).own)
  split_in zero c l = absurd (omega arith)
  split_in (suc n) c l = (each_once [] (flat_map (λ s. features_in n w s.0) (class_at w c).supers), refl)

  split : (c : ℕ) → c < length ls → Split c
  unfolding features_of
  split c l = record { front = (split_in (length w.classes) c (omega (arith, l, class_total d))).0; is = (split_in (length w.classes) c (omega (arith, l, class_total d))).1 }

  fresh_own : (c : ℕ) → c < length ls → repeated [] (map named (class_at w c).own) ≡ None
  fresh_own c l =
      let s : Split c = split c l in
      let both : repeated [] (map named s.front ++ map named (class_at w c).own) ≡ None =
      ap (repeated []) (sym (ap (map named) s.is ∙ map-append named s.front (class_at w c).own)) ∙ fresh_names c in
      repeated-alone (map named s.front) (map named (class_at w c).own) (repeated-append [] (map named s.front) (map named (class_at w c).own) both).1

  own_name_at : (c j : ℕ) → c < length ls → j < many d c → get_or (map named (class_at w c).own) j [] ≡ (featured_at (declared_at ls c) j).name
  own_name_at c j l h =
      ap (λ (gs : List FeatureNo). get_or (map named gs) j []) (own_is d c l)
      ∙ map-at named (numbers_from (before d c) (many d c)) j r [] (omega (arith, length-numbers_from (before d c) (many d c), h))
      ∙ ap (λ n. (feature_at w n).name) (numbers_from-at (before d c) (many d c) j r h)
      ∙ feature_name_is d c j l h

  own_total : (c : ℕ) → c < length ls → length (map named (class_at w c).own) ≡ many d c
  own_total c l = length-map (class_at w c).own named ∙ ap length (own_is d c l) ∙ length-numbers_from (before d c) (many d c)

  own_differ : (c i j : ℕ) → c < length ls → i < many d c → j < i → bytes_eq (featured_at (declared_at ls c) i).name (featured_at (declared_at ls c) j).name ≡ false
  own_differ c i j l h less =
      ap2 bytes_eq (sym (own_name_at c i l h)) (sym (own_name_at c j l (omega (arith, h, less))))
      ∙ differ-before [] (map named (class_at w c).own) i j (fresh_own c l) (omega (arith, h, own_total c l)) less

  feature_name_of : (c j : ℕ) → get_or (feature_names (declared_at ls c)) j [] ≡ (featured_at (declared_at ls c) j).name
  feature_name_of c j = map-at_all (λ (f : DeclaredFeature). f.name) (declared_at ls c).features j nothing_featured

  feature_place : (c j : ℕ) → c < length ls → j < many d c → place_in (feature_names (declared_at ls c)) (featured_at (declared_at ls c) j).name ≡ j
  feature_place c j l h =
      ap (place_in (feature_names (declared_at ls c))) (sym (feature_name_of c j))
      ∙ place-is (feature_names (declared_at ls c)) j (omega (arith, h, length-map (declared_at ls c).features (λ (f : DeclaredFeature). f.name)))
      (λ i less. ap2 bytes_eq (feature_name_of c j) (feature_name_of c i) ∙ own_differ c j i l h less)

  -- a feature and its opposite, each by its class and its place there
  record Pair (p q : ℕ) : Type 0 where
    c : ℕ
    j : ℕ
    live_p : c < length ls
    within_p : j < many d c
    is_p : p ≡ before d c + j
    e : ℕ
    i : ℕ
    live_q : e < length ls
    within_q : i < many d e
    is_q : q ≡ before d e + i
    type_p : (featured_at (declared_at ls c) j).kind ≡ (declared_at ls e).name
    type_q : (featured_at (declared_at ls e) i).kind ≡ (declared_at ls c).name
    opposite_p : (featured_at (declared_at ls c) j).opposite ≡ Some (featured_at (declared_at ls e) i).name
    opposite_q : (featured_at (declared_at ls e) i).opposite ≡ Some (featured_at (declared_at ls c) j).name
    contained : is_contained_wrong (featured_at (declared_at ls c) j) (featured_at (declared_at ls e) i) ≡ false
    unique : (featured_at (declared_at ls c) j).unique ≡ true
    other : (bytes_eq (featured_at (declared_at ls c) j).kind (declared_at ls c).name && is_named (featured_at (declared_at ls c) j).opposite (featured_at (declared_at ls c) j).name) ≡ false

  allowed : (c j : ℕ) → c < length ls → j < many d c → is_bad_opposite d (declared_at ls c) (featured_at (declared_at ls c) j) ≡ false
  unfolding bad_opposite
  allowed c j l h = no_fault (is_bad_opposite d) ls c j ok.passes.bad_opposite l h

  abbrev K : ℕ → DeclaredClass
  K c = declared_at ls c

  abbrev F : ℕ → ℕ → DeclaredFeature
  F c j = featured_at (declared_at ls c) j

  -- the place of the class that is the type of a feature
  abbrev E : ℕ → ℕ → ℕ
  E c j = place_in (names_of ls) (F c j).kind

  -- a containment, and a feature with an opposite, has a class as its type
  record Linked (c j : ℕ) : Type 0 where
    live : E c j < length ls
    kind : (F c j).kind ≡ (declared_at ls (E c j)).name
    unique : (F c j).unique ≡ true

  linked : (c j : ℕ) → c < length ls → j < many d c → ((F c j).containment || is_some (F c j).opposite) ≡ true → Linked c j
  linked c j l h some =
      let fine : is_bad_opposite d (K c) (F c j) ≡ false = allowed c j l h in
      let there : is_among (F c j).kind (class_names d) ≡ true = typed_by_class d (K c) (F c j) fine some in
      let place : ((E c j) < length (names_of ls)) × (bytes_eq (F c j).kind (get_or (names_of ls) (E c j) []) ≡ true) = place-found (names_of ls) (F c j).kind there in
      record {
        live = omega (arith, place.0, name_total d);
        kind = same_bytes (F c j).kind (get_or (names_of ls) (E c j) []) place.1 ∙ class_name_is d (E c j);
        unique = linked_once d (K c) (F c j) fine some;
      }

  some_same : (x y : List ℕ) → Some x ≡ Some y → x ≡ y
  some_same x y e = cc

  pair_by : (c j q : ℕ) → c < length ls → j < many d c → (o : Option (List ℕ)) → (F c j).opposite ≡ o → is_feature_number (option_map (feature_number first_begin ls (E c j)) o) q ≡ true → Pair (before d c + j) q
  pair_by c j q l h None at eq = absurd (cc)
  pair_by c j q l h (Some name) at eq =
      let some : is_some (F c j).opposite ≡ true = ap is_some at in
      let fine : is_bad_opposite d (K c) (F c j) ≡ false = allowed c j l h in
      let o : Linked c j = linked c j l h (or_right (F c j).containment (is_some (F c j).opposite) some) in
      let some_mutual : list_any (is_mutual (K c) (F c j)) (type_features d (F c j)) ≡ true = declared_opposite d (K c) (F c j) fine some in
      let none_wrong : list_any (λ g. is_mutual (K c) (F c j) g && is_contained_wrong (F c j) g) (type_features d (F c j)) ≡ false = contained_right d (K c) (F c j) fine in
      let i : ℕ = position_or_len (is_mutual (K c) (F c j)) (type_features d (F c j)) in
      let within : i < many d (E c j) = any-within (is_mutual (K c) (F c j)) (type_features d (F c j)) some_mutual in
      let paired : is_mutual (K c) (F c j) (featured_at (declared_at ls (E c j)) i) ≡ true = any-passes (is_mutual (K c) (F c j)) (type_features d (F c j)) nothing_featured some_mutual in
      let wrong : (is_mutual (K c) (F c j) (featured_at (declared_at ls (E c j)) i) && is_contained_wrong (F c j) (featured_at (declared_at ls (E c j)) i)) ≡ false =
      none-at (λ g. is_mutual (K c) (F c j) g && is_contained_wrong (F c j) g) (type_features d (F c j)) i nothing_featured none_wrong within in
      let g : DeclaredFeature = featured_at (declared_at ls (E c j)) i in
      let two : (is_named (F c j).opposite g.name && bytes_eq g.kind (K c).name) ≡ true = and_left _ _ paired in
      let name_eq : (F c j).opposite ≡ Some g.name = name_is (F c j).opposite g.name (and_left _ _ two) in
      let name_g : name ≡ g.name = some_same name g.name (sym at ∙ name_eq) in
      let number : 0 + (before d (E c j) + place_in (feature_names (declared_at ls (E c j))) name) ≡ q = eqb-true (0 + (before d (E c j) + place_in (feature_names (declared_at ls (E c j))) name)) q eq in
      let spot : place_in (feature_names (declared_at ls (E c j))) name ≡ i = ap (place_in (feature_names (declared_at ls (E c j)))) name_g ∙ feature_place (E c j) i o.live within in
      record {
        c = c;
        j = j;
        live_p = l;
        within_p = h;
        is_p = refl;
        e = E c j;
        i = i;
        live_q = o.live;
        within_q = within;
        is_q = omega (arith, number, spot);
        type_p = o.kind;
        type_q = same_bytes g.kind (K c).name (and_right (is_named (F c j).opposite g.name) _ two);
        opposite_p = name_eq;
        opposite_q = name_is g.opposite (F c j).name (and_right (is_named (F c j).opposite g.name && bytes_eq g.kind (K c).name) _ paired);
        contained = and_false_right _ _ paired wrong;
        unique = o.unique;
        other = other_opposite d (K c) (F c j) fine;
      }

  pair_at : (c j q : ℕ) → c < length ls → j < many d c → is_feature_number (option_map (feature_number first_begin ls (E c j)) (F c j).opposite) q ≡ true → Pair (before d c + j) q
  pair_at c j q l h same = pair_by c j q l h (F c j).opposite refl same

  pair : (p q : ℕ) → is_opposite w p q ≡ true → Pair p q
  unfolding feature_info
  pair p q h = elim (leb_tells (suc p) (feature_count ls)) [
    | inl t ↦ (let at : FeatureAt ls p = feature_at_place ls p (omega (arith, t.1)) in
        subst (λ n. Pair n q) (sym at.is)
        (pair_at at.class at.place q at.live at.within
        (subst (λ (k : FeatureInfo). is_feature_number k.opposite q ≡ true) (feature_is d at.class at.place at.live at.within) (subst (λ n. is_opposite w n q ≡ true) at.is h))))
    | inr f ↦ absurd (clash h (ap (λ (k : FeatureInfo). is_feature_number k.opposite q) (get_or_past (features d) p nowhere_feature (omega (arith, feature_total d, f.1)))))
  ]

  opposite_at : (c j q : ℕ) → c < length ls → j < many d c → is_opposite w (before d c + j) q ≡ is_feature_number (option_map (feature_number first_begin ls (place_in (names_of ls) (featured_at (declared_at ls c) j).kind)) (featured_at (declared_at ls c) j).opposite) q
  unfolding feature_info
  opposite_at c j q l h = ap (λ (k : FeatureInfo). is_feature_number k.opposite q) (feature_is d c j l h)

  -- opposites are mutual
  mutual_at : (p q : ℕ) → is_opposite w p q ≡ true → is_opposite w q p ≡ true
  mutual_at p q h = back (pair p q h)
    where
      back : Pair p q → is_opposite w q p ≡ true
      back o =
          let g : DeclaredFeature = featured_at (declared_at ls o.e) o.i in
          let class : place_in (names_of ls) g.kind ≡ o.c = ap (place_in (names_of ls)) o.type_q ∙ class_place o.c o.live_p in
          let spot : place_in (feature_names (declared_at ls o.c)) (featured_at (declared_at ls o.c) o.j).name ≡ o.j = feature_place o.c o.j o.live_p o.within_p in
          let number : 0 + (before d o.c + place_in (feature_names (declared_at ls o.c)) (featured_at (declared_at ls o.c) o.j).name) ≡ p = omega (arith, spot, o.is_p) in
          ap (λ n. is_opposite w n p) o.is_q
          ∙ opposite_at o.e o.i p o.live_q o.within_q
          ∙ (λ t. is_feature_number (option_map (feature_number first_begin ls (class t)) (o.opposite_q t)) p)
          ∙ eq-eqb (0 + (before d o.c + place_in (feature_names (declared_at ls o.c)) (featured_at (declared_at ls o.c) o.j).name)) p number

  kind_at : (c j : ℕ) → c < length ls → j < many d c → (shape_of w (before d c + j)).kind ≡ kind_of first_begin (enum_names d) (names_of ls) (featured_at (declared_at ls c) j).kind
  unfolding feature_info
  kind_at c j l h = ap (λ (k : FeatureInfo). k.shape.kind) (feature_is d c j l h)

  -- the type of the name of a class
  class_kind : (c : ℕ) → c < length ls → kind_of first_begin (enum_names d) (names_of ls) (declared_at ls c).name ≡ Class (record { 0 = c })
  class_kind c l =
      let name : List ℕ = (declared_at ls c).name in
      let untaken_c : is_among name (primitive_names ++ enum_names d) ≡ false =
      ap (λ x. is_among x (primitive_names ++ enum_names d)) (sym (class_name_is d c)) ∙ untaken (primitive_names ++ enum_names d) (class_names d) c classes_fresh (omega (arith, l, name_total d)) in
      let first : bytes_eq name (codes "Boolean") ≡ false = none_left (bytes_eq name (codes "Boolean")) _ untaken_c in
      let rest : is_among name (codes "Integer" ∷ codes "String" ∷ enum_names d) ≡ false = none_right (bytes_eq name (codes "Boolean")) _ untaken_c in
      let second : bytes_eq name (codes "Integer") ≡ false = none_left (bytes_eq name (codes "Integer")) _ rest in
      let rest2 : is_among name (codes "String" ∷ enum_names d) ≡ false = none_right (bytes_eq name (codes "Integer")) _ rest in
      let third : bytes_eq name (codes "String") ≡ false = none_left (bytes_eq name (codes "String")) _ rest2 in
      let fourth : position (bytes_eq name) (enum_names d) ≡ None = no-position (bytes_eq name) (enum_names d) (none_right (bytes_eq name (codes "String")) _ rest2) in
      let number : 0 + place_in (names_of ls) name ≡ c = omega (arith, class_place c l) in
      (λ t. if first t then BoolKind else (if second t then Int else (if third t then Str else enum_or_class first_begin (names_of ls) name (fourth t))))
      ∙ ap (λ (n : ℕ). Class (record { 0 = n })) number

  shape_name : (c j : ℕ) → c < length ls → j < many d c → (shape_of w (before d c + j)).containment ≡ (featured_at (declared_at ls c) j).containment
  unfolding feature_info
  shape_name c j l h = ap (λ (k : FeatureInfo). k.shape.containment) (feature_is d c j l h)

  shape_unique : (c j : ℕ) → c < length ls → j < many d c → (shape_of w (before d c + j)).unique ≡ (featured_at (declared_at ls c) j).unique
  unfolding feature_info
  shape_unique c j l h = ap (λ (k : FeatureInfo). k.shape.unique) (feature_is d c j l h)

  shape_upper : (c j : ℕ) → c < length ls → j < many d c → (shape_of w (before d c + j)).upper ≡ (featured_at (declared_at ls c) j).upper
  unfolding feature_info
  shape_upper c j l h = ap (λ (k : FeatureInfo). k.shape.upper) (feature_is d c j l h)

  one_containment_at : (p q : ℕ) → is_opposite w p q ≡ true → is_containment w p ≡ true → is_containment w q ≡ false
  one_containment_at p q h t = by (pair p q h)
    where
      by : Pair p q → is_containment w q ≡ false
      by o =
          let contains : (featured_at (declared_at ls o.c) o.j).containment ≡ true = sym (shape_name o.c o.j o.live_p o.within_p) ∙ ap (λ n. is_containment w n) (sym o.is_p) ∙ t in
          ap (λ n. is_containment w n) o.is_q ∙ shape_name o.e o.i o.live_q o.within_q
          ∙ not_true _ (λ both. clash (and_both _ _ both (or_left (featured_at (declared_at ls o.c) o.j).containment (not (is_one_at_most (featured_at (declared_at ls o.c) o.j).upper)) contains)) o.contained)

  one_container_at : (p q : ℕ) → is_opposite w p q ≡ true → is_containment w p ≡ true → is_single w q ≡ true
  one_container_at p q h t = by (pair q p (mutual_at p q h))
    where
      by : Pair q p → is_single w q ≡ true
      by o =
          let contains : (featured_at (declared_at ls o.e) o.i).containment ≡ true = sym (shape_name o.e o.i o.live_q o.within_q) ∙ ap (λ n. is_containment w n) (sym o.is_q) ∙ t in
          let less : ((featured_at (declared_at ls o.c) o.j).containment || not (is_one_at_most (featured_at (declared_at ls o.c) o.j).upper)) ≡ false = and_false_right _ _ contains o.contained in
          ap (λ n. is_single w n) o.is_p ∙ ap is_one (shape_upper o.c o.j o.live_p o.within_p)
          ∙ one_is (featured_at (declared_at ls o.c) o.j).upper (not_false _ (none_right (featured_at (declared_at ls o.c) o.j).containment _ less))

  unique_at : (p q : ℕ) → is_opposite w p q ≡ true → (shape_of w p).unique ≡ true
  unique_at p q h = by (pair p q h)
    where
      by : Pair p q → (shape_of w p).unique ≡ true
      by o = ap (λ n. (shape_of w n).unique) o.is_p ∙ shape_unique o.c o.j o.live_p o.within_p ∙ o.unique

  -- a containment holds objects, each once
  contained_at : (f : ℕ) → is_containment w f ≡ true → (is_class_type (shape_of w f).kind ≡ true) × ((shape_of w f).unique ≡ true)
  contained_at f t = elim (leb_tells (suc f) (feature_count ls)) [
    | inl b ↦ here (feature_at_place ls f (omega (arith, b.1)))
    | inr p ↦ clash t (ap (λ (k : FeatureInfo). k.shape.containment) (get_or_past (features d) f nowhere_feature (omega (arith, feature_total d, p.1))))
  ]
    where
      here : FeatureAt ls f → (is_class_type (shape_of w f).kind ≡ true) × ((shape_of w f).unique ≡ true)
      here at =
          let contains : (F at.class at.place).containment ≡ true = sym (shape_name at.class at.place at.live at.within) ∙ ap (λ n. is_containment w n) (sym at.is) ∙ t in
          let o : Linked at.class at.place = linked at.class at.place at.live at.within (or_left (F at.class at.place).containment (is_some (F at.class at.place).opposite) contains) in (
            ap (λ n. is_class_type (shape_of w n).kind) at.is
                ∙ ap is_class_type (kind_at at.class at.place at.live at.within ∙ ap (kind_of first_begin (enum_names d) (names_of ls)) o.kind ∙ class_kind (E at.class at.place) o.live),
            ap (λ n. (shape_of w n).unique) at.is ∙ shape_unique at.class at.place at.live at.within ∙ o.unique,
          )

  live_opposite_at : (p q : ℕ) → is_opposite w p q ≡ true → q < length (features d)
  live_opposite_at p q h = by (pair p q h)
    where
      by : Pair p q → q < length (features d)
      by o = omega (arith, o.is_q, o.within_q, count_within ls o.e, feature_total d)

  other_at : (p : ℕ) → is_opposite w p p ≡ false
  other_at p = not_true (is_opposite w p p) (λ h. itself (pair p p h))
    where
      itself : Pair p p → ⊥
      itself o =
          let owner : o.c ≡ o.e = sym (owner_is d o.c o.j o.live_p o.within_p) ∙ ap (λ n. (feature_at w n).owner.0) (sym o.is_p ∙ o.is_q) ∙ owner_is d o.e o.i o.live_q o.within_q in
          let name : (featured_at (declared_at ls o.c) o.j).name ≡ (featured_at (declared_at ls o.e) o.i).name =
          sym (feature_name_is d o.c o.j o.live_p o.within_p) ∙ ap (λ n. (feature_at w n).name) (sym o.is_p ∙ o.is_q) ∙ feature_name_is d o.e o.i o.live_q o.within_q in
          let type_is : bytes_eq (featured_at (declared_at ls o.c) o.j).kind (declared_at ls o.c).name ≡ true =
          ap (λ x. bytes_eq x (declared_at ls o.c).name) (o.type_p ∙ ap (λ n. (declared_at ls n).name) (sym owner)) ∙ bytes_eq-refl (declared_at ls o.c).name in
          let names_it : is_named (featured_at (declared_at ls o.c) o.j).opposite (featured_at (declared_at ls o.c) o.j).name ≡ true =
          ap (λ x. is_named x (featured_at (declared_at ls o.c) o.j).name) (o.opposite_p ∙ ap (λ z. Some z) (sym name)) ∙ bytes_eq-refl (featured_at (declared_at ls o.c) o.j).name in
          clash (and_both _ _ type_is names_it) o.other

  -- the class that declares a feature is the one of its owner
  declarer : (c f : ℕ) → (t : Declared w c f) → (feature_at w f).owner.0 ≡ t.class
  declarer c f t =
      let o : Own d t.class f = owns d t.class f t.own in
      ap (λ n. (feature_at w n).owner.0) o.is ∙ owner_is d t.class o.place o.live o.within

  descends_to : (c e : ℕ) → (c ≡ e) ⊎ Inherits w c e → descends w c e ≡ true
  descends_to c e (inl same) = or_left ((c == e) || false) (reaches w c e) (or_left (c == e) false (eq-eqb c e same))
  descends_to c e (inr up) = or_right ((c == e) || false) (reaches w c e) (reached w up)

  descends_from : (c e : ℕ) → descends w c e ≡ true → (c ≡ e) ⊎ Inherits w c e
  descends_from c e h = elim (or_cases ((c == e) || false) (reaches w c e) h) [
    | inl l ↦ elim (or_cases (c == e) false l) [ inl same ↦ inl (eqb-true c e same) | inr never ↦ absurd (cc) ]
    | inr up ↦ inr (path w c e up)
  ]

  opposite_has_type_at : (p q c : ℕ) → is_opposite w p q ≡ true → has_feature w c p ≡ true → is_class_kind w c (shape_of w q).kind ≡ true
  opposite_has_type_at p q c h has = by (pair p q h)
    where
      by : Pair p q → is_class_kind w c (shape_of w q).kind ≡ true
      by o =
          let t : Declared w c p = declares d c p has in
          let same : t.class ≡ o.c = sym (declarer c p t) ∙ ap (λ n. (feature_at w n).owner.0) o.is_p ∙ owner_is d o.c o.j o.live_p o.within_p in
          let kind : (shape_of w q).kind ≡ Class (record { 0 = o.c }) =
          ap (λ n. (shape_of w n).kind) o.is_q ∙ kind_at o.e o.i o.live_q o.within_q ∙ ap (kind_of first_begin (enum_names d) (names_of ls)) o.type_q ∙ class_kind o.c o.live_p in
          ap (is_class_kind w c) kind ∙ subst (λ e. descends w c e ≡ true) same (descends_to c t.class t.up)

  low_rank : (c f : ℕ) → among_features f (class_at w c).own ≡ true → slice_index ranks c < length (infos d)
  low_rank c f h = ranked.bounded c (omega (arith, (owns d c f h).live, class_total d))

  live_above : (c e : ℕ) → Inherits w c e → c < length (infos d)
  live_above c e up = (let s : (s : ℕ) × (is_superclass w c s ≡ true) × ((s ≡ e) ⊎ Inherits w s e) = begins w c e up in live_sub w c s.0 s.1)

  inherits : (c e f : ℕ) → (c ≡ e) ⊎ Inherits w c e → among_features f (class_at w e).own ≡ true → has_feature w c f ≡ true
  unfolding features_of
  inherits c e f (inl same) own = includes w ranks ranked (length (infos d)) e c f (subst (λ x. slice_index ranks x < length (infos d)) (sym same) (low_rank e f own)) (inl same) own
  inherits c e f (inr up) own = includes w ranks ranked (length (infos d)) e c f (ranked.bounded c (live_above c e up)) (inr up) own

  type_has_opposite_at : (p q c : ℕ) → is_opposite w p q ≡ true → is_class_kind w c (shape_of w p).kind ≡ true → has_feature w c q ≡ true
  type_has_opposite_at p q c h is = by (pair p q h)
    where
      by : Pair p q → has_feature w c q ≡ true
      by o =
          let kind : (shape_of w p).kind ≡ Class (record { 0 = o.e }) =
          ap (λ n. (shape_of w n).kind) o.is_p ∙ kind_at o.c o.j o.live_p o.within_p ∙ ap (kind_of first_begin (enum_names d) (names_of ls)) o.type_p ∙ class_kind o.e o.live_q in
          inherits c o.e q (descends_from c o.e (ap (is_class_kind w c) (sym kind) ∙ is)) (subst (λ n. among_features n (class_at w o.e).own ≡ true) (sym o.is_q) (own_has d o.e o.i o.live_q o.within_q))

  all_named : (c : ℕ) → (metamodel_at w (class_at w c).metamodel).name ≡ [] → ⊥
  all_named c none = ok.named (ap (λ k. (metamodel_at w k).name) (sym (metamodel_is d c)) ∙ none)

  -- there is no class above all
  no_top : (c e : ℕ) → is_element w c ≡ true → is_superclass w c e ≡ false
  no_top c e h = absurd (cc)

  all_regular : IsRegular w
  all_regular = record {
    acyclic = acyclic w ranks ranked;
    antisymmetric = antisymmetric w ranks ranked no_top;
    transitive = transitive w ranks ranked no_top;
    inherited = inherited w ranks ranked no_top (λ c h. absurd (cc)) (λ c f h. absurd (cc));
    live_element = λ c h. absurd (cc);
    abstract_element = λ c h. absurd (cc);
    featureless_element = λ c f h. absurd (cc);
    topmost_element = no_top;
    object_containments = λ f h. (contained_at f h).0;
    unique_containments = λ f h. (contained_at f h).1;
    unnamed_empty = λ c f h none. absurd (all_named c none);
    unnamed_optional = λ c f h none. absurd (all_named c none);
  }

  -- names are texts
  texts_of_class : (c : ℕ) → has_texts (declared_at ls c) ≡ true
  texts_of_class c = all-at has_texts ls c nothing_declared (and_both _ _ no_text refl) ok.texts

  texts_of_enum : (e : ℕ) → are_texts (get_or d.enums e nowhere_enumeration) ≡ true
  texts_of_enum e = all-at are_texts d.enums e nowhere_enumeration (and_both _ _ no_text refl) ok.enum_texts

  text_metamodel_at : (k : ℕ) → is_utf8 (metamodel_at w k).name ≡ true
  text_metamodel_at zero = ok.name
  text_metamodel_at (suc k) = no_text

  text_class_at : (c : ℕ) → is_utf8 (class_at w c).name ≡ true
  unfolding class_info
  text_class_at c = either_class d (λ k. is_utf8 k.name ≡ true) c (λ h. and_left _ (list_all has_text (declared_at ls c).features) (texts_of_class c)) no_text

  text_feature_at : (f : ℕ) → is_utf8 (feature_at w f).name ≡ true
  unfolding feature_info
  text_feature_at f = either_feature d (λ k. is_utf8 k.name ≡ true) f
      (λ c j h v. all-at has_text (declared_at ls c).features j nothing_featured no_text (and_right (is_utf8 (declared_at ls c).name) _ (texts_of_class c))) no_text

  text_enum_at : (k e : ℕ) → is_utf8 (enumeration_at w k e).name ≡ true
  text_enum_at zero e = and_left _ (list_all is_utf8 (get_or d.enums e nowhere_enumeration).literals) (texts_of_enum e)
  text_enum_at (suc k) e = no_text

  text_literal_at : (k e l : ℕ) → is_utf8 (literal_at w k e l) ≡ true
  text_literal_at zero e l = all-at is_utf8 (get_or d.enums e nowhere_enumeration).literals l [] no_text (and_right (is_utf8 (get_or d.enums e nowhere_enumeration).name) _ (texts_of_enum e))
  text_literal_at (suc k) e l = no_text

  known_name : (c : ℕ) → c < length ls → (class_at w c).name ≡ get_or (names_of ls) c []
  unfolding class_info
  known_name c l = ap (λ k. k.name) (class_is d c l) ∙ sym (class_name_is d c)

  found_class : (c : ℕ) → c < length (infos d) → class_named w (class_at w c).metamodel (class_at w c).name ≡ Some c
  found_class c h =
      let live : c < length ls = omega (arith, class_total d, h) in
      position-first _ (infos d) c nowhere_class h
      (and_both _ _ (eq-eqb (class_at w c).metamodel (class_at w c).metamodel refl) (bytes_eq-refl (class_at w c).name))
      (λ j less. and_no ((class_at w j).metamodel == (class_at w c).metamodel) _ (ap2 bytes_eq (known_name c live) (known_name j (omega (arith, live, less))) ∙ class_differ c j live less))

  found_enum : (k e : ℕ) → e < length (metamodel_at w k).enums → enumeration_named w k (enumeration_at w k e).name ≡ Some e
  found_enum zero e h =
      position-first _ d.enums e nowhere_enumeration h (bytes_eq-refl (enumeration_at w zero e).name)
      (λ j less. ap2 bytes_eq (sym (enum_name e)) (sym (enum_name j))
      ∙ differ-before [] (enum_names d) e j (enums_alone d ok.passes.same_name) (omega (arith, h, length-map d.enums (λ (e : EnumInfo). e.name))) less)
    where
      enum_name : (e : ℕ) → get_or (enum_names d) e [] ≡ (get_or d.enums e nowhere_enumeration).name
      enum_name e = map-at_all (λ (e : EnumInfo). e.name) d.enums e nowhere_enumeration
  found_enum (suc k) e h = absurd (omega arith)

  found_literal : (k e l : ℕ) → l < length (enumeration_at w k e).literals → literal_named w k e (literal_at w k e l) ≡ Some l
  found_literal zero e l h =
      position-first (bytes_eq (literal_at w zero e l)) (enumeration_at w zero e).literals l [] h (bytes_eq-refl (literal_at w zero e l))
      (λ j less. differ-before [] (enumeration_at w zero e).literals l j (literals_alone d ok.passes.same_name e) h less)
  found_literal (suc k) e l h = absurd (omega arith)

  module _ (room : HasRoom no_metamodels d) (few : list_all has_few_literals d.enums ≡ true) where
    few_enums : (k : ℕ) → length (metamodel_at w k).enums < 2 ^ 32
    few_enums zero = room.enumerations
    few_enums (suc k) = lit< tt

    few_literals_at : (k e : ℕ) → length (enumeration_at w k e).literals < 2 ^ 32
    few_literals_at zero e =
        let at : has_few_literals (get_or d.enums e nowhere_enumeration) ≡ true = all-at has_few_literals d.enums e nowhere_enumeration refl few in
        omega (arith, leb-true (length (get_or d.enums e nowhere_enumeration).literals) 4294967295 at)
    few_literals_at (suc k) e = lit< tt

    pub well_formed : IsWellFormed w
    well_formed = record {
      few_metamodels = lit< tt;
      few_classes = omega (arith, room.classes, class_total d);
      few_features = omega (arith, room.features, feature_total d);
      few_enumerations = few_enums;
      few_literals = few_literals_at;
      live_metamodel = λ c h. live_metamodel_of d c;
      live_superclass = λ c e h. live_superclass_at d c e h;
      live_owner = live_owner_at d;
      live_feature = live_feature_of d;
      live_class = live_class_of d;
      live_opposite = live_opposite_at;
      live_type = live_type_of d;
      regular = regular w all_regular;
      mutual_opposites = mutual_at;
      other_feature = other_at;
      one_containment = one_containment_at;
      one_container = one_container_at;
      unique_opposites = unique_at;
      opposite_has_type = opposite_has_type_at;
      type_has_opposite = type_has_opposite_at;
      unnamed_alone = λ p q c h none. absurd (all_named c none);
      distinct_features = distinct;
      text_metamodel = text_metamodel_at;
      text_class = text_class_at;
      text_feature = text_feature_at;
      text_enumeration = text_enum_at;
      text_literal = text_literal_at;
      class_found = λ c l named. found_class c l;
      feature_found = found_feature;
      enumeration_found = found_enum;
      literal_found = found_literal;
    }
