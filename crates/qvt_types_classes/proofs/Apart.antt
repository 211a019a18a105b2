-- Classes whose properties all differ in their names are read as they are, and nothing is told of them.
use Rattle.std.proofs.Common.{◌≡◌, ◌∙◌, ℕ, zero, suc, ◌+◌, ◌-◌, ◌<◌, ◌≤◌, List, [], ◌∷◌, ◌++◌, length, map, get_or, drop, true, not, Option, Some, None, refl, ap, sym, subst, arith}
use Rattle.std.specs.Prelude.{is_some}
use Rattle.std.specs.List.{AllByRecursion, flat_map}
use Rattle.std.proofs.lemmas.List.{append-nil, get_or_default, length-append, length-map}
use Rattle.std.proofs.Math.Seq.{drop-append_seam}
use Rattle.qvt_relation.specs.Closure.{Closure}
use Rattle.qvt_metas.specs.Added.{numbers_from}
use Rattle.qvt_metas.specs.Metamodels.{among_features, class_at, features_in}
use Rattle.qvt_metamodel.specs.Names.{repeated}
use Rattle.qvt_metamodel.proofs.Bools.{ap2}
use Rattle.qvt_metamodel.proofs.Infos.{map-at, length-numbers_from}
use Rattle.qvt_metas.specs.Search.{IsAcyclic}
use Rattle.qvt_types_data.specs.declared.refusal.TypingRefusal.{TypingRefusal}
use Rattle.qvt_base.specs.declared.numbers.FeatureNo.{FeatureNo}
use Rattle.qvt_types_classes.specs.declared.declared.Property.{Property}
use Rattle.qvt_types_classes.specs.declared.declared.Declared.{Declared}
use Rattle.qvt_types_classes.specs.Inherited.{IsOwnLast, all_properties, are_apart, firsts, names_of, no_property, numbered_from, properties_at, property_at, property_lists, read_class, read_from, same_told, same_told_from}
use Rattle.qvt_types_classes.specs.Classes.{all_same_told, read_classes}
use Rattle.qvt_types_classes.proofs.Ancestry.{M, Source, inherited, list_is, name_of, names_of_map, own_width, parts, read_kept, silent, source, xs, ys}
use Rattle.qvt_types_classes.proofs.Cut.{at, nothing, closure_map, Over, is_over}
use Rattle.qvt_types_classes.proofs.Numbering.{before, width, IsOf, all_numbers, one_class, property_is}
use Rattle.qvt_types_classes.proofs.Once.{all_among, firsts_after, fresh_names, names_differ, numbers_fresh, once_fresh}

none_there : (o : Option (List ℕ)) → not (is_some o) ≡ true → o ≡ None
none_there None h = refl
none_there (Some x) h = absurd (cc)

pub apart_fresh : (ps : List Property) → are_apart ps ≡ true → repeated [] (names_of ps) ≡ None
apart_fresh ps h = none_there (repeated [] (names_of ps)) h

-- classes that are each read as it is
same_from : (all : List Property) (lists : List (List FeatureNo)) (k : ℕ) (ds : List Declared) → ((i : ℕ) → i < length ds → read_class (properties_at all lists (k + i)) (at ds i) ≡ at ds i) → read_from all lists k ds ≡ ds
same_from all lists k [] h = refl
same_from all lists k (d ∷ ds) h = ap2 (λ (r : Declared) (rs : List Declared). r ∷ rs)
    (ap (λ n. read_class (properties_at all lists n) d) (let same : k ≡ k + 0 = omega arith in same) ∙ h zero (omega arith))
    (same_from all lists (k + 1) ds (λ i l. ap (λ n. read_class (properties_at all lists n) (at ds i)) (let same : k + 1 + i ≡ k + suc i = omega arith in same) ∙ h (suc i) (omega (arith, l))))

-- classes of each of which nothing is told
none_from : (all : List Property) (lists : List (List FeatureNo)) (k : ℕ) (ds : List Declared) → ((i : ℕ) → i < length ds → same_told (properties_at all lists (k + i)) (at ds i) ≡ []) → same_told_from all lists k ds ≡ []
none_from all lists k [] h = refl
none_from all lists k (d ∷ ds) h = ap2 (λ (r rs : List TypingRefusal). r ++ rs)
    (ap (λ n. same_told (properties_at all lists n) d) (let same : k ≡ k + 0 = omega arith in same) ∙ h zero (omega arith))
    (none_from all lists (k + 1) ds (λ i l. ap (λ n. same_told (properties_at all lists n) (at ds i)) (let same : k + 1 + i ≡ k + suc i = omega arith in same) ∙ h (suc i) (omega (arith, l))))

-- properties that stand in all of them from a number on
listed : (all ps : List Property) (f : ℕ) → ((k : ℕ) → k < length ps → get_or all (f + k) no_property ≡ get_or ps k no_property) → map (property_at all) (numbers_from f (length ps)) ≡ ps
listed all [] f h = refl
listed all (p ∷ ps) f h = ap2 (λ (q : Property) (qs : List Property). q ∷ qs)
    (ap (λ n. get_or all n no_property) (let same : f ≡ f + 0 = omega arith in same) ∙ h zero (omega arith))
    (listed all ps (f + 1) (λ k l. ap (λ n. get_or all n no_property) (let same : f + 1 + k ≡ f + suc k = omega arith in same) ∙ h (suc k) (omega (arith, l))))

reach : (ds : List Declared) (i : ℕ) → before ds i + width ds i ≤ length (all_properties ds)
reach [] i = omega arith
reach (d ∷ ds) zero = omega (arith, length-append d.properties (all_properties ds))
reach (d ∷ ds) (suc i) = (let more : before ds i + width ds i ≤ length (all_properties ds) = reach ds i in omega (arith, more, length-append d.properties (all_properties ds)))

firsts_same : (earlier : List (List ℕ)) (ps : List Property) → repeated earlier (names_of ps) ≡ None → firsts earlier ps ≡ ps
firsts_same earlier ps fresh = ap (firsts earlier) (sym (append-nil ps)) ∙ firsts_after earlier ps [] fresh ∙ append-nil ps

module _ (ds : List Declared) (acyclic : IsAcyclic (numbered_from 0 ds)) (fresh : repeated [] (names_of (all_properties ds)) ≡ None) where
  abbrev all : List Property
  all = all_properties ds

  abbrev lists : List (List FeatureNo)
  lists = property_lists (numbered_from 0 ds)

  abbrev IsLow : ℕ → Type 0
  IsLow x = x < length all

  of_low : (i x : ℕ) → IsOf ds i x → IsLow x
  of_low i x h = (let far : before ds i + width ds i ≤ length all = reach ds i in omega (arith, far, h.1))

  named_at : (x : ℕ) → IsLow x → get_or (names_of all) x [] ≡ name_of ds x
  named_at x l = map-at (λ (p : Property). p.name) all x no_property [] l

  apart : (f g : ℕ) → IsLow f → IsLow g → name_of ds f ≡ name_of ds g → f ≡ g
  apart f g lf lg same = names_differ (names_of all) fresh f g (omega (arith, lf, length-map all (λ (p : Property). p.name))) (omega (arith, lg, length-map all (λ (p : Property). p.name)))
      (named_at f lf ∙ same ∙ sym (named_at g lg))

  alone : (i : ℕ) → Closure (Over ds) i i → ⊥
  alone i p = acyclic i (closure_map (Over ds) _ (λ x y h. is_over ds x y ∙ h) p)

  inherited_low : (i : ℕ) → AllByRecursion (λ g. IsLow g.0) (inherited ds i)
  inherited_low i = all_among IsLow (inherited ds i) (λ x h. (let s : Source ds i x = source ds i x h in of_low s.class x s.own))

  -- a class does not inherit what it has itself
  own_new : (i x : ℕ) → among_features x (inherited ds i) ≡ true → IsOf ds i x → ⊥
  own_new i x h own = (let s : Source ds i x = source ds i x h in alone i (subst (λ c. Closure (Over ds) i c) (one_class ds s.class i x s.own own) s.path))

  inherited_fresh : (i : ℕ) → repeated [] (map (λ g. name_of ds g.0) (inherited ds i)) ≡ None
  inherited_fresh i = fresh_names (name_of ds) IsLow apart [] (inherited ds i) tt (inherited_low i) (once_fresh [] (flat_map (λ s. features_in (length ds - 1) (M ds) s.0) (class_at (M ds) i).supers))

  own_fresh : (i : ℕ) → repeated (map (λ g. name_of ds g.0) (inherited ds i)) (map (λ g. name_of ds g.0) (numbers_from (before ds i) (width ds i))) ≡ None
  own_fresh i = fresh_names (name_of ds) IsLow apart (inherited ds i) (numbers_from (before ds i) (width ds i)) (inherited_low i)
      (all_numbers IsLow (before ds i) (width ds i) (λ x low high. of_low i x (low, high)))
      (numbers_fresh (inherited ds i) (before ds i) (width ds i) (λ x h low high. own_new i x h (low, high)))

  module _ (i : ℕ) (low : i < length ds) where
    own_are : ys ds i low ≡ (at ds i).properties
    own_are = listed all (at ds i).properties (before ds i) (λ k l. property_is ds i k l)

    above_fresh : repeated [] (names_of (xs ds i low)) ≡ None
    above_fresh = ap (repeated []) (names_of_map (property_at all) (inherited ds i)) ∙ inherited_fresh i

    all_fresh : repeated (names_of (xs ds i low)) (names_of (ys ds i low)) ≡ None
    all_fresh = ap2 repeated (names_of_map (property_at all) (inherited ds i)) (names_of_map (property_at all) (numbers_from (before ds i) (width ds i))) ∙ own_fresh i

    is_same : read_class (properties_at all lists i) (at ds i) ≡ at ds i
    is_same =
        ap (λ ps. read_class ps (at ds i)) (parts ds i low)
        ∙ read_kept (xs ds i low) (ys ds i low) (at ds i) (own_width ds i low) above_fresh
        ∙ ap (λ (ps : List Property). (let kept : Declared = record { name = (at ds i).name; supers = (at ds i).supers; properties = ps; place = (at ds i).place } in kept))
        (firsts_same (names_of (xs ds i low)) (ys ds i low) all_fresh ∙ own_are)

    is_silent : same_told (properties_at all lists i) (at ds i) ≡ []
    is_silent = ap (λ ps. same_told ps (at ds i)) (parts ds i low)
        ∙ silent (xs ds i low) (ys ds i low) (at ds i) (own_width ds i low) above_fresh (ap (λ ps. repeated (names_of (xs ds i low)) (names_of ps)) (sym own_are) ∙ all_fresh)

  pub apart_read : read_classes ds ≡ ds
  unfolding read_classes
  apart_read = same_from all lists 0 ds (λ i l. ap (λ n. read_class (properties_at all lists n) (at ds i)) (let same : 0 + i ≡ i = omega arith in same) ∙ is_same i l)

  pub apart_told : all_same_told ds ≡ []
  unfolding all_same_told
  apart_told = none_from all lists 0 ds (λ i l. ap (λ n. same_told (properties_at all lists n) (at ds i)) (let same : 0 + i ≡ i = omega arith in same) ∙ is_silent i l)

-- the last properties of each class are its own
own_properties : (all : List Property) (f : ℕ) (ps : List Property) → ((k : ℕ) → k < length ps → get_or all (f + k) no_property ≡ get_or ps k no_property) → map (property_at all) (numbers_from f (length ps)) ≡ ps
own_properties all f [] is = refl
own_properties all f (p ∷ ps) is =
    let first : property_at all (record { 0 = f }) ≡ p = ap (λ n. get_or all n no_property) (let same : f ≡ f + 0 = omega arith in same) ∙ is 0 (omega arith) in
    let others : map (property_at all) (numbers_from (f + 1) (length ps)) ≡ ps =
    own_properties all (f + 1) ps (λ k l. ap (λ n. get_or all n no_property) (let same : f + 1 + k ≡ f + suc k = omega arith in same) ∙ is (suc k) (omega (arith, l))) in
    (λ t. first t ∷ others t)

pub own_last : (ds : List Declared) (i : ℕ) (e : Declared) → i < length ds → IsOwnLast (all_properties ds) (get_or (property_lists (numbered_from 0 ds)) i []) (get_or ds i e)
own_last ds i e low = subst (λ d. IsOwnLast (all_properties ds) (get_or (property_lists (numbered_from 0 ds)) i []) d) (get_or_default ds i nothing e low)
    ((λ t. map (property_at (all_properties ds)) (drop (length (list_is ds i low t) - width ds i) (list_is ds i low t)))
    ∙ ap (map (property_at (all_properties ds))) last
    ∙ own_properties (all_properties ds) (before ds i) (at ds i).properties (λ k l. property_is ds i k l))
  where
    own : List FeatureNo
    own = numbers_from (before ds i) (width ds i)

    last : drop (length (inherited ds i ++ own) - width ds i) (inherited ds i ++ own) ≡ own
    last =
        ap (λ n. drop n (inherited ds i ++ own))
        (let same : length (inherited ds i ++ own) - width ds i ≡ length (inherited ds i) = omega (arith, length-append (inherited ds i) own, length-numbers_from (before ds i) (width ds i)) in same)
        ∙ drop-append_seam (inherited ds i) own
