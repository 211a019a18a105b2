-- Which unit is the single choice for a class, where no unit stands twice among those of the name.
use Rattle.std.proofs.Common.{◌≡◌, ◌∙◌, ℕ, ◌==◌, eqb, List, [], ◌∷◌, Bool, true, false, ◌&&◌, ◌||◌, not, Option, Some, None, inl, inr, refl, sym, ap, subst}
use Rattle.std.specs.Prelude.{if◌then◌else◌, filter, is_some}
use Rattle.std.specs.List.{list_any, list_all, IsDistinct, AllByRecursion}
use Rattle.std.proofs.lemmas.Bool.{eq-eqb, eqb-true}
use Rattle.std.proofs.lemmas.Map.Keys.{IsDistinct-head, IsDistinct-tail}
use Rattle.qvt_metas.specs.Metamodels.{Metamodels, class_at, is_element}
use Rattle.qvt_metas.specs.Descends.{descends, reaches}
use Rattle.qvt_metamodel.proofs.Bools.{and_both, and_left, and_right, not_true, clash, ap2}
use Rattle.qvt_types_units.specs.declared.choice.FoundUnit.TheVariants.{NoUnit, Unclear, Chosen}
use Rattle.qvt_types_units.specs.declared.signature.HeadClass.{HeadClass}
use Rattle.qvt_types_units.specs.declared.signature.HeadClass.TheVariants.{Missing, Unknown, Known}
use Rattle.qvt_types_units.specs.declared.signature.Signature.{Signature}
use Rattle.qvt_types_units.specs.Choice.{is_context_above, is_below, context_at, candidates, is_lowest, lowest, single, chosen, is_empty, chosen_of}
use Rattle.qvt_types_units.specs.Overrides.{is_strictly_below}
use Rattle.qvt_types_choices.specs.Least.{least_of, those_below}
use Rattle.qvt_types_choices.specs.Stuck.{is_stuck}
use Rattle.qvt_types_choices.specs.ByClass.{choice_among, choice_for}
use Rattle.qvt_types_choices.specs.Only.{is_rival, is_only, least, least_above}
use Rattle.qvt_types_choices.proofs.ByClass.{Antisymmetric, in_filter, into_filter, some_in}
use Rattle.qvt_types_choices.proofs.Filtered.{passes_both, all_told, only_one, single_is, chosen_by}
use Rattle.qvt_types_choices.proofs.Somewhere.{some_is, is_some_of}
use Rattle.qvt_types_choices.proofs.Lowest.{Transitive, In, all_at, none_kept, same_test, least_in, single_lowest}

-- Lists.

pub not_among : (x : ℕ) (xs : List ℕ) → AllByRecursion (λ y. eqb x y ≡ false) xs → In x xs → ⊥
not_among x [] differ i = absurd i
not_among x (y ∷ ys) differ i = elim i [
  | inl same ↦ clash (eq-eqb x y same) differ.0
  | inr r ↦ not_among x ys differ.1 r
]

single_kept : (p : ℕ → Bool) (n : ℕ) (xs : List ℕ) → IsDistinct eqb xs → In n xs → p n ≡ true → ((k : ℕ) → In k xs → p k ≡ true → k ≡ n) → filter p xs ≡ n ∷ []
single_kept p n [] d i h one = absurd i
single_kept p n (x ∷ xs) d i h one = by (p x) refl (λ r. single_kept p n xs (IsDistinct-tail eqb x xs d) r h (λ k j. one k (inr j)))
  where
    apart : In x xs → ⊥
    apart = not_among x xs (IsDistinct-head eqb x xs d)

    by : (b : Bool) → p x ≡ b → (In n xs → filter p xs ≡ n ∷ []) → (if b then x ∷ filter p xs else filter p xs) ≡ n ∷ []
    by true e rest =
        let same : x ≡ n = one x (inl refl) e in
        ap2 (λ y ys. y ∷ ys) same (none_kept p xs (λ y j. not_true (p y) (λ t. apart (subst (λ z. In z xs) (one y (inr j) t ∙ sym same) j))))
    by false e rest = elim i [
      | inl same ↦ clash (ap p (sym same) ∙ h) e
      | inr r ↦ rest r
    ]

pub untrue : (b : Bool) → not b ≡ true → b ≡ false
untrue true e = sym e
untrue false e = refl

pub is_not : (b : Bool) → b ≡ false → not b ≡ true
is_not b e = ap not e

-- Contexts.

module _ (m : Metamodels) where
  descends_itself : (d : ℕ) → descends m d d ≡ true
  descends_itself d = ap (λ b. b || is_element m d || reaches m d d) (eq-eqb d d refl)

  strict_below : (h i : HeadClass) → is_strictly_below m h i ≡ true → is_below m h i ≡ true
  strict_below Missing i e = absurd (cc)
  strict_below Unknown i e = absurd (cc)
  strict_below (Known c) Missing e = absurd (cc)
  strict_below (Known c) Unknown e = absurd (cc)
  strict_below (Known c) (Known d) e = and_right (not (c.0 == d.0)) (descends m c.0 d.0) e

  pub strict_apart : Antisymmetric m → (h i : HeadClass) → is_strictly_below m h i ≡ true → is_below m i h ≡ true → ⊥
  strict_apart a Missing i e f = absurd (cc)
  strict_apart a Unknown i e f = absurd (cc)
  strict_apart a (Known c) Missing e f = absurd (cc)
  strict_apart a (Known c) Unknown e f = absurd (cc)
  strict_apart a (Known c) (Known d) e f =
      clash (eq-eqb c.0 d.0 (a c.0 d.0 (and_right (not (c.0 == d.0)) (descends m c.0 d.0) e) f)) (untrue (c.0 == d.0) (and_left (not (c.0 == d.0)) (descends m c.0 d.0) e))

  equal_by : (b d : Bool) → (not b && d) ≡ false → d ≡ true → b ≡ true
  equal_by true d e f = refl
  equal_by false d e f = clash f e

  same_context : (h i : HeadClass) → is_strictly_below m h i ≡ false → is_below m h i ≡ true → h ≡ i
  same_context Missing i e f = absurd (cc)
  same_context Unknown i e f = absurd (cc)
  same_context (Known c) Missing e f = absurd (cc)
  same_context (Known c) Unknown e f = absurd (cc)
  same_context (Known c) (Known d) e f = ap (λ x. Known (record { 0 = x })) (eqb-true c.0 d.0 (equal_by (c.0 == d.0) (descends m c.0 d.0) e f))

  below_itself : (h : HeadClass) (c : ℕ) → is_context_above m h c ≡ true → is_below m h h ≡ true
  below_itself Missing c e = absurd (cc)
  below_itself Unknown c e = absurd (cc)
  below_itself (Known d) c e = descends_itself d.0

module _ (m : Metamodels) (us : List Signature) (a : Antisymmetric m) (ns : List ℕ) (c : ℕ) where
  abbrev above_it : ℕ → Bool
  above_it n = is_context_above m (context_at us n) c

  abbrev several : List ℕ
  several = candidates m us ns c

  abbrev rival_above : ℕ → ℕ → Bool
  rival_above n k = is_rival m us n k && above_it k

  pub no_rival : (n : ℕ) → is_only m us ns n c ≡ true → (k : ℕ) → In k ns → above_it k ≡ true → is_rival m us n k ≡ false
  no_rival n only k i up = not_true (is_rival m us n k)
      (λ r. clash (is_some_of (rival_above n) k ns i (and_both (is_rival m us n k) (above_it k) r up)) (untrue (list_any (rival_above n) ns) (and_right (above_it n) (not (list_any (rival_above n) ns)) only)))

  pub below_by : (n k : ℕ) → is_rival m us n k ≡ false → above_it k ≡ true → is_below m (context_at us n) (context_at us k) ≡ true
  below_by n k none up = by (eqb n k) (is_strictly_below m (context_at us n) (context_at us k)) refl refl none
    where
      by : (x y : Bool) → eqb n k ≡ x → is_strictly_below m (context_at us n) (context_at us k) ≡ y → (not x && not y) ≡ false → is_below m (context_at us n) (context_at us k) ≡ true
      by true y e f r = (let same : n ≡ k = eqb-true n k e in (λ i. is_below m (context_at us (same i)) (context_at us k)) ∙ below_itself m (context_at us k) c up)
      by false true e f r = strict_below m (context_at us n) (context_at us k) f
      by false false e f r = absurd (cc)

  pub strict_by : (n k : ℕ) → is_rival m us n k ≡ false → eqb n k ≡ false → is_strictly_below m (context_at us n) (context_at us k) ≡ true
  strict_by n k none other = by (is_strictly_below m (context_at us n) (context_at us k)) refl (ap (λ x. not x && not (is_strictly_below m (context_at us n) (context_at us k))) (sym other) ∙ none)
    where
      by : (y : Bool) → is_strictly_below m (context_at us n) (context_at us k) ≡ y → (not false && not y) ≡ false → y ≡ true
      by true e r = refl
      by false e r = sym r

  -- such a unit is the single lowest one
  pub only_lowest : IsDistinct eqb ns → (n : ℕ) → In n ns → is_only m us ns n c ≡ true → lowest m us several ≡ n ∷ []
  only_lowest d n i only =
      passes_both above_it (is_lowest m us several) ns
      ∙ single_kept (λ x. above_it x && is_lowest m us several x) n ns d i (and_both (above_it n) (is_lowest m us several n) up is) one
    where
      up : above_it n ≡ true
      up = and_left (above_it n) (not (list_any (rival_above n) ns)) only

      is : is_lowest m us several n ≡ true
      is = all_told (λ k. is_below m (context_at us n) (context_at us k)) several
          (λ k j. below_by n k (no_rival n only k (in_filter above_it k ns j).0 (in_filter above_it k ns j).1) (in_filter above_it k ns j).1)

      one : (k : ℕ) → In k ns → (above_it k && is_lowest m us several k) ≡ true → k ≡ n
      one k j h = by (eqb n k) refl
        where
          by : (b : Bool) → eqb n k ≡ b → k ≡ n
          by true e = sym (eqb-true n k e)
          by false e = absurd (strict_apart m a (context_at us n) (context_at us k)
              (strict_by n k (no_rival n only k j (and_left (above_it k) (is_lowest m us several k) h)) e)
              (all_at (λ x. is_below m (context_at us k) (context_at us x)) n several (into_filter above_it n ns i up) (and_right (above_it k) (is_lowest m us several k) h)))

  -- the single lowest one is such a unit
  pub lowest_only : (n : ℕ) → lowest m us several ≡ n ∷ [] → In n ns × (is_only m us ns n c ≡ true)
  lowest_only n e = (there.0, and_both (above_it n) (not (list_any (rival_above n) ns)) there.1 (is_not (list_any (rival_above n) ns) none))
    where
      low : In n several × (is_lowest m us several n ≡ true)
      low = in_filter (is_lowest m us several) n several (subst (In n) (sym e) (inl refl))

      there : In n ns × (above_it n ≡ true)
      there = in_filter above_it n ns low.0

      same : (k : ℕ) → In k several → is_rival m us n k ≡ true → context_at us n ≡ context_at us k
      same k i r = same_context m (context_at us n) (context_at us k)
          (untrue (is_strictly_below m (context_at us n) (context_at us k)) (and_right (not (eqb n k)) (not (is_strictly_below m (context_at us n) (context_at us k))) r))
          (all_at (λ x. is_below m (context_at us n) (context_at us x)) k several i low.1)

      equal : (k : ℕ) → In k several → is_rival m us n k ≡ true → k ≡ n
      equal k i r = only_one k n (subst (In k) e (into_filter (is_lowest m us several) k several i
          (ap (λ h. list_all (λ x. is_below m h (context_at us x)) several) (sym (same k i r)) ∙ low.1)))

      apart : (k : ℕ) → In k ns → rival_above n k ≡ true → ⊥
      apart k i h =
          let r : is_rival m us n k ≡ true = and_left (is_rival m us n k) (above_it k) h in
          clash (eq-eqb n k (sym (equal k (into_filter above_it k ns i (and_right (is_rival m us n k) (above_it k) h)) r)))
          (untrue (eqb n k) (and_left (not (eqb n k)) (not (is_strictly_below m (context_at us n) (context_at us k))) r))

      none : list_any (rival_above n) ns ≡ false
      none = not_true (list_any (rival_above n) ns) (λ h. some_is (rival_above n) ns h apart)

  -- whether a class has a single choice
  pub some_chosen : IsDistinct eqb ns → is_some (chosen m us ns c) ≡ list_any (λ n. is_only m us ns n c) ns
  unfolding chosen
  some_chosen d = same_test (is_some (single (lowest m us several))) (list_any (λ n. is_only m us ns n c) ns)
      (λ h. by (single (lowest m us several)) refl h)
      (λ h. some_is (λ n. is_only m us ns n c) ns h (λ n i only. ap (λ xs. is_some (single xs)) (only_lowest d n i only)))
    where
      by : (o : Option ℕ) → single (lowest m us several) ≡ o → is_some o ≡ true → list_any (λ n. is_only m us ns n c) ns ≡ true
      by None e h = absurd (cc)
      by (Some n) e h = (let only : In n ns × (is_only m us ns n c ≡ true) = lowest_only n (single_is (lowest m us several) n e) in is_some_of (λ k. is_only m us ns k c) n ns only.0 only.1)

  none_left : (p : ℕ → Bool) (xs : List ℕ) → not (is_empty (filter p xs)) ≡ list_any p xs
  none_left p [] = refl
  none_left p (x ∷ xs) = by (p x) (none_left p xs)
    where
      by : (b : Bool) → not (is_empty (filter p xs)) ≡ list_any p xs → not (is_empty (if b then x ∷ filter p xs else filter p xs)) ≡ (b || list_any p xs)
      by true rest = refl
      by false rest = rest

  -- a concrete class below some of the units, and of none of them alone
  pub stuck_only : IsDistinct eqb ns → is_stuck m us ns c ≡ (not (class_at m c).is_abstract && (list_any above_it ns && not (list_any (λ n. is_only m us ns n c) ns)))
  unfolding is_stuck
  stuck_only d = ap2 (λ x y. not (class_at m c).is_abstract && (x && not y)) (none_left above_it ns) (some_chosen d)

  -- The choice by the lowest of the units.

  pub none_above : least_above m us ns c ≡ None → NoUnit ≡ choice_for m us ns c
  unfolding choice_for
  none_above none = by several none
    where
      by : (xs : List ℕ) → least m us xs ≡ None → NoUnit ≡ choice_among m us xs
      by [] e = refl
      by (x ∷ xs) e = absurd (cc)

  module _ (t : Transitive m) where
    pub least_there : (xs : List ℕ) (n : ℕ) → least m us xs ≡ Some n → In n xs
    least_there [] n e = absurd (cc)
    least_there (x ∷ xs) n e = (let same : least_of m us x xs ≡ n = cc in subst (λ k. In k (x ∷ xs)) same (least_in m us t x xs))

    least_is : (xs : List ℕ) (n k : ℕ) → least m us xs ≡ Some n → lowest m us xs ≡ k ∷ [] → n ≡ k
    least_is [] n k e single_one = absurd (cc)
    least_is (x ∷ xs) n k e single_one =
        let same : least_of m us x xs ≡ n = cc in
        sym same ∙ by (is_lowest m us (x ∷ xs) (least_of m us x xs)) refl (single_lowest m us t x xs ∙ ap single single_one)
      where
        by : (b : Bool) → is_lowest m us (x ∷ xs) (least_of m us x xs) ≡ b
            → (if b then single (those_below m us (least_of m us x xs) (x ∷ xs)) else None) ≡ Some k → least_of m us x xs ≡ k
        by true is f = only_one (least_of m us x xs) k (subst (In (least_of m us x xs)) single_one
            (into_filter (is_lowest m us (x ∷ xs)) (least_of m us x xs) (x ∷ xs) (least_in m us t x xs) is))
        by false is f = absurd (cc)

    pub only_choice : IsDistinct eqb ns → (n : ℕ) → least_above m us ns c ≡ Some n → is_only m us ns n c ≡ true → Chosen n ≡ choice_for m us ns c
    unfolding choice_for
    only_choice d n e only = chosen_by m us several n (only_lowest d n (in_filter above_it n ns (least_there several n e)).0 only)

    pub no_choice : (n : ℕ) → least_above m us ns c ≡ Some n → is_only m us ns n c ≡ false → Unclear ≡ choice_for m us ns c
    unfolding choice_for
    no_choice n e not_it = sym
        ((λ i. if some_in n several (least_there several n e) i then NoUnit else chosen_of false (single (lowest m us several)))
        ∙ by (single (lowest m us several)) refl)
      where
        by : (o : Option ℕ) → single (lowest m us several) ≡ o → chosen_of false o ≡ Unclear
        by None f = refl
        by (Some k) f =
            let alone : lowest m us several ≡ k ∷ [] = single_is (lowest m us several) k f in
            clash ((lowest_only k alone).1) (ap (λ x. is_only m us ns x c) (sym (least_is several n k e alone)) ∙ not_it)
