-- The choice for a class without units of its own, by those of its superclasses.
use Rattle.std.proofs.Common.{◌≡◌, ◌∙◌, ℕ, ◌==◌, eqb, List, [], ◌∷◌, Bool, true, false, ◌&&◌, ◌⊎◌, not, Option, Some, None, inl, inr, refl, sym, ap, subst}
use Rattle.std.specs.Prelude.{if◌then◌else◌, is_some}
use Rattle.std.specs.List.{list_any, list_all, IsDistinct}
use Rattle.std.proofs.lemmas.Bool.{eq-eqb, eqb-true}
use Rattle.qvt_base.specs.declared.numbers.ClassNo.{ClassNo}
use Rattle.qvt_metas.specs.Metamodels.{Metamodels, class_at}
use Rattle.qvt_metas.specs.Descends.{is_superclass, Inherits, IsAncestor, descends, Descends}
use Rattle.qvt_metamodel.proofs.Ancestors.{passing, begins, over as goes_over}
use Rattle.qvt_metamodel.proofs.Bools.{and_both, and_left, and_right, and_no, or_left, or_right, or_cases, not_true, clash}
use Rattle.qvt_types_units.specs.declared.choice.FoundUnit.{FoundUnit}
use Rattle.qvt_types_units.specs.declared.choice.FoundUnit.TheVariants.{NoUnit, Untyped, Unclear, Chosen}
use Rattle.qvt_types_units.specs.declared.signature.HeadClass.{HeadClass}
use Rattle.qvt_types_units.specs.declared.signature.HeadClass.TheVariants.{Missing, Unknown, Known}
use Rattle.qvt_types_units.specs.declared.signature.Signature.{Signature}
use Rattle.qvt_types_units.specs.Choice.{is_context_above, context_at, candidates, lowest, single, chosen_of, is_empty}
use Rattle.qvt_types_units.specs.Numbers.{is_context}
use Rattle.qvt_types_units.specs.Overrides.{is_strictly_below}
use Rattle.qvt_types_choices.specs.Least.{stands_below, least_of}
use Rattle.qvt_types_choices.specs.Only.{is_rival, is_only, least}
use Rattle.qvt_types_choices.specs.ByClass.{choice_among, choice_for, own, known_at, top_choice, is_unclear, is_unclear_in, is_rival_in, with_chosen, chosens, are_known, some_unclear, some_rival, joined_by, inherited, AreKnown}
use Rattle.qvt_types_choices.proofs.ByClass.{AreLeast, Antisymmetric, filter_same, in_filter, into_filter, none_passes, some_in, some_none, same_some, by_top}
use Rattle.qvt_types_choices.proofs.Filtered.{all_told, single_is, none_among, lowest_is, chosen_by}
use Rattle.qvt_types_choices.proofs.Lowest.{Transitive, In, none_kept, same_test, least_below}
use Rattle.qvt_types_choices.proofs.Sets.{or_false}
use Rattle.qvt_types_choices.proofs.Singly.{untrue, is_not, strict_apart, no_rival, below_by, strict_by, least_there, only_lowest, lowest_only}
use Rattle.qvt_types_choices.proofs.Somewhere.{some_is, is_some_of}

-- Superclasses.

some_of : {A : Type 0} (q : ClassNo → Bool) (cs : List ClassNo) → list_any q cs ≡ true → ((c : ClassNo) → list_any (λ d. d.0 == c.0) cs ≡ true → q c ≡ true → A) → A
some_of q [] e go = absurd (cc)
some_of q (c ∷ cs) e go = elim (or_cases (q c) (list_any q cs) e) [
  | inl here ↦ go c (or_left (c.0 == c.0) (list_any (λ d. d.0 == c.0) cs) (eq-eqb c.0 c.0 refl)) here
  | inr rest ↦ some_of q cs rest (λ d there is. go d (or_right (c.0 == d.0) (list_any (λ x. x.0 == d.0) cs) there) is)
]

any_class : (p q : ClassNo → Bool) (cs : List ClassNo) → ((c : ClassNo) → p c ≡ true → q c ≡ true) → list_any p cs ≡ true → list_any q cs ≡ true
any_class p q [] f h = h
any_class p q (c ∷ cs) f h = elim (or_cases (p c) (list_any p cs) h) [
  | inl here ↦ or_left (q c) (list_any q cs) (f c here)
  | inr rest ↦ or_right (q c) (list_any q cs) (any_class p q cs f rest)
]

some_class : {A : Type 0} (p : ℕ → Bool) (cs : List ClassNo) → list_any (λ s. p s.0) cs ≡ true → ((k : ℕ) → list_any (λ s. s.0 == k) cs ≡ true → p k ≡ true → A) → A
some_class p cs h go = some_of (λ s. p s.0) cs h (λ c there is. go c.0 there is)

all_class : (p : ℕ → Bool) (cs : List ClassNo) (k : ℕ) → list_all (λ s. p s.0) cs ≡ true → list_any (λ s. s.0 == k) cs ≡ true → p k ≡ true
all_class p [] k all there = absurd (cc)
all_class p (c ∷ cs) k all there = elim (or_cases (c.0 == k) (list_any (λ s. s.0 == k) cs) there) [
  | inl here ↦ ap p (sym (eqb-true c.0 k here)) ∙ and_left (p c.0) (list_all (λ s. p s.0) cs) all
  | inr rest ↦ all_class p cs k (and_right (p c.0) (list_all (λ s. p s.0) cs) all) rest
]

module _ (m : Metamodels) (t : Transitive m) (least : AreLeast m) where
  below_super : (s : ClassNo) (cs : List ClassNo) (c d : ℕ) → IsAncestor m c d → (class_at m c).supers ≡ s ∷ cs → list_any (λ x. descends m x.0 d) (s ∷ cs) ≡ true
  below_super s cs c d (inl up) e =
      let first : (k : ℕ) × (is_superclass m c k ≡ true) × ((k ≡ d) ⊎ Inherits m k d) = begins m c d up in
      any_class (λ x. x.0 == first.0) (λ x. descends m x.0 d) (s ∷ cs) (λ x h. (least x.0 d).1 (subst (λ y. Descends m y d) (sym (eqb-true x.0 first.0 h)) (onward first.0 first.2)))
      (sym (ap (list_any (λ (x : ClassNo). x.0 == first.0)) e) ∙ first.1)
    where
      onward : (k : ℕ) → (k ≡ d) ⊎ Inherits m k d → Descends m k d
      onward k (inl same) = inl same
      onward k (inr more) = inr (inl more)
  below_super s cs c d (inr top) e = or_left (descends m s.0 d) (list_any (λ x. descends m x.0 d) cs) ((least s.0 d).1 (inr (inr top)))

  none_above_some : (cs : List ClassNo) → false ≡ list_any (λ (x : ClassNo). false) cs
  none_above_some [] = refl
  none_above_some (c ∷ cs) = none_above_some cs

  above_supers : (h : HeadClass) (c : ℕ) (s : ClassNo) (cs : List ClassNo) → is_context h c ≡ false → (class_at m c).supers ≡ s ∷ cs → is_context_above m h c ≡ list_any (λ x. is_context_above m h x.0) (s ∷ cs)
  above_supers Missing c s cs other e = none_above_some (s ∷ cs)
  above_supers Unknown c s cs other e = none_above_some (s ∷ cs)
  above_supers (Known d) c s cs other e = same_test (descends m c d.0) (list_any (λ x. descends m x.0 d.0) (s ∷ cs))
      (λ h. elim ((least c d.0).0 h) [
        | inl same ↦ clash (eq-eqb d.0 c (sym same)) other
        | inr up ↦ below_super s cs c d.0 up e
      ])
      (λ h. some_of (λ x. descends m x.0 d.0) (s ∷ cs) h
      (λ x there is. t c x.0 d.0 ((least c x.0).1 (inr (inl (goes_over m c x.0 x.0 (ap (list_any (λ (y : ClassNo). y.0 == x.0)) e ∙ there) (inl refl))))) is))

-- a class without units of its own has the choice of its only superclass
by_one : (m : Metamodels) (us : List Signature) → Transitive m → AreLeast m → (ns : List ℕ) (c : ℕ) (s : ClassNo) → own us ns c ≡ [] → (class_at m c).supers ≡ s ∷ []
    → choice_for m us ns c ≡ choice_for m us ns s.0
unfolding choice_for
by_one m us t low ns c s none e = ap (choice_among m us) (filter_same (λ n. is_context_above m (context_at us n) c) (λ n. is_context_above m (context_at us n) s.0) ns
    (λ n i. above_supers m t low (context_at us n) c s [] (none_passes (λ k. is_context (context_at us k) c) ns none n i) e ∙ or_false (is_context_above m (context_at us n) s.0)))

-- What a choice says of the units above a class.

module _ (m : Metamodels) (us : List Signature) (t : Transitive m) (a : Antisymmetric m) (ns : List ℕ) (d : IsDistinct eqb ns) where
  abbrev over : ℕ → ℕ → Bool
  over n c = is_context_above m (context_at us n) c

  abbrev disputes : ℕ → ℕ → ℕ → Bool
  disputes n c k = is_rival m us n k && over k c

  to_chosen : (x c : ℕ) → In x ns → is_only m us ns x c ≡ true → Chosen x ≡ choice_for m us ns c
  unfolding choice_for
  to_chosen x c i only = chosen_by m us (candidates m us ns c) x (only_lowest m us a ns c d x i only)

  from_chosen : (x c : ℕ) → Chosen x ≡ choice_for m us ns c → In x ns × (is_only m us ns x c ≡ true)
  unfolding choice_for
  from_chosen x c e = lowest_only m us a ns c x (lowest_is m us (candidates m us ns c) x e)

  to_unclear : (c k : ℕ) → In k ns → over k c ≡ true → ((x : ℕ) → In x ns → is_only m us ns x c ≡ true → ⊥) → Unclear ≡ choice_for m us ns c
  unfolding choice_for
  to_unclear c k i up none = sym
      ((λ j. if some_in k (candidates m us ns c) (into_filter (λ n. over n c) k ns i up) j then NoUnit else chosen_of false (single (lowest m us (candidates m us ns c))))
      ∙ by (single (lowest m us (candidates m us ns c))) refl)
    where
      by : (o : Option ℕ) → single (lowest m us (candidates m us ns c)) ≡ o → chosen_of false o ≡ Unclear
      by None f = refl
      by (Some x) f = (let o : In x ns × (is_only m us ns x c ≡ true) = lowest_only m us a ns c x (single_is (lowest m us (candidates m us ns c)) x f) in absurd (none x o.0 o.1))

  to_none : (c : ℕ) → ((k : ℕ) → In k ns → over k c ≡ true → ⊥) → NoUnit ≡ choice_for m us ns c
  unfolding choice_for
  to_none c none = sym (ap (choice_among m us) (none_kept (λ n. over n c) ns (λ k i. not_true (over k c) (none k i))))

  from_none : (c : ℕ) → NoUnit ≡ choice_for m us ns c → (k : ℕ) → In k ns → over k c ≡ true → ⊥
  unfolding choice_for
  from_none c e k i up = clash up (none_passes (λ n. over n c) ns (none_among m us (candidates m us ns c) e) k i)

  never_untyped : (c : ℕ) → Untyped ≡ choice_for m us ns c → ⊥
  unfolding choice_for
  never_untyped c e = by (is_empty (candidates m us ns c)) (single (lowest m us (candidates m us ns c))) e
    where
      by : (b : Bool) (o : Option ℕ) → Untyped ≡ (if b then NoUnit else chosen_of false o) → ⊥
      by true o e = absurd (cc)
      by false None e = absurd (cc)
      by false (Some n) e = absurd (cc)

  from_unclear : {A : Type 0} (c : ℕ) → Unclear ≡ choice_for m us ns c → ((k : ℕ) → In k ns → over k c ≡ true → A) → A
  unfolding choice_for
  from_unclear {A} c e go = by (candidates m us ns c) refl e
    where
      by : (xs : List ℕ) → candidates m us ns c ≡ xs → Unclear ≡ choice_among m us xs → A
      by [] f e = absurd (cc)
      by (k ∷ ks) f e = (let i : In k ns × (over k c ≡ true) = in_filter (λ n. over n c) k ns (subst (In k) (sym f) (inl refl)) in go k i.0 i.1)

  strict_trans : (h i j : HeadClass) → is_strictly_below m h i ≡ true → is_strictly_below m i j ≡ true → is_strictly_below m h j ≡ true
  strict_trans Missing i j p q = absurd (cc)
  strict_trans Unknown i j p q = absurd (cc)
  strict_trans (Known c) Missing j p q = absurd (cc)
  strict_trans (Known c) Unknown j p q = absurd (cc)
  strict_trans (Known c) (Known e) Missing p q = absurd (cc)
  strict_trans (Known c) (Known e) Unknown p q = absurd (cc)
  strict_trans (Known c) (Known e) (Known f) p q =
      let low : descends m c.0 e.0 ≡ true = and_right (not (c.0 == e.0)) (descends m c.0 e.0) p in
      let high : descends m e.0 f.0 ≡ true = and_right (not (e.0 == f.0)) (descends m e.0 f.0) q in
      and_both (not (c.0 == f.0)) (descends m c.0 f.0)
      (is_not (c.0 == f.0) (not_true (c.0 == f.0) (λ same.
      clash (eq-eqb c.0 e.0 (a c.0 e.0 low (subst (λ x. descends m e.0 x ≡ true) (sym (eqb-true c.0 f.0 same)) high)))
      (untrue (c.0 == e.0) (and_left (not (c.0 == e.0)) (descends m c.0 e.0) p)))))
      (t c.0 e.0 f.0 low high)

  rival_trans : (n j k : ℕ) → is_rival m us n j ≡ false → is_rival m us j k ≡ false → is_rival m us n k ≡ false
  rival_trans n j k p q = by (eqb n j) (eqb j k) refl refl
    where
      by : (x y : Bool) → eqb n j ≡ x → eqb j k ≡ y → is_rival m us n k ≡ false
      by true y e f = ap (λ i. is_rival m us i k) (eqb-true n j e) ∙ q
      by false true e f = ap (is_rival m us n) (sym (eqb-true j k f)) ∙ p
      by false false e f = and_no (not (eqb n k)) (not (is_strictly_below m (context_at us n) (context_at us k)))
          (ap not (strict_trans (context_at us n) (context_at us j) (context_at us k) (strict_by m us a ns 0 n j p e) (strict_by m us a ns 0 j k q f)))

  nothing_least : (xs : List ℕ) (n : ℕ) → least m us xs ≡ None → In n xs → ⊥
  nothing_least [] n e i = absurd i
  nothing_least (x ∷ xs) n e i = absurd (cc)

  least_low : (xs : List ℕ) (n x : ℕ) → least m us xs ≡ Some n → In x xs → list_all (λ k. stands_below m us x k) xs ≡ true → stands_below m us n x ≡ true
  least_low [] n x e i all = absurd i
  least_low (b ∷ xs) n x e i all = (let same : least_of m us b xs ≡ n = cc in ap (λ k. stands_below m us k x) (sym same) ∙ least_below m us t b xs x i all)

  -- The units that are chosen for some classes.

  module _ (known : List (Option FoundUnit)) where
    more_chosen : (o : Option FoundUnit) (n : ℕ) (xs : List ℕ) → In n xs → In n (with_chosen o xs)
    more_chosen None n xs i = i
    more_chosen (Some NoUnit) n xs i = i
    more_chosen (Some Untyped) n xs i = i
    more_chosen (Some Unclear) n xs i = i
    more_chosen (Some (Chosen k)) n xs i = inr i

    in_chosens : (cs : List ClassNo) (k n : ℕ) → list_any (λ s. s.0 == k) cs ≡ true → known_at known k ≡ Some (Chosen n) → In n (chosens known cs)
    in_chosens [] k n there e = absurd (cc)
    in_chosens (c ∷ cs) k n there e = elim (or_cases (c.0 == k) (list_any (λ s. s.0 == k) cs) there) [
      | inl here ↦ subst (λ o. In n (with_chosen o (chosens known cs))) (sym (ap (known_at known) (eqb-true c.0 k here) ∙ e)) (inl refl)
      | inr rest ↦ more_chosen (known_at known c.0) n (chosens known cs) (in_chosens cs k n rest e)
    ]

    from_chosens : {A : Type 0} (cs : List ClassNo) (n : ℕ) → In n (chosens known cs) → ((k : ℕ) → list_any (λ s. s.0 == k) cs ≡ true → known_at known k ≡ Some (Chosen n) → A) → A
    from_chosens [] n i go = absurd i
    from_chosens {A} (c ∷ cs) n i go = by (known_at known c.0) refl i (λ j. from_chosens cs n j (λ k there e. go k (or_right (c.0 == k) (list_any (λ s. s.0 == k) cs) there) e))
      where
        by : (o : Option FoundUnit) → known_at known c.0 ≡ o → In n (with_chosen o (chosens known cs)) → (In n (chosens known cs) → A) → A
        by None e i rest = rest i
        by (Some NoUnit) e i rest = rest i
        by (Some Untyped) e i rest = rest i
        by (Some Unclear) e i rest = rest i
        by (Some (Chosen j)) e i rest = elim i [
          | inl same ↦ go c.0 (or_left (c.0 == c.0) (list_any (λ s. s.0 == c.0) cs) (eq-eqb c.0 c.0 refl)) (e ∙ ap (λ x. Some (Chosen x)) (sym same))
          | inr r ↦ rest r
        ]

    module _ (are : AreKnown m us ns known) (low : AreLeast m) (c : ℕ) (s : ClassNo) (cs : List ClassNo) (none : own us ns c ≡ []) (e : (class_at m c).supers ≡ s ∷ cs) where
      abbrev ks : List ClassNo
      ks = s ∷ cs

      abbrev there : ℕ → Bool
      there k = list_any (λ x. x.0 == k) ks

      over_is : (n : ℕ) → In n ns → over n c ≡ list_any (λ x. over n x.0) ks
      over_is n i = above_supers m t low (context_at us n) c s cs (none_passes (λ k. is_context (context_at us k) c) ns none n i) e

      over_by : (n k : ℕ) → In n ns → there k ≡ true → over n k ≡ true → over n c ≡ true
      over_by n k i th up = over_is n i ∙ passing (over n) ks k th up

      over_one : {A : Type 0} (n : ℕ) → In n ns → over n c ≡ true → ((k : ℕ) → there k ≡ true → over n k ≡ true → A) → A
      over_one n i up go = some_class (over n) ks (sym (over_is n i) ∙ up) go

      -- the single choice of a class is that of each superclass that it is above
      only_at : (x k : ℕ) → there k ≡ true → is_only m us ns x c ≡ true → over x k ≡ true → is_only m us ns x k ≡ true
      only_at x k th only up = and_both (over x k) (not (list_any (disputes x k) ns)) up
          (is_not (list_any (disputes x k) ns) (not_true (list_any (disputes x k) ns) (λ h. some_is (disputes x k) ns h
          (λ y j r. clash (is_some_of (disputes x c) y ns j (and_both (is_rival m us x y) (over y c) (and_left (is_rival m us x y) (over y k) r) (over_by y k j th (and_right (is_rival m us x y) (over y k) r))))
          (untrue (list_any (disputes x c) ns) (and_right (over x c) (not (list_any (disputes x c) ns)) only))))))

      chosen_over : (n : ℕ) → In n (chosens known ks) → In n ns × (over n c ≡ true)
      chosen_over n i = from_chosens ks n i
          (λ k th f. (let o : In n ns × (is_only m us ns n k ≡ true) = from_chosen n k (are.told k (Chosen n) f) in
          (o.0, over_by n k o.0 th (and_left (over n k) (not (list_any (disputes n k) ns)) o.1))))

      module _ (told : are_known known ks ≡ true) where
        known_one : {A : Type 0} (k : ℕ) → there k ≡ true → ((f : FoundUnit) → known_at known k ≡ Some f → f ≡ choice_for m us ns k → A) → A
        known_one {A} k th go = by (known_at known k) refl (all_class (λ x. is_some (known_at known x)) ks k told th)
          where
            by : (o : Option FoundUnit) → known_at known k ≡ o → is_some o ≡ true → A
            by None f h = absurd (cc)
            by (Some g) f h = go g f (are.told k g f)

        only_in : (x : ℕ) → In x ns → is_only m us ns x c ≡ true → In x (chosens known ks)
        only_in x i only = over_one x i (and_left (over x c) (not (list_any (disputes x c) ns)) only)
            (λ k th up. known_one k th (λ f g is. in_chosens ks k x th (g ∙ ap Some (is ∙ sym (to_chosen x k i (only_at x k th only up))))))

        unclear_is : (f : FoundUnit) → is_unclear f ≡ true → Unclear ≡ f
        unclear_is NoUnit h = absurd (cc)
        unclear_is Untyped h = absurd (cc)
        unclear_is Unclear h = refl
        unclear_is (Chosen n) h = absurd (cc)

        none_unclear : least m us (chosens known ks) ≡ None → some_unclear known ks ≡ true → Unclear ≡ choice_for m us ns c
        none_unclear nothing h = some_class (λ k. is_unclear_in (known_at known k)) ks h
            (λ k th u. known_one k th (λ f g is. from_unclear k (unclear_is f (ap is_unclear_in (sym g) ∙ u) ∙ is)
            (λ n i up. to_unclear c n i (over_by n k i th up) (λ x j only. nothing_least (chosens known ks) x nothing (only_in x j only)))))

        none_none : least m us (chosens known ks) ≡ None → some_unclear known ks ≡ false → NoUnit ≡ choice_for m us ns c
        none_none nothing clear = to_none c (λ n i up. over_one n i up (λ k th upk. known_one k th (λ f g is. by n i k th upk f g is)))
          where
            by : (n : ℕ) → In n ns → (k : ℕ) → there k ≡ true → over n k ≡ true → (f : FoundUnit) → known_at known k ≡ Some f → f ≡ choice_for m us ns k → ⊥
            by n i k th upk NoUnit g is = from_none k is n i upk
            by n i k th upk Untyped g is = never_untyped k is
            by n i k th upk Unclear g is = clash (passing (λ x. is_unclear_in (known_at known x)) ks k th (ap is_unclear_in g)) clear
            by n i k th upk (Chosen j) g is = nothing_least (chosens known ks) j nothing (in_chosens ks k j th g)

        module _ (n : ℕ) (lowest_is_n : least m us (chosens known ks) ≡ Some n) where
          low_there : In n (chosens known ks)
          low_there = least_there m us a ns c t (chosens known ks) n lowest_is_n

          same_low : (x : ℕ) → In x ns → is_only m us ns x c ≡ true → n ≡ x
          same_low x i only = by (eqb x n) refl
            where
              fine : (k : ℕ) → In k (chosens known ks) → is_rival m us x k ≡ false
              fine k j = no_rival m us a ns c x only k (chosen_over k j).0 (chosen_over k j).1

              below : stands_below m us n x ≡ true
              below = least_low (chosens known ks) n x lowest_is_n (only_in x i only)
                  (all_told (λ k. stands_below m us x k) (chosens known ks) (λ k j. below_by m us a ns c x k (fine k j) (chosen_over k j).1))

              by : (b : Bool) → eqb x n ≡ b → n ≡ x
              by true f = sym (eqb-true x n f)
              by false f = absurd (strict_apart m a (context_at us x) (context_at us n) (strict_by m us a ns c x n (fine n low_there) f) below)

          rival_unclear : some_rival m us known ks n ≡ true → Unclear ≡ choice_for m us ns c
          rival_unclear h = to_unclear c n (chosen_over n low_there).0 (chosen_over n low_there).1
              (λ x i only. some_class (λ k. is_rival_in m us n (known_at known k)) ks h (λ k th r. by x i only k th (known_at known k) refl r))
            where
              by : (x : ℕ) → In x ns → is_only m us ns x c ≡ true → (k : ℕ) → there k ≡ true → (o : Option FoundUnit) → known_at known k ≡ o → is_rival_in m us n o ≡ true → ⊥
              by x i only k th None g r = absurd (cc)
              by x i only k th (Some NoUnit) g r = absurd (cc)
              by x i only k th (Some Untyped) g r = absurd (cc)
              by x i only k th (Some Unclear) g r = absurd (cc)
              by x i only k th (Some (Chosen j)) g r =
                  let o : In j ns × (over j c ≡ true) = chosen_over j (in_chosens ks k j th g) in
                  clash (ap (λ y. is_rival m us y j) (sym (same_low x i only)) ∙ r) (no_rival m us a ns c x only j o.0 o.1)

          low_chosen : some_rival m us known ks n ≡ false → some_unclear known ks ≡ false → Chosen n ≡ choice_for m us ns c
          low_chosen alone clear = to_chosen n c (chosen_over n low_there).0
              (and_both (over n c) (not (list_any (disputes n c) ns)) (chosen_over n low_there).1
              (is_not (list_any (disputes n c) ns) (not_true (list_any (disputes n c) ns) (λ h. some_is (disputes n c) ns h
              (λ k i r. over_one k i (and_right (is_rival m us n k) (over k c) r) (λ q th up. known_one q th (λ f g is. by k i (and_left (is_rival m us n k) (over k c) r) q th up f g is)))))))
            where
              by : (k : ℕ) → In k ns → is_rival m us n k ≡ true → (q : ℕ) → there q ≡ true → over k q ≡ true → (f : FoundUnit) → known_at known q ≡ Some f → f ≡ choice_for m us ns q → ⊥
              by k i r q th up NoUnit g is = from_none q is k i up
              by k i r q th up Untyped g is = never_untyped q is
              by k i r q th up Unclear g is = clash (passing (λ x. is_unclear_in (known_at known x)) ks q th (ap is_unclear_in g)) clear
              by k i r q th up (Chosen j) g is =
                  clash r (rival_trans n j k
                  (not_true (is_rival m us n j) (λ z. clash (passing (λ x. is_rival_in m us n (known_at known x)) ks q th (ap (is_rival_in m us n) g ∙ z)) alone))
                  (no_rival m us a ns q j (from_chosen j q is).1 k i up))

        -- what they tell together
        joined_is : (f : FoundUnit) → joined_by m us known ks (least m us (chosens known ks)) ≡ Some f → f ≡ choice_for m us ns c
        joined_is f = by (least m us (chosens known ks)) refl
          where
            nothing : (b : Bool) → least m us (chosens known ks) ≡ None → some_unclear known ks ≡ b → Some (if b then Unclear else NoUnit) ≡ Some f → f ≡ choice_for m us ns c
            nothing true g u h = same_some Unclear f h ∙ none_unclear g u
            nothing false g u h = same_some NoUnit f h ∙ none_none g u

            one : (n : ℕ) → least m us (chosens known ks) ≡ Some n → (x y : Bool) → some_rival m us known ks n ≡ x → some_unclear known ks ≡ y
                → (if x then Some Unclear else if y then None else Some (Chosen n)) ≡ Some f → f ≡ choice_for m us ns c
            one n g true y r u h = same_some Unclear f h ∙ rival_unclear n g r
            one n g false true r u h = absurd (some_none f (sym h))
            one n g false false r u h = same_some (Chosen n) f h ∙ low_chosen n g r u

            by : (o : Option ℕ) → least m us (chosens known ks) ≡ o → joined_by m us known ks o ≡ Some f → f ≡ choice_for m us ns c
            by None g h = nothing (some_unclear known ks) g refl h
            by (Some n) g h = one n g (some_rival m us known ks n) (some_unclear known ks) refl refl h

-- what the superclasses tell of a class without units of its own is its choice
pub inherited_is : (m : Metamodels) (us : List Signature) → Transitive m → Antisymmetric m → AreLeast m → (ns : List ℕ) → IsDistinct eqb ns → (known : List (Option FoundUnit)) (top : FoundUnit) (c : ℕ) (f : FoundUnit)
    → AreKnown m us ns known → top ≡ top_choice m us ns → own us ns c ≡ [] → inherited m us known top (class_at m c).supers ≡ Some f → f ≡ choice_for m us ns c
inherited_is m us t a low ns d known top c f are is none tells = by (class_at m c).supers refl tells
  where
    told : (s : ClassNo) (cs : List ClassNo) → (class_at m c).supers ≡ s ∷ cs → (b : Bool) → are_known known (s ∷ cs) ≡ b
        → (if b then joined_by m us known (s ∷ cs) (least m us (chosens known (s ∷ cs))) else None) ≡ Some f → f ≡ choice_for m us ns c
    told s cs e true all tells = joined_is m us t a ns d known are low c s cs none e all f tells
    told s cs e false all tells = absurd (some_none f (sym tells))

    by : (ks : List ClassNo) → (class_at m c).supers ≡ ks → inherited m us known top ks ≡ Some f → f ≡ choice_for m us ns c
    by [] e tells = same_some top f tells ∙ is ∙ sym (by_top m us t low ns c none e)
    by (s ∷ []) e tells = are.told s.0 f tells ∙ sym (by_one m us t low ns c s none e)
    by (s ∷ k ∷ cs) e tells = told s (k ∷ cs) e (are_known known (s ∷ k ∷ cs)) refl tells
