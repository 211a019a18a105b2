-- The choice for a class, by its own units and by its superclasses.
use Rattle.std.proofs.Common.{◌≡◌, ◌∙◌, ◌≢◌, ℕ, ◌+◌, ◌<◌, ◌==◌, List, [], ◌∷◌, length, set, Bool, true, false, ◌&&◌, ◌⊎◌, Option, Some, None, inl, inr, refl, sym, ap, subst, arith}
use Rattle.std.specs.Prelude.{if◌then◌else◌, filter, IsTrue, ◌↔◌}
use Rattle.std.specs.List.{list_any, list_all}
use Rattle.std.proofs.lemmas.Bool.{eq-eqb, eqb-true}
use Rattle.std.proofs.lemmas.List.{length-set, get_or-set_same, get_or-set_other, get_or_past}
use Rattle.qvt_base.specs.declared.numbers.ClassNo.{ClassNo}
use Rattle.qvt_metamodel.specs.declared.info.ClassInfo.{ClassInfo}
use Rattle.qvt_metas.specs.Metamodels.{Metamodels, class_at, nowhere_class, is_element}
use Rattle.qvt_metas.specs.Descends.{is_superclass, Inherits, IsAncestor, descends, Descends}
use Rattle.qvt_metamodel.proofs.Ancestors.{begins}
use Rattle.qvt_metamodel.proofs.Bools.{not_true, clash}
use Rattle.qvt_metamodel.proofs.Halves.{Half, old, new, half}
use Rattle.qvt_types_units.specs.declared.choice.FoundUnit.{FoundUnit}
use Rattle.qvt_types_units.specs.declared.choice.FoundUnit.TheVariants.{NoUnit, Unclear, Chosen}
use Rattle.qvt_types_units.specs.declared.signature.HeadClass.{HeadClass}
use Rattle.qvt_types_units.specs.declared.signature.HeadClass.TheVariants.{Missing, Unknown, Known}
use Rattle.qvt_types_units.specs.declared.signature.Signature.{Signature}
use Rattle.qvt_types_units.specs.Choice.{is_context_above, is_below, context_at, candidates, is_lowest, lowest, single, is_empty, chosen_of}
use Rattle.qvt_types_units.specs.Numbers.{is_context}
use Rattle.qvt_types_choices.specs.ByClass.{choice_among, choice_for, own, one_more, all_more, known_at, told_more, is_top, top_choice, AreKnown}
use Rattle.qvt_types_choices.proofs.Lowest.{Transitive, In, all_at, same_test}

abbrev pub Antisymmetric : Metamodels → Type 0
Antisymmetric m = (c d : ℕ) → IsTrue (descends m c d) → IsTrue (descends m d c) → c ≡ d

abbrev pub AreLeast : Metamodels → Type 0
AreLeast m = (sub sup : ℕ) → IsTrue (descends m sub sup) ↔ Descends m sub sup

-- Lists that are filtered.

pub filter_same : (p q : ℕ → Bool) (xs : List ℕ) → ((x : ℕ) → In x xs → p x ≡ q x) → filter p xs ≡ filter q xs
filter_same p q [] same = refl
filter_same p q (x ∷ xs) same =
    let rest : filter p xs ≡ filter q xs = filter_same p q xs (λ y i. same y (inr i)) in
    (λ i. if same x (inl refl) i then x ∷ rest i else rest i)

pub in_filter : (p : ℕ → Bool) (x : ℕ) (xs : List ℕ) → In x (filter p xs) → In x xs × (p x ≡ true)
in_filter p x [] i = absurd i
in_filter p x (y ∷ ys) i = by (p y) refl i (in_filter p x ys)
  where
    by : (b : Bool) → p y ≡ b → In x (if b then y ∷ filter p ys else filter p ys) → (In x (filter p ys) → In x ys × (p x ≡ true)) → In x (y ∷ ys) × (p x ≡ true)
    by true e i rest = elim i [
      | inl same ↦ (inl same, ap p same ∙ e)
      | inr r ↦ (inr (rest r).0, (rest r).1)
    ]
    by false e i rest = (inr (rest i).0, (rest i).1)

pub into_filter : (p : ℕ → Bool) (x : ℕ) (xs : List ℕ) → In x xs → p x ≡ true → In x (filter p xs)
into_filter p x [] i h = absurd i
into_filter p x (y ∷ ys) i h = by (p y) refl i (λ r. into_filter p x ys r h)
  where
    by : (b : Bool) → p y ≡ b → In x (y ∷ ys) → (In x ys → In x (filter p ys)) → In x (if b then y ∷ filter p ys else filter p ys)
    by true e i rest = elim i [ inl same ↦ inl same | inr r ↦ inr (rest r) ]
    by false e i rest = elim i [ inl same ↦ clash (sym (ap p same) ∙ h) e | inr r ↦ rest r ]

pub none_passes : (p : ℕ → Bool) (xs : List ℕ) → filter p xs ≡ [] → (x : ℕ) → In x xs → p x ≡ false
none_passes p xs none x i = not_true (p x) (λ h. subst (In x) none (into_filter p x xs i h))

-- what passes both tests, where one implies the other
pub kept_both : (p q : ℕ → Bool) (xs : List ℕ) → ((x : ℕ) → p x ≡ true → q x ≡ true) → filter p (filter q xs) ≡ filter p xs
kept_both p q [] implies = refl
kept_both p q (x ∷ xs) implies = by (q x) refl (kept_both p q xs implies)
  where
    by : (b : Bool) → q x ≡ b → filter p (filter q xs) ≡ filter p xs → filter p (if b then x ∷ filter q xs else filter q xs) ≡ (if p x then x ∷ filter p xs else filter p xs)
    by true e rest = λ i. if p x then x ∷ rest i else rest i
    by false e rest = rest ∙ (λ i. if sym (not_true (p x) (λ h. clash (implies x h) e)) i then x ∷ filter p xs else filter p xs)

pub all_pass : (p : ℕ → Bool) (xs : List ℕ) → list_all p (filter p xs) ≡ true
all_pass p [] = refl
all_pass p (x ∷ xs) = by (p x) refl (all_pass p xs)
  where
    by : (b : Bool) → p x ≡ b → list_all p (filter p xs) ≡ true → list_all p (if b then x ∷ filter p xs else filter p xs) ≡ true
    by true e rest = (λ i. e i && rest i)
    by false e rest = rest

pub some_in : (x : ℕ) (xs : List ℕ) → In x xs → is_empty xs ≡ false
some_in x [] i = absurd i
some_in x (y ∷ ys) i = refl

pub some_none : (f : FoundUnit) → Some f ≡ None → ⊥
some_none f e = absurd (cc)

pub same_some : (f g : FoundUnit) → Some f ≡ Some g → g ≡ f
same_some f g e = cc

some_within : (known : List (Option FoundUnit)) (c : ℕ) (f : FoundUnit) → known_at known c ≡ Some f → c < length known
some_within known c f tells = by c (half (length known) c) tells
  where
    by : (c : ℕ) → Half (length known) c → known_at known c ≡ Some f → c < length known
    by _ (old c low) tells = low
    by _ (new k) tells = absurd (some_none f (sym tells ∙ get_or_past known (length known + k) None (omega arith)))

known_context : (h : HeadClass) (c : ℕ) → is_context h c ≡ true → h ≡ Known (record { 0 = c })
known_context Missing c e = absurd (cc)
known_context Unknown c e = absurd (cc)
known_context (Known d) c e = ap (λ x. Known (record { 0 = x })) (eqb-true d.0 c e)

-- What is above a class by its superclasses.

module _ (m : Metamodels) where
  none_above : (c d : ℕ) → IsAncestor m c d → (class_at m c).supers ≡ [] → is_element m d ≡ true
  none_above c d (inl up) e =
      (let s : (s : ℕ) × (is_superclass m c s ≡ true) × ((s ≡ d) ⊎ Inherits m s d) = begins m c d up in clash s.1 (ap (list_any (λ (x : ClassNo). x.0 == s.0)) e))
  none_above c d (inr top) e = top

  -- above a class that is not there the class above all alone is, and this one itself
  pub above_nowhere : AreLeast m → (n c : ℕ) (b : Bool) → n ≡ length m.classes → n ≢ c → b ≡ descends m n c → b ≡ is_element m c
  above_nowhere least n c b there other e = e ∙ same_test (descends m n c) (is_element m c)
      (λ h. elim ((least n c).0 h) [
        | inl same ↦ absurd (other same)
        | inr up ↦ none_above n c up (ap (λ (k : ClassInfo). k.supers) (get_or_past m.classes n nowhere_class (omega (arith, there))))
      ])
      (λ h. (least n c).1 (inr (inr h)))

module _ (m : Metamodels) (us : List Signature) where
  module _ (t : Transitive m) (least : AreLeast m) where
    above_top : (h : HeadClass) (c : ℕ) → is_context h c ≡ false → (class_at m c).supers ≡ [] → is_context_above m h c ≡ is_top m h
    above_top Missing c other e = refl
    above_top Unknown c other e = refl
    above_top (Known d) c other e = same_test (descends m c d.0) (is_element m d.0)
        (λ h. elim ((least c d.0).0 h) [
          | inl same ↦ clash (eq-eqb d.0 c (sym same)) other
          | inr up ↦ none_above m c d.0 up e
        ])
        (λ h. (least c d.0).1 (inr (inr h)))

    pub by_top : (ns : List ℕ) (c : ℕ) → own us ns c ≡ [] → (class_at m c).supers ≡ [] → choice_for m us ns c ≡ top_choice m us ns
    unfolding choice_for
    by_top ns c none e = ap (choice_among m us) (filter_same (λ n. is_context_above m (context_at us n) c) (λ n. is_top m (context_at us n)) ns
        (λ n i. above_top (context_at us n) c (none_passes (λ k. is_context (context_at us k) c) ns none n i) e))

  -- The units of the class itself.

  module _ (a : Antisymmetric m) (least : AreLeast m) where
    itself : (c : ℕ) → descends m c c ≡ true
    itself c = (least c c).1 (inl refl)

    above_own : (h : HeadClass) (c : ℕ) → is_context h c ≡ true → is_context_above m h c ≡ true
    above_own h c e = ap (λ k. is_context_above m k c) (known_context h c e) ∙ itself c

    lowest_own : (h : HeadClass) (c : ℕ) → is_context_above m h c ≡ true → is_below m h (Known (record { 0 = c })) ≡ true → is_context h c ≡ true
    lowest_own Missing c up down = absurd (cc)
    lowest_own Unknown c up down = absurd (cc)
    lowest_own (Known d) c up down = eq-eqb d.0 c (a d.0 c down up)

    module _ (ns : List ℕ) (c first : ℕ) (others : List ℕ) (are : own us ns c ≡ first ∷ others) where
      abbrev is_own : ℕ → Bool
      is_own n = is_context (context_at us n) c

      first_own : In first ns × (is_own first ≡ true)
      first_own = in_filter is_own first ns (subst (In first) (sym are) (inl refl))

      first_there : In first (candidates m us ns c)
      first_there = into_filter (λ n. is_context_above m (context_at us n) c) first ns first_own.0 (above_own (context_at us first) c first_own.1)

      is_lowest_own : (n : ℕ) → In n (candidates m us ns c) → is_lowest m us (candidates m us ns c) n ≡ is_own n
      is_lowest_own n i = same_test (is_lowest m us (candidates m us ns c) n) (is_own n)
          (λ h. lowest_own (context_at us n) c (in_filter (λ k. is_context_above m (context_at us k) c) n ns i).1
          (sym (ap (is_below m (context_at us n)) (known_context (context_at us first) c first_own.1))
          ∙ all_at (λ k. is_below m (context_at us n) (context_at us k)) first (candidates m us ns c) first_there h))
          (λ h. ap (λ k. list_all (λ x. is_below m k (context_at us x)) (candidates m us ns c)) (known_context (context_at us n) c h)
          ∙ all_pass (λ k. is_context_above m (context_at us k) c) ns)

      lowest_are : lowest m us (candidates m us ns c) ≡ first ∷ others
      lowest_are =
          filter_same (is_lowest m us (candidates m us ns c)) is_own (candidates m us ns c) is_lowest_own
          ∙ kept_both is_own (λ n. is_context_above m (context_at us n) c) ns (λ n h. above_own (context_at us n) c h)
          ∙ are

      by_own : choice_for m us ns c ≡ chosen_of false (single (first ∷ others))
      unfolding choice_for
      by_own =
          (λ i. if some_in first (candidates m us ns c) first_there i then NoUnit else chosen_of false (single (lowest m us (candidates m us ns c))))
          ∙ ap (λ xs. chosen_of false (single xs)) lowest_are

    stays_unclear : (ns : List ℕ) → all_more (Some Unclear) ns ≡ Some Unclear
    stays_unclear [] = refl
    stays_unclear (n ∷ ns) = stays_unclear ns

    stays_told : (f : FoundUnit) (ns : List ℕ) → all_more (Some f) ns ≡ None → ⊥
    stays_told f [] e = absurd (cc)
    stays_told f (n ∷ ns) e = stays_told Unclear ns e

    -- what the units of a class tell of it is its choice
    own_is : (ns : List ℕ) (c : ℕ) (f : FoundUnit) → all_more None (own us ns c) ≡ Some f → f ≡ choice_for m us ns c
    own_is ns c f tells = by (own us ns c) refl tells
      where
        by : (os : List ℕ) → own us ns c ≡ os → all_more None os ≡ Some f → f ≡ choice_for m us ns c
        by [] e tells = absurd (cc)
        by (n ∷ []) e tells = same_some (Chosen n) f tells ∙ sym (by_own ns c n [] e)
        by (n ∷ k ∷ more) e tells = same_some Unclear f (sym (stays_unclear more) ∙ tells) ∙ sym (by_own ns c n (k ∷ more) e)

    none_own : (ns : List ℕ) (c : ℕ) → all_more None (own us ns c) ≡ None → own us ns c ≡ []
    none_own ns c tells = by (own us ns c) tells
      where
        by : (os : List ℕ) → all_more None os ≡ None → os ≡ []
        by [] tells = refl
        by (n ∷ more) tells = absurd (stays_told (Chosen n) more tells)

    -- at first each class is known by its own units
    pub own_known : (ns : List ℕ) (known : List (Option FoundUnit)) → ((c : ℕ) → c < length known → known_at known c ≡ all_more None (own us ns c)) → AreKnown m us ns known
    own_known ns known are = record {
      told = λ c f e. own_is ns c f (sym (are c (there c f e)) ∙ e);
      untold = λ c low e. none_own ns c (sym (are c low) ∙ e);
    }
      where
        there : (c : ℕ) (f : FoundUnit) → known_at known c ≡ Some f → c < length known
        there c f e = some_within known c f e

  -- a class more is known
  pub more_known : (ns : List ℕ) (had has : List (Option FoundUnit)) (c : ℕ) (f : FoundUnit) → c < length had → AreKnown m us ns had → f ≡ choice_for m us ns c → has ≡ set had c (Some f)
      → AreKnown m us ns has
  more_known ns had has c f low are is e = record {
    told = λ d g tells. told d g (d == c) refl (ap (λ k. known_at k d) (sym e) ∙ tells);
    untold = λ d there tells. untold d (ap length e) there (d == c) refl (ap (λ k. known_at k d) (sym e) ∙ tells);
  }
    where
      put : known_at (set had c (Some f)) c ≡ Some f
      put = get_or-set_same had c (Some f) None low

      kept : (d : ℕ) → (d == c) ≡ false → known_at (set had c (Some f)) d ≡ known_at had d
      kept d other = get_or-set_other had c d (Some f) None (λ same. clash (eq-eqb d c same) other)

      told : (d : ℕ) (g : FoundUnit) (b : Bool) → (d == c) ≡ b → known_at (set had c (Some f)) d ≡ Some g → g ≡ choice_for m us ns d
      told d g true same tells = same_some f g (sym (ap (known_at (set had c (Some f))) (eqb-true d c same) ∙ put) ∙ tells) ∙ is ∙ ap (choice_for m us ns) (sym (eqb-true d c same))
      told d g false other tells = are.told d g (sym (kept d other) ∙ tells)

      untold : (d : ℕ) → length has ≡ length (set had c (Some f)) → d < length has → (b : Bool) → (d == c) ≡ b → known_at (set had c (Some f)) d ≡ None → own us ns d ≡ []
      untold d long there true same tells = absurd (some_none f (sym (ap (known_at (set had c (Some f))) (eqb-true d c same) ∙ put) ∙ tells))
      untold d long there false other tells = are.untold d (let shorter : length (set had c (Some f)) ≡ length had = length-set had c (Some f) in omega (arith, long, shorter, there)) (sym (kept d other) ∙ tells)

-- one unit more tells of its class
pub told_next : (us : List Signature) (known : List (Option FoundUnit)) (n c : ℕ) (r : List ℕ) → c < length known
    → all_more (known_at (told_more known (context_at us n) n) c) r ≡ all_more (known_at known c) (if is_context (context_at us n) c then n ∷ r else r)
told_next us known n c r low = by (context_at us n)
  where
    by : (h : HeadClass) → all_more (known_at (told_more known h n) c) r ≡ all_more (known_at known c) (if is_context h c then n ∷ r else r)
    by Missing = refl
    by Unknown = refl
    by (Known d) = at (d.0 == c) refl
      where
        at : (b : Bool) → (d.0 == c) ≡ b → all_more (known_at (set known d.0 (one_more (known_at known d.0) n)) c) r ≡ all_more (known_at known c) (if b then n ∷ r else r)
        at true e = ap (λ o. all_more o r)
            ((λ i. known_at (set known (eqb-true d.0 c e i) (one_more (known_at known (eqb-true d.0 c e i)) n)) c)
            ∙ get_or-set_same known c (one_more (known_at known c) n) None low)
        at false e = ap (λ o. all_more o r)
            (get_or-set_other known d.0 c (one_more (known_at known d.0) n) None (λ same. clash (eq-eqb d.0 c (sym same)) e))
