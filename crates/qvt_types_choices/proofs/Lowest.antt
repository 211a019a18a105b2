-- A unit that is below each of a list is found by going through the list once.
use Rattle.std.proofs.Common.{◌≡◌, ◌∙◌, ℕ, List, [], ◌∷◌, ◌≤◌, length, get_or, Bool, true, false, Option, None, ◌⊎◌, inl, inr, refl, sym, ap, arith}
use Rattle.std.specs.Prelude.{if◌then◌else◌, filter, IsTrue}
use Rattle.std.specs.List.{list_all}
use Rattle.qvt_metas.specs.Metamodels.{Metamodels}
use Rattle.qvt_metas.specs.Descends.{descends}
use Rattle.qvt_metamodel.proofs.Bools.{and_both, and_left, and_right, not_true, clash}
use Rattle.qvt_types_units.specs.declared.signature.HeadClass.{HeadClass}
use Rattle.qvt_types_units.specs.declared.signature.HeadClass.TheVariants.{Missing, Unknown, Known}
use Rattle.qvt_types_units.specs.declared.signature.Signature.{Signature}
use Rattle.qvt_types_units.specs.Choice.{is_below, is_lowest, lowest, single, context_at}
use Rattle.qvt_types_choices.specs.Least.{stands_below, least_of, those_below}

abbrev pub Transitive : Metamodels → Type 0
Transitive m = (c d e : ℕ) → IsTrue (descends m c d) → IsTrue (descends m d e) → IsTrue (descends m c e)

abbrev pub In : ℕ → List ℕ → Type 0
In x [] = ⊥
In x (y ∷ ys) = (x ≡ y) ⊎ In x ys

pub all_at : (p : ℕ → Bool) (x : ℕ) (xs : List ℕ) → In x xs → list_all p xs ≡ true → p x ≡ true
all_at p x [] i h = absurd i
all_at p x (y ∷ ys) i h = elim i [
  | inl e ↦ ap p e ∙ and_left (p y) (list_all p ys) h
  | inr r ↦ all_at p x ys r (and_right (p y) (list_all p ys) h)
]

pub none_kept : (p : ℕ → Bool) (xs : List ℕ) → ((x : ℕ) → In x xs → p x ≡ false) → filter p xs ≡ []
none_kept p [] none = refl
none_kept p (x ∷ xs) none = ap (λ b. if b then x ∷ filter p xs else filter p xs) (none x (inl refl)) ∙ none_kept p xs (λ y i. none y (inr i))

pub same_test : (a b : Bool) → (a ≡ true → b ≡ true) → (b ≡ true → a ≡ true) → a ≡ b
same_test true b f g = sym (f refl)
same_test false true f g = g refl
same_test false false f g = refl

below_trans : (m : Metamodels) → Transitive m → (h i j : HeadClass) → is_below m h i ≡ true → is_below m i j ≡ true → is_below m h j ≡ true
below_trans m t Missing i j p q = absurd (cc)
below_trans m t Unknown i j p q = absurd (cc)
below_trans m t (Known c) Missing j p q = absurd (cc)
below_trans m t (Known c) Unknown j p q = absurd (cc)
below_trans m t (Known c) (Known d) Missing p q = absurd (cc)
below_trans m t (Known c) (Known d) Unknown p q = absurd (cc)
below_trans m t (Known c) (Known d) (Known e) p q = t c.0 d.0 e.0 p q

module _ (m : Metamodels) (us : List Signature) (t : Transitive m) where
  abbrev R : ℕ → ℕ → Bool
  R n k = stands_below m us n k

  trans : (a b c : ℕ) → R a b ≡ true → R b c ≡ true → R a c ≡ true
  trans a b c p q = below_trans m t (context_at us a) (context_at us b) (context_at us c) p q

  all_below : (k n : ℕ) (xs : List ℕ) → R k n ≡ true → list_all (R n) xs ≡ true → list_all (R k) xs ≡ true
  all_below k n [] h all = refl
  all_below k n (x ∷ xs) h all = and_both (R k x) (list_all (R k) xs) (trans k n x h (and_left (R n x) (list_all (R n) xs) all)) (all_below k n xs h (and_right (R n x) (list_all (R n) xs) all))

  pub least_in : (b : ℕ) (ns : List ℕ) → In (least_of m us b ns) (b ∷ ns)
  least_in b [] = inl refl
  least_in b (k ∷ ks) = by (R k b) (least_in k ks) (least_in b ks)
    where
      by : (x : Bool) → In (least_of m us k ks) (k ∷ ks) → In (least_of m us b ks) (b ∷ ks) → In (least_of m us (if x then k else b) ks) (b ∷ k ∷ ks)
      by true there other = inr there
      by false there other = elim other [
        | inl e ↦ inl e
        | inr r ↦ inr (inr r)
      ]

  abbrev IsBelow : List ℕ → Type 0
  IsBelow ks = (c x : ℕ) → In x (c ∷ ks) → list_all (R x) (c ∷ ks) ≡ true → R (least_of m us c ks) x ≡ true

  -- one that is below each: what is found is below it
  pub least_below : (b : ℕ) (ns : List ℕ) (n : ℕ) → In n (b ∷ ns) → list_all (R n) (b ∷ ns) ≡ true → R (least_of m us b ns) n ≡ true
  least_below b [] n i all = elim i [
    | inl e ↦ (λ j. R (sym e j) (e j)) ∙ and_left (R n b) true all
    | inr r ↦ absurd r
  ]
  least_below b (k ∷ ks) n i all = by (R k b) refl (λ c x. least_below c ks x)
    where
      rest : list_all (R n) (k ∷ ks) ≡ true
      rest = and_right (R n b) (list_all (R n) (k ∷ ks)) all

      to_b : R n b ≡ true
      to_b = and_left (R n b) (list_all (R n) (k ∷ ks)) all

      to_k : R n k ≡ true
      to_k = and_left (R n k) (list_all (R n) ks) rest

      others : list_all (R n) ks ≡ true
      others = and_right (R n k) (list_all (R n) ks) rest

      by : (x : Bool) → R k b ≡ x → IsBelow ks → R (least_of m us (if x then k else b) ks) n ≡ true
      by true e go = elim i [
        | inl same ↦ (let here : R k n ≡ true = ap (R k) same ∙ e in trans (least_of m us k ks) k n (go k k (inl refl) (all_below k n (k ∷ ks) here rest)) here)
        | inr r ↦ go k n r rest
      ]
      by false e go = elim i [
        | inl same ↦ go b n (inl same) (and_both (R n b) (list_all (R n) ks) to_b others)
        | inr r ↦ elim r [
          | inl same ↦ absurd (clash (ap (λ x. R x b) (sym same) ∙ to_b) e)
          | inr s ↦ go b n (inr s) (and_both (R n b) (list_all (R n) ks) to_b others)
        ]
      ]

  -- where of any two one is below the other, what is found is below each
  pub least_of_chain : (b : ℕ) (ns : List ℕ) → ((x y : ℕ) → In x (b ∷ ns) → In y (b ∷ ns) → (R x y ≡ true) ⊎ (R y x ≡ true)) → (x : ℕ) → In x (b ∷ ns) → R (least_of m us b ns) x ≡ true
  least_of_chain b [] related x i = elim i [
    | inl same ↦ ap (R b) same ∙ elim (related b b (inl refl) (inl refl)) [ inl h ↦ h | inr h ↦ h ]
    | inr r ↦ absurd r
  ]
  least_of_chain b (k ∷ ks) related x i = by (R k b) refl (λ c. least_of_chain c ks)
    where
      IsChain : ℕ → Type 0
      IsChain c = (y z : ℕ) → In y (c ∷ ks) → In z (c ∷ ks) → (R y z ≡ true) ⊎ (R z y ≡ true)

      of_k : IsChain k
      of_k y z j l = related y z (inr j) (inr l)

      wider : (y : ℕ) → In y (b ∷ ks) → In y (b ∷ k ∷ ks)
      wider y j = elim j [
        | inl same ↦ inl same
        | inr r ↦ inr (inr r)
      ]

      of_b : IsChain b
      of_b y z j l = related y z (wider y j) (wider z l)

      b_to_k : R k b ≡ false → R b k ≡ true
      b_to_k e = elim (related b k (inl refl) (inr (inl refl))) [
        | inl h ↦ h
        | inr h ↦ clash h e
      ]

      by : (t : Bool) → R k b ≡ t → ((c : ℕ) → IsChain c → (y : ℕ) → In y (c ∷ ks) → R (least_of m us c ks) y ≡ true) → R (least_of m us (if t then k else b) ks) x ≡ true
      by true e go = elim i [
        | inl same ↦ trans (least_of m us k ks) k x (go k of_k k (inl refl)) (ap (R k) same ∙ e)
        | inr r ↦ go k of_k x r
      ]
      by false e go = elim i [
        | inl same ↦ go b of_b x (inl same)
        | inr r ↦ elim r [
          | inl same ↦ trans (least_of m us b ks) b x (go b of_b b (inl refl)) (ap (R b) same ∙ b_to_k e)
          | inr s ↦ go b of_b x (inr s)
        ]
      ]

  -- whether a unit is below each is told by the least one
  lowest_by : (b : ℕ) (ns : List ℕ) → is_lowest m us (b ∷ ns) (least_of m us b ns) ≡ true → (n : ℕ) → R n (least_of m us b ns) ≡ is_lowest m us (b ∷ ns) n
  lowest_by b ns is n = same_test (R n (least_of m us b ns)) (is_lowest m us (b ∷ ns) n)
      (λ h. all_below n (least_of m us b ns) (b ∷ ns) h is)
      (λ h. all_at (R n) (least_of m us b ns) (b ∷ ns) (least_in b ns) h)

  none_lowest : (b : ℕ) (ns : List ℕ) → is_lowest m us (b ∷ ns) (least_of m us b ns) ≡ false → lowest m us (b ∷ ns) ≡ []
  none_lowest b ns not_it = none_kept (is_lowest m us (b ∷ ns)) (b ∷ ns)
      (λ n i. not_true (is_lowest m us (b ∷ ns) n) (λ h. clash (all_below (least_of m us b ns) n (b ∷ ns) (least_below b ns n i h) h) not_it))

  pub single_lowest : (b : ℕ) (ns : List ℕ)
      → (if is_lowest m us (b ∷ ns) (least_of m us b ns) then single (those_below m us (least_of m us b ns) (b ∷ ns)) else None) ≡ single (lowest m us (b ∷ ns))
  single_lowest b ns = by (is_lowest m us (b ∷ ns) (least_of m us b ns)) refl
    where
      by : (x : Bool) → is_lowest m us (b ∷ ns) (least_of m us b ns) ≡ x
          → (if x then single (those_below m us (least_of m us b ns) (b ∷ ns)) else None) ≡ single (lowest m us (b ∷ ns))
      by true e = ap single (λ j. filter (λ n. lowest_by b ns e n j) (b ∷ ns))
      by false e = ap single (sym (none_lowest b ns e))

  unmoved : (t : Bool) (b : ℕ) → (if t then b else b) ≡ b
  unmoved true b = refl
  unmoved false b = refl

  -- the same, where the list is gone through from its first one on
  pub lowest_so : (g : List ℕ) → 1 ≤ length g → (n : ℕ) → n ≡ least_of m us (get_or g 0 0) g → (x : Option ℕ)
      → x ≡ (if is_lowest m us g n then single (those_below m us n g) else None) → x ≡ single (lowest m us g)
  lowest_so [] some n least x is = absurd (omega (arith, some))
  lowest_so (b ∷ ns) some n least x is =
      is
      ∙ ap (λ k. if is_lowest m us (b ∷ ns) k then single (those_below m us k (b ∷ ns)) else None) (least ∙ ap (λ k. least_of m us k ns) (unmoved (R b b) b))
      ∙ single_lowest b ns
