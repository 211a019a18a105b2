-- A table of classes that is made in an order.
use Rattle.std.proofs.Common.{◌≡◌, ◌≢◌, ◌∙◌, ℕ, zero, suc, ◌+◌, ◌<◌, ◌≤◌, List, [], ◌++◌, length, get_or, set, refl, ap, sym, subst, arith, ◌⊎◌, inl, inr, replicate}
use Rattle.std.specs.Prelude.{slice_index}
use Rattle.std.specs.List.{flat_map}
use Rattle.std.proofs.lemmas.List.{get_or_past, get_or-set_same, get_or-set_other}
use Rattle.std.proofs.lemmas.Bool.{cases_eq}
use Rattle.std.proofs.lemmas.Bool.Decides.{leb_tells}
use Rattle.qvt_base.specs.declared.numbers.ClassNo.{ClassNo}
use Rattle.qvt_base.specs.declared.numbers.FeatureNo.{FeatureNo}
use Rattle.qvt_metamodel.specs.declared.info.ClassInfo.{ClassInfo}
use Rattle.qvt_metamodel.specs.Metamodels.{Metamodels, class_at, features_in, features_of, each_once, nowhere_class}
use Rattle.qvt_metamodel.specs.Kept.{AreRanks}
use Rattle.qvt_meta_tables.specs.Tables.{of_classes, IsOrder}
use Rattle.qvt_metamodel.proofs.ListFacts.{all-imply, flat_map-cong}
use Rattle.qvt_metamodel.proofs.Stable.{features-stable, no-features-past}

pub replicate-at : {X : Type 0} (n i : ℕ) (x : X) → get_or (replicate n x) i x ≡ x
replicate-at zero i x = refl
replicate-at (suc n) zero x = refl
replicate-at (suc n) (suc i) x = replicate-at n i x

-- what is right for the classes of ranks below a bound goes on to be right for those up to it
pub done_next : {X : Type 0} (d : X) (P : ℕ → X → Type 0) (n : ℕ) (order ranks : List ℕ) → ((c : ℕ) → c < n → slice_index order (slice_index ranks c) ≡ c)
    → (k : ℕ) (xs : List X) (place : ℕ) (x : X) → length xs ≡ n → slice_index order k ≡ place
    → ((c : ℕ) → c < n → slice_index ranks c < k → P c (get_or xs c d))
    → (place < n → slice_index ranks place < k + 1 → P place x)
    → (c : ℕ) → c < n → slice_index ranks c < k + 1 → P c (get_or (set xs place x) c d)
done_next d P n order ranks back k xs place x each at done here c live low = elim (cases_eq c place) [
  | inl same ↦ subst (λ i. P i (get_or (set xs place x) i d)) (sym same)
      (subst (P place) (sym (get_or-set_same xs place x d (omega (arith, each, live, same)))) (here (omega (arith, live, same)) (subst (λ i. slice_index ranks i < k + 1) same low)))
  | inr other ↦ subst (P c) (sym (get_or-set_other xs place c x d other))
      (done c live (lower (cases_eq (slice_index ranks c) k) other))
]
  where
    lower : (slice_index ranks c ≡ k) ⊎ (slice_index ranks c ≢ k) → c ≢ place → slice_index ranks c < k
    lower (inl e) other = absurd (other (sym (back c live) ∙ ap (slice_index order) e ∙ at))
    lower (inr e) other = omega (arith, low, e)

pub features_more : (m : Metamodels) (ranks : List ℕ) → AreRanks m ranks → (n c : ℕ) → length m.classes ≡ n → c < n
    → features_of m c ≡ each_once [] (flat_map (λ s. features_of m s.0) (class_at m c).supers) ++ (class_at m c).own
unfolding features_of
features_more m ranks ok zero c e l = absurd (omega arith)
features_more m ranks ok (suc n) c e l =
    ap (λ k. features_in k m c) e
    ∙ ap (λ l. each_once [] l ++ (class_at m c).own)
    (flat_map-cong _ _ (class_at m c).supers
    (all-imply (λ (s : ClassNo). slice_index ranks s.0 < slice_index ranks c) (λ (s : ClassNo). features_in n m s.0 ≡ features_in (length m.classes) m s.0) (class_at m c).supers
    (λ s less. (let low : slice_index ranks c < length m.classes = ok.bounded c (omega (arith, e, l)) in
    features-stable m ranks ok n (length m.classes) s.0 (omega (arith, less, low, e)) (omega (arith, less, low))))
    (ok.rise c)))

module _ (ks : List ClassInfo) (order ranks : List ℕ) (ok : IsOrder (of_classes ks) order ranks) where
  abbrev m : Metamodels
  m = of_classes ks

  no_class : (c : ℕ) → length ks ≤ c → class_at m c ≡ nowhere_class
  no_class c h = get_or_past ks c nowhere_class h

  pub no_features : (c : ℕ) → length ks ≤ c → features_of m c ≡ []
  unfolding features_of
  no_features c h = no-features-past m (length ks) c (no_class c h)

  -- a table that is right for the superclasses of a class gives what is right for the class
  list_right : (lists : List (List FeatureNo)) (k c : ℕ) → length lists ≡ length ks
      → ((c : ℕ) → c < length ks → slice_index ranks c < k → get_or lists c [] ≡ features_of m c) → c < length ks → slice_index ranks c < k + 1
      → each_once [] (flat_map (λ s. get_or lists s.0 []) (class_at m c).supers) ++ (class_at m c).own ≡ features_of m c
  list_right lists k c each done live low =
      ap (λ l. each_once [] l ++ (class_at m c).own)
      (flat_map-cong _ _ (class_at m c).supers
      (all-imply (λ (s : ClassNo). slice_index ranks s.0 < slice_index ranks c) (λ (s : ClassNo). get_or lists s.0 [] ≡ features_of m s.0) (class_at m c).supers
      (λ s less. at s.0 (omega (arith, less, low))) (ok.ranked.rise c)))
      ∙ sym (features_more m ranks ok.ranked (length ks) c refl live)
    where
      at : (s : ℕ) → slice_index ranks s < k → get_or lists s [] ≡ features_of m s
      at s l = elim (leb_tells (suc s) (length ks)) [
        | inl t ↦ done s (omega (arith, t.1)) l
        | inr f ↦ get_or_past lists s [] (omega (arith, each, f.1)) ∙ sym (no_features s (omega (arith, f.1)))
      ]

  pub lists_next : (lists : List (List FeatureNo)) (k place : ℕ) (list : List FeatureNo) → length lists ≡ length ks → slice_index order k ≡ place
      → ((c : ℕ) → c < length ks → slice_index ranks c < k → get_or lists c [] ≡ features_of m c)
      → list ≡ each_once [] (flat_map (λ s. get_or lists s.0 []) (class_at m place).supers) ++ (class_at m place).own
      → (c : ℕ) → c < length ks → slice_index ranks c < k + 1 → get_or (set lists place list) c [] ≡ features_of m c
  lists_next lists k place list each at done is =
      done_next [] (λ c x. x ≡ features_of m c) (length ks) order ranks ok.placed k lists place list each at done
      (λ live low. is ∙ list_right lists k place each done live low)

  -- once all are done
  pub lists_all : (lists : List (List FeatureNo)) → length lists ≡ length ks → ((c : ℕ) → c < length ks → slice_index ranks c < length order → get_or lists c [] ≡ features_of m c)
      → (c : ℕ) → get_or lists c [] ≡ features_of m c
  lists_all lists each done c = elim (leb_tells (suc c) (length ks)) [
    | inl t ↦ done c (omega (arith, t.1)) (omega (arith, ok.ranked.bounded c (omega (arith, t.1)), ok.all))
    | inr f ↦ get_or_past lists c [] (omega (arith, each, f.1)) ∙ sym (no_features c (omega (arith, f.1)))
  ]
