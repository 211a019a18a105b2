-- What is told of the units of each class by itself, and of those of the class above all, is so.
use Rattle.std.proofs.Common.{◌≡◌, ◌∙◌, ℕ, List, [], ◌∷◌, set, replicate, Bool, true, false, ◌⊎◌, inl, inr, refl, sym, ap}
use Rattle.std.specs.Prelude.{if◌then◌else◌}
use Rattle.std.proofs.lemmas.Bool.{eqb-true}
use Rattle.qvt_metas.specs.Metamodels.{Metamodels, is_element}
use Rattle.qvt_metamodel.proofs.Bools.{clash}
use Rattle.qvt_types_groups.specs.declared.signature.HeadClass.{HeadClass}
use Rattle.qvt_types_groups.specs.declared.signature.HeadClass.TheVariants.{Missing, Unknown, Known}
use Rattle.qvt_types_groups.specs.declared.signature.Signature.{Signature}
use Rattle.qvt_types_groups.specs.ByClass.{is_top}
use Rattle.qvt_types_groups.specs.Choice.{context_at}
use Rattle.qvt_types_groups.specs.Numbers.{is_context}
use Rattle.qvt_types_groups.proofs.Lowest.{Transitive}
use Rattle.qvt_types_above.specs.declared.above.Above.{Above}
use Rattle.qvt_types_above.specs.declared.above.Above.TheVariants.{Nothing, Least}
use Rattle.qvt_types_above.specs.Above.{combined, above_at}
use Rattle.qvt_types_above.specs.Own.{own_more, own_row, top_units, base_of}
use Rattle.qvt_types_above.specs.Tells.{Tells, IsOwn, IsTop, AreOwn}
use Rattle.qvt_types_above.proofs.SameShapes.{Law}
use Rattle.qvt_types_above.proofs.Tellings.{of_each, fewer, told_set, by_any, both_tell, one_tells}

-- one of a class, or where it is not above all one of the class that is
abbrev pub IsBase : Metamodels → List Signature → List ℕ → ℕ → ℕ → Type 0
IsBase m us ns c x = IsOwn us ns c x ⊎ ((is_element m c ≡ false) × IsTop m us ns x)

module _ (m : Metamodels) (us : List Signature) (law : Law) (t : Transitive m) where
  abbrev Told : (ℕ → Type 0) → Above → Type 0
  Told P a = Tells m us [] P a

  less : (P Q : ℕ → Type 0) (a : Above) → ((n : ℕ) → Q n → P n) → Told P a → Told Q a
  less P Q a f h = fewer m us [] P Q a f h

  with_unit : (P : ℕ → Type 0) (a : Above) (k : ℕ) → Told P a → Told (λ x. P x ⊎ (x ≡ k)) (combined m us a (Least k))
  with_unit P a k h = both_tell m us law t [] P (λ x. x ≡ k) a (Least k) h (one_tells m us law t [] k)

  -- The units of the class above all, where it is told of those that come after one.

  abbrev TopsTold : List ℕ → Type 1
  TopsTold ks = (P : ℕ → Type 0) (a : Above) → Told P a → Told (λ x. P x ⊎ IsTop m us ks x) (top_units m us a ks)

  top_more_tells : (k : ℕ) (ks : List ℕ) → TopsTold ks → (P : ℕ → Type 0) (a : Above) → Told P a → (b : Bool) → is_top m (context_at us k) ≡ b
      → Told (λ x. P x ⊎ IsTop m us (k ∷ ks) x) (top_units m us (if b then combined m us a (Least k) else a) ks)
  top_more_tells k ks go P a h true e = less (λ x. (P x ⊎ (x ≡ k)) ⊎ IsTop m us ks x) (λ x. P x ⊎ IsTop m us (k ∷ ks) x) (top_units m us (combined m us a (Least k)) ks)
      (λ x r. elim r [ inl p ↦ inl (inl p) | inr q ↦ elim q.0 [ inl same ↦ inl (inr same) | inr i ↦ inr (i, q.1) ] ])
      (go (λ x. P x ⊎ (x ≡ k)) (combined m us a (Least k)) (with_unit P a k h))
  top_more_tells k ks go P a h false e = less (λ x. P x ⊎ IsTop m us ks x) (λ x. P x ⊎ IsTop m us (k ∷ ks) x) (top_units m us a ks)
      (λ x r. elim r [ inl p ↦ inl p | inr q ↦ elim q.0 [ inl same ↦ clash q.1 (ap (λ n. is_top m (context_at us n)) same ∙ e) | inr i ↦ inr (i, q.1) ] ])
      (go P a h)

  tops_tell : (ks : List ℕ) → TopsTold ks
  tops_tell [] P a h = less P (λ x. P x ⊎ IsTop m us [] x) a (λ x r. elim r [ inl p ↦ p | inr q ↦ absurd q.0 ]) h
  tops_tell (k ∷ ks) P a h = top_more_tells k ks (tops_tell ks) P a h (is_top m (context_at us k)) refl

  -- The units of each class, and the one that is next, of class d.

  abbrev More : (ℕ → ℕ → Type 0) → ℕ → ℕ → ℕ → ℕ → Type 0
  More P k d c x = P c x ⊎ ((x ≡ k) × (d ≡ c))

  abbrev more : List Above → ℕ → ℕ → List Above
  more row k d = set row d (combined m us (above_at row d) (Least k))

  abbrev OwnTold : List ℕ → Type 1
  OwnTold ks = (P : ℕ → ℕ → Type 0) (row : List Above) → ((c : ℕ) → Told (P c) (above_at row c)) → (c : ℕ) → Told (λ x. P c x ⊎ IsOwn us ks c x) (above_at (own_row m us row ks) c)

  none_more : (k : ℕ) (ks : List ℕ) → OwnTold ks → (P : ℕ → ℕ → Type 0) (row : List Above) → ((c : ℕ) → Told (P c) (above_at row c)) → (g : HeadClass) → context_at us k ≡ g
      → ((d : ℕ) → is_context g d ≡ false) → (c : ℕ) → Told (λ x. P c x ⊎ IsOwn us (k ∷ ks) c x) (above_at (own_row m us row ks) c)
  none_more k ks go P row h g e fails c = less (λ x. P c x ⊎ IsOwn us ks c x) (λ x. P c x ⊎ IsOwn us (k ∷ ks) c x) (above_at (own_row m us row ks) c)
      (λ x r. elim r [ inl p ↦ inl p | inr q ↦ elim q.0 [ inl same ↦ clash q.1 (ap (λ n. is_context (context_at us n) c) same ∙ ap (λ y. is_context y c) e ∙ fails c) | inr i ↦ inr (i, q.1) ] ])
      (go P row h c)

  own_more_tells : (k : ℕ) (ks : List ℕ) → OwnTold ks → (P : ℕ → ℕ → Type 0) (row : List Above) → ((c : ℕ) → Told (P c) (above_at row c)) → (g : HeadClass) → context_at us k ≡ g
      → (c : ℕ) → Told (λ x. P c x ⊎ IsOwn us (k ∷ ks) c x) (above_at (own_row m us (own_more m us row g k) ks) c)
  own_more_tells k ks go P row h Missing e c = none_more k ks go P row h Missing e (λ d. refl) c
  own_more_tells k ks go P row h Unknown e c = none_more k ks go P row h Unknown e (λ d. refl) c
  own_more_tells k ks go P row h (Known d) e c = less (λ x. More P k d.0 c x ⊎ IsOwn us ks c x) (λ x. P c x ⊎ IsOwn us (k ∷ ks) c x) (above_at (own_row m us (more row k d.0) ks) c)
      (λ x r. elim r [
        | inl p ↦ inl (inl p)
        | inr q ↦ elim q.0 [
          | inl same ↦ inl (inr (same, eqb-true d.0 c (sym (ap (λ n. is_context (context_at us n) c) same ∙ ap (λ y. is_context y c) e) ∙ q.1)))
          | inr i ↦ inr (i, q.1)
        ]
      ])
      (go (More P k d.0) (more row k d.0)
      (told_set m us [] (More P k d.0) row d.0 (combined m us (above_at row d.0) (Least k))
      (λ b other. less (P b) (More P k d.0 b) (above_at row b) (λ x r. elim r [ inl p ↦ p | inr q ↦ absurd (other q.1) ]) (h b))
      (less (λ x. P d.0 x ⊎ (x ≡ k)) (More P k d.0 d.0) (combined m us (above_at row d.0) (Least k)) (λ x r. elim r [ inl p ↦ inl p | inr q ↦ inr q.0 ])
      (with_unit (P d.0) (above_at row d.0) k (h d.0))))
      c)

  own_tell : (ks : List ℕ) → OwnTold ks
  own_tell [] P row h c = less (P c) (λ x. P c x ⊎ IsOwn us [] c x) (above_at row c) (λ x r. elim r [ inl p ↦ p | inr q ↦ absurd q.0 ]) (h c)
  own_tell (k ∷ ks) P row h c = own_more_tells k ks (own_tell ks) P row h (context_at us k) refl c

  pub own_are : (count : ℕ) (ns : List ℕ) → AreOwn m us ns (own_row m us (replicate count Nothing) ns) (top_units m us Nothing ns)
  own_are count ns = record {
    each = λ c. less (λ x. ⊥ ⊎ IsOwn us ns c x) (IsOwn us ns c) (above_at (own_row m us (replicate count Nothing) ns) c) (λ x q. inr q)
        (own_tell ns (λ b x. ⊥) (replicate count Nothing) (λ b. of_each (Told (λ x. ⊥)) Nothing count b (λ n never. never) tt) c);
    over = less (λ x. ⊥ ⊎ IsTop m us ns x) (IsTop m us ns) (top_units m us Nothing ns) (λ x q. inr q) (tops_tell ns (λ x. ⊥) Nothing (λ n never. never));
  }

  pub base_tells : (ns : List ℕ) (own : List Above) (top : Above) → AreOwn m us ns own top → (ls : List (List ℕ)) (c : ℕ) → Tells m us ls (IsBase m us ns c) (base_of m us own top c)
  base_tells ns own top are ls c = by_any m us ls (IsBase m us ns c) (base_of m us own top c) (by (is_element m c) refl)
    where
      by : (b : Bool) → is_element m c ≡ b → Told (IsBase m us ns c) (if b then above_at own c else combined m us (above_at own c) top)
      by true e = less (IsOwn us ns c) (IsBase m us ns c) (above_at own c) (λ x r. elim r [ inl o ↦ o | inr q ↦ clash e q.0 ]) (are.each c)
      by false e = less (λ x. IsOwn us ns c x ⊎ IsTop m us ns x) (IsBase m us ns c) (combined m us (above_at own c) top)
          (λ x r. elim r [ inl o ↦ inl o | inr q ↦ inr q.1 ])
          (both_tell m us law t [] (IsOwn us ns c) (IsTop m us ns) (above_at own c) top (are.each c) are.over)
