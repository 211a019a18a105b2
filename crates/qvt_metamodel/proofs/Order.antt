-- Classes with ranks are ordered by descent, and have the features of those above them.
use Rattle.std.proofs.Common.{◌≡◌, ℕ, ◌<◌, List, length, true, false, Some, None, Option, refl, sym, subst, arith, ◌∙◌, ◌==◌, ◌||◌, inl, inr, ◌⊎◌}
use Rattle.std.specs.Prelude.{slice_index}
use Rattle.std.proofs.lemmas.Bool.{eqb-true}
use Rattle.qvt_base.specs.declared.numbers.ClassNo.{ClassNo}
use Rattle.qvt_relation.specs.Closure.{directly, through}
use Rattle.qvt_relation.proofs.Closures.{join as paths_join}
use Rattle.qvt_metamodel.specs.Metamodels.{Metamodels, class_at, features_of, has_feature, among_features, is_element, is_class_number}
use Rattle.qvt_metamodel.specs.Descends.{is_superclass, Inherits, reaches, IsAncestor, descends}
use Rattle.qvt_metamodel.specs.Kept.{AreRanks}
use Rattle.qvt_metamodel.proofs.Bools.{or_cases, clash, not_true}
use Rattle.qvt_metamodel.proofs.Ancestors.{live, path, begins, sound, complete}
use Rattle.qvt_metamodel.proofs.Owners.{Declared, declared, includes, all-there}

same_number : (o : Option ClassNo) (c d : ℕ) → is_class_number o c ≡ true → is_class_number o d ≡ true → c ≡ d
same_number None c d h k = absurd (cc)
same_number (Some e) c d h k = sym (eqb-true e.0 c h) ∙ eqb-true e.0 d k

module _ (m : Metamodels) (ranks : List ℕ) (ok : AreRanks m ranks) where
  path_falls : {c d : ℕ} → Inherits m c d → slice_index ranks d < slice_index ranks c
  path_falls (directly {x} {y} h) = all-there (λ s. slice_index ranks s < slice_index ranks x) (class_at m x).supers y (ok.rise x) h
  path_falls (through {x} {y} {z} h p) =
      (let less : slice_index ranks y < slice_index ranks x = all-there (λ s. slice_index ranks s < slice_index ranks x) (class_at m x).supers y (ok.rise x) h in
      let more : slice_index ranks z < slice_index ranks y = path_falls p in omega (arith, less, more))

  pub acyclic : (c : ℕ) → Inherits m c c → ⊥
  acyclic c p = (let less : slice_index ranks c < slice_index ranks c = path_falls p in omega (arith, less))

  -- the class above all has no superclass and no features
  module _ (top : (c d : ℕ) → is_element m c ≡ true → is_superclass m c d ≡ false) where
    not_up : (c d : ℕ) → is_element m c ≡ true → reaches m c d ≡ false
    not_up c d e = not_true (reaches m c d) (λ h. (let s : (s : ℕ) × (is_superclass m c s ≡ true) × ((s ≡ d) ⊎ Inherits m s d) = begins m c d (path m c d h) in clash s.1 (top c s.0 e)))

    pub antisymmetric : (c d : ℕ) → descends m c d ≡ true → descends m d c ≡ true → c ≡ d
    antisymmetric c d h k = elim (or_cases ((c == d) || is_element m d) (reaches m c d) h) [
      | inl e ↦ elim (or_cases (c == d) (is_element m d) e) [ inl same ↦ eqb-true c d same | inr over ↦ under over ]
      | inr up ↦ back up
    ]
      where
        under : is_element m d ≡ true → c ≡ d
        under over = elim (or_cases ((d == c) || is_element m c) (reaches m d c) k) [
          | inl e ↦ elim (or_cases (d == c) (is_element m c) e) [ inl same ↦ sym (eqb-true d c same) | inr also ↦ same_number m.element c d also over ]
          | inr up ↦ clash up (not_up d c over)
        ]

        back : reaches m c d ≡ true → c ≡ d
        back up = elim (or_cases ((d == c) || is_element m c) (reaches m d c) k) [
          | inl e ↦ elim (or_cases (d == c) (is_element m c) e) [ inl same ↦ sym (eqb-true d c same) | inr over ↦ clash up (not_up c d over) ]
          | inr down ↦ (let one : slice_index ranks d < slice_index ranks c = path_falls (path m c d up) in
              let other : slice_index ranks c < slice_index ranks d = path_falls (path m d c down) in absurd (omega (arith, one, other)))
        ]

    join : (c d e : ℕ) → IsAncestor m c d → IsAncestor m d e → IsAncestor m c e
    join c d e (inl up) (inl more) = inl (paths_join (λ x y. is_superclass m x y ≡ true) up more)
    join c d e (inl up) (inr over) = inr over
    join c d e (inr over) (inl more) = (let s : (s : ℕ) × (is_superclass m d s ≡ true) × ((s ≡ e) ⊎ Inherits m s e) = begins m d e more in clash s.1 (top d s.0 over))
    join c d e (inr over) (inr also) = inr also

    pub transitive : (c d e : ℕ) → descends m c d ≡ true → descends m d e ≡ true → descends m c e ≡ true
    transitive c d e h k = elim (sound m c d h) [
      | inl same ↦ subst (λ x. descends m x e ≡ true) (sym same) k
      | inr up ↦ elim (sound m d e k) [
        | inl same ↦ subst (λ x. descends m c x ≡ true) same h
        | inr more ↦ complete m c e (inr (join c d e up more))
      ]
    ]

    module _ (within : (c : ℕ) → is_element m c ≡ true → c < length m.classes) (bare : (c f : ℕ) → is_element m c ≡ true → has_feature m c f ≡ false) where
      from : (c i f : ℕ) → c < length m.classes → (c ≡ i) ⊎ Inherits m c i → among_features f (class_at m i).own ≡ true → has_feature m c f ≡ true
      unfolding features_of
      from c i f l up own = includes m ranks ok (length m.classes) i c f (ok.bounded c l) up own

      over_own : (c i f : ℕ) → c < length m.classes → IsAncestor m c i → among_features f (class_at m i).own ≡ true → has_feature m c f ≡ true
      over_own c i f l (inl up) own = from c i f l (inr up) own
      over_own c i f l (inr over) own = clash (from i i f (within i over) (inl refl) own) (bare i f over)

      up_to : (c d f : ℕ) → IsAncestor m c d → c < length m.classes → has_feature m d f ≡ true → has_feature m c f ≡ true
      unfolding features_of
      up_to c d f up l h = (let t : Declared m d f = declared m (length m.classes) d f h in
          elim t.up [
            | inl same ↦ over_own c t.class f l (subst (λ x. IsAncestor m c x) same up) t.own
            | inr more ↦ over_own c t.class f l (join c d t.class up (inl more)) t.own
          ])

      pub inherited : (c d f : ℕ) → descends m c d ≡ true → has_feature m d f ≡ true → has_feature m c f ≡ true
      inherited c d f h there = elim (or_cases ((c == d) || is_element m d) (reaches m c d) h) [
        | inl e ↦ elim (or_cases (c == d) (is_element m d) e) [
          | inl same ↦ subst (λ x. has_feature m x f ≡ true) (sym (eqb-true c d same)) there
          | inr over ↦ clash there (bare d f over)
        ]
        | inr up ↦ (let s : (s : ℕ) × (is_superclass m c s ≡ true) × ((s ≡ d) ⊎ Inherits m s d) = begins m c d (path m c d up) in
            up_to c d f (inl (path m c d up)) (live m c s.0 s.1) there)
      ]
