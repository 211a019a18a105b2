-- The set of the classes at or below a class.
use Rattle.std.proofs.Common.{◌≡◌, ◌∙◌, ℕ, ◌<◌, ◌≤◌, ◌==◌, List, length, get_or, Bool, true, false, ◌&&◌, ◌||◌, ◌⊎◌, inl, inr, refl, sym, ap, subst, arith, leb}
use Rattle.std.specs.Prelude.{nat_lt}
use Rattle.std.proofs.lemmas.Bool.{eq-eqb, eqb-true, lt-ltb, le-ltb}
use Rattle.std.proofs.lemmas.Bool.Decides.{leb_tells}
use Rattle.qvt_metamodel.specs.declared.info.ClassInfo.{ClassInfo}
use Rattle.qvt_metamodel.specs.declared.row.Row.{Row}
use Rattle.qvt_metas.specs.Metamodels.{Metamodels, is_element}
use Rattle.qvt_metas.specs.Descends.{IsAncestor, descends, reaches}
use Rattle.qvt_metas.specs.Kept.{no_row, is_marked}
use Rattle.qvt_metas.specs.WellFormed.{IsWellFormed}
use Rattle.qvt_metamodel.proofs.Bools.{not_true, clash, ap2}
use Rattle.qvt_metamodel.proofs.Ancestors.{none_past, ends}
use Rattle.qvt_metas.specs.Tables.{of_classes, EndsWithin}
use Rattle.qvt_types_choices.specs.Sets.{IsSetOf}
use Rattle.qvt_types_choices.proofs.ByClass.{AreLeast}
use Rattle.qvt_types_choices.proofs.Lowest.{same_test}
use Rattle.qvt_types_choices.proofs.Sets.{or_false, set_same}

flipped : (c d : ℕ) → (c == d) ≡ (d == c)
flipped c d = same_test (c == d) (d == c) (λ h. eq-eqb d c (sym (eqb-true c d h))) (λ h. eq-eqb c d (sym (eqb-true d c h)))

module _ (m : Metamodels) where
  -- the sets that are made of the classes alone
  pub below_set : (ks : List ClassInfo) (rows : List Row) (k : ℕ) → ks ≡ m.classes → k ≡ length m.classes → ((c : ℕ) → EndsWithin k (get_or rows c no_row))
      → ((c : ℕ) → c < k → (d : ℕ) → is_marked (get_or rows c no_row) d ≡ ((c == d) || reaches (of_classes ks) d c))
      → (c : ℕ) → c < length m.classes → IsSetOf m (λ d. (d == c) || reaches m d c) (get_or rows c no_row)
  below_set ks rows k are all within marks c low = record {
    within = subst (λ x. EndsWithin x (get_or rows c no_row)) all (within c);
    marks = λ d. marks c (omega (arith, low, all)) d
        ∙ ap2 (λ a b. a || b) (flipped c d) (λ i. reaches (of_classes (are i)) d c)
        ∙ there d (leb_tells (length m.classes) d);
  }
    where
      there : (d : ℕ) → ((leb (length m.classes) d ≡ true) × (length m.classes ≤ d)) ⊎ ((leb (length m.classes) d ≡ false) × (d < length m.classes))
          → ((d == c) || reaches m d c) ≡ (nat_lt d (length m.classes) && ((d == c) || reaches m d c))
      there d (inl t) =
          ap2 (λ a b. a || b) (not_true (d == c) (λ h. (let same : d ≡ c = eqb-true d c h in absurd (omega (arith, same, low, t.1))))) (none_past m d c t.1)
          ∙ sym (ap (λ b. b && ((d == c) || reaches m d c)) (le-ltb d (length m.classes) t.1))
      there d (inr f) = sym (ap (λ b. b && ((d == c) || reaches m d c)) (lt-ltb d (length m.classes) f.1))

  plain : (d c : ℕ) → is_element m c ≡ false → ((d == c) || reaches m d c) ≡ descends m d c
  plain d c e = ap (λ b. b || reaches m d c) (sym (or_false (d == c)) ∙ ap (λ b. (d == c) || b) (sym e))

  -- the set of a class, of the class above all, and of one that is not there
  pub set_plain : (c : ℕ) (r : Row) → is_element m c ≡ false → IsSetOf m (λ d. (d == c) || reaches m d c) r → IsSetOf m (λ d. descends m d c) r
  set_plain c r e is = set_same m (λ d. (d == c) || reaches m d c) (λ d. descends m d c) r is (λ d low. plain d c e)

  pub set_element : (c : ℕ) (r : Row) → is_element m c ≡ true → IsSetOf m (λ d. true) r → IsSetOf m (λ d. descends m d c) r
  set_element c r e is = set_same m (λ d. true) (λ d. descends m d c) r is (λ d low. sym (ap (λ b. b || reaches m d c) (ap (λ b. (d == c) || b) e ∙ or_true (d == c))))
    where
      or_true : (a : Bool) → (a || true) ≡ true
      or_true true = refl
      or_true false = refl

  module _ (fine : IsWellFormed m) (least : AreLeast m) where
    ancestor_there : (d c : ℕ) → is_element m c ≡ false → IsAncestor m d c → c < length m.classes
    ancestor_there d c e (inl up) = ends m fine.live_superclass up
    ancestor_there d c e (inr top) = clash top e

    pub set_none : (c : ℕ) (r : Row) → is_element m c ≡ false → length m.classes ≤ c → IsSetOf m (λ d. false) r → IsSetOf m (λ d. descends m d c) r
    set_none c r e past is = set_same m (λ d. false) (λ d. descends m d c) r is
        (λ d low. sym (not_true (descends m d c) (λ h. elim ((least d c).0 h) [
          | inl same ↦ absurd (omega (arith, same, low, past))
          | inr up ↦ (let there : c < length m.classes = ancestor_there d c e up in absurd (omega (arith, there, past)))
        ])))
