-- Lists of units that are filtered, and the choice among them.
use Rattle.std.proofs.Common.{◌≡◌, ℕ, List, [], ◌∷◌, Bool, true, false, ◌&&◌, Option, Some, None, inl, inr, refl, sym, ap}
use Rattle.std.specs.Prelude.{if◌then◌else◌, filter}
use Rattle.std.specs.List.{list_all}
use Rattle.qvt_metas.specs.Metamodels.{Metamodels}
use Rattle.qvt_metamodel.proofs.Bools.{and_both}
use Rattle.qvt_types_units.specs.declared.choice.FoundUnit.TheVariants.{NoUnit, Chosen}
use Rattle.qvt_types_units.specs.declared.signature.Signature.{Signature}
use Rattle.qvt_types_units.specs.Choice.{lowest, single, chosen_of}
use Rattle.qvt_types_choices.specs.ByClass.{choice_among}
use Rattle.qvt_types_choices.proofs.Lowest.{In}

pub passes_both : (p q : ℕ → Bool) (xs : List ℕ) → filter q (filter p xs) ≡ filter (λ x. p x && q x) xs
passes_both p q [] = refl
passes_both p q (x ∷ xs) = by (p x) (passes_both p q xs)
  where
    by : (b : Bool) → filter q (filter p xs) ≡ filter (λ x. p x && q x) xs
        → filter q (if b then x ∷ filter p xs else filter p xs) ≡ (if b && q x then x ∷ filter (λ x. p x && q x) xs else filter (λ x. p x && q x) xs)
    by true rest = λ i. if q x then x ∷ rest i else rest i
    by false rest = rest

pub all_told : (r : ℕ → Bool) (xs : List ℕ) → ((x : ℕ) → In x xs → r x ≡ true) → list_all r xs ≡ true
all_told r [] told = refl
all_told r (x ∷ xs) told = and_both (r x) (list_all r xs) (told x (inl refl)) (all_told r xs (λ y i. told y (inr i)))

pub only_one : (x n : ℕ) → In x (n ∷ []) → x ≡ n
only_one x n i = elim i [ inl same ↦ same | inr r ↦ absurd r ]

pub single_is : (xs : List ℕ) (n : ℕ) → single xs ≡ Some n → xs ≡ n ∷ []
single_is [] n e = absurd (cc)
single_is (x ∷ []) n e = (let same : x ≡ n = cc in ap (λ k. k ∷ []) same)
single_is (x ∷ y ∷ more) n e = absurd (cc)

module _ (m : Metamodels) (us : List Signature) where
  pub none_among : (ns : List ℕ) → NoUnit ≡ choice_among m us ns → ns ≡ []
  none_among [] e = refl
  none_among (n ∷ ns) e = by (single (lowest m us (n ∷ ns))) e
    where
      by : (o : Option ℕ) → NoUnit ≡ chosen_of false o → n ∷ ns ≡ []
      by None e = absurd (cc)
      by (Some k) e = absurd (cc)

  pub lowest_is : (ns : List ℕ) (n : ℕ) → Chosen n ≡ choice_among m us ns → lowest m us ns ≡ n ∷ []
  lowest_is [] n e = absurd (cc)
  lowest_is (k ∷ ns) n e = single_is (lowest m us (k ∷ ns)) n (by (single (lowest m us (k ∷ ns))) e)
    where
      by : (o : Option ℕ) → Chosen n ≡ chosen_of false o → o ≡ Some n
      by None e = absurd (cc)
      by (Some j) e = (let same : n ≡ j = cc in ap Some (sym same))

  pub chosen_by : (ns : List ℕ) (n : ℕ) → lowest m us ns ≡ n ∷ [] → Chosen n ≡ choice_among m us ns
  chosen_by [] n e = absurd (cc)
  chosen_by (k ∷ ns) n e = ap (λ xs. chosen_of false (single xs)) (sym e)
