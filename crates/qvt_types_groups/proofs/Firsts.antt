-- The first of the numbers of units that pass.
use Rattle.std.proofs.Common.{◌≡◌, ◌∙◌, ℕ, ◌+◌, List, [], ◌∷◌, Bool, true, false, Some, None, position, length, get_or, ◌<◌, ◌≤◌, refl, sym, arith}
use Rattle.std.specs.Prelude.{if◌then◌else◌}
use Rattle.qvt_meta_names.proofs.Tables.{first_at, first-position}
use Rattle.qvt_metamodel.proofs.Bools.{not_true, clash}
use Rattle.qvt_types_units.specs.declared.signature.Signature.{Signature}
use Rattle.qvt_types_units.specs.Numbers.{numbers_where}
use Rattle.qvt_types_groups.specs.Lists.{first_of}

first_from : (p : Signature → Bool) (n : ℕ) (us : List Signature) → first_of (numbers_where p n us) ≡ first_at p n us
first_from p n [] = refl
first_from p n (u ∷ us) = by (p u) (first_from p (n + 1) us)
  where
    by : (b : Bool) → first_of (numbers_where p (n + 1) us) ≡ first_at p (n + 1) us → first_of (if b then n ∷ numbers_where p (n + 1) us else numbers_where p (n + 1) us) ≡ (if b then Some n else first_at p (n + 1) us)
    by true rest = refl
    by false rest = rest

pub first_where : (p : Signature → Bool) (us : List Signature) → first_of (numbers_where p 0 us) ≡ position p us
first_where p us = first_from p 0 us ∙ first-position p us

none_from : (p q : Signature → Bool) (n : ℕ) (us : List Signature) → numbers_where p n us ≡ [] → ((u : Signature) → q u ≡ true → p u ≡ true) → first_at q n us ≡ None
none_from p q n [] none implies = refl
none_from p q n (u ∷ us) none implies = by (p u) refl none (λ h. none_from p q (n + 1) us h implies)
  where
    fails : q u ≡ false → first_at q (n + 1) us ≡ None → (if q u then Some n else first_at q (n + 1) us) ≡ None
    fails e rest = (λ i. if e i then Some n else first_at q (n + 1) us) ∙ rest

    by : (b : Bool) → p u ≡ b → (if b then n ∷ numbers_where p (n + 1) us else numbers_where p (n + 1) us) ≡ [] → (numbers_where p (n + 1) us ≡ [] → first_at q (n + 1) us ≡ None) → (if q u then Some n else first_at q (n + 1) us) ≡ None
    by true e h rest = absurd (cc)
    by false e h rest = fails (not_true (q u) (λ t. clash (implies u t) e)) (rest h)

-- where none passes, none passes a test that is stricter
pub none_where : (p q : Signature → Bool) (us : List Signature) → numbers_where p 0 us ≡ [] → ((u : Signature) → q u ≡ true → p u ≡ true) → position q us ≡ None
none_where p q us none implies = sym (first-position q us) ∙ none_from p q 0 us none implies

pub none_is : (ns : List ℕ) → length ns < 1 → ns ≡ []
none_is [] few = refl
none_is (n ∷ ns) few = absurd (omega (arith, few))

pub first_is : (ns : List ℕ) → 1 ≤ length ns → first_of ns ≡ Some (get_or ns 0 0)
first_is [] some = absurd (omega (arith, some))
first_is (n ∷ ns) some = refl
