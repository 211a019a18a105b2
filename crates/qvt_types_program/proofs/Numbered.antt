-- Where the mappings have their numbers in the order of the text, mapping k is the k-th unit that is one.
use Rattle.std.proofs.Common.{◌≡◌, ◌∙◌, ℕ, zero, suc, ◌+◌, ◌<◌, ◌≤◌, length, Bool, true, List, [], ◌∷◌, map, get_or, Some, refl, sym, ap, arith}
use Rattle.std.specs.Prelude.{if◌then◌else◌, slice_get}
use Rattle.std.proofs.lemmas.List.{get_or_default, get_or_past}
use Rattle.std.proofs.lemmas.Bool.{and_parts, eq-eqb, eqb-true, ne_eqb}
use Rattle.qvt_meta_names.proofs.Tables.{first_at, first-position}
use Rattle.qvt_metamodel.specs.Metamodels.{Metamodels}
use Rattle.qvt_types_groups.specs.Numbers.{is_mapping, numbers_where, unit_at}
use Rattle.qvt_types_groups.specs.declared.signature.Signature.{Signature}
use Rattle.qvt_types_groups.specs.declared.signature.UnitSort.{UnitSort}
use Rattle.qvt_types_groups.specs.declared.signature.UnitSort.TheVariants as sort
use Rattle.qvt_types_program.specs.Mappings.{AreNumbered, are_numbered, has_number, number_after, is_mapping_number, is_mapping_of, mapping_unit, mapping_units, mapping_names, mapping_name, signature_at, traced}

abbrev is_one : Signature → Bool
is_one u = is_mapping u.sort

found : (us : List Signature) (n i k : ℕ) → AreNumbered n us → first_at (is_mapping_number (n + k)) i us ≡ slice_get (numbers_where is_one i us) k
found [] n i k numbered = refl
found (u ∷ us) n i k numbered = by u.sort k (λ m j. found us m (i + 1) j)
    (and_parts (has_number n u.sort) (are_numbered (number_after n u.sort) us) numbered).0
    (and_parts (has_number n u.sort) (are_numbered (number_after n u.sort) us) numbered).1
  where
    by : (s : UnitSort) (k : ℕ) → ((m j : ℕ) → AreNumbered m us → first_at (is_mapping_number (m + j)) (i + 1) us ≡ slice_get (numbers_where is_one (i + 1) us) j)
        → has_number n s ≡ true → AreNumbered (number_after n s) us
        → (if is_mapping_of (n + k) s then Some i else first_at (is_mapping_number (n + k)) (i + 1) us)
        ≡ slice_get (if is_mapping s then i ∷ numbers_where is_one (i + 1) us else numbers_where is_one (i + 1) us) k
    by (sort.Mapping m) zero more h rest = ap (λ b. if b then Some i else first_at (is_mapping_number (n + 0)) (i + 1) us) (eq-eqb m.0 (n + 0) (let same : m.0 ≡ n = eqb-true m.0 n h in omega (arith, same)))
    by (sort.Mapping m) (suc k) more h rest =
        ap (λ b. if b then Some i else first_at (is_mapping_number (n + suc k)) (i + 1) us) (ne_eqb m.0 (n + suc k) (λ e. (let same : m.0 ≡ n = eqb-true m.0 n h in absurd (omega (arith, same, e)))))
        ∙ ap (λ x. first_at (is_mapping_number x) (i + 1) us) (let same : n + suc k ≡ n + 1 + k = omega arith in same)
        ∙ more (n + 1) k rest
    by sort.Class k more h rest = more n k rest
    by sort.Main k more h rest = more n k rest
    by sort.Helper k more h rest = more n k rest
    by sort.Query k more h rest = more n k rest
    by sort.Constructor k more h rest = more n k rest

pub unit_found : (us : List Signature) (k : ℕ) → AreNumbered 0 us → slice_get (mapping_units us) k ≡ mapping_unit us k
unfolding mapping_unit
unit_found us k numbered =
    sym (found us 0 0 k numbered)
    ∙ ap (λ x. first_at (is_mapping_number x) 0 us) (let same : 0 + k ≡ k = omega arith in same)
    ∙ first-position (is_mapping_number k) us

at_number : (m : Metamodels) (us : List Signature) (ns : List ℕ) (k : ℕ)
    → get_or (map (λ n. traced m (unit_at us n)) ns) k [] ≡ traced m (signature_at us (slice_get ns k))
at_number m us [] k = refl
at_number m us (n ∷ ns) zero = refl
at_number m us (n ∷ ns) (suc k) = at_number m us ns k

pub name_found : (m : Metamodels) (us : List Signature) (k : ℕ) → AreNumbered 0 us → get_or (mapping_names m us) k [] ≡ mapping_name m us k
name_found m us k numbered = at_number m us (mapping_units us) k ∙ ap (λ o. traced m (signature_at us o)) (unit_found us k numbered)

pub name_there : (m : Metamodels) (us : List Signature) (k : ℕ) (names : List (List ℕ)) (name : List ℕ) → AreNumbered 0 us → names ≡ mapping_names m us → k < length names → name ≡ get_or names k name
    → name ≡ mapping_name m us k
name_there m us k names name numbered are l at = at ∙ get_or_default names k name [] l ∙ ap (λ xs. get_or xs k []) are ∙ name_found m us k numbered

pub name_past : (m : Metamodels) (us : List Signature) (k : ℕ) (names : List (List ℕ)) → AreNumbered 0 us → names ≡ mapping_names m us → length names ≤ k → [] ≡ mapping_name m us k
name_past m us k names numbered are l = sym (get_or_past names k [] l) ∙ ap (λ xs. get_or xs k []) are ∙ name_found m us k numbered
