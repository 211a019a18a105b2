-- Names that repeat an earlier one, by their flags.
use Rattle.std.proofs.Common.{◌≡◌, ◌∙◌, ℕ, zero, suc, ◌<◌, ◌≤◌, ◌==◌, ◌||◌, List, [], ◌∷◌, ◌++◌, length, map, take, get_or, Bool, true, false, Option, Some, None, position, refl, ap, sym, arith, inl, inr}
use Rattle.std.specs.Prelude.{if◌then◌else◌, is_some, is_none, nat_lt}
use Rattle.std.specs.List.{AllByRecursion}
use Rattle.std.specs.Str.{bytes_eq}
use Rattle.std.proofs.lemmas.Bool.{eq-eqb, eqb-true, lt-ltb, ltb-true}
use Rattle.std.proofs.lemmas.Bool.Decides.{leb_tells}
use Rattle.std.proofs.lemmas.List.Quantifiers.{position-Some}
use Rattle.std.proofs.lemmas.Slice.Eq.{bytes_eq-Decides}
use Rattle.qvt_base.specs.declared.numbers.FeatureNo.{FeatureNo}
use Rattle.qvt_metamodel.specs.Repeated.{repeated}
use Rattle.qvt_metamodel.specs.Added.{place_in}
use Rattle.qvt_metamodel.specs.Names.{is_among}
use Rattle.qvt_metamodel.proofs.Bools.{clash, not_true, or_cases, or_left, or_right}
use Rattle.qvt_metamodel.proofs.Lookups.{bytes_eq-refl}
use Rattle.qvt_metamodel.proofs.Positions.{place-found, place-is}
use Rattle.qvt_meta_names.proofs.Fronts.{position-none, found_in_front, found_behind, not_found}
use Rattle.qvt_meta_names.specs.Named.{number_at}
use Rattle.qvt_meta_repeats.specs.Flags.{repeat_flags, name_flags, same_number, number_flags}
use Rattle.qvt_meta_repeats.proofs.Flags.{flags_count, flags_map, flags_take}

-- names without a flag are all different
none_at : (earlier names : List (List ℕ)) → ((i : ℕ) → i < length names → get_or (repeat_flags bytes_eq earlier names) i false ≡ false) → repeated earlier names ≡ None
none_at earlier [] none = refl
none_at earlier (x ∷ xs) none =
    ap (λ b. if b then Some x else repeated (earlier ++ x ∷ []) xs) (none 0 (omega arith))
    ∙ none_at (earlier ++ x ∷ []) xs (λ i l. none (suc i) (omega (arith, l)))

-- the first name with a flag is the first that repeats another
first_at : (earlier names : List (List ℕ)) (i : ℕ) → i < length names → get_or (repeat_flags bytes_eq earlier names) i false ≡ true
    → ((j : ℕ) → j < i → get_or (repeat_flags bytes_eq earlier names) j false ≡ false) → repeated earlier names ≡ Some (get_or names i [])
first_at earlier [] i l here before = absurd (omega (arith, l))
first_at earlier (x ∷ xs) zero l here before = ap (λ b. if b then Some x else repeated (earlier ++ x ∷ []) xs) here
first_at earlier (x ∷ xs) (suc i) l here before =
    ap (λ b. if b then Some x else repeated (earlier ++ x ∷ []) xs) (before 0 (omega arith))
    ∙ first_at (earlier ++ x ∷ []) xs i (omega (arith, l)) here (λ j k. before (suc j) (omega (arith, k)))

pub none_flagged : (names : List (List ℕ)) → position (λ b. b) (name_flags names) ≡ None → repeated [] names ≡ None
none_flagged names none = none_at [] names (λ i l. position-none (λ b. b) (name_flags names) i false none (let count : length (name_flags names) ≡ length names = flags_count bytes_eq [] names in omega (arith, l, count)))

pub first_flagged : (names : List (List ℕ)) (i : ℕ) → position (λ b. b) (name_flags names) ≡ Some i → (i < length names) × (repeated [] names ≡ Some (get_or names i []))
first_flagged names i at =
    let there = position-Some (λ b. b) (name_flags names) i false at in
    let l : i < length names = omega (arith, there.0, flags_count bytes_eq [] names) in
    (l, first_at [] names i l there.1 there.2)

-- whether two of the first names are the same
pub front_none : (names : List (List ℕ)) (n : ℕ) → position (λ b. b) (name_flags names) ≡ None → is_some (repeated [] (take n names)) ≡ false
front_none names n at =
    ap is_some (none_flagged (take n names) (ap (position (λ b. b)) (sym (flags_take bytes_eq n [] names)) ∙ not_found (λ b. b) (name_flags names) n false at))

pub front_below : (names : List (List ℕ)) (n i : ℕ) → position (λ b. b) (name_flags names) ≡ Some i → i < n → is_some (repeated [] (take n names)) ≡ true
front_below names n i at l =
    ap is_some (first_flagged (take n names) i (ap (position (λ b. b)) (sym (flags_take bytes_eq n [] names)) ∙ found_in_front (λ b. b) (name_flags names) n i false at l)).1

pub front_above : (names : List (List ℕ)) (n i : ℕ) → position (λ b. b) (name_flags names) ≡ Some i → n ≤ i → is_some (repeated [] (take n names)) ≡ false
front_above names n i at l =
    ap is_some (none_flagged (take n names) (ap (position (λ b. b)) (sym (flags_take bytes_eq n [] names)) ∙ found_behind (λ b. b) (name_flags names) n i false at l))

pub front_is : (names : List (List ℕ)) (n i : ℕ) → position (λ b. b) (name_flags names) ≡ Some i → nat_lt i n ≡ is_some (repeated [] (take n names))
front_is names n i at = elim (leb_tells (suc i) n) [
  | inl low ↦ lt-ltb i n (omega (arith, low.1)) ∙ sym (front_below names n i at (omega (arith, low.1)))
  | inr high ↦ not_true (nat_lt i n) (λ h. (let l : i < n = ltb-true i n h in omega (arith, l, high.1))) ∙ sym (front_above names n i at (omega (arith, high.1)))
]

-- the flags of features by numbers that stand for their names
pub flags_of_names : (name : FeatureNo → List ℕ) (numbers : List ℕ) (P : FeatureNo → Type 0) → ((f g : FeatureNo) → P f → P g → bytes_eq (name f) (name g) ≡ (number_at numbers g == number_at numbers f))
    → (list : List FeatureNo) → AllByRecursion P list → number_flags numbers list ≡ name_flags (map name list)
flags_of_names name numbers P same list all = sym (flags_map name P (same_number numbers) bytes_eq same [] list tt all)

-- two names that are there have one first place exactly where they are one
same_place : (names : List (List ℕ)) (a b : List ℕ) → is_among a names ≡ true → is_among b names ≡ true → (place_in names b == place_in names a) ≡ bytes_eq a b
same_place names a b ha hb = by (bytes_eq a b) refl
  where
    by : (t : Bool) → bytes_eq a b ≡ t → (place_in names b == place_in names a) ≡ t
    by true e = eq-eqb (place_in names b) (place_in names a) (ap (place_in names) (sym ((bytes_eq-Decides a b).0 e)))
    by false e = not_true (place_in names b == place_in names a) (λ h.
        let one : place_in names b ≡ place_in names a = eqb-true (place_in names b) (place_in names a) h in
        let of-a : a ≡ get_or names (place_in names a) [] = (bytes_eq-Decides a (get_or names (place_in names a) [])).0 (place-found names a ha).1 in
        let of-b : b ≡ get_or names (place_in names b) [] = (bytes_eq-Decides b (get_or names (place_in names b) [])).0 (place-found names b hb).1 in
        clash ((bytes_eq-Decides a b).1 (of-a ∙ ap (λ i. get_or names i []) (sym one) ∙ sym of-b)) e)

-- each name is there, and the empty one, which stands for what is past the end
known_at : (names : List (List ℕ)) (i : ℕ) → is_among (get_or names i []) ([] ∷ names) ≡ true
known_at [] i = or_left (bytes_eq [] []) false (bytes_eq-refl [])
known_at (x ∷ xs) zero = or_right (bytes_eq x []) (bytes_eq x x || is_among x xs) (or_left (bytes_eq x x) (is_among x xs) (bytes_eq-refl x))
known_at (x ∷ xs) (suc i) = elim (or_cases (bytes_eq (get_or xs i []) []) (is_among (get_or xs i []) xs) (known_at xs i)) [
  | inl e ↦ or_left (bytes_eq (get_or xs i []) []) (bytes_eq (get_or xs i []) x || is_among (get_or xs i []) xs) e
  | inr r ↦ or_right (bytes_eq (get_or xs i []) []) (bytes_eq (get_or xs i []) x || is_among (get_or xs i []) xs) (or_right (bytes_eq (get_or xs i []) x) (is_among (get_or xs i []) xs) r)
]

pub first_empty : (names : List (List ℕ)) → place_in ([] ∷ names) [] ≡ 0
first_empty names = place-is ([] ∷ names) 0 (omega arith) (λ j l. absurd (omega arith))

-- the flags of features by the first places of their names
pub flags_of_places : (name : FeatureNo → List ℕ) (names : List (List ℕ)) (numbers : List ℕ) → ((f : FeatureNo) → name f ≡ get_or names f.0 []) → ((f : FeatureNo) → number_at numbers f ≡ place_in ([] ∷ names) (name f))
    → (list : List FeatureNo) → number_flags numbers list ≡ name_flags (map name list)
flags_of_places name names numbers is are list = flags_of_names name numbers (λ f. Unit {0}) same list (each list)
  where
    each : (fs : List FeatureNo) → AllByRecursion (λ f. Unit {0}) fs
    each [] = tt
    each (f ∷ fs) = (tt, each fs)

    known : (f : FeatureNo) → is_among (name f) ([] ∷ names) ≡ true
    known f = ap (λ n. is_among n ([] ∷ names)) (is f) ∙ known_at names f.0

    same : (f g : FeatureNo) → Unit {0} → Unit {0} → bytes_eq (name f) (name g) ≡ (number_at numbers g == number_at numbers f)
    same f g a b = sym (same_place ([] ∷ names) (name f) (name g) (known f) (known g)) ∙ (λ t. sym (are g) t == sym (are f) t)

-- whether all names are different
pub is_unflagged : (names : List (List ℕ)) → is_none (repeated [] names) ≡ is_none (position (λ b. b) (name_flags names))
is_unflagged names = by (position (λ b. b) (name_flags names)) refl
  where
    by : (o : Option ℕ) → position (λ b. b) (name_flags names) ≡ o → is_none (repeated [] names) ≡ is_none (position (λ b. b) (name_flags names))
    by None at = ap is_none (none_flagged names at) ∙ sym (ap is_none at)
    by (Some i) at = ap is_none (first_flagged names i at).1 ∙ sym (ap is_none at)
