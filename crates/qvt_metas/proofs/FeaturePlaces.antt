-- The features of a class by name, and their places.
use Rattle.std.proofs.Common.{◌≡◌, ◌∙◌, ℕ, zero, suc, ◌<◌, ◌≤◌, ◌==◌, List, [], ◌∷◌, length, get_or, Bool, true, false, Option, Some, None, refl, ap, sym, arith, position, find, cond}
use Rattle.std.specs.Prelude.{unwrap_or}
use Rattle.std.specs.List.{position_or_len}
use Rattle.std.specs.Map.{lookup}
use Rattle.std.specs.Str.{bytes_eq}
use Rattle.std.proofs.lemmas.Bool.{eq-eqb, eqb-true}
use Rattle.std.proofs.lemmas.List.{get_or-map, length-map}
use Rattle.std.proofs.lemmas.Option.{get_or_from_slice_get, slice_get_read}
use Rattle.std.proofs.lemmas.List.Quantifiers.{position-Some}
use Rattle.std.proofs.lemmas.Slice.Eq.{bytes_eq-Decides}
use Rattle.qvt_base.specs.declared.numbers.FeatureNo.{FeatureNo}
use Rattle.qvt_metamodel.specs.declared.info.FeatureInfo.{FeatureInfo}
use Rattle.qvt_metamodel.specs.Metamodels.{Metamodels, feature_at, features_of, has_feature, nowhere_feature, among_features}
use Rattle.qvt_metamodel.specs.Named.{feature_named}
use Rattle.qvt_metamodel.specs.WellFormed.{IsWellFormed}
use Rattle.qvt_metamodel.proofs.Bools.{clash, not_true, or_left, or_right}
use Rattle.qvt_metamodel.proofs.Lookups.{position-first, bytes_eq-refl}
use Rattle.qvt_metamodel.proofs.Positions.{any-within, any-passes, no-position}
use Rattle.qvt_meta_names.specs.Named.{number_in, numbers_of, number_at}
use Rattle.qvt_meta_names.specs.declared.place_tables.PlaceTables.{PlaceTables}
use Rattle.qvt_meta_names.specs.Rooted.{no_number, ArePlaced}
use Rattle.qvt_meta_names.proofs.Fronts.{position-none}
use Rattle.qvt_metas.specs.Held.{AreNameNumbers}

-- a feature stands at a place of the list
among-at : (gs : List FeatureNo) (p : ℕ) → p < length gs → among_features (get_or gs p no_number).0 gs ≡ true
among-at [] p l = absurd (omega arith)
among-at (g ∷ gs) zero l = or_left (g.0 == g.0) (among_features g.0 gs) (eq-eqb g.0 g.0 refl)
among-at (g ∷ gs) (suc p) l = or_right (g.0 == (get_or gs p no_number).0) (among_features (get_or gs p no_number).0 gs) (among-at gs p (omega (arith, l)))

-- where a test passes at no place, nothing is found
none-found : {X : Type 0} (p : X → Bool) (xs : List X) (d : X) → ((i : ℕ) → i < length xs → p (get_or xs i d) ≡ false) → find p xs ≡ None
none-found p [] d none = refl
none-found p (x ∷ xs) d none = ap (λ b. cond b (Some x) (find p xs)) (none 0 (omega arith)) ∙ none-found p xs d (λ i l. none (suc i) (omega (arith, l)))

-- the name of a feature by its number
abbrev name_at : Metamodels → FeatureNo → List ℕ
name_at m f = (feature_at m f.0).name

-- a name and the number that stands for it
named_number : (m : Metamodels) (table : List (List ℕ × ℕ)) (numbers : List ℕ) → AreNameNumbers m.features table numbers → (name : List ℕ) (k : ℕ) → lookup (bytes_eq name) table ≡ Some k
    → name ≡ (feature_at m k).name
named_number m table numbers n name k e =
    let at = position-Some (λ (f : FeatureInfo). bytes_eq name f.name) m.features k nowhere_feature (sym (n.first name) ∙ e) in
    (bytes_eq-Decides name (feature_at m k).name).0 at.1

-- the number that stands for the name of a feature
number_named : (m : Metamodels) (table : List (List ℕ × ℕ)) (numbers : List ℕ) → AreNameNumbers m.features table numbers → (f : FeatureNo) → f.0 < length m.features
    → lookup (bytes_eq (name_at m f)) table ≡ Some (number_at numbers f)
number_named m table numbers n f l = by (lookup (bytes_eq (name_at m f)) table) refl
  where
    own : number_at numbers f ≡ number_in table (name_at m f)
    own = ap (λ ns. number_at ns f) n.each ∙ get_or-map (λ (g : FeatureInfo). number_in table g.name) m.features f.0 nowhere_feature 0 l

    by : (o : Option ℕ) → lookup (bytes_eq (name_at m f)) table ≡ o → lookup (bytes_eq (name_at m f)) table ≡ Some (number_at numbers f)
    by (Some k) e = e ∙ ap Some (sym (own ∙ ap (λ (o : Option ℕ). unwrap_or o 0) e))
    by None e = clash (bytes_eq-refl (name_at m f)) (position-none (λ (g : FeatureInfo). bytes_eq (name_at m f) g.name) m.features f.0 nowhere_feature (sym (n.first (name_at m f)) ∙ e) l)

same_name : (m : Metamodels) (table : List (List ℕ × ℕ)) (numbers : List ℕ) → AreNameNumbers m.features table numbers → (f g : FeatureNo) → f.0 < length m.features → g.0 < length m.features
    → number_at numbers f ≡ number_at numbers g → name_at m f ≡ name_at m g
same_name m table numbers n f g l k e =
    named_number m table numbers n (name_at m f) (number_at numbers f) (number_named m table numbers n f l)
    ∙ ap (λ i. (feature_at m i).name) e
    ∙ sym (named_number m table numbers n (name_at m g) (number_at numbers g) (number_named m table numbers n g k))

-- a feature at a place of the class's list
live_at : (m : Metamodels) (c p : ℕ) → IsWellFormed m → p < length (features_of m c) → (get_or (features_of m c) p no_number).0 < length m.features
live_at m c p wm l = wm.live_feature c (get_or (features_of m c) p no_number).0 (among-at (features_of m c) p l)

pub no_name : (m : Metamodels) (c : ℕ) (table : List (List ℕ × ℕ)) (numbers : List ℕ) (name : List ℕ) → IsWellFormed m → AreNameNumbers m.features table numbers
    → lookup (bytes_eq name) table ≡ None → feature_named m c name ≡ None
no_name m c table numbers name wm n e = none-found (λ (f : FeatureNo). bytes_eq name (name_at m f)) (features_of m c) no_number (λ i l.
    position-none (λ (g : FeatureInfo). bytes_eq name g.name) m.features (get_or (features_of m c) i no_number).0 nowhere_feature (sym (n.first name) ∙ e) (live_at m c i wm l))

pub no_feature : (m : Metamodels) (c : ℕ) (table : List (List ℕ × ℕ)) (numbers : List ℕ) (name : List ℕ) (k : ℕ) → IsWellFormed m → AreNameNumbers m.features table numbers
    → lookup (bytes_eq name) table ≡ Some k → position (λ f. k == number_at numbers f) (features_of m c) ≡ None → feature_named m c name ≡ None
no_feature m c table numbers name k wm n e none = none-found (λ (f : FeatureNo). bytes_eq name (name_at m f)) (features_of m c) no_number (λ i l.
    not_true (bytes_eq name (name_at m (get_or (features_of m c) i no_number))) (λ h.
    (let f : FeatureNo = get_or (features_of m c) i no_number in
    let same : name ≡ name_at m f = (bytes_eq-Decides name (name_at m f)).0 h in
    let number : Some k ≡ Some (number_at numbers f) = sym e ∙ ap (λ x. lookup (bytes_eq x) table) same ∙ number_named m table numbers n f (live_at m c i wm l) in
    clash (eq-eqb k (number_at numbers f) (cc)) (position-none (λ (g : FeatureNo). k == number_at numbers g) (features_of m c) i no_number none l))))

pub feature_at_place : (m : Metamodels) (c : ℕ) (table : List (List ℕ × ℕ)) (numbers : List ℕ) (name : List ℕ) (k p : ℕ) → IsWellFormed m → AreNameNumbers m.features table numbers
    → lookup (bytes_eq name) table ≡ Some k → position (λ f. k == number_at numbers f) (features_of m c) ≡ Some p → feature_named m c name ≡ Some (get_or (features_of m c) p no_number)
feature_at_place m c table numbers name k p wm n e there =
    let f : FeatureNo = get_or (features_of m c) p no_number in
    let at = position-Some (λ (g : FeatureNo). k == number_at numbers g) (features_of m c) p no_number there in
    let number : k ≡ number_at numbers f = eqb-true k (number_at numbers f) at.1 in
    let live : f.0 < length m.features = live_at m c p wm at.0 in
    let same : name ≡ name_at m f =
    named_number m table numbers n name k e ∙ ap (λ i. (feature_at m i).name) number ∙ sym (named_number m table numbers n (name_at m f) (number_at numbers f) (number_named m table numbers n f live)) in
    ap (feature_named m c) same ∙ wm.feature_found c f.0 (among-at (features_of m c) p at.0)

-- the place of a feature by its number

absent : (m : Metamodels) (c f : ℕ) → (has_feature m c f ≡ true → ⊥) → position (λ (g : FeatureNo). g.0 == f) (features_of m c) ≡ None
absent m c f not_there = no-position (λ (g : FeatureNo). g.0 == f) (features_of m c) (not_true (has_feature m c f) not_there)

pub no_place_past : (m : Metamodels) (c f : ℕ) → IsWellFormed m → length m.features ≤ f → position (λ (g : FeatureNo). g.0 == f) (features_of m c) ≡ None
no_place_past m c f wm past = absent m c f (λ h. (let l : f < length m.features = wm.live_feature c f h in omega (arith, l, past)))

pub no_place_named : (m : Metamodels) (c : ℕ) (f : FeatureNo) (numbers : List ℕ) → position (λ g. number_at numbers f == number_at numbers g) (features_of m c) ≡ None
    → position (λ (g : FeatureNo). g.0 == f.0) (features_of m c) ≡ None
no_place_named m c f numbers none = absent m c f.0 (λ h.
    (let p = position_or_len (λ (g : FeatureNo). g.0 == f.0) (features_of m c) in
    let l : p < length (features_of m c) = any-within (λ (g : FeatureNo). g.0 == f.0) (features_of m c) h in
    let here : (get_or (features_of m c) p no_number).0 ≡ f.0 = eqb-true (get_or (features_of m c) p no_number).0 f.0 (any-passes (λ (g : FeatureNo). g.0 == f.0) (features_of m c) no_number h) in
    clash (eq-eqb (number_at numbers f) (number_at numbers (get_or (features_of m c) p no_number)) (ap (λ i. number_at numbers (record { 0 = i })) (sym here)))
    (position-none (λ (g : FeatureNo). number_at numbers f == number_at numbers g) (features_of m c) p no_number none l)))

pub place_is : (m : Metamodels) (c : ℕ) (f : FeatureNo) (numbers : List ℕ) (p : ℕ) → position (λ g. number_at numbers f == number_at numbers g) (features_of m c) ≡ Some p
    → ((get_or (features_of m c) p no_number).0 == f.0) ≡ true → position (λ (g : FeatureNo). g.0 == f.0) (features_of m c) ≡ Some p
place_is m c f numbers p there here =
    let at = position-Some (λ (g : FeatureNo). number_at numbers f == number_at numbers g) (features_of m c) p no_number there in
    position-first (λ (g : FeatureNo). g.0 == f.0) (features_of m c) p no_number at.0 here (λ j l. not_true ((get_or (features_of m c) j no_number).0 == f.0) (λ h.
    (let same : (get_or (features_of m c) j no_number).0 ≡ f.0 = eqb-true (get_or (features_of m c) j no_number).0 f.0 h in
    clash (eq-eqb (number_at numbers f) (number_at numbers (get_or (features_of m c) j no_number)) (ap (λ i. number_at numbers (record { 0 = i })) (sym same))) (at.2 j l))))

pub place_of_another : (m : Metamodels) (c : ℕ) (f : FeatureNo) (table : List (List ℕ × ℕ)) (numbers : List ℕ) (p : ℕ) → IsWellFormed m → AreNameNumbers m.features table numbers
    → position (λ g. number_at numbers f == number_at numbers g) (features_of m c) ≡ Some p → ((get_or (features_of m c) p no_number).0 == f.0) ≡ false
    → position (λ (g : FeatureNo). g.0 == f.0) (features_of m c) ≡ None
place_of_another m c f table numbers p wm n there other = absent m c f.0 (λ h.
    (let g : FeatureNo = get_or (features_of m c) p no_number in
    let at = position-Some (λ (x : FeatureNo). number_at numbers f == number_at numbers x) (features_of m c) p no_number there in
    let number : number_at numbers f ≡ number_at numbers g = eqb-true (number_at numbers f) (number_at numbers g) at.1 in
    let name : name_at m f ≡ name_at m g = same_name m table numbers n f g (wm.live_feature c f.0 h) (live_at m c p wm at.0) number in
    let same : Some f ≡ Some g = sym (wm.feature_found c f.0 h) ∙ ap (feature_named m c) name ∙ wm.feature_found c g.0 (among-at (features_of m c) p at.0) in
    clash (eq-eqb g.0 f.0 (cc)) other))

-- what is held says

read : {X : Type 0} (xs : List X) (i : ℕ) (x d : X) → i < length xs → x ≡ get_or xs i x → get_or xs i d ≡ x
read xs i x d l e = get_or_from_slice_get xs i x d (slice_get_read xs (length xs) i x refl l e)

-- what a search among the features of a class finds by a number
pub placed : (m : Metamodels) (numbers seen : List ℕ) (c n k : ℕ) (fs : List FeatureNo) (r o : Option ℕ) → seen ≡ numbers → fs ≡ features_of m c → n ≡ k
    → r ≡ position (λ (f : FeatureNo). n == number_at seen f) fs → r ≡ o → position (λ (f : FeatureNo). k == number_at numbers f) (features_of m c) ≡ o
placed m numbers seen c n k fs r o same list number e there = (λ i. position (λ (f : FeatureNo). sym number i == number_at (sym same i) f) (sym list i)) ∙ sym e ∙ there

pub as_many : (features : List FeatureInfo) (table : List (List ℕ × ℕ)) (numbers : List ℕ) → AreNameNumbers features table numbers → length numbers ≡ length features
as_many features table numbers n = ap length n.each ∙ length-map features (λ (f : FeatureInfo). number_in table f.name)

-- nothing is held of no metamodels

pub none_numbered : (features : List FeatureInfo) (table : List (List ℕ × ℕ)) (numbers : List ℕ) → features ≡ [] → table ≡ [] → numbers ≡ [] → AreNameNumbers features table numbers
none_numbered features table numbers f t n = record {
  first = λ name. ap (lookup (bytes_eq name)) t ∙ sym (ap (position (λ (x : FeatureInfo). bytes_eq name x.name)) f);
  each = n ∙ sym (ap (numbers_of table) f);
}

pub none_placed : (numbers : List ℕ) (lists : List (List FeatureNo)) (t : PlaceTables) → lists ≡ [] → t.roots ≡ [] → ArePlaced numbers lists t
none_placed numbers lists t l p = record {
  each = ap length p ∙ sym (ap length l);
  at = λ c h. absurd (omega (arith, h, ap length l));
}

pub number_read : (numbers : List ℕ) (f : FeatureNo) (n : ℕ) → f.0 < length numbers → n ≡ get_or numbers f.0 n → n ≡ number_at numbers f
number_read numbers f n l e = sym (read numbers f.0 n 0 l e)
