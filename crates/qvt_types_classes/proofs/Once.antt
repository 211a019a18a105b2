-- Numbers and names that stand once in a list, and the first properties of each name.
use Rattle.std.proofs.Common.{◌≡◌, ◌∙◌, ℕ, zero, suc, ◌+◌, ◌<◌, ◌≤◌, List, [], ◌∷◌, ◌++◌, length, map, get_or, drop, Bool, true, false, Some, None, refl, ap, sym, subst, arith, append_assoc, ◌==◌, ◌||◌, inl, inr}
use Rattle.std.specs.Prelude.{if◌then◌else◌}
use Rattle.std.specs.List.{AllByRecursion}
use Rattle.std.specs.Str.{bytes_eq}
use Rattle.std.proofs.lemmas.Bool.{eqb-true, eq-eqb}
use Rattle.std.proofs.lemmas.Bool.Decides.{leb_tells}
use Rattle.std.proofs.lemmas.List.{append-nil, length-map, map-append}
use Rattle.std.proofs.lemmas.Slice.Eq.{bytes_eq-Decides}
use Rattle.qvt_base.specs.declared.numbers.FeatureNo.{FeatureNo}
use Rattle.qvt_metas.specs.Added.{numbers_from}
use Rattle.qvt_metas.specs.Metamodels.{among_features, each_once}
use Rattle.qvt_metamodel.specs.Names.{is_among, repeated}
use Rattle.qvt_metamodel.proofs.Bools.{or_cases, or_left, or_right, not_true, clash}
use Rattle.qvt_metamodel.proofs.FeatureNames.{Placed, placed}
use Rattle.qvt_metamodel.proofs.Infos.{map-at}
use Rattle.qvt_metamodel.proofs.ListFacts.{all-imply}
use Rattle.qvt_metamodel.proofs.Lookups.{among-append, differ-before, none_repeated}
use Rattle.qvt_metamodel.proofs.Owners.{among-append as features-append}
use Rattle.qvt_types_classes.specs.declared.declared.Property.{Property}
use Rattle.qvt_types_classes.specs.Inherited.{names_of, firsts}

pub all_append : {X : Type 0} (P : X → Type 0) (xs ys : List X) → AllByRecursion P xs → AllByRecursion P ys → AllByRecursion P (xs ++ ys)
all_append P [] ys a b = b
all_append P (x ∷ xs) ys a b = (a.0, all_append P xs ys a.1 b)

pub all_drop : {X : Type 0} (P : X → Type 0) (n : ℕ) (xs : List X) → AllByRecursion P xs → AllByRecursion P (drop n xs)
all_drop P zero [] all = tt
all_drop P zero (x ∷ xs) all = all
all_drop P (suc n) [] all = tt
all_drop P (suc n) (x ∷ xs) all = all_drop P n xs all.1

pub all_map : {X Y : Type 0} (P : Y → Type 0) (g : X → Y) (xs : List X) → AllByRecursion (λ x. P (g x)) xs → AllByRecursion P (map g xs)
all_map P g [] all = tt
all_map P g (x ∷ xs) all = (all.0, all_map P g xs all.1)

pub all_get : {X : Type 0} (P : X → Type 0) (xs : List X) (i : ℕ) (d : X) → AllByRecursion P xs → i < length xs → P (get_or xs i d)
all_get P [] i d all l = absurd (omega (arith, l))
all_get P (x ∷ xs) zero d all l = all.0
all_get P (x ∷ xs) (suc i) d all l = all_get P xs i d all.1 (omega (arith, l))

pub all_among : (P : ℕ → Type 0) (gs : List FeatureNo) → ((x : ℕ) → among_features x gs ≡ true → P x) → AllByRecursion (λ g. P g.0) gs
all_among P [] f = tt
all_among P (g ∷ gs) f = (f g.0 (or_left (g.0 == g.0) (among_features g.0 gs) (eq-eqb g.0 g.0 refl)), all_among P gs (λ x h. f x (or_right (g.0 == x) (among_features x gs) h)))

-- no number is among those seen, and none stands twice
abbrev pub Fresh : List FeatureNo → List FeatureNo → Type 0
Fresh seen [] = Unit {0}
Fresh seen (g ∷ gs) = (among_features g.0 seen ≡ false) × Fresh (seen ++ g ∷ []) gs

pub once_fresh : (seen gs : List FeatureNo) → Fresh seen (each_once seen gs)
once_fresh seen [] = tt
once_fresh seen (g ∷ gs) = by (among_features g.0 seen) refl (once_fresh seen gs) (once_fresh (seen ++ g ∷ []) gs)
  where
    by : (t : Bool) → among_features g.0 seen ≡ t → Fresh seen (each_once seen gs) → Fresh (seen ++ g ∷ []) (each_once (seen ++ g ∷ []) gs)
        → Fresh seen (if t then each_once seen gs else g ∷ each_once (seen ++ g ∷ []) gs)
    by true e same more = same
    by false e same more = (e, more)

pub append_fresh : (seen xs ys : List FeatureNo) → Fresh seen xs → Fresh (seen ++ xs) ys → Fresh seen (xs ++ ys)
append_fresh seen [] ys a b = subst (λ s. Fresh s ys) (append-nil seen) b
append_fresh seen (x ∷ xs) ys a b = (a.0, append_fresh (seen ++ x ∷ []) xs ys a.1 (subst (λ s. Fresh s ys) (sym (append_assoc seen (x ∷ []) xs)) b))

pub numbers_fresh : (seen : List FeatureNo) (f n : ℕ) → ((x : ℕ) → among_features x seen ≡ true → f ≤ x → x < f + n → ⊥) → Fresh seen (numbers_from f n)
numbers_fresh seen f zero apart = tt
numbers_fresh seen f (suc n) apart = (
  not_true (among_features f seen) (λ h. apart f h (omega arith) (omega arith)),
  numbers_fresh (seen ++ record { 0 = f } ∷ []) (f + 1) n (λ x h low high. elim (or_cases (among_features x seen) ((f == x) || false) (sym (features-append x seen (record { 0 = f } ∷ [])) ∙ h)) [
    | inl old ↦ apart x old (omega (arith, low)) (omega (arith, high))
    | inr new ↦ elim (or_cases (f == x) false new) [ inl e ↦ (let same : f ≡ x = eqb-true f x e in omega (arith, same, low)) | inr never ↦ clash never refl ]
  ]),
)

-- numbers that stand once, whose names tell them apart, have names that stand once
pub fresh_names : (name : ℕ → List ℕ) (Q : ℕ → Type 0) → ((f g : ℕ) → Q f → Q g → name f ≡ name g → f ≡ g) → (seen gs : List FeatureNo)
    → AllByRecursion (λ g. Q g.0) seen → AllByRecursion (λ g. Q g.0) gs → Fresh seen gs → repeated (map (λ g. name g.0) seen) (map (λ g. name g.0) gs) ≡ None
fresh_names name Q apart seen [] old new fresh = refl
fresh_names name Q apart seen (g ∷ gs) old new fresh =
    let here : is_among (name g.0) (map (λ x. name x.0) seen) ≡ false = not_true (is_among (name g.0) (map (λ x. name x.0) seen)) (λ h. clash (there seen old h) fresh.0) in
    let rest : repeated (map (λ x. name x.0) (seen ++ g ∷ [])) (map (λ x. name x.0) gs) ≡ None =
    fresh_names name Q apart (seen ++ g ∷ []) gs (all_append (λ x. Q x.0) seen (g ∷ []) old (new.0, tt)) new.1 fresh.1 in
    ap (λ t. if t then Some (name g.0) else repeated (map (λ x. name x.0) seen ++ name g.0 ∷ []) (map (λ x. name x.0) gs)) here
    ∙ ap (λ e. repeated e (map (λ x. name x.0) gs)) (sym (map-append (λ (x : FeatureNo). name x.0) seen (g ∷ [])))
    ∙ rest
  where
    there : (seen : List FeatureNo) → AllByRecursion (λ x. Q x.0) seen → is_among (name g.0) (map (λ x. name x.0) seen) ≡ true → among_features g.0 seen ≡ true
    there [] old h = absurd (cc)
    there (s ∷ ss) old h = elim (or_cases (bytes_eq (name g.0) (name s.0)) (is_among (name g.0) (map (λ x. name x.0) ss)) h) [
      | inl e ↦ or_left (s.0 == g.0) (among_features g.0 ss) (eq-eqb s.0 g.0 (apart s.0 g.0 old.0 new.0 (sym ((bytes_eq-Decides (name g.0) (name s.0)).0 e))))
      | inr more ↦ or_right (s.0 == g.0) (among_features g.0 ss) (there ss old.1 more)
    ]

-- names that stand once differ where their places do
later_differs : (ns : List (List ℕ)) → repeated [] ns ≡ None → (i j : ℕ) → i < length ns → j < i → get_or ns i [] ≡ get_or ns j [] → ⊥
later_differs ns fresh i j l before same = clash ((bytes_eq-Decides (get_or ns i []) (get_or ns j [])).1 same) (differ-before [] ns i j fresh l before)

pub names_differ : (ns : List (List ℕ)) → repeated [] ns ≡ None → (i j : ℕ) → i < length ns → j < length ns → get_or ns i [] ≡ get_or ns j [] → i ≡ j
names_differ ns fresh i j li lj same = elim (leb_tells (suc i) j) [
  | inl before ↦ absurd (later_differs ns fresh j i lj (omega (arith, before.1)) (sym same))
  | inr not_before ↦ elim (leb_tells (suc j) i) [
    | inl after ↦ absurd (later_differs ns fresh i j li (omega (arith, after.1)) same)
    | inr not_after ↦ omega (arith, not_before.1, not_after.1)
  ]
]

pub names_apart : (name : ℕ → List ℕ) (gs : List FeatureNo) → repeated [] (map (λ g. name g.0) gs) ≡ None → (f g : ℕ) → among_features f gs ≡ true → among_features g gs ≡ true → name f ≡ name g → f ≡ g
names_apart name gs fresh f g hf hg same =
    let p : Placed f gs = placed f gs hf in
    let q : Placed g gs = placed g gs hg in
    let places : p.place ≡ q.place = names_differ (map (λ x. name x.0) gs) fresh p.place q.place (omega (arith, p.within, length-map gs (λ (x : FeatureNo). name x.0))) (omega (arith, q.within, length-map gs (λ (x : FeatureNo). name x.0)))
    (named f p ∙ same ∙ sym (named g q)) in
    sym p.is ∙ ap (λ n. (get_or gs n (record { 0 = 0 })).0) places ∙ q.is
  where
    named : (x : ℕ) (p : Placed x gs) → get_or (map (λ y. name y.0) gs) p.place [] ≡ name x
    named x p = map-at (λ (y : FeatureNo). name y.0) gs p.place (record { 0 = 0 }) [] p.within ∙ ap name p.is

-- the name of a number that is there is among the names
pub name_among : (name : ℕ → List ℕ) (gs : List FeatureNo) (f : ℕ) → among_features f gs ≡ true → is_among (name f) (map (λ g. name g.0) gs) ≡ true
name_among name [] f h = absurd (cc)
name_among name (g ∷ gs) f h = elim (or_cases (g.0 == f) (among_features f gs) h) [
  | inl e ↦ or_left (bytes_eq (name f) (name g.0)) (is_among (name f) (map (λ x. name x.0) gs)) ((bytes_eq-Decides (name f) (name g.0)).1 (ap name (sym (eqb-true g.0 f e))))
  | inr more ↦ or_right (bytes_eq (name f) (name g.0)) (is_among (name f) (map (λ x. name x.0) gs)) (name_among name gs f more)
]

-- the first properties of each name
pub firsts_once : (earlier : List (List ℕ)) (ps : List Property) → repeated earlier (names_of (firsts earlier ps)) ≡ None
firsts_once earlier [] = refl
firsts_once earlier (p ∷ ps) = by (is_among p.name earlier) refl (firsts_once earlier ps) (firsts_once (earlier ++ p.name ∷ []) ps)
  where
    by : (t : Bool) → is_among p.name earlier ≡ t → repeated earlier (names_of (firsts earlier ps)) ≡ None → repeated (earlier ++ p.name ∷ []) (names_of (firsts (earlier ++ p.name ∷ []) ps)) ≡ None
        → repeated earlier (names_of (if t then firsts earlier ps else p ∷ firsts (earlier ++ p.name ∷ []) ps)) ≡ None
    by true e same more = same
    by false e same more = ap (λ t. if t then Some p.name else repeated (earlier ++ p.name ∷ []) (names_of (firsts (earlier ++ p.name ∷ []) ps))) e ∙ more

pub firsts_after : (earlier : List (List ℕ)) (xs ys : List Property) → repeated earlier (names_of xs) ≡ None → firsts earlier (xs ++ ys) ≡ xs ++ firsts (earlier ++ names_of xs) ys
firsts_after earlier [] ys fresh = ap (λ e. firsts e ys) (sym (append-nil earlier))
firsts_after earlier (x ∷ xs) ys fresh =
    let parts : (is_among x.name earlier ≡ false) × (repeated (earlier ++ x.name ∷ []) (names_of xs) ≡ None) =
    none_repeated (is_among x.name earlier) x.name (repeated (earlier ++ x.name ∷ []) (names_of xs)) fresh in
    ap (λ t. if t then firsts earlier (xs ++ ys) else x ∷ firsts (earlier ++ x.name ∷ []) (xs ++ ys)) parts.0
    ∙ ap (λ l. x ∷ l) (firsts_after (earlier ++ x.name ∷ []) xs ys parts.1 ∙ ap (λ e. xs ++ firsts e ys) (append_assoc earlier (x.name ∷ []) (names_of xs)))

pub firsts_new : (earlier : List (List ℕ)) (ps : List Property) → AllByRecursion (λ p. is_among p.name earlier ≡ false) (firsts earlier ps)
firsts_new earlier [] = tt
firsts_new earlier (p ∷ ps) = by (is_among p.name earlier) refl (firsts_new earlier ps) (firsts_new (earlier ++ p.name ∷ []) ps)
  where
    by : (t : Bool) → is_among p.name earlier ≡ t → AllByRecursion (λ q. is_among q.name earlier ≡ false) (firsts earlier ps)
        → AllByRecursion (λ q. is_among q.name (earlier ++ p.name ∷ []) ≡ false) (firsts (earlier ++ p.name ∷ []) ps)
        → AllByRecursion (λ q. is_among q.name earlier ≡ false) (if t then firsts earlier ps else p ∷ firsts (earlier ++ p.name ∷ []) ps)
    by true e same more = same
    by false e same more = (
      e,
      all-imply (λ (q : Property). is_among q.name (earlier ++ p.name ∷ []) ≡ false) (λ (q : Property). is_among q.name earlier ≡ false) (firsts (earlier ++ p.name ∷ []) ps)
          (λ q new. not_true (is_among q.name earlier) (λ h. clash (among-append q.name earlier (p.name ∷ []) h) new)) more,
    )

pub firsts_all : (P : Property → Type 0) (earlier : List (List ℕ)) (ps : List Property) → AllByRecursion P ps → AllByRecursion P (firsts earlier ps)
firsts_all P earlier [] all = tt
firsts_all P earlier (p ∷ ps) all = by (is_among p.name earlier) (firsts_all P earlier ps all.1) (firsts_all P (earlier ++ p.name ∷ []) ps all.1)
  where
    by : (t : Bool) → AllByRecursion P (firsts earlier ps) → AllByRecursion P (firsts (earlier ++ p.name ∷ []) ps) → AllByRecursion P (if t then firsts earlier ps else p ∷ firsts (earlier ++ p.name ∷ []) ps)
    by true same more = same
    by false same more = (all.0, more)
