-- The first place at which a test passes, and names that are not repeated.
use Rattle.std.proofs.Common.{◌≡◌, ◌∙◌, ℕ, zero, suc, ◌+◌, ◌<◌, List, [], ◌∷◌, ◌++◌, length, map, get_or, Bool, true, false, cond, not, nat_lt, Option, Some, None, refl, ap, sym, arith, position, ◌⊎◌, inl, inr, find}
use Rattle.std.specs.Prelude.{if◌then◌else◌, is_none, option_map}
use Rattle.std.specs.List.{position_or_len, AllByRecursion}
use Rattle.std.specs.Str.{bytes_eq}
use Rattle.std.proofs.lemmas.List.{length-map, length-append}
use Rattle.std.proofs.lemmas.Bool.{lt-ltb, ltb-true}
use Rattle.qvt_metamodel.specs.Names.{is_among, repeated}
use Rattle.qvt_metamodel.proofs.Bools.{or_cases, or_left, or_right, not_true, clash}
use Rattle.std.proofs.lemmas.Slice.Eq.{bytes_eq-Decides}

prefix-map : {X Y : Type 0} (p : Y → Bool) (g : X → Y) (xs : List X) → position_or_len (λ x. p (g x)) xs ≡ position_or_len p (map g xs)
prefix-map p g [] = refl
prefix-map p g (x ∷ xs) = ap (λ n. cond (not (p (g x))) (1 + n) 0) (prefix-map p g xs)

pub position-map : {X Y : Type 0} (p : Y → Bool) (g : X → Y) (xs : List X) → position (λ x. p (g x)) xs ≡ position p (map g xs)
position-map p g xs = λ i. cond (nat_lt (prefix-map p g xs i) (sym (length-map xs g) i)) (Some (prefix-map p g xs i)) None

prefix-first : {X : Type 0} (p : X → Bool) (xs : List X) (i : ℕ) (d : X) → i < length xs → p (get_or xs i d) ≡ true → ((j : ℕ) → j < i → p (get_or xs j d) ≡ false) → position_or_len p xs ≡ i
prefix-first p [] i d lt here before = absurd (omega arith)
prefix-first p (x ∷ xs) zero d lt here before = ap (λ b. cond (not b) (1 + position_or_len p xs) 0) here
prefix-first p (x ∷ xs) (suc i) d lt here before =
    ap (λ b. cond (not b) (1 + position_or_len p xs) 0) (before 0 (omega arith))
    ∙ ap (λ n. 1 + n) (prefix-first p xs i d (omega arith) here (λ j h. before (suc j) (omega arith))) ∙ omega arith

-- the first place at which a test passes is the one where it passes and at no earlier one
pub position-first : {X : Type 0} (p : X → Bool) (xs : List X) (i : ℕ) (d : X) → i < length xs → p (get_or xs i d) ≡ true → ((j : ℕ) → j < i → p (get_or xs j d) ≡ false) → position p xs ≡ Some i
position-first p xs i d lt here before =
    let at : position_or_len p xs ≡ i = prefix-first p xs i d lt here before in
    ap (λ n. cond (nat_lt n (length xs)) (Some n) None) at ∙ ap (λ b. cond b (Some i) None) (lt-ltb i (length xs) lt)

pub find-first : {X : Type 0} (p : X → Bool) (xs : List X) (i : ℕ) (d : X) → i < length xs → p (get_or xs i d) ≡ true → ((j : ℕ) → j < i → p (get_or xs j d) ≡ false) → find p xs ≡ Some (get_or xs i d)
find-first p [] i d lt here before = absurd (omega arith)
find-first p (x ∷ xs) zero d lt here before = ap (λ b. cond b (Some x) (find p xs)) here
find-first p (x ∷ xs) (suc i) d lt here before =
    ap (λ b. cond b (Some x) (find p xs)) (before 0 (omega arith)) ∙ find-first p xs i d (omega arith) here (λ j h. before (suc j) (omega arith))

pub bytes_eq-refl : (xs : List ℕ) → bytes_eq xs xs ≡ true
bytes_eq-refl xs = (bytes_eq-Decides xs xs).1 refl

-- a name that is among names stands at some place
pub among-at : (x : List ℕ) (xs : List (List ℕ)) (i : ℕ) → i < length xs → bytes_eq x (get_or xs i []) ≡ true → is_among x xs ≡ true
among-at x [] i lt same = absurd (omega arith)
among-at x (y ∷ ys) zero lt same = or_left (bytes_eq x y) (is_among x ys) same
among-at x (y ∷ ys) (suc i) lt same = or_right (bytes_eq x y) (is_among x ys) (among-at x ys i (omega arith) same)

pub among-append : (x : List ℕ) (xs ys : List (List ℕ)) → is_among x xs ≡ true → is_among x (xs ++ ys) ≡ true
among-append x [] ys h = absurd (cc)
among-append x (y ∷ xs) ys h = elim (or_cases (bytes_eq x y) (is_among x xs) h) [
  | inl e ↦ or_left (bytes_eq x y) (is_among x (xs ++ ys)) e
  | inr r ↦ or_right (bytes_eq x y) (is_among x (xs ++ ys)) (among-append x xs ys r)
]

among-last : (x y : List ℕ) (xs : List (List ℕ)) → bytes_eq x y ≡ true → is_among x (xs ++ y ∷ []) ≡ true
among-last x y [] h = or_left (bytes_eq x y) false h
among-last x y (z ∷ xs) h = or_right (bytes_eq x z) (is_among x (xs ++ y ∷ [])) (among-last x y xs h)

pub none_repeated : (b : Bool) (x : List ℕ) (o : Option (List ℕ)) → (if b then Some x else o) ≡ None → (b ≡ false) × (o ≡ None)
none_repeated true x o h = absurd (cc)
none_repeated false x o h = (refl, h)

-- where no name is repeated, none is among those taken
pub untaken : (taken xs : List (List ℕ)) (i : ℕ) → repeated taken xs ≡ None → i < length xs → is_among (get_or xs i []) taken ≡ false
untaken taken [] i fresh lt = absurd (omega arith)
untaken taken (x ∷ xs) zero fresh lt = (none_repeated (is_among x taken) x (repeated (taken ++ x ∷ []) xs) fresh).0
untaken taken (x ∷ xs) (suc i) fresh lt =
    let left : repeated (taken ++ x ∷ []) xs ≡ None = (none_repeated (is_among x taken) x (repeated (taken ++ x ∷ []) xs) fresh).1 in
    not_true (is_among (get_or xs i []) taken) (λ h. clash (among-append (get_or xs i []) taken (x ∷ []) h) (untaken (taken ++ x ∷ []) xs i left (omega arith)))

-- where no name is repeated, a name differs from each before it
pub differ-before : (taken xs : List (List ℕ)) (i j : ℕ) → repeated taken xs ≡ None → i < length xs → j < i → bytes_eq (get_or xs i []) (get_or xs j []) ≡ false
differ-before taken [] i j fresh lt before = absurd (omega arith)
differ-before taken (x ∷ xs) zero j fresh lt before = absurd (omega arith)
differ-before taken (x ∷ xs) (suc i) zero fresh lt before =
    let left : repeated (taken ++ x ∷ []) xs ≡ None = (none_repeated (is_among x taken) x (repeated (taken ++ x ∷ []) xs) fresh).1 in
    not_true (bytes_eq (get_or xs i []) x) (λ h. clash (among-last (get_or xs i []) x taken h) (untaken (taken ++ x ∷ []) xs i left (omega arith)))
differ-before taken (x ∷ xs) (suc i) (suc j) fresh lt before =
    differ-before (taken ++ x ∷ []) xs i j (none_repeated (is_among x taken) x (repeated (taken ++ x ∷ []) xs) fresh).1 (omega arith) (omega arith)

-- fewer names are taken: still none is repeated
pub repeated-fewer : (t u xs : List (List ℕ)) → ((x : List ℕ) → is_among x u ≡ true → is_among x t ≡ true) → repeated t xs ≡ None → repeated u xs ≡ None
repeated-fewer t u [] fewer fresh = refl
repeated-fewer t u (x ∷ xs) fewer fresh =
    let parts : (is_among x t ≡ false) × (repeated (t ++ x ∷ []) xs ≡ None) = none_repeated (is_among x t) x (repeated (t ++ x ∷ []) xs) fresh in
    let here : is_among x u ≡ false = not_true (is_among x u) (λ h. clash (fewer x h) parts.0) in
    ap (λ b. if b then Some x else repeated (u ++ x ∷ []) xs) here
    ∙ repeated-fewer (t ++ x ∷ []) (u ++ x ∷ []) xs (λ y h. elim (among-either y u x h) [ inl old ↦ among-append y t (x ∷ []) (fewer y old) | inr new ↦ among-last y x t new ]) parts.1
  where
    among-either : (y : List ℕ) (u : List (List ℕ)) (x : List ℕ) → is_among y (u ++ x ∷ []) ≡ true → (is_among y u ≡ true) ⊎ (bytes_eq y x ≡ true)
    among-either y [] x h = elim (or_cases (bytes_eq y x) false h) [ inl e ↦ inr e | inr f ↦ absurd (cc) ]
    among-either y (z ∷ u) x h = elim (or_cases (bytes_eq y z) (is_among y (u ++ x ∷ [])) h) [
      | inl e ↦ inl (or_left (bytes_eq y z) (is_among y u) e)
      | inr r ↦ elim (among-either y u x r) [ inl old ↦ inl (or_right (bytes_eq y z) (is_among y u) old) | inr new ↦ inr new ]
    ]

pub none_from : {X : Type 0} (o : Option X) → is_none o ≡ true → o ≡ None
none_from None h = refl
none_from (Some x) h = absurd (cc)

prefix-append : {X : Type 0} (p : X → Bool) (xs ys : List X) → position_or_len p xs < length xs → position_or_len p (xs ++ ys) ≡ position_or_len p xs
prefix-append p [] ys lt = absurd (omega arith)
prefix-append p (x ∷ xs) ys lt = by (p x) refl (λ less. prefix-append p xs ys less)
  where
    by : (t : Bool) → p x ≡ t → (position_or_len p xs < length xs → position_or_len p (xs ++ ys) ≡ position_or_len p xs) → position_or_len p (x ∷ (xs ++ ys)) ≡ position_or_len p (x ∷ xs)
    by true e next = ap (λ t. cond (not t) (1 + position_or_len p (xs ++ ys)) 0) e ∙ sym (ap (λ t. cond (not t) (1 + position_or_len p xs) 0) e)
    by false e next =
        let here : position_or_len p (x ∷ xs) ≡ 1 + position_or_len p xs = ap (λ t. cond (not t) (1 + position_or_len p xs) 0) e in
        ap (λ t. cond (not t) (1 + position_or_len p (xs ++ ys)) 0) e ∙ ap (λ n. 1 + n) (next (omega (arith, lt, here))) ∙ sym here

pub some-within : (n k i : ℕ) → cond (nat_lt n k) (Some n) None ≡ Some i → (n < k) × (n ≡ i)
some-within n k i e = by (nat_lt n k) refl
  where
    by : (t : Bool) → nat_lt n k ≡ t → (n < k) × (n ≡ i)
    by true is = (ltb-true n k is, (let same : Some n ≡ Some i = sym (ap (λ t. cond t (Some n) None) is) ∙ e in cc))
    by false is = absurd (let no : None ≡ Some i = sym (ap (λ t. cond t (Some n) None) is) ∙ e in cc)

pub position-left : {X : Type 0} (p : X → Bool) (xs ys : List X) (i : ℕ) → position p xs ≡ Some i → position p (xs ++ ys) ≡ Some i
position-left p xs ys i e =
    let at : (position_or_len p xs < length xs) × (position_or_len p xs ≡ i) = some-within (position_or_len p xs) (length xs) i e in
    let same : position_or_len p (xs ++ ys) ≡ i = prefix-append p xs ys at.0 ∙ at.1 in
    ap (λ n. cond (nat_lt n (length (xs ++ ys))) (Some n) None) same ∙ ap (λ t. cond t (Some i) None) (lt-ltb i (length (xs ++ ys)) (omega (arith, at.0, at.1, length-append xs ys)))

prefix-past : {X : Type 0} (p : X → Bool) (xs ys : List X) → AllByRecursion (λ x. p x ≡ false) xs → position_or_len p (xs ++ ys) ≡ length xs + position_or_len p ys
prefix-past p [] ys all = omega arith
prefix-past p (x ∷ xs) ys all = ap (λ t. cond (not t) (1 + position_or_len p (xs ++ ys)) 0) all.0 ∙ ap (λ n. 1 + n) (prefix-past p xs ys all.1) ∙ omega arith

pub position-right : {X : Type 0} (p : X → Bool) (xs ys : List X) (i : ℕ) → AllByRecursion (λ x. p x ≡ false) xs → position p ys ≡ Some i → position p (xs ++ ys) ≡ Some (length xs + i)
position-right p xs ys i all e =
    let at : (position_or_len p ys < length ys) × (position_or_len p ys ≡ i) = some-within (position_or_len p ys) (length ys) i e in
    let same : position_or_len p (xs ++ ys) ≡ length xs + i = prefix-past p xs ys all ∙ ap (λ n. length xs + n) at.1 in
    ap (λ n. cond (nat_lt n (length (xs ++ ys))) (Some n) None) same ∙ ap (λ t. cond t (Some (length xs + i)) None) (lt-ltb (length xs + i) (length (xs ++ ys)) (omega (arith, at.0, at.1, length-append xs ys)))

abbrev PrefixIs : {X : Type 0} → (X → Bool) → List X → List X → Type 0
PrefixIs p xs ys =
    ((position_or_len p xs < length xs) × (position_or_len p (xs ++ ys) ≡ position_or_len p xs))
    ⊎ ((position_or_len p xs ≡ length xs) × (position_or_len p (xs ++ ys) ≡ length xs + length ys))

prefix-none : {X : Type 0} (p : X → Bool) (ys : List X) → AllByRecursion (λ x. p x ≡ false) ys → position_or_len p ys ≡ length ys
prefix-none p [] none = refl
prefix-none p (y ∷ ys) none = ap (λ t. cond (not t) (1 + position_or_len p ys) 0) none.0 ∙ ap (λ n. 1 + n) (prefix-none p ys none.1) ∙ omega arith

prefix-is : {X : Type 0} (p : X → Bool) (xs ys : List X) → AllByRecursion (λ x. p x ≡ false) ys → PrefixIs p xs ys
prefix-is p [] ys none = inr (refl, prefix-none p ys none ∙ omega arith)
prefix-is p (x ∷ xs) ys none = by (p x) refl (prefix-is p xs ys none)
  where
    by : (t : Bool) → p x ≡ t → PrefixIs p xs ys → PrefixIs p (x ∷ xs) ys
    by true e r =
        let here : position_or_len p (x ∷ xs) ≡ 0 = ap (λ t. cond (not t) (1 + position_or_len p xs) 0) e in
        inl (omega (arith, here), ap (λ t. cond (not t) (1 + position_or_len p (xs ++ ys)) 0) e ∙ sym here)
    by false e r =
        let here : position_or_len p (x ∷ xs) ≡ 1 + position_or_len p xs = ap (λ t. cond (not t) (1 + position_or_len p xs) 0) e in
        let all : position_or_len p (x ∷ (xs ++ ys)) ≡ 1 + position_or_len p (xs ++ ys) = ap (λ t. cond (not t) (1 + position_or_len p (xs ++ ys)) 0) e in
        elim r [
          | inl f ↦ inl (omega (arith, here, f.0), all ∙ ap (λ n. 1 + n) f.1 ∙ sym here)
          | inr n ↦ inr (omega (arith, here, n.0), omega (arith, all, n.1))
        ]

-- what is not found among the items that come last is not found sooner
pub position-none_past : {X : Type 0} (p : X → Bool) (xs ys : List X) → AllByRecursion (λ x. p x ≡ false) ys → position p (xs ++ ys) ≡ position p xs
position-none_past p xs ys none = elim (prefix-is p xs ys none) [
  | inl f ↦ position-left p xs ys (position_or_len p xs) (found f.0) ∙ sym (found f.0)
  | inr n ↦ absent n.0 n.1
]
  where
    found : position_or_len p xs < length xs → position p xs ≡ Some (position_or_len p xs)
    found l = ap (λ t. cond t (Some (position_or_len p xs)) None) (lt-ltb (position_or_len p xs) (length xs) l)

    past : (n k : ℕ) → n ≡ k → cond (nat_lt n k) (Some n) None ≡ None
    past n k e = by (nat_lt n k) refl
      where
        by : (t : Bool) → nat_lt n k ≡ t → cond (nat_lt n k) (Some n) None ≡ None
        by true is = absurd (let less : n < k = ltb-true n k is in omega (arith, less, e))
        by false is = ap (λ t. cond t (Some n) None) is

    absent : position_or_len p xs ≡ length xs → position_or_len p (xs ++ ys) ≡ length xs + length ys → position p (xs ++ ys) ≡ position p xs
    absent a b = past (position_or_len p (xs ++ ys)) (length (xs ++ ys)) (b ∙ sym (length-append xs ys)) ∙ sym (past (position_or_len p xs) (length xs) a)

prefix-cong : {X : Type 0} (p q : X → Bool) (xs : List X) → ((x : X) → p x ≡ q x) → position_or_len p xs ≡ position_or_len q xs
prefix-cong p q [] same = refl
prefix-cong p q (x ∷ xs) same = λ i. cond (not (same x i)) (1 + prefix-cong p q xs same i) 0

pub position-cong : {X : Type 0} (p q : X → Bool) (xs : List X) → ((x : X) → p x ≡ q x) → position p xs ≡ position q xs
position-cong p q xs same = ap (λ n. cond (nat_lt n (length xs)) (Some n) None) (prefix-cong p q xs same)

pub find-cong : {X : Type 0} (p q : X → Bool) (xs : List X) → AllByRecursion (λ x. p x ≡ q x) xs → find p xs ≡ find q xs
find-cong p q [] all = refl
find-cong p q (x ∷ xs) all = λ i. cond (all.0 i) (Some x) (find-cong p q xs all.1 i)

pub find-map : {X Y : Type 0} (p : Y → Bool) (g : X → Y) (xs : List X) → find p (map g xs) ≡ option_map g (find (λ x. p (g x)) xs)
find-map p g [] = refl
find-map p g (x ∷ xs) = by (p (g x)) (find-map p g xs)
  where
    by : (t : Bool) → find p (map g xs) ≡ option_map g (find (λ x. p (g x)) xs) → cond t (Some (g x)) (find p (map g xs)) ≡ option_map g (cond t (Some x) (find (λ x. p (g x)) xs))
    by true e = refl
    by false e = e
