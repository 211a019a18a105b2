-- Which objects lists hold.
use Rattle.std.proofs.Common.{◌≡◌, ℕ, ◌≤◌, Bool, true, false, inl, inr, ◌==◌, ◌||◌, ◌&&◌, not, cond, List, [], ◌∷◌, ◌++◌, map, length, refl, sym, ap, ◌∙◌, arith, subst}
use Rattle.std.specs.Prelude.{filter, Option, Some, None}
use Rattle.std.specs.List.{list_any, list_all}
use Rattle.std.proofs.lemmas.Bool.Decides.{Decides-eqb}
use Rattle.qvt_base.specs.declared.numbers.Oid.{Oid}
use Rattle.qvt_value.specs.declared.value.Value.{Value}
use Rattle.qvt_value.specs.declared.value.Value.TheVariants.{Obj}
use Rattle.qvt_relation.proofs.Bools.{and_left, and_right, or_cases, or_left, none_left, none_right, not_true, or_false, clash, refuted}
use Rattle.qvt_slots.specs.Slots.{object_in, passes, is_object_with, is_object, has}
use Rattle.qvt_slots.specs.Change.{object_value, oid_of, is_new_object, objects_beyond, among_objects, is_some_object}

step : (l ly e : Bool) (kept rest : Bool) → (e ≡ true → l ≡ ly) → kept ≡ (rest && not ly) →
    cond (not l) (e || kept) kept ≡ ((e || rest) && not ly)
step true ly true kept rest same ih = elim ly as (λ v. (true ≡ v) → kept ≡ (rest && not v) → kept ≡ (true && not v)) [ true ↦ λ _ h. elim rest as (λ r. kept ≡ (r && false) → kept ≡ false) [ true ↦ λ k. k | false ↦ λ k. k ] h | false ↦ λ h _. cc ] (same refl) ih
step true ly false kept rest same ih = ih
step false ly true kept rest same ih = ap not (same refl)
step false ly false kept rest same ih = ih

pub cond_any : {X : Type 0} (b : Bool) (e : X → Bool) (v : X) (xs : List X) → list_any e (cond b (v ∷ xs) xs) ≡ cond b (e v || list_any e xs) (list_any e xs)
cond_any true e v xs = refl
cond_any false e v xs = refl

pub has-filter : (t : ℕ → Bool) (vs : List Value) (y : ℕ) → has (filter (λ v. not (is_object_with t v)) vs) y ≡ (has vs y && not (t y))
has-filter t [] y = refl
has-filter t (v ∷ vs) y =
    cond_any (not (is_object_with t v)) (is_object y) v (filter (λ w. not (is_object_with t w)) vs)
    ∙ go (object_in v) (has-filter t vs y)
  where
    go : (o : Option ℕ) → has (filter (λ w. not (is_object_with t w)) vs) y ≡ (has vs y && not (t y)) →
        cond (not (passes t o)) (passes (λ x. x == y) o || has (filter (λ w. not (is_object_with t w)) vs) y) (has (filter (λ w. not (is_object_with t w)) vs) y)
        ≡ ((passes (λ x. x == y) o || has vs y) && not (t y))
    go None ih = ih
    go (Some x) ih = step (t x) (t y) (x == y) (has (filter (λ w. not (is_object_with t w)) vs) y) (has vs y) (λ e. ap t ((Decides-eqb x y).0 e)) ih

pub has-append : (vs ws : List Value) (y : ℕ) → has (vs ++ ws) y ≡ (has vs y || has ws y)
has-append [] ws y = refl
has-append (v ∷ vs) ws y = elim (is_object y v) as (λ b. (b || has (vs ++ ws) y) ≡ ((b || has vs y) || has ws y)) [ true ↦ refl | false ↦ has-append vs ws y ]

pub has-push : (vs : List Value) (v : Value) (y : ℕ) → has (vs ++ v ∷ []) y ≡ (has vs y || is_object y v)
has-push vs v y = has-append vs (v ∷ []) y ∙ ap (λ b. has vs y || b) (or_false (is_object y v))

-- the object that a value is
pub object-is : (v : Value) (y : ℕ) → is_object y v ≡ true → object_in v ≡ Some y
object-is v y h = go (object_in v) h
  where
    go : (o : Option ℕ) → passes (λ x. x == y) o ≡ true → o ≡ Some y
    go None h = cc
    go (Some x) h = ap Some ((Decides-eqb x y).0 h)

pub object_itself : (y : ℕ) → is_object y (object_value y) ≡ true
object_itself y = (Decides-eqb y y).1 refl

-- a test of objects holds of the objects of a list of which it holds
pub in_all : (t : ℕ → Bool) (vs : List Value) (y : ℕ) → list_all (is_object_with t) vs ≡ true → has vs y ≡ true → t y ≡ true
in_all t [] y all h = cc
in_all t (v ∷ vs) y all h = elim (or_cases (is_object y v) (has vs y) h) [
  | inl same ↦ sym (ap (passes t) (object-is v y same)) ∙ and_left _ _ all
  | inr more ↦ in_all t vs y (and_right (is_object_with t v) _ all) more
]

pub in_list : (p : Value → Bool) (q : ℕ → Bool) → ((v : Value) (y : ℕ) → p v ≡ true → object_in v ≡ Some y → q y ≡ true) → (vs : List Value) (y : ℕ) → list_all p vs ≡ true → has vs y ≡ true → q y ≡ true
in_list p q at [] y all h = cc
in_list p q at (v ∷ vs) y all h = elim (or_cases (is_object y v) (has vs y) h) [
  | inl same ↦ at v y (and_left _ _ all) (object-is v y same)
  | inr more ↦ in_list p q at vs y (and_right (p v) _ all) more
]

pub not_any : (t : ℕ → Bool) (vs : List Value) (y : ℕ) → list_any (is_object_with t) vs ≡ false → has vs y ≡ true → t y ≡ false
not_any t [] y n h = cc
not_any t (v ∷ vs) y n h = elim (or_cases (is_object y v) (has vs y) h) [
  | inl same ↦ sym (ap (passes t) (object-is v y same)) ∙ none_left _ _ n
  | inr more ↦ not_any t vs y (none_right (is_object_with t v) _ n) more
]

pub has_none : (vs : List Value) (y : ℕ) → vs ≡ [] → has vs y ≡ true → ⊥
has_none vs y e h = let k : false ≡ true = sym (ap (λ l. has l y) e) ∙ h in cc

pub one_object : (vs : List Value) (a b : ℕ) → length vs ≤ 1 → has vs a ≡ true → has vs b ≡ true → a ≡ b
one_object [] a b l p q = cc
one_object (v ∷ []) a b l p q =
    let p' : is_object a v ≡ true = sym (or_false (is_object a v)) ∙ p in
    let q' : is_object b v ≡ true = sym (or_false (is_object b v)) ∙ q in
    let e : ◌≡◌ {A = Option ℕ} (Some a) (Some b) = sym (object-is v a p') ∙ object-is v b q' in cc
one_object (v ∷ w ∷ vs) a b l p q = absurd (omega arith)

-- the objects beyond another list
pub beyond-is : (others vs : List Value) (y : ℕ) → among_objects (objects_beyond others vs) y ≡ (has vs y && not (has others y))
beyond-is others [] y = refl
beyond-is others (Obj o ∷ vs) y =
    pushed (not (has others o.0)) (filter (is_new_object others) vs)
    ∙ step (has others o.0) (has others y) (o.0 == y) (among_objects (objects_beyond others vs) y) (has vs y) (λ e. ap (has others) ((Decides-eqb o.0 y).0 e)) (beyond-is others vs y)
  where
    pushed : (b : Bool) (xs : List Value) → among_objects (map oid_of (cond b (Obj o ∷ xs) xs)) y ≡ cond b ((o.0 == y) || among_objects (map oid_of xs) y) (among_objects (map oid_of xs) y)
    pushed true xs = refl
    pushed false xs = refl
beyond-is others (v ∷ vs) y = beyond-is others vs y

pub some_among : (os : List Oid) (y : ℕ) → among_objects os y ≡ true → is_some_object os ≡ true
some_among [] y h = cc
some_among (o ∷ os) y h = refl

pub first_among : (os : List Oid) → is_some_object os ≡ true → (y : ℕ) × (among_objects os y ≡ true)
first_among [] h = cc
first_among (o ∷ os) h = (o.0, or_left _ _ ((Decides-eqb o.0 o.0).1 refl))

-- where the one new item is an old one, nothing is beyond
pub none_beyond : (others vs : List Value) (y : ℕ) → length vs ≤ 1 → has vs y ≡ true → has others y ≡ true → is_some_object (objects_beyond others vs) ≡ false
none_beyond others vs y l h was = refuted _ (λ some.
    let r : (z : ℕ) × (among_objects (objects_beyond others vs) z ≡ true) = first_among (objects_beyond others vs) some in
    let b : (has vs r.0 && not (has others r.0)) ≡ true = sym (beyond-is others vs r.0) ∙ r.1 in
    let same : r.0 ≡ y = one_object vs r.0 y l (and_left _ _ b) h in
    clash (has others y) was (subst (λ n. has others n ≡ false) same (not_true _ (and_right (has vs r.0) _ b))))

-- where the other list holds all the objects, none is beyond it
pub none_beyond_all : (others vs : List Value) → ((y : ℕ) → has vs y ≡ true → has others y ≡ true) → objects_beyond others vs ≡ []
none_beyond_all others vs all = empty (objects_beyond others vs) (λ y. refuted _ (λ h.
    let b : (has vs y && not (has others y)) ≡ true = sym (beyond-is others vs y) ∙ h in
    clash _ (all y (and_left _ _ b)) (not_true _ (and_right (has vs y) _ b))))
  where
    empty : (os : List Oid) → ((y : ℕ) → among_objects os y ≡ false) → os ≡ []
    empty [] h = refl
    empty (o ∷ os) h = clash (among_objects (o ∷ os) o.0) (or_left _ _ ((Decides-eqb o.0 o.0).1 refl)) (h o.0)
