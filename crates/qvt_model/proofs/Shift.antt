-- The values of items where the first object of a model has number n, against those where it has number 0.
use Rattle.std.proofs.Common.{◌≡◌, ℕ, suc, ◌+◌, true, false, ◌==◌, ◌||◌, inl, inr, refl, sym, ap, ◌∙◌, List, [], ◌∷◌, map, length, arith}
use Rattle.std.specs.List.{AllByRecursion}
use Rattle.std.specs.Prelude.{All}
use Rattle.std.proofs.lemmas.Bool.{cases_eq, eq-eqb, ne_eqb}
use Rattle.std.proofs.lemmas.Bool.Decides.{Decides-eqb}
use Rattle.std.proofs.lemmas.List.Elements.{All-nil, All-cons}
use Rattle.qvt_relation.proofs.Bools.{or_left, or_right, or_cases, clash}
use Rattle.qvt_store.specs.Slots.{is_object, has}
use Rattle.qvt_store.specs.Types.{HasCodeType}
use Rattle.qvt_value.specs.Kept.{is_same}
use Rattle.qvt_value.specs.Order.{order_of}
use Rattle.qvt_repeats.proofs.Repeating.{repeats-map, repeats-alike}
use Rattle.qvt_store.specs.Repeats.{repeats}
use Rattle.qvt_slots.proofs.Repeating.{same_as_object}
use Rattle.qvt_metamodel.specs.declared.info.TypeKind.{TypeKind}
use Rattle.qvt_metamodel.specs.declared.info.TypeKind.TheVariants.{Bool as BoolKind, Int as IntKind, Str as StrKind, Enum as EnumKind, Class as ClassKind}
use Rattle.qvt_metas.specs.Metamodels.{Metamodels}
use Rattle.qvt_model.specs.declared.data.Datum.{Datum}
use Rattle.qvt_model.specs.declared.data.Datum.TheVariants.{Bool as BoolDatum, Int, Str, Literal, Ref}
use Rattle.qvt_model.specs.declared.data.ObjectData.{ObjectData}
use Rattle.qvt_model.specs.WellFormed.{IsItem}
use Rattle.qvt_model.specs.Loaded.{value_at}

eq-shift : (n i j : ℕ) → (n + i == n + j) ≡ (i == j)
eq-shift n i j = elim (cases_eq i j) [
  | inl e ↦ eq-eqb (n + i) (n + j) (ap (λ k. n + k) e) ∙ sym (eq-eqb i j e)
  | inr no' ↦ ne_eqb (n + i) (n + j) (λ q. no' (let r : n + i ≡ n + j = q in omega arith)) ∙ sym (ne_eqb i j no')
]

-- the same objects are held
item-shift : (n j : ℕ) (d : Datum) → is_object (n + j) (value_at n d) ≡ is_object j (value_at 0 d)
item-shift n j (BoolDatum a) = refl
item-shift n j (Int a) = refl
item-shift n j (Str a) = refl
item-shift n j (Literal a) = refl
item-shift n j (Ref i) = eq-shift n i j ∙ ap (λ k. k == j) (let q : i ≡ 0 + i = omega arith in q)

pub has-shift : (n j : ℕ) (xs : List Datum) → has (map (value_at n) xs) (n + j) ≡ has (map (value_at 0) xs) j
has-shift n j [] = refl
has-shift n j (x ∷ xs) = ap (λ b. b || has (map (value_at n) xs) (n + j)) (item-shift n j x) ∙ ap (λ b. is_object j (value_at 0 x) || b) (has-shift n j xs)

-- and no others
pub record HeldItem (n y : ℕ) (xs : List Datum) : Type 0 where
  pub place : ℕ
  pub number : y ≡ n + place
  pub held : has (map (value_at 0) xs) place ≡ true

pub held_item : (n y : ℕ) (xs : List Datum) → has (map (value_at n) xs) y ≡ true → HeldItem n y xs
held_item n y [] h = clash false h refl
held_item n y (x ∷ xs) h = elim (or_cases (is_object y (value_at n x)) (has (map (value_at n) xs) y) h) [
  | inl here ↦ at x here
  | inr rest ↦ let r : HeldItem n y xs = held_item n y xs rest in record { place = r.place; number = r.number; held = or_right (is_object r.place (value_at 0 x)) (has (map (value_at 0) xs) r.place) r.held }
]
  where
    at : (x : Datum) → is_object y (value_at n x) ≡ true → HeldItem n y (x ∷ xs)
    at (BoolDatum a) h = clash false h refl
    at (Int a) h = clash false h refl
    at (Str a) h = clash false h refl
    at (Literal a) h = clash false h refl
    at (Ref i) h = record { place = i; number = sym ((Decides-eqb (n + i) y).0 h); held = or_left (0 + i == i) (has (map (value_at 0) xs) i) ((Decides-eqb (0 + i) i).1 (omega arith)) }

pub length-shift : (n : ℕ) (xs : List Datum) → length (map (value_at n) xs) ≡ length (map (value_at 0) xs)
length-shift n [] = refl
length-shift n (x ∷ xs) = ap suc (length-shift n xs)

-- equal items stay equal, and others differ
same-shift : (n : ℕ) (a b : Datum) → is_same order_of (value_at n a) (value_at n b) ≡ is_same order_of (value_at 0 a) (value_at 0 b)
same-shift n (BoolDatum a) (BoolDatum b) = refl
same-shift n (BoolDatum a) (Int b) = refl
same-shift n (BoolDatum a) (Str b) = refl
same-shift n (BoolDatum a) (Literal b) = refl
same-shift n (BoolDatum a) (Ref b) = refl
same-shift n (Int a) (BoolDatum b) = refl
same-shift n (Int a) (Int b) = refl
same-shift n (Int a) (Str b) = refl
same-shift n (Int a) (Literal b) = refl
same-shift n (Int a) (Ref b) = refl
same-shift n (Str a) (BoolDatum b) = refl
same-shift n (Str a) (Int b) = refl
same-shift n (Str a) (Str b) = refl
same-shift n (Str a) (Literal b) = refl
same-shift n (Str a) (Ref b) = refl
same-shift n (Literal a) (BoolDatum b) = refl
same-shift n (Literal a) (Int b) = refl
same-shift n (Literal a) (Str b) = refl
same-shift n (Literal a) (Literal b) = refl
same-shift n (Literal a) (Ref b) = refl
same-shift n (Ref a) (BoolDatum b) = refl
same-shift n (Ref a) (Int b) = refl
same-shift n (Ref a) (Str b) = refl
same-shift n (Ref a) (Literal b) = refl
same-shift n (Ref a) (Ref b) = same_as_object (record { 0 = n + a }) (value_at n (Ref b)) ∙ eq-shift n b a ∙ sym (same_as_object (record { 0 = 0 + a }) (value_at 0 (Ref b)) ∙ eq-shift 0 b a)

pub repeats-shift : (n : ℕ) (xs : List Datum) → repeats (map (value_at n) xs) ≡ repeats (map (value_at 0) xs)
repeats-shift n xs =
    repeats-map (is_same order_of) (value_at n) xs
    ∙ repeats-alike (λ a b. is_same order_of (value_at n a) (value_at n b)) (λ a b. is_same order_of (value_at 0 a) (value_at 0 b)) (same-shift n) xs
    ∙ sym (repeats-map (is_same order_of) (value_at 0) xs)

-- items of a type are plain values
plain_item : (m : Metamodels) (os : List ObjectData) (n : ℕ) (k : TypeKind) (d : Datum) → IsItem m os k d → HasCodeType (value_at n d)
plain_item m os n BoolKind (BoolDatum b) h = tt
plain_item m os n IntKind (Int z) h = h
plain_item m os n StrKind (Str t) h = h
plain_item m os n (EnumKind k e) (Literal l) h = tt
plain_item m os n (ClassKind c) (Ref i) h = tt
plain_item m os n BoolKind (Int x) h = absurd h
plain_item m os n BoolKind (Str x) h = absurd h
plain_item m os n BoolKind (Literal x) h = absurd h
plain_item m os n BoolKind (Ref x) h = absurd h
plain_item m os n IntKind (BoolDatum x) h = absurd h
plain_item m os n IntKind (Str x) h = absurd h
plain_item m os n IntKind (Literal x) h = absurd h
plain_item m os n IntKind (Ref x) h = absurd h
plain_item m os n StrKind (BoolDatum x) h = absurd h
plain_item m os n StrKind (Int x) h = absurd h
plain_item m os n StrKind (Literal x) h = absurd h
plain_item m os n StrKind (Ref x) h = absurd h
plain_item m os n (EnumKind a b) (BoolDatum x) h = absurd h
plain_item m os n (EnumKind a b) (Int x) h = absurd h
plain_item m os n (EnumKind a b) (Str x) h = absurd h
plain_item m os n (EnumKind a b) (Ref x) h = absurd h
plain_item m os n (ClassKind c) (BoolDatum x) h = absurd h
plain_item m os n (ClassKind c) (Int x) h = absurd h
plain_item m os n (ClassKind c) (Str x) h = absurd h
plain_item m os n (ClassKind c) (Literal x) h = absurd h

pub all_plain : (m : Metamodels) (os : List ObjectData) (n : ℕ) (k : TypeKind) (xs : List Datum) → AllByRecursion (IsItem m os k) xs → All HasCodeType (map (value_at n) xs)
all_plain m os n k [] h = All-nil HasCodeType
all_plain m os n k (x ∷ xs) h = All-cons HasCodeType (value_at n x) (map (value_at n) xs) (plain_item m os n k x h.0) (all_plain m os n k xs h.1)
