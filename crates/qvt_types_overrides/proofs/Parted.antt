-- Units that take or answer other than the first of their name.
use Rattle.std.proofs.Common.{◌≡◌, ◌∙◌, ℕ, zero, suc, ◌+◌, List, [], ◌∷◌, ◌++◌, get_or, Bool, true, false, not, ◌&&◌, ◌||◌, refl, sym, ap, inl, inr, arith}
use Rattle.std.specs.Prelude.{if◌then◌else◌}
use Rattle.std.specs.List.{list_any}
use Rattle.std.specs.Str.{bytes_eq}
use Rattle.std.proofs.lemmas.List.{append-nil}
use Rattle.qvt_metamodel.proofs.Bools.{or_left, or_right, or_cases}
use Rattle.qvt_types_groups.specs.declared.signature.Signature.{Signature}
use Rattle.qvt_types_groups.specs.Numbers.{no_unit, unit_at, numbers_where, is_called, is_in_group, has_context}
use Rattle.qvt_types_groups.specs.Lists.{is_one}
use Rattle.qvt_types_groups.proofs.Lists.{same_bytes}

any_from : (q p : Signature → Bool) (r : ℕ → Bool) (n : ℕ) (us : List Signature) → ((k : ℕ) → r (n + k) ≡ p (get_or us k no_unit)) → list_any r (numbers_where q n us) ≡ list_any (λ v. q v && p v) us
any_from q p r n [] same = refl
any_from q p r n (u ∷ us) same = by (q u) (any_from q p r (n + 1) us (λ k. ap r (let next : n + 1 + k ≡ n + suc k = omega arith in next) ∙ same (suc k)))
  where
    here : r n ≡ p u
    here = ap r (let this : n ≡ n + zero = omega arith in this) ∙ same zero

    by : (b : Bool) → list_any r (numbers_where q (n + 1) us) ≡ list_any (λ v. q v && p v) us
        → list_any r (if b then n ∷ numbers_where q (n + 1) us else numbers_where q (n + 1) us) ≡ ((b && p u) || list_any (λ v. q v && p v) us)
    by true rest = λ i. here i || rest i
    by false rest = rest

-- a test of those that pass another one
pub any_where : (q p : Signature → Bool) (us : List Signature) → list_any (λ n. p (unit_at us n)) (numbers_where q 0 us) ≡ list_any (λ v. q v && p v) us
any_where q p us = any_from q p (λ n. p (unit_at us n)) 0 us (λ k. ap (λ n. p (unit_at us n)) (let same : 0 + k ≡ k = omega arith in same))

any_so : (p q : Signature → Bool) (us : List Signature) → ((u : Signature) → p u ≡ true → q u ≡ true) → list_any p us ≡ true → list_any q us ≡ true
any_so p q [] f h = h
any_so p q (u ∷ us) f h = elim (or_cases (p u) (list_any p us) h) [
  | inl here ↦ or_left (q u) (list_any q us) (f u here)
  | inr rest ↦ or_right (q u) (list_any q us) (any_so p q us f rest)
]

or_implied : (a b : Bool) → (a ≡ true → b ≡ true) → (a || b) ≡ b
or_implied true b f = sym (f refl)
or_implied false b f = refl

or_false : (a : Bool) → (a || false) ≡ a
or_false true = refl
or_false false = refl

kept : (g l c : Bool) → ((g && not l) && c) ≡ true → (g && c) ≡ true
kept true true c e = absurd (cc)
kept true false c e = e
kept false l c e = e

none_left : (g l c : Bool) → (l ≡ true → c ≡ true → false ≡ true) → ((g && not l) && c) ≡ (g && c)
none_left false l c never = refl
none_left true false c never = refl
none_left true true false never = refl
none_left true true true never = absurd (let wrong : false ≡ true = never refl refl in cc)

-- of some items those that are unlike are looked at, and all where one of the others may be it
pub parted : (g l c : Signature → Bool) (us : List Signature) (b : Bool) → ((u : Signature) → l u ≡ true → c u ≡ true → b ≡ true)
    → (list_any (λ u. (g u && not (l u)) && c u) us || (b && list_any (λ u. g u && c u) us)) ≡ list_any (λ u. g u && c u) us
parted g l c us true told = or_implied (list_any (λ u. (g u && not (l u)) && c u) us) (list_any (λ u. g u && c u) us)
    (any_so (λ u. (g u && not (l u)) && c u) (λ u. g u && c u) us (λ u. kept (g u) (l u) (c u)))
parted g l c us false told = or_false (list_any (λ u. (g u && not (l u)) && c u) us) ∙ (λ i. list_any (λ u. none_left (g u) (l u) (c u) (told u) i) us)

nowhere : (a h o : Bool) → false ≡ ((a && (false && h)) && o)
nowhere true h o = refl
nowhere false h o = refl

-- what is asked of a unit of a name is told of each under its own name
pub asked_is : (maps : Bool) (u : Signature) (rest : List ℕ → Bool) (name : List ℕ)
    → (bytes_eq name u.name && (is_one maps true u && rest u.name)) ≡ (is_in_group maps name u && rest name)
asked_is maps u rest name = by (bytes_eq name u.name) refl
  where
    by : (b : Bool) → bytes_eq name u.name ≡ b
        → (b && (is_one maps true u && rest u.name)) ≡ ((is_called maps u.sort && (b && has_context u.context)) && rest name)
    by true e = ap (λ x. is_one maps true u && rest x) (sym (same_bytes name u.name e))
    by false e = nowhere (is_called maps u.sort) (has_context u.context) (rest name)

and_true : (a b : Bool) → b ≡ true → a ≡ (a && b)
and_true true b e = sym e
and_true false b e = refl

and_false : (a b : Bool) → b ≡ false → false ≡ (a && b)
and_false true b e = sym e
and_false false b e = refl

-- one of them is put there
pub put_there : (a b : Bool) (ns : List ℕ) (n : ℕ) → b ≡ true → ns ++ (if a then n ∷ [] else []) ≡ ns ++ (if a && b then n ∷ [] else [])
put_there a b ns n is = ap (λ x. ns ++ (if x then n ∷ [] else [])) (and_true a b is)

-- another is not
pub left_out : (a b : Bool) (ns : List ℕ) (n : ℕ) → b ≡ false → ns ≡ ns ++ (if a && b then n ∷ [] else [])
left_out a b ns n is = sym (append-nil ns) ∙ ap (λ x. ns ++ (if x then n ∷ [] else [])) (and_false a b is)

-- tests that only those pass that pass another one
pub asked_first : (g p c : Bool) → (c ≡ true → p ≡ true) → ((g && p) && c) ≡ (g && c)
asked_first false p c f = refl
asked_first true true c f = refl
asked_first true false false f = refl
asked_first true false true f = absurd (let wrong : false ≡ true = f refl in cc)

pub asked_between : (g p l c : Bool) → (c ≡ true → p ≡ true) → ((g && (p && l)) && c) ≡ ((g && l) && c)
asked_between false p l c f = refl
asked_between true true l c f = refl
asked_between true false true false f = refl
asked_between true false false false f = refl
asked_between true false l true f = absurd (let wrong : false ≡ true = f refl in cc)
