-- How many units of a name are above a class.
use Rattle.std.proofs.Common.{◌≡◌, ◌∙◌, ℕ, zero, suc, ◌+◌, ◌<◌, ◌≤◌, ◌==◌, eqb, List, [], ◌∷◌, length, get_or, take, Bool, true, false, ◌&&◌, ◌||◌, not, inl, inr, refl, sym, ap, subst, arith}
use Rattle.std.specs.Prelude.{nat_lt}
use Rattle.std.specs.List.{list_any, IsDistinct}
use Rattle.std.proofs.lemmas.Bool.{eq-eqb, eqb-true, lt-ltb}
use Rattle.std.proofs.lemmas.Map.Keys.{IsDistinct-head, IsDistinct-tail}
use Rattle.std.proofs.lemmas.List.{take_all}
use Rattle.qvt_metas.specs.Metamodels.{Metamodels}
use Rattle.qvt_metas.specs.Descends.{descends}
use Rattle.qvt_metamodel.proofs.Bools.{and_right, clash, not_true}
use Rattle.qvt_counts.specs.Counts.{one}
use Rattle.qvt_counts.proofs.Counting.{one_few, both_ways}
use Rattle.qvt_types_units.specs.declared.signature.HeadClass.{HeadClass}
use Rattle.qvt_types_units.specs.declared.signature.HeadClass.TheVariants.{Missing, Unknown, Known}
use Rattle.qvt_types_units.specs.declared.signature.Signature.{Signature}
use Rattle.qvt_types_units.specs.Choice.{is_context_above, context_at}
use Rattle.qvt_types_units.specs.Overrides.{is_strictly_below}
use Rattle.qvt_types_choices.specs.HowMany.{how_many}
use Rattle.qvt_types_choices.specs.Only.{is_rival, is_only}
use Rattle.qvt_types_choices.proofs.Lowest.{Transitive, In}
use Rattle.qvt_types_choices.proofs.Singly.{not_among}

one_true : one true ≡ 1
unfolding one
one_true = refl

one_false : one false ≡ 0
unfolding one
one_false = refl

alone : one true ≡ one true + (one false + one false)
unfolding one
alone = refl

strictly : one true ≡ one false + (one true + one false)
unfolding one
strictly = refl

rivalling : (x : ℕ) → x ≡ one false + (one false + x)
unfolding one
rivalling x = omega arith

pub how_many_more : (p : ℕ → Bool) (xs : List ℕ) (i : ℕ) → i < length xs → how_many p (take (i + 1) xs) ≡ how_many p (take i xs) + one (p (get_or xs i 0))
how_many_more p xs i low = ap (λ j. how_many p (take j xs)) (let next : i + 1 ≡ suc i = omega arith in next) ∙ by xs i low
  where
    by : (ys : List ℕ) (j : ℕ) → j < length ys → how_many p (take (suc j) ys) ≡ how_many p (take j ys) + one (p (get_or ys j 0))
    by [] j l = absurd (omega (arith, l))
    by (y ∷ ys) zero l = omega arith
    by (y ∷ ys) (suc j) l = (let rest = by ys j (omega (arith, l)) in omega (arith, rest))

pub how_many_all : (p : ℕ → Bool) (xs : List ℕ) (i : ℕ) → length xs ≤ i → how_many p (take i xs) ≡ how_many p xs
how_many_all p xs i past = ap (how_many p) (take_all i xs past)

pub how_many_few : (p : ℕ → Bool) (xs : List ℕ) → how_many p xs ≤ length xs
how_many_few p [] = omega arith
how_many_few p (x ∷ xs) = (let rest = how_many_few p xs in let bit = one_few (p x) in omega (arith, rest, bit))

pub few_taken : (p : ℕ → Bool) (xs : List ℕ) (i : ℕ) → how_many p (take i xs) ≤ length xs
few_taken p [] zero = omega arith
few_taken p [] (suc i) = omega arith
few_taken p (x ∷ xs) zero = omega arith
few_taken p (x ∷ xs) (suc i) = (let rest = few_taken p xs i in let bit = one_few (p x) in omega (arith, rest, bit))

pub how_many_none : (xs : List ℕ) → how_many (λ n. false) xs ≡ 0
unfolding one
how_many_none [] = refl
how_many_none (x ∷ xs) = (let rest = how_many_none xs in omega (arith, rest))

-- whether some pass
pub some_pass : (p : ℕ → Bool) (xs : List ℕ) → nat_lt 0 (how_many p xs) ≡ list_any p xs
some_pass p [] = refl
some_pass p (x ∷ xs) = by (p x) (some_pass p xs)
  where
    by : (b : Bool) → nat_lt 0 (how_many p xs) ≡ list_any p xs → nat_lt 0 (one b + how_many p xs) ≡ (b || list_any p xs)
    by true rest = lt-ltb 0 (one true + how_many p xs) (omega (arith, one_true))
    by false rest = ap (nat_lt 0) (let none : one false + how_many p xs ≡ how_many p xs = omega (arith, one_false) in none) ∙ rest

pub none_pass : (p : ℕ → Bool) (xs : List ℕ) → (how_many p xs == 0) ≡ not (list_any p xs)
none_pass p xs = by (how_many p xs) ∙ ap not (some_pass p xs)
  where
    by : (n : ℕ) → (n == 0) ≡ not (nat_lt 0 n)
    by zero = refl
    by (suc n) = not_true (suc n == 0) (λ e. absurd (let none : suc n ≡ 0 = eqb-true (suc n) 0 e in omega (arith, none))) ∙ sym (ap not (lt-ltb 0 (suc n) (omega arith)))

-- it stands once among units of which none stands twice
how_many_absent : (n : ℕ) (xs : List ℕ) → (In n xs → ⊥) → how_many (eqb n) xs ≡ 0
how_many_absent n [] none = refl
how_many_absent n (x ∷ xs) none =
    (let rest = how_many_absent n xs (λ i. none (inr i)) in
    let here = ap one (not_true (eqb n x) (λ e. none (inl (eqb-true n x e)))) in
    omega (arith, rest, here, one_false))

stands_once : (n : ℕ) (xs : List ℕ) → IsDistinct eqb xs → In n xs → how_many (eqb n) xs ≡ 1
stands_once n [] d i = absurd i
stands_once n (x ∷ xs) d i = elim i [
  | inl same ↦ (
      let rest = how_many_absent n xs (subst (λ y. In y xs → ⊥) (sym same) (not_among x xs (IsDistinct-head eqb x xs d))) in
      let here = ap one (eq-eqb n x same) in
      omega (arith, rest, here, one_true))
  | inr r ↦ (
      let rest = stands_once n xs (IsDistinct-tail eqb x xs d) r in
      let here = ap one (not_true (eqb n x) (λ e. not_among x xs (IsDistinct-head eqb x xs d) (subst (λ y. In y xs) (eqb-true n x e) r))) in
      omega (arith, rest, here, one_false))
]

module _ (m : Metamodels) (us : List Signature) (t : Transitive m) where
  not_itself : (h : HeadClass) → is_strictly_below m h h ≡ false
  not_itself Missing = refl
  not_itself Unknown = refl
  not_itself (Known c) = ap (λ b. not b && descends m c.0 c.0) (eq-eqb c.0 c.0 refl)

  above_too : (h i : HeadClass) (d : ℕ) → is_strictly_below m h i ≡ true → is_context_above m h d ≡ true → is_context_above m i d ≡ true
  above_too Missing i d e f = absurd (cc)
  above_too Unknown i d e f = absurd (cc)
  above_too (Known c) Missing d e f = absurd (cc)
  above_too (Known c) Unknown d e f = absurd (cc)
  above_too (Known c) (Known b) d e f = t d c.0 b.0 f (and_right (not (c.0 == b.0)) (descends m c.0 b.0) e)

  module _ (n d : ℕ) (up : is_context_above m (context_at us n) d ≡ true) where
    abbrev over : ℕ → Bool
    over k = is_context_above m (context_at us k) d

    abbrev strict : ℕ → Bool
    strict k = is_strictly_below m (context_at us n) (context_at us k)

    abbrev rival : ℕ → Bool
    rival k = is_rival m us n k && over k

    -- a unit above the class is this one, strictly above this one, or a rival
    parted : (k : ℕ) → one (over k) ≡ one (eqb n k) + (one (strict k) + one (rival k))
    parted k = by (eqb n k) (strict k) refl refl
      where
        by : (a b : Bool) → eqb n k ≡ a → strict k ≡ b → one (over k) ≡ one a + (one b + one ((not a && not b) && over k))
        by true true e f = clash f ((λ i. is_strictly_below m (context_at us n) (context_at us (sym (eqb-true n k e) i))) ∙ not_itself (context_at us n))
        by true false e f = ap (λ j. one (is_context_above m (context_at us j) d)) (sym (eqb-true n k e)) ∙ ap one up ∙ alone
        by false true e f = ap one (above_too (context_at us n) (context_at us k) d f up) ∙ strictly
        by false false e f = rivalling (one (over k))

    all_parted : (xs : List ℕ) → how_many over xs ≡ how_many (eqb n) xs + (how_many strict xs + how_many rival xs)
    all_parted [] = refl
    all_parted (k ∷ ks) = (let here = parted k in let rest = all_parted ks in omega (arith, here, rest))

    pub only_by_count : (ns : List ℕ) → IsDistinct eqb ns → In n ns → is_only m us ns n d ≡ (how_many over ns == how_many strict ns + 1)
    only_by_count ns distinct i =
        ap (λ b. b && not (list_any rival ns)) up
        ∙ sym (none_pass rival ns)
        ∙ both_ways (how_many rival ns) 0 (how_many over ns) (how_many strict ns + 1)
        (λ e. omega (arith, e, all_parted ns, stands_once n ns distinct i))
        (λ e. omega (arith, e, all_parted ns, stands_once n ns distinct i))
