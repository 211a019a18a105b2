-- Sizes of what a phrase is, which are at most twice its tokens, by the forms of the grammar.
use Rattle.std.proofs.Common.{◌≡◌, ℕ, suc, ◌+◌, ◌*◌, ◌≤◌, List, [], ◌∷◌, ◌++◌, length, length-append, inl, inr, sym, ap, subst, arith, Option, Some, None}
use Rattle.qvt_base.specs.declared.numbers.Place.{Place}
use Rattle.qvt_language.specs.Tokens.{Tok}
use Rattle.qvt_language.specs.declared.class.Class.{Class}
use Rattle.qvt_language.specs.declared.class.Class.TheVariants.{Comma}
use Rattle.qvt_language_rows.specs.Phrase.{Phrase, ◌or◌, ◌gives◌, ◌then◌, many, maybe, commas, listed, or_none}
use Rattle.qvt_language_rows.proofs.Every.{any_of, Forms}
use Rattle.qvt_parser_nodes.specs.Nodes.{total}

pub record Sized (A : Type 0) (size : A → ℕ) (p : Phrase A) : Type 0 where
  pub all : (ts : List Tok) (a : A) → p ts a → size a ≤ 2 * length ts

abbrev pub Size : Type 0 → Type 0
Size A = A → ℕ

abbrev pub two : {A : Type 0} → A → ℕ
two a = 2

abbrev pub uncounted : {A : Type 0} → A → ℕ
uncounted a = 0

abbrev pub sum : {A B : Type 0} → (A → ℕ) → (B → ℕ) → A × B → ℕ
sum s t ab = s ab.0 + t ab.1

abbrev pub if_there : {A : Type 0} → (A → ℕ) → Option A → ℕ
if_there s None = 0
if_there s (Some a) = s a

abbrev pub marked : {A : Type 0} → (A → ℕ) → Place × A → ℕ
marked s pa = s pa.1

-- two tokens stand round it
abbrev pub in_two : {A : Type 0} → (A → ℕ) → A → ℕ
in_two s a = suc (suc (s a))

abbrev pub Makes : {A B : Type 0} → (A → ℕ) → (B → ℕ) → (A → B) → Type 0
Makes {A} s t f = (a : A) → t (f a) ≤ s a

pub chosen : (cs : List Class) (ts : List Tok) (t : Tok) → any_of cs ts t → 2 ≤ 2 * length ts
chosen [] ts t rd = absurd rd
chosen (c ∷ []) ts t rd = omega (arith, ap length rd.0)
chosen (c ∷ d ∷ cs) ts t (inl rd) = omega (arith, ap length rd.0)
chosen (c ∷ d ∷ cs) ts t (inr rd) = chosen (d ∷ cs) ts t rd

pub token_of : (cs : List Class) → Sized Tok two (any_of cs)
token_of cs = record { all = chosen cs }

pub in_turn : {A B : Type 0} {s : A → ℕ} {t : B → ℕ} {p : Phrase A} {q : Phrase B} → Sized A s p → Sized B t q → Sized (A × B) (sum s t) (p then q)
in_turn h k = record { all = λ ts ab rd. omega (arith, ap length rd.2, length-append rd.0 rd.1, h.all rd.0 ab.0 rd.3, k.all rd.1 ab.1 rd.4) }

pub of_made : {A B : Type 0} {s : A → ℕ} {t : B → ℕ} {p : Phrase A} {f : A → B} → Makes s t f → Sized A s p → Sized B t (p gives f)
of_made {t = t} k h = record { all = λ ts b rd. subst (λ z. t z ≤ 2 * length ts) (sym rd.2) (omega (arith, k rd.0, h.all ts rd.0 rd.1)) }

module _ {A : Type 0} {s : A → ℕ} {p : Phrase A} (h : Sized A s p) where
  pub either_cases : (q : Phrase A) → Sized A s q → (ts : List Tok) (a : A) → (p or q) ts a → s a ≤ 2 * length ts
  either_cases q k ts a (inl x) = h.all ts a x
  either_cases q k ts a (inr x) = k.all ts a x

  pub either : {q : Phrase A} → Sized A s q → Sized A s (p or q)
  either {q = q} k = record { all = either_cases q k }

  pub turns : (as_ : List A) (ts : List Tok) → many p ts as_ → total s as_ ≤ 2 * length ts
  turns [] ts rd = omega arith
  turns (a ∷ more) ts (u, v, e, x, y) = omega (arith, ap length e, length-append u v, h.all u a x, turns more v y)

  pub many_of : Sized (List A) (total s) (many p)
  many_of = record { all = λ ts as_ rd. turns as_ ts rd }

  pub maybe_cases : (ts : List Tok) (a : Option A) → maybe p ts a → if_there s a ≤ 2 * length ts
  maybe_cases ts a (inl (x, rd, e)) = subst (λ z. if_there s z ≤ 2 * length ts) (sym e) (h.all ts x rd)
  maybe_cases ts a (inr (x, rd, e)) = subst (λ z. if_there s z ≤ 2 * length ts) (sym e) (omega arith)

  pub perhaps : Sized (Option A) (if_there s) (maybe p)
  perhaps = record { all = maybe_cases }

pub commas_of : {A : Type 0} {s : A → ℕ} {p : Phrase A} → Sized A s p → Sized (List A) (total s) (commas p)
commas_of {s = s} h = of_made (λ a. omega arith) (in_turn h (many_of (of_made {t = s} (λ ab. omega arith) (in_turn (token_of (Comma ∷ [])) h))))

pub listed_le : {A : Type 0} (s : A → ℕ) (a : Option (List A)) → total s (or_none a) ≤ if_there (total s) a
listed_le s None = omega arith
listed_le s (Some all) = omega arith

pub listed_of : {A : Type 0} {s : A → ℕ} {p : Phrase A} (c : Class) → Sized A s p → (d : Class) → Sized (List A) (total s) (listed c (commas p) d)
listed_of {s = s} c h d = of_made (λ a. omega arith) (in_turn (token_of (c ∷ [])) (in_turn (of_made {t = total s} (listed_le s) (perhaps (commas_of h))) (token_of (d ∷ []))))

abbrev pub forms : Forms Size Sized
forms = record {
  token = λ cs. two;
  pair = sum;
  list = total;
  option = if_there;
  marked = marked;
  after_a = λ c s. s;
  before_a = λ s c. s;
  in_two = λ c s d. in_two s;
  in_commas = total;
  in_list = λ c s d. total s;
  Makes = Makes;
  no_list = record { all = λ ts a rd. absurd rd };
  choice = token_of;
  both = in_turn;
  one_of = λ h k. either h k;
  made = of_made;
  turns = many_of;
  perhaps = perhaps;
  at = λ h. record { all = λ ts pa rd. h.all ts pa.1 rd.0 };
  barred = λ c h. record { all = λ ts a rd. h.all ts a rd.0 };
  behind = λ c h. of_made (λ ab. omega arith) (in_turn (token_of (c ∷ [])) h);
  ahead = λ h c. of_made (λ ab. omega arith) (in_turn h (token_of (c ∷ [])));
  round = λ c h d. of_made (λ a. omega arith) (in_turn (token_of (c ∷ [])) (in_turn h (token_of (d ∷ []))));
  series = commas_of;
  lists = listed_of;
  also = λ k h. record { all = λ ts a rd. omega (arith, k a, h.all ts a rd) };
}

-- lists in which each counts
pub length_total : {A : Type 0} {s : A → ℕ} → ((a : A) → 1 ≤ s a) → (more : List A) → length more ≤ total s more
length_total h [] = omega arith
length_total h (a ∷ more) = omega (arith, h a, length_total h more)

pub total_append : {A : Type 0} (s : A → ℕ) (a b : List A) → total s (a ++ b) ≡ total s a + total s b
total_append s [] b = omega arith
total_append s (a ∷ more) b = omega (arith, total_append s more b)
