-- The places of what a phrase is go along its tokens, by the forms of the grammar.
use Rattle.std.proofs.Common.{◌≡◌, List, [], ◌∷◌, ◌++◌, Bool, true, false, ◌||◌, ◌⊎◌, inl, inr, refl, sym, ap, ◌∙◌, subst, Option, Some, None}
use Rattle.qvt_base.specs.declared.numbers.Place.{Place}
use Rattle.qvt_language.specs.Tokens.{Tok}
use Rattle.qvt_language.specs.Trees.{second}
use Rattle.qvt_language.specs.declared.class.Class.{Class}
use Rattle.qvt_language.specs.declared.class.Class.TheVariants.{Comma}
use Rattle.qvt_language_rows.specs.Phrase.{Phrase, ◌or◌, ◌gives◌, ◌then◌, the, many, maybe, placed, commas, listed, or_none}
use Rattle.qvt_language_rows.proofs.Every.{any_of, Forms}
use Rattle.qvt_parser_nodes.specs.Places.{ClauseKind, all_places, places_if}
use Rattle.qvt_parser_nodes.proofs.Along.{Along, Less, along_both, along_head, along_thin, same, over, front}

-- the places of a value, with this clause of a mapping, and whether it is never read from no token
pub record Spots (A : Type 0) : Type 0 where
  pub of : ClauseKind → A → List Place
  pub solid : Bool

pub record Follows (A : Type 0) (s : Spots A) (p : Phrase A) : Type 0 where
  pub all : (c : ClauseKind) (ts : List Tok) (a : A) → p ts a → Along (s.of c a) ts
  pub some : s.solid ≡ true → (a : A) → p [] a → ⊥

-- what is made of a value has places of it, with the clauses that it is read with
pub record Moves {A B : Type 0} (s : Spots A) (t : Spots B) (f : A → B) : Type 0 where
  pub solid : t.solid ≡ true → s.solid ≡ true
  pub along : (c : ClauseKind) (a : A) → (d : ClauseKind) × ((ts : List Tok) → Along (s.of d a) ts → Along (t.of c (f a)) ts)

pub firm : {A B : Type 0} {s : Spots A} {t : Spots B} {f : A → B} → s.solid ≡ true → ((c : ClauseKind) (a : A) → Less (t.of c (f a)) (s.of c a)) → Moves s t f
firm {s = s} {t = t} {f = f} e h = record { solid = λ d. e; along = λ c a. (c, λ ts k. along_thin (t.of c (f a)) (s.of c a) ts (h c a).thin k) }

pub loose : {A B : Type 0} {s : Spots A} {t : Spots B} {f : A → B} → t.solid ≡ false → ((c : ClauseKind) (a : A) → Less (t.of c (f a)) (s.of c a)) → Moves s t f
loose {s = s} {t = t} {f = f} e h = record {
  solid = λ d. absurd (let no : true ≡ false = sym d ∙ e in cc);
  along = λ c a. (c, λ ts k. along_thin (t.of c (f a)) (s.of c a) ts (h c a).thin k);
}

abbrev pub both : {A B : Type 0} → (A → List Place) → (B → List Place) → A × B → List Place
both p q ab = p ab.0 ++ q ab.1

abbrev pub firmly : {A : Type 0} → (A → List Place) → Spots A
firmly p = record { of = λ c a. p a; solid = true }

abbrev pub loosely : {A : Type 0} → (A → List Place) → Spots A
loosely p = record { of = λ c a. p a; solid = false }

abbrev pub token_place : Tok → List Place
token_place t = t.place ∷ []

-- the place of the first token, where there is one
abbrev pub begun : {A : Type 0} → Bool → (A → List Place) → Place × A → List Place
begun true p pa = pa.0 ∷ p pa.1
begun false p pa = p pa.1

abbrev pub pair_of : {A B : Type 0} → Spots A → Spots B → Spots (A × B)
pair_of s t = record { of = λ c. both (s.of c) (t.of c); solid = s.solid || t.solid }

abbrev pub list_of : {A : Type 0} → Spots A → Spots (List A)
list_of s = record { of = λ c. all_places (s.of c); solid = false }

abbrev pub option_of : {A : Type 0} → Spots A → Spots (Option A)
option_of s = record { of = λ c. places_if (s.of c); solid = false }

abbrev pub marked_of : {A : Type 0} → Spots A → Spots (Place × A)
marked_of s = record { of = λ c. begun s.solid (s.of c); solid = s.solid }

-- with a token beside it
abbrev pub beside : {A : Type 0} → Spots A → Spots A
beside s = record { of = s.of; solid = true }

abbrev pub listed_of : {A : Type 0} → Spots A → Spots (List A)
listed_of s = record { of = λ c. all_places (s.of c); solid = true }

abbrev pub series_of : {A : Type 0} → Spots A → Spots (List A)
series_of s = record { of = λ c. all_places (s.of c); solid = s.solid }

pub chosen : (cs : List Class) (ts : List Tok) (t : Tok) → any_of cs ts t → Along (token_place t) ts
chosen [] ts t rd = absurd rd
chosen (c ∷ []) ts t rd = ([], t, [], rd.0, refl, tt)
chosen (c ∷ d ∷ cs) ts t (inl rd) = ([], t, [], rd.0, refl, tt)
chosen (c ∷ d ∷ cs) ts t (inr rd) = chosen (d ∷ cs) ts t rd

pub no_token : (t : Tok) → [] ≡ t ∷ [] → ⊥
no_token t e = absurd cc

pub none_chosen : (cs : List Class) (t : Tok) → any_of cs [] t → ⊥
none_chosen [] t rd = rd
none_chosen (c ∷ []) t rd = no_token t rd.0
none_chosen (c ∷ d ∷ cs) t (inl rd) = no_token t rd.0
none_chosen (c ∷ d ∷ cs) t (inr rd) = none_chosen (d ∷ cs) t rd

pub token_of : (cs : List Class) → Follows Tok (firmly token_place) (any_of cs)
token_of cs = record { all = λ c. chosen cs; some = λ e. none_chosen cs }

pub either_some : (x y : Bool) → (x || y) ≡ true → (x ≡ true) ⊎ (y ≡ true)
either_some true y e = inl refl
either_some false y e = inr e

-- both parts of no tokens are of none
pub first_none : (u v : List Tok) → [] ≡ u ++ v → [] ≡ u
first_none [] v e = refl
first_none (t ∷ u) v e = absurd cc

pub second_none : (u v : List Tok) → [] ≡ u ++ v → [] ≡ v
second_none [] v e = e
second_none (t ∷ u) v e = absurd cc

pub in_turn : {A B : Type 0} {s : Spots A} {t : Spots B} {p : Phrase A} {q : Phrase B} → Follows A s p → Follows B t q → Follows (A × B) (pair_of s t) (p then q)
in_turn {A} {B} {s} {t} {p} {q} h k = record {
  all = λ c ts ab rd. subst (Along (both (s.of c) (t.of c) ab)) (sym rd.2) (along_both (s.of c ab.0) (t.of c ab.1) rd.0 rd.1 (h.all c rd.0 ab.0 rd.3) (k.all c rd.1 ab.1 rd.4));
  some = λ e ab rd. by_one (either_some s.solid t.solid e) ab rd;
} where
  by_one : (s.solid ≡ true) ⊎ (t.solid ≡ true) → (ab : A × B) → (p then q) [] ab → ⊥
  by_one (inl e) ab rd = h.some e ab.0 (subst (λ z. p z ab.0) (sym (first_none rd.0 rd.1 rd.2)) rd.3)
  by_one (inr e) ab rd = k.some e ab.1 (subst (λ z. q z ab.1) (sym (second_none rd.0 rd.1 rd.2)) rd.4)

pub of_made : {A B : Type 0} {s : Spots A} {t : Spots B} {p : Phrase A} {f : A → B} → Moves s t f → Follows A s p → Follows B t (p gives f)
of_made {t = t} m h = record {
  all = λ c ts b rd. (let w = m.along c rd.0 in subst (λ z. Along (t.of c z) ts) (sym rd.2) (w.1 ts (h.all w.0 ts rd.0 rd.1)));
  some = λ e b rd. h.some (m.solid e) rd.0 rd.1;
}

module _ {A : Type 0} {s : Spots A} {p : Phrase A} (h : Follows A s p) where
  pub either_cases : (q : Phrase A) → Follows A s q → (c : ClauseKind) (ts : List Tok) (a : A) → (p or q) ts a → Along (s.of c a) ts
  either_cases q k c ts a (inl x) = h.all c ts a x
  either_cases q k c ts a (inr x) = k.all c ts a x

  pub either_none : (q : Phrase A) → Follows A s q → s.solid ≡ true → (a : A) → (p or q) [] a → ⊥
  either_none q k e a (inl x) = h.some e a x
  either_none q k e a (inr x) = k.some e a x

  pub either : {q : Phrase A} → Follows A s q → Follows A s (p or q)
  either {q = q} k = record { all = either_cases q k; some = either_none q k }

  pub turns : (c : ClauseKind) (as_ : List A) (ts : List Tok) → many p ts as_ → Along (all_places (s.of c) as_) ts
  turns c [] ts rd = tt
  turns c (a ∷ more) ts (u, v, e, x, y) = subst (Along (s.of c a ++ all_places (s.of c) more)) (sym e) (along_both (s.of c a) (all_places (s.of c) more) u v (h.all c u a x) (turns c more v y))

  pub many_of : Follows (List A) (list_of s) (many p)
  many_of = record { all = λ c ts as_ rd. turns c as_ ts rd; some = λ e. absurd cc }

  pub maybe_cases : (c : ClauseKind) (ts : List Tok) (a : Option A) → maybe p ts a → Along (places_if (s.of c) a) ts
  maybe_cases c ts a (inl (x, rd, e)) = subst (λ z. Along (places_if (s.of c) z) ts) (sym e) (h.all c ts x rd)
  maybe_cases c ts a (inr (x, rd, e)) = subst (λ z. Along (places_if (s.of c) z) ts) (sym e) tt

  pub perhaps : Follows (Option A) (option_of s) (maybe p)
  perhaps = record { all = maybe_cases; some = λ e. absurd cc }

  pub begun_along : (b : Bool) → s.solid ≡ b → (c : ClauseKind) (ts : List Tok) (pa : Place × A) → placed p ts pa → Along (begun b (s.of c) pa) ts
  begun_along true e c ts pa rd =
      let some : ts ≡ [] → ⊥ = λ n. h.some e pa.1 (subst (λ z. p z pa.1) n rd.0) in
      subst (λ z. Along (z ∷ s.of c pa.1) ts) (sym rd.1) (along_head (s.of c pa.1) ts some (h.all c ts pa.1 rd.0))
  begun_along false e c ts pa rd = h.all c ts pa.1 rd.0

  pub placed_of : Follows (Place × A) (marked_of s) (placed p)
  placed_of = record { all = begun_along s.solid refl; some = λ e pa rd. h.some e pa.1 rd.0 }

  pub after_of : (c : Class) → Follows A (beside s) (the c then p gives second)
  after_of c = of_made (firm refl (λ d ab. over ab.0.place same)) (in_turn (token_of (c ∷ [])) h)

pub commas_of : {A : Type 0} {s : Spots A} {p : Phrase A} → Follows A s p → Follows (List A) (series_of s) (commas p)
commas_of h = of_made (record { solid = λ e. ap (λ z. z || false) e; along = λ c a. (c, λ ts k. k) }) (in_turn h (many_of (after_of h Comma)))

pub listed_less : {A : Type 0} (p : A → List Place) (a : Option (List A)) → Less (all_places p (or_none a)) (places_if (all_places p) a)
listed_less p None = same
listed_less p (Some all) = same

pub ends_firmly : (x : Bool) → (x || true) ≡ true
ends_firmly true = refl
ends_firmly false = refl

pub of_also : {A : Type 0} {s t : Spots A} {p : Phrase A} → Moves s t (λ a. a) → Follows A s p → Follows A t p
of_also m h = record {
  all = λ c ts a rd. (let w = m.along c a in w.1 ts (h.all w.0 ts a rd));
  some = λ e a rd. h.some (m.solid e) a rd;
}

pub list_between : {A : Type 0} {s : Spots A} {p : Phrase A} (c : Class) → Follows A s p → (d : Class) → Follows (List A) (listed_of s) (listed c (commas p) d)
list_between {s = s} c h d =
    of_made (firm refl (λ k a. over a.0.place (front (all_places (s.of k) a.1.0) _)))
    (in_turn (token_of (c ∷ [])) (in_turn (of_made {t = list_of s} (loose refl (λ k a. listed_less (s.of k) a)) (perhaps (commas_of h))) (token_of (d ∷ []))))

abbrev pub forms : Forms Spots Follows
forms = record {
  token = λ cs. firmly token_place;
  pair = pair_of;
  list = list_of;
  option = option_of;
  marked = marked_of;
  after_a = λ c s. beside s;
  before_a = λ s c. beside s;
  in_two = λ c s d. beside s;
  in_commas = series_of;
  in_list = λ c s d. listed_of s;
  Makes = Moves;
  no_list = record { all = λ c ts a rd. absurd rd; some = λ e a rd. rd };
  choice = token_of;
  both = in_turn;
  one_of = λ h k. either h k;
  made = of_made;
  turns = many_of;
  perhaps = perhaps;
  at = placed_of;
  barred = λ c h. record { all = λ d ts a rd. h.all d ts a rd.0; some = λ e a rd. h.some e a rd.0 };
  behind = λ c h. after_of h c;
  ahead = λ h c. of_made (firm (ends_firmly _) (λ d ab. front _ _)) (in_turn h (token_of (c ∷ [])));
  round = λ c h d. of_made (firm refl (λ k a. over a.0.place (front _ _))) (in_turn (token_of (c ∷ [])) (in_turn h (token_of (d ∷ []))));
  series = commas_of;
  lists = list_between;
  also = λ m h. of_also m h;
}
