-- Tokens that are alike but for places are read as values that are alike but for places, by the forms of the grammar.
use Rattle.std.proofs.Common.{◌≡◌, List, [], ◌∷◌, ◌++◌, map, IsTrue, inl, inr, refl, sym, ap, ◌∙◌, subst, Option, Some, None, option_map}
use Rattle.qvt_base.specs.declared.numbers.Place.{Place}
use Rattle.qvt_grammar.specs.Language.{head_of}
use Rattle.qvt_grammar.specs.Reader.{starts}
use Rattle.qvt_language.specs.Tokens.{Tok, is}
use Rattle.qvt_language.specs.Readers.{nowhere}
use Rattle.qvt_language.specs.Same.{unplaced}
use Rattle.qvt_language.specs.declared.class.Class.{Class}
use Rattle.qvt_language.specs.declared.class.Class.TheVariants.{Comma}
use Rattle.qvt_language_rows.specs.Phrase.{Phrase, ◌or◌, ◌gives◌, ◌then◌, the, many, maybe, placed, commas, listed, or_none, barring}
use Rattle.qvt_language_rows.proofs.Every.{any_of, Forms}

-- what the phrase reads of tokens without places, it reads of the tokens themselves, as a value that is the same without places
pub record Lifts (A : Type 0) (bare : A → A) (p : Phrase A) : Type 0 where
  pub lift : (us : List Tok) (a : A) → p (map unplaced us) a → (b : A) × p us b × (bare b ≡ a)

abbrev pub Bare : Type 0 → Type 0
Bare A = A → A

abbrev pub both : {A B : Type 0} → (A → A) → (B → B) → A × B → A × B
both f g ab = (f ab.0, g ab.1)

abbrev pub marked : {A : Type 0} → (A → A) → Place × A → Place × A
marked f pa = (nowhere, f pa.1)

abbrev pub Makes : {A B : Type 0} → (A → A) → (B → B) → (A → B) → Type 0
Makes {A} f g h = (a : A) → g (h a) ≡ h (f a)

cut : (us u v : List Tok) → map unplaced us ≡ u ++ v → (x : List Tok) × (y : List Tok) × (us ≡ x ++ y) × (map unplaced x ≡ u) × (map unplaced y ≡ v)
cut us [] v e = ([], us, refl, refl, e)
cut [] (t ∷ u) v e = absurd cc
cut (s ∷ us) (t ∷ u) v e =
    let tail : map unplaced us ≡ u ++ v = cc in
    let head : unplaced s ≡ t = cc in
    let w = cut us u v tail in
    (s ∷ w.0, w.1, ap (λ z. s ∷ z) {y = w.0 ++ w.1} w.2, (λ i. head i ∷ w.3 i), w.4)

no_tokens : (us : List Tok) → map unplaced us ≡ [] → us ≡ []
no_tokens [] e = refl
no_tokens (t ∷ us) e = absurd cc

pub one_token : (c : Class) (us : List Tok) (t : Tok) → the c (map unplaced us) t → (s : Tok) × the c us s × (unplaced s ≡ t)
one_token c [] t rd = absurd (let z = rd.0 in cc)
one_token c (s ∷ []) t rd =
    let e : unplaced s ≡ t = (let z = rd.0 in cc) in
    (s, (refl, subst (λ x. IsTrue (is c x)) (sym e) rd.1), e)
one_token c (s ∷ x ∷ us) t rd = absurd (let z = rd.0 in cc)

pub chosen : (cs : List Class) (us : List Tok) (t : Tok) → any_of cs (map unplaced us) t → (s : Tok) × any_of cs us s × (unplaced s ≡ t)
chosen [] us t rd = absurd rd
chosen (c ∷ []) us t rd = one_token c us t rd
chosen (c ∷ d ∷ cs) us t (inl rd) = let w = one_token c us t rd in (w.0, inl w.1, w.2)
chosen (c ∷ d ∷ cs) us t (inr rd) = let w = chosen (d ∷ cs) us t rd in (w.0, inr w.1, w.2)

pub token_of : (cs : List Class) → Lifts Tok unplaced (any_of cs)
token_of cs = record { lift = chosen cs }

pub head_unplaced : (us : List Tok) → head_of (λ t. t.place) nowhere (map unplaced us) ≡ nowhere
head_unplaced [] = refl
head_unplaced (t ∷ us) = refl

pub starts_unplaced : (c : Class) (us : List Tok) → starts (is c) (map unplaced us) ≡ starts (is c) us
starts_unplaced c [] = refl
starts_unplaced c (t ∷ us) = refl

pub in_turn : {A B : Type 0} {f : A → A} {g : B → B} {p : Phrase A} {q : Phrase B} → Lifts A f p → Lifts B g q → Lifts (A × B) (both f g) (p then q)
in_turn {p = p} {q = q} k j = record {
  lift = λ us ab rd. (
      let w = cut us rd.0 rd.1 rd.2 in
      let x = k.lift w.0 ab.0 (subst (λ z. p z ab.0) (sym w.3) rd.3) in
      let y = j.lift w.1 ab.1 (subst (λ z. q z ab.1) (sym w.4) rd.4) in
      ((x.0, y.0), (w.0, w.1, w.2, x.1, y.1), λ i. (x.2 i, y.2 i)));
}

pub of_made : {A B : Type 0} {f : A → A} {g : B → B} {p : Phrase A} {h : A → B} → Makes f g h → Lifts A f p → Lifts B g (p gives h)
of_made {h = h} same k = record { lift = λ us b rd. (let x = k.lift us rd.0 rd.1 in (h x.0, (x.0, x.1, refl), same x.0 ∙ ap h x.2 ∙ sym rd.2)) }

module _ {A : Type 0} {f : A → A} {p : Phrase A} (k : Lifts A f p) where
  pub either_cases : (q : Phrase A) → Lifts A f q → (us : List Tok) (a : A) → (p or q) (map unplaced us) a → (b : A) × (p or q) us b × (f b ≡ a)
  either_cases q j us a (inl rd) = let x = k.lift us a rd in (x.0, inl x.1, x.2)
  either_cases q j us a (inr rd) = let x = j.lift us a rd in (x.0, inr x.1, x.2)

  pub either : {q : Phrase A} → Lifts A f q → Lifts A f (p or q)
  either {q = q} j = record { lift = either_cases q j }

  pub turns : (got : List A) (us : List Tok) → many p (map unplaced us) got → (more : List A) × many p us more × (map f more ≡ got)
  turns [] us rd = ([], no_tokens us rd, refl)
  turns (a ∷ got) us rd =
      let w = cut us rd.0 rd.1 rd.2 in
      let x = k.lift w.0 a (subst (λ z. p z a) (sym w.3) rd.3) in
      let y = turns got w.1 (subst (λ z. many p z got) (sym w.4) rd.4) in
      (x.0 ∷ y.0, (w.0, w.1, w.2, x.1, y.1), λ i. x.2 i ∷ y.2 i)

  pub many_of : Lifts (List A) (map f) (many p)
  many_of = record { lift = λ us got rd. turns got us rd }

  pub maybe_cases : (us : List Tok) (a : Option A) → maybe p (map unplaced us) a → (b : Option A) × maybe p us b × (option_map f b ≡ a)
  maybe_cases us a (inl rd) = let x = k.lift us rd.0 rd.1 in (Some x.0, inl (x.0, x.1, refl), ap Some x.2 ∙ sym rd.2)
  maybe_cases us a (inr rd) = (None, inr (rd.0, no_tokens us rd.1, refl), sym rd.2)

  pub perhaps : Lifts (Option A) (option_map f) (maybe p)
  perhaps = record { lift = maybe_cases }

  pub placed_of : Lifts (Place × A) (marked f) (placed p)
  placed_of = record {
    lift = λ us pa rd. (
        let x = k.lift us pa.1 rd.0 in
        let e : nowhere ≡ pa.0 = sym (rd.1 ∙ head_unplaced us) in
        ((head_of (λ t. t.place) nowhere us, x.0), (x.1, refl), λ i. (e i, x.2 i)));
  }

  pub barring_of : (c : Class) → Lifts A f (barring c p)
  barring_of c = record { lift = λ us a rd. (let x = k.lift us a rd.0 in (x.0, (x.1, sym (starts_unplaced c us) ∙ rd.1), x.2)) }

pub commas_of : {A : Type 0} {f : A → A} {p : Phrase A} → Lifts A f p → Lifts (List A) (map f) (commas p)
commas_of {f = f} k = of_made (λ a. refl) (in_turn k (many_of (of_made {g = f} (λ ab. refl) (in_turn (token_of (Comma ∷ [])) k))))

pub listed_same : {A : Type 0} (f : A → A) (a : Option (List A)) → map f (or_none a) ≡ or_none (option_map (map f) a)
listed_same f None = refl
listed_same f (Some all) = refl

pub listed_of : {A : Type 0} {f : A → A} {p : Phrase A} (c : Class) → Lifts A f p → (d : Class) → Lifts (List A) (map f) (listed c (commas p) d)
listed_of {f = f} c k d = of_made (λ a. refl) (in_turn (token_of (c ∷ [])) (in_turn (of_made {g = map f} (listed_same f) (perhaps (commas_of k))) (token_of (d ∷ []))))

abbrev pub forms : Forms Bare Lifts
forms = record {
  token = λ cs. unplaced;
  pair = both;
  list = map;
  option = option_map;
  marked = marked;
  after_a = λ c f. f;
  before_a = λ f c. f;
  in_two = λ c f d. f;
  in_commas = map;
  in_list = λ c f d. map f;
  Makes = Makes;
  no_list = record { lift = λ us a rd. absurd rd };
  choice = token_of;
  both = in_turn;
  one_of = λ k j. either k j;
  made = of_made;
  turns = many_of;
  perhaps = perhaps;
  at = placed_of;
  barred = λ c k. barring_of k c;
  behind = λ c k. of_made (λ ab. refl) (in_turn (token_of (c ∷ [])) k);
  ahead = λ k c. of_made (λ ab. refl) (in_turn k (token_of (c ∷ [])));
  round = λ c k d. of_made (λ a. refl) (in_turn (token_of (c ∷ [])) (in_turn k (token_of (d ∷ []))));
  series = commas_of;
  lists = listed_of;
  also = λ same k. record { lift = λ us a rd. (let x = k.lift us a rd in (x.0, x.1, same x.0 ∙ x.2)) };
}
