-- What holds of the values of all rows, where something is told of each token.
use Rattle.std.proofs.Common.{List, [], ◌∷◌, ◌++◌, ◌⊎◌, inl, inr, sym, subst, Option, Some, None, IsTrue}
use Rattle.qvt_base.specs.declared.numbers.Place.{Place}
use Rattle.qvt_language.specs.Tokens.{Tok, is}
use Rattle.qvt_language.specs.declared.class.Class.{Class}
use Rattle.qvt_language.specs.declared.class.Class.TheVariants.{Comma}
use Rattle.qvt_language_rows.specs.Lists.{AllOf, IfThere}
use Rattle.qvt_language_rows.specs.Phrase.{Phrase, ◌or◌, ◌gives◌, ◌then◌, commas, many, maybe, placed, listed, barring, such_that, or_none}
use Rattle.qvt_language_rows.proofs.Every.{any_of, Forms}

abbrev pub Predicate : Type 0 → Type 1
Predicate A = A → Type 0

abbrev pub Any : {A : Type 0} → A → Type 0
Any a = Prim.Unit {0}

abbrev pub Both : {A B : Type 0} → (A → Type 0) → (B → Type 0) → A × B → Type 0
Both p q ab = p ab.0 × q ab.1

abbrev pub Marked : {A : Type 0} → (A → Type 0) → Place × A → Type 0
Marked p pa = p pa.1

-- where the one holds, the other holds of what is made of it
abbrev pub Makes : {A B : Type 0} → (A → Type 0) → (B → Type 0) → (A → B) → Type 0
Makes {A} p q f = (a : A) → p a → q (f a)

abbrev pub IsOneOf : List Class → Tok → Type 0
IsOneOf [] t = ⊥
IsOneOf (c ∷ []) t = IsTrue (is c t)
IsOneOf (c ∷ d ∷ cs) t = IsTrue (is c t) ⊎ IsOneOf (d ∷ cs) t

pub all_and : {A : Type 0} (p : A → Type 0) (as_ bs : List A) → AllOf p as_ → AllOf p bs → AllOf p (as_ ++ bs)
all_and p [] bs h k = k
all_and p (a ∷ as_) bs h k = (h.0, all_and p as_ bs h.1 k)

-- all that the phrase reads from tokens of which T is told has p
pub record Gives (T : Tok → Type 0) (A : Type 0) (p : A → Type 0) (l : Phrase A) : Type 0 where
  pub all : (ts : List Tok) (a : A) → AllOf T ts → l ts a → p a

abbrev pub ToldOf : (Tok → Type 0) → List Class → Tok → Type 0
ToldOf T cs t = T t × IsOneOf cs t

pub listed_is : {A : Type 0} (p : A → Type 0) (a : Option (List A)) → IfThere (AllOf p) a → AllOf p (or_none a)
listed_is p None h = tt
listed_is p (Some all) h = h

module _ (T : Tok → Type 0) where
  pub front : (u v : List Tok) → AllOf T (u ++ v) → AllOf T u
  front [] v h = tt
  front (t ∷ u) v h = (h.0, front u v h.1)

  pub back : (u v : List Tok) → AllOf T (u ++ v) → AllOf T v
  back [] v h = h
  back (t ∷ u) v h = back u v h.1

  pub chosen : (cs : List Class) (ts : List Tok) (t : Tok) → AllOf T ts → any_of cs ts t → ToldOf T cs t
  chosen [] ts t told rd = absurd rd
  chosen (c ∷ []) ts t told rd = (let all = subst (AllOf T) rd.0 told in all.0, rd.1)
  chosen (c ∷ d ∷ cs) ts t told (inl rd) = (let all = subst (AllOf T) rd.0 told in all.0, inl rd.1)
  chosen (c ∷ d ∷ cs) ts t told (inr rd) = let w = chosen (d ∷ cs) ts t told rd in (w.0, inr w.1)

module _ {T : Tok → Type 0} where
  pub in_turn : {A B : Type 0} {p : A → Type 0} {q : B → Type 0} {l : Phrase A} {m : Phrase B} → Gives T A p l → Gives T B q m → Gives T (A × B) (Both p q) (l then m)
  in_turn h k = record {
    all = λ ts ab told rd. (let all = subst (AllOf T) rd.2 told in (h.all rd.0 ab.0 (front T rd.0 rd.1 all) rd.3, k.all rd.1 ab.1 (back T rd.0 rd.1 all) rd.4));
  }

  pub of_made : {A B : Type 0} {p : A → Type 0} {q : B → Type 0} {l : Phrase A} {f : A → B} → Makes p q f → Gives T A p l → Gives T B q (l gives f)
  of_made {q = q} k h = record { all = λ ts b told rd. subst q (sym rd.2) (k rd.0 (h.all ts rd.0 told rd.1)) }

  module _ {A : Type 0} {p : A → Type 0} {l : Phrase A} (h : Gives T A p l) where
    pub either_cases : (m : Phrase A) → Gives T A p m → (ts : List Tok) (a : A) → AllOf T ts → (l or m) ts a → p a
    either_cases m k ts a told (inl x) = h.all ts a told x
    either_cases m k ts a told (inr x) = k.all ts a told x

    pub either : {m : Phrase A} → Gives T A p m → Gives T A p (l or m)
    either {m = m} k = record { all = either_cases m k }

    pub turns : (as_ : List A) (ts : List Tok) → AllOf T ts → many l ts as_ → AllOf p as_
    turns [] ts told rd = tt
    turns (a ∷ more) ts told (u, v, e, x, y) =
        let all = subst (AllOf T) e told in
        (h.all u a (front T u v all) x, turns more v (back T u v all) y)

    pub maybe_cases : (ts : List Tok) (a : Option A) → AllOf T ts → maybe l ts a → IfThere p a
    maybe_cases ts a told (inl (x, rd, e)) = subst (IfThere p) (sym e) (h.all ts x told rd)
    maybe_cases ts a told (inr (x, rd, e)) = subst (IfThere p) (sym e) tt

    -- fewer values
    pub such : (P : A → Type 0) → Gives T A p (such_that P l)
    such P = record { all = λ ts a told rd. h.all ts a told rd.0 }

    pub barred : (c : Class) → Gives T A p (barring c l)
    barred c = record { all = λ ts a told rd. h.all ts a told rd.0 }

    pub at : Gives T (Place × A) (Marked p) (placed l)
    at = record { all = λ ts pa told rd. h.all ts pa.1 told rd.0 }

    pub many_of : Gives T (List A) (AllOf p) (many l)
    many_of = record { all = λ ts as_ told rd. turns as_ ts told rd }

    pub perhaps : Gives T (Option A) (IfThere p) (maybe l)
    perhaps = record { all = maybe_cases }

pub token_of : {T : Tok → Type 0} (cs : List Class) → Gives T Tok (ToldOf T cs) (any_of cs)
token_of {T} cs = record { all = chosen T cs }

pub commas_of : {T : Tok → Type 0} {A : Type 0} {p : A → Type 0} {l : Phrase A} → Gives T A p l → Gives T (List A) (AllOf p) (commas l)
commas_of h = of_made (λ a k. k) (in_turn h (many_of (of_made (λ ab k. k.1) (in_turn (token_of (Comma ∷ [])) h))))

pub listed_of : {T : Tok → Type 0} {A : Type 0} {p : A → Type 0} {l : Phrase A} (c : Class) → Gives T A p l → (d : Class) → Gives T (List A) (AllOf p) (listed c (commas l) d)
listed_of {p = p} c h d = of_made (λ a k. k.1.0) (in_turn (token_of (c ∷ [])) (in_turn (of_made {q = AllOf p} (listed_is p) (perhaps (commas_of h))) (token_of (d ∷ []))))

abbrev pub forms : (T : Tok → Type 0) → Forms Predicate (Gives T)
forms T = record {
  token = ToldOf T;
  pair = Both;
  list = AllOf;
  option = IfThere;
  marked = Marked;
  after_a = λ c p. p;
  before_a = λ p c. p;
  in_two = λ c p d. p;
  in_commas = AllOf;
  in_list = λ c p d. AllOf p;
  Makes = Makes;
  no_list = record { all = λ ts a told rd. absurd rd };
  choice = token_of;
  both = in_turn;
  one_of = λ h k. either h k;
  made = of_made;
  turns = many_of;
  perhaps = perhaps;
  at = at;
  barred = λ c h. barred h c;
  behind = λ c h. of_made (λ ab k. k.1) (in_turn (token_of (c ∷ [])) h);
  ahead = λ h c. of_made (λ ab k. k.0) (in_turn h (token_of (c ∷ [])));
  round = λ c h d. of_made (λ a k. k.1.0) (in_turn (token_of (c ∷ [])) (in_turn h (token_of (d ∷ []))));
  series = commas_of;
  lists = listed_of;
  also = λ k h. record { all = λ ts a told rd. k a (h.all ts a told rd) };
}
