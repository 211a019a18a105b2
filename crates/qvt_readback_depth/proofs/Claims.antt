-- What is said of the tokens of a phrase together with its value, and whether the word `population` may be among them, by the
-- forms of the grammar.
use Rattle.std.proofs.Common.{◌≡◌, List, [], ◌∷◌, ◌++◌, Bool, true, false, not, ◌&&◌, ◌||◌, ◌⊎◌, inl, inr, refl, sym, ap, ◌∙◌, subst, Option, Some, None, IsTrue}
use Rattle.qvt_base.specs.declared.numbers.Place.{Place}
use Rattle.qvt_language.specs.Tokens.{Tok}
use Rattle.qvt_language.specs.declared.class.Class.{Class}
use Rattle.qvt_language.specs.declared.class.Class.TheVariants.{Comma}
use Rattle.qvt_language_rows.specs.Phrase.{Phrase, ◌or◌, ◌gives◌, ◌then◌, the, many, maybe, placed, after, between, commas, listed, or_none, barring, such_that}
use Rattle.qvt_language_rows.proofs.Every.{any_of, Forms}
use Rattle.qvt_readback_tokens.proofs.Classes.{same_class}
use Rattle.qvt_readback_depth.specs.Law.{is_population, has_population}
use Rattle.qvt_readback_depth.proofs.Pieces.{tc, Cut, Cuts, IsTok, both_cuts}

-- what is said of the tokens and the value, and whether none of the tokens is the word
pub record Claim (A : Type 0) : Type 1 where
  pub says : List Tok → A → Type 0
  pub lacks : Bool

abbrev pub Lacking : List Tok → Type 0
Lacking ts = has_population ts ≡ false

abbrev pub LackingIf : Bool → List Tok → Type 0
LackingIf b ts = IsTrue b → Lacking ts

or_first : (x y : Bool) → (x || y) ≡ false → x ≡ false
or_first true y e = e
or_first false y e = refl

or_second : (x y : Bool) → (x || y) ≡ false → y ≡ false
or_second true y e = absurd cc
or_second false y e = e

pub lacks_both : (a b : List Tok) → Lacking a → Lacking b → Lacking (a ++ b)
lacks_both [] b h k = k
lacks_both (t ∷ a) b h k = λ i. or_first (is_population t.class) (has_population a) h i || lacks_both a b (or_second (is_population t.class) (has_population a) h) k i

pub lacks_front : (a b : List Tok) → Lacking a → has_population (a ++ b) ≡ has_population b
lacks_front [] b h = refl
lacks_front (t ∷ a) b h = λ i. or_first (is_population t.class) (has_population a) h i || lacks_front a b (or_second (is_population t.class) (has_population a) h) i

pub lacks_at : {ts u v : List Tok} → Cut ts u v → Lacking u → Lacking v → Lacking ts
lacks_at {ts} {u} {v} e h k = subst Lacking (sym e.is) (lacks_both u v h k)

class_lacks : (c : Class) (ts : List Tok) → is_population c ≡ false → tc ts ≡ c ∷ [] → Lacking ts
class_lacks c [] k e = absurd cc
class_lacks c (t ∷ []) k e = let equal : t.class ≡ c = cc in ap (λ z. is_population z || false) equal ∙ ap (λ z. z || false) k
class_lacks c (t ∷ s ∷ ts) k e = absurd cc

pub lacks_tok : {c : Class} {ts : List Tok} → is_population c ≡ false → IsTok c ts → Lacking ts
lacks_tok {c} {ts} k e = class_lacks c ts k e.is

-- a token of one of the classes
abbrev pub OneOf : List Class → List Tok → Type 0
OneOf [] ts = ⊥
OneOf (c ∷ []) ts = IsTok c ts
OneOf (c ∷ d ∷ cs) ts = IsTok c ts ⊎ OneOf (d ∷ cs) ts

-- what stands after a token, between two, at most once, and with commas between them, or not at all
abbrev pub After : {A : Type 0} → Class → (List Tok → A → Type 0) → List Tok → A → Type 0
After c p ts a = (u : List Tok) × (v : List Tok) × Cut ts u v × IsTok c u × p v a

abbrev pub Before : {A : Type 0} → (List Tok → A → Type 0) → Class → List Tok → A → Type 0
Before p c ts a = (u : List Tok) × (v : List Tok) × Cut ts u v × p u a × IsTok c v

abbrev pub Between : {A : Type 0} → Class → (List Tok → A → Type 0) → Class → List Tok → A → Type 0
Between c p d ts a = (u : List Tok) × (v : List Tok) × (w : List Tok) × Cuts ts u v w × IsTok c u × p v a × IsTok d w

abbrev pub Perhaps : {A : Type 0} → (List Tok → A → Type 0) → List Tok → Option A → Type 0
Perhaps p ts None = ts ≡ []
Perhaps p ts (Some a) = p ts a

abbrev pub Many : {A : Type 0} → (List Tok → A → Type 0) → List Tok → List A → Type 0
Many p ts [] = ts ≡ []
Many p ts (a ∷ more) = (u : List Tok) × (v : List Tok) × Cut ts u v × p u a × Many p v more

abbrev pub Series : {A : Type 0} → (List Tok → A → Type 0) → List Tok → List A → Type 0
Series p ts [] = ts ≡ []
Series p ts (a ∷ more) = (u : List Tok) × (v : List Tok) × Cut ts u v × p u a × Many (After Comma p) v more

abbrev pub lacking_classes : List Class → Bool
lacking_classes [] = true
lacking_classes (c ∷ cs) = not (is_population c) && lacking_classes cs

abbrev pub token : List Class → Claim Tok
token cs = record { says = λ ts t. OneOf cs ts; lacks = lacking_classes cs }

abbrev pub without : Class → Bool
without c = lacking_classes (c ∷ [])

abbrev pub pair : {A B : Type 0} → Claim A → Claim B → Claim (A × B)
pair p q = record {
  says = λ ts ab. (u : List Tok) × (v : List Tok) × Cut ts u v × p.says u ab.0 × q.says v ab.1 × (LackingIf p.lacks u × LackingIf q.lacks v);
  lacks = p.lacks && q.lacks;
}

-- all that the phrase reads is so
pub record Has (A : Type 0) (i : Claim A) (p : Phrase A) : Type 0 where
  pub all : (ts : List Tok) (a : A) → p ts a → i.says ts a
  pub lacks : (ts : List Tok) (a : A) → p ts a → LackingIf i.lacks ts

abbrev pub Makes : {A B : Type 0} → Claim A → Claim B → (A → B) → Type 0
Makes {A} i j f = (IsTrue j.lacks → IsTrue i.lacks) × ((ts : List Tok) (a : A) → i.says ts a → j.says ts (f a))

and_left : (x y : Bool) → IsTrue (x && y) → IsTrue x
and_left true y h = refl
and_left false y h = h

and_right : (x y : Bool) → IsTrue (x && y) → IsTrue y
and_right true y h = h
and_right false y h = absurd cc

not_true : (b : Bool) → IsTrue (not b) → b ≡ false
not_true true h = absurd cc
not_true false h = refl

one_class : (c : Class) (ts : List Tok) (t : Tok) → the c ts t → IsTok c ts
one_class c ts t rd = record { is = ap tc rd.0 ∙ ap (λ z. z ∷ []) (same_class c t rd.1) }

one_lacks : (c : Class) (ts : List Tok) (t : Tok) → the c ts t → IsTrue (not (is_population c)) → Lacking ts
one_lacks c ts t rd h = subst Lacking (sym rd.0) (ap (λ z. is_population z || false) (same_class c t rd.1) ∙ ap (λ z. z || false) (not_true (is_population c) h))

chosen : (cs : List Class) (ts : List Tok) (t : Tok) → any_of cs ts t → OneOf cs ts × LackingIf (lacking_classes cs) ts
chosen [] ts t rd = absurd rd
chosen (c ∷ []) ts t rd = (one_class c ts t rd, λ h. one_lacks c ts t rd (and_left (not (is_population c)) true h))
chosen (c ∷ d ∷ cs) ts t (inl rd) = (inl (one_class c ts t rd), λ h. one_lacks c ts t rd (and_left (not (is_population c)) (lacking_classes (d ∷ cs)) h))
chosen (c ∷ d ∷ cs) ts t (inr rd) = let w = chosen (d ∷ cs) ts t rd in (inr w.0, λ h. w.1 (and_right (not (is_population c)) (lacking_classes (d ∷ cs)) h))

pub token_of : (cs : List Class) → Has Tok (token cs) (any_of cs)
token_of cs = record { all = λ ts t rd. (chosen cs ts t rd).0; lacks = λ ts t rd. (chosen cs ts t rd).1 }

pub in_turn : {A B : Type 0} {i : Claim A} {j : Claim B} {p : Phrase A} {q : Phrase B} → Has A i p → Has B j q → Has (A × B) (pair i j) (p then q)
in_turn {i = i} {j = j} h k = record {
  all = λ ts ab rd. (rd.0, rd.1, record { is = rd.2 }, h.all rd.0 ab.0 rd.3, k.all rd.1 ab.1 rd.4, (h.lacks rd.0 ab.0 rd.3, k.lacks rd.1 ab.1 rd.4));
  lacks = λ ts ab rd e. lacks_at {ts = ts} {u = rd.0} {v = rd.1} (record { is = rd.2 }) (h.lacks rd.0 ab.0 rd.3 (and_left i.lacks j.lacks e)) (k.lacks rd.1 ab.1 rd.4 (and_right i.lacks j.lacks e));
}

pub of_made : {A B : Type 0} {i : Claim A} {j : Claim B} {p : Phrase A} {f : A → B} → Makes i j f → Has A i p → Has B j (p gives f)
of_made {j = j} m h = record { all = λ ts b rd. subst (j.says ts) (sym rd.2) (m.1 ts rd.0 (h.all ts rd.0 rd.1)); lacks = λ ts b rd e. h.lacks ts rd.0 rd.1 (m.0 e) }

module _ {A : Type 0} {i : Claim A} {p : Phrase A} (h : Has A i p) where
  either_all : (q : Phrase A) → Has A i q → (ts : List Tok) (a : A) → (p or q) ts a → i.says ts a
  either_all q k ts a (inl x) = h.all ts a x
  either_all q k ts a (inr x) = k.all ts a x

  either_lacks : (q : Phrase A) → Has A i q → (ts : List Tok) (a : A) → (p or q) ts a → LackingIf i.lacks ts
  either_lacks q k ts a (inl x) = h.lacks ts a x
  either_lacks q k ts a (inr x) = k.lacks ts a x

  pub either : {q : Phrase A} → Has A i q → Has A i (p or q)
  either {q = q} k = record { all = either_all q k; lacks = either_lacks q k }

  turns_all : (ts : List Tok) (more : List A) → many p ts more → Many i.says ts more
  turns_all ts [] rd = rd
  turns_all ts (a ∷ more) rd = (rd.0, rd.1, record { is = rd.2 }, h.all rd.0 a rd.3, turns_all rd.1 more rd.4)

  turns_lack : (ts : List Tok) (more : List A) → many p ts more → LackingIf i.lacks ts
  turns_lack ts [] rd e = subst Lacking (sym rd) refl
  turns_lack ts (a ∷ more) rd e = lacks_at {ts = ts} {u = rd.0} {v = rd.1} (record { is = rd.2 }) (h.lacks rd.0 a rd.3 e) (turns_lack rd.1 more rd.4 e)

  pub many_of : Has (List A) (record { says = Many i.says; lacks = i.lacks }) (many p)
  many_of = record { all = turns_all; lacks = turns_lack }

  maybe_all : (ts : List Tok) (a : Option A) → maybe p ts a → Perhaps i.says ts a
  maybe_all ts a (inl (x, rd, e)) = subst (Perhaps i.says ts) (sym e) (h.all ts x rd)
  maybe_all ts a (inr (x, rd, e)) = subst (Perhaps i.says ts) (sym e) rd

  maybe_lacks : (ts : List Tok) (a : Option A) → maybe p ts a → LackingIf i.lacks ts
  maybe_lacks ts a (inl (x, rd, e)) = h.lacks ts x rd
  maybe_lacks ts a (inr (x, rd, e)) = λ k. subst Lacking (sym rd) refl

  pub perhaps : Has (Option A) (record { says = Perhaps i.says; lacks = i.lacks }) (maybe p)
  perhaps = record { all = maybe_all; lacks = maybe_lacks }

  pub placed_of : Has (Place × A) (record { says = λ ts pa. i.says ts pa.1; lacks = i.lacks }) (placed p)
  placed_of = record { all = λ ts pa rd. h.all ts pa.1 rd.0; lacks = λ ts pa rd. h.lacks ts pa.1 rd.0 }

  pub barred : (c : Class) → Has A i (barring c p)
  barred c = record { all = λ ts a rd. h.all ts a rd.0; lacks = λ ts a rd. h.lacks ts a rd.0 }

  pub such : (P : A → Type 0) → Has A i (such_that P p)
  such P = record { all = λ ts a rd. h.all ts a rd.0; lacks = λ ts a rd. h.lacks ts a rd.0 }

abbrev pub after_a : {A : Type 0} → Class → Claim A → Claim A
after_a c i = record { says = After c i.says; lacks = without c && i.lacks }

abbrev pub before_a : {A : Type 0} → Claim A → Class → Claim A
before_a i c = record { says = Before i.says c; lacks = i.lacks && without c }

abbrev pub in_two : {A : Type 0} → Class → Claim A → Class → Claim A
in_two c i d = record { says = Between c i.says d; lacks = without c && (i.lacks && without d) }

abbrev pub in_commas : {A : Type 0} → Claim A → Claim (List A)
in_commas i = record { says = Series i.says; lacks = i.lacks && (without Comma && i.lacks) }

pub behind : {A : Type 0} {i : Claim A} {p : Phrase A} (c : Class) → Has A i p → Has A (after_a c i) (after c p)
behind c h = of_made ((λ e. e), λ ts ab x. (x.0, x.1, x.2, x.3, x.4)) (in_turn (token_of (c ∷ [])) h)

pub round : {A : Type 0} {i : Claim A} {p : Phrase A} (c : Class) → Has A i p → (d : Class) → Has A (in_two c i d) (between c p d)
round c h d = of_made ((λ e. e), λ ts a x. (let y = x.4 in (x.0, y.0, y.1, both_cuts x.2 y.2, x.3, y.3, y.4))) (in_turn (token_of (c ∷ [])) (in_turn h (token_of (d ∷ []))))

pub series : {A : Type 0} {i : Claim A} {p : Phrase A} → Has A i p → Has (List A) (in_commas i) (commas p)
series h = of_made ((λ e. e), λ ts a x. (x.0, x.1, x.2, x.3, x.4)) (in_turn h (many_of (behind Comma h)))

some_series : {A : Type 0} (p : List Tok → A → Type 0) (ts : List Tok) (a : Option (List A)) → Perhaps (Series p) ts a → Series p ts (or_none a)
some_series p ts None x = x
some_series p ts (Some all) x = x

pub listed_of : {A : Type 0} {i : Claim A} {p : Phrase A} (c : Class) → Has A i p → (d : Class) → Has (List A) (in_two c (in_commas i) d) (listed c (commas p) d)
listed_of {i = i} c h d = round c (of_made {j = in_commas i} ((λ e. e), some_series i.says) (perhaps (series h))) d

abbrev pub forms : Forms Claim Has
forms = record {
  token = token;
  pair = pair;
  list = λ i. record { says = Many i.says; lacks = i.lacks };
  option = λ i. record { says = Perhaps i.says; lacks = i.lacks };
  marked = λ i. record { says = λ ts pa. i.says ts pa.1; lacks = i.lacks };
  after_a = after_a;
  before_a = before_a;
  in_two = in_two;
  in_commas = in_commas;
  in_list = λ c i d. in_two c (in_commas i) d;
  Makes = Makes;
  no_list = record { all = λ ts a rd. absurd rd; lacks = λ ts a rd. absurd rd };
  choice = token_of;
  both = in_turn;
  one_of = λ h k. either h k;
  made = of_made;
  turns = many_of;
  perhaps = perhaps;
  at = placed_of;
  barred = λ c h. barred h c;
  behind = behind;
  ahead = λ h c. of_made ((λ e. e), λ ts ab x. (x.0, x.1, x.2, x.3, x.4)) (in_turn h (token_of (c ∷ [])));
  round = round;
  series = series;
  lists = listed_of;
  also = λ m h. record { all = λ ts a rd. m.1 ts a (h.all ts a rd); lacks = λ ts a rd e. h.lacks ts a rd (m.0 e) };
}
