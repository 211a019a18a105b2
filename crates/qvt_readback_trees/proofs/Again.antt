-- Languages that read again what is printed of what they read.
use Rattle.std.proofs.Common.{◌≡◌, List, [], ◌∷◌, ◌++◌, map, inl, inr, refl, sym, ap, ◌∙◌, subst, Option, Some, None, option_map, pos}
use Rattle.std.specs.Prelude.{⊤}
use Rattle.qvt_base.specs.declared.numbers.Place.{Place}
use Rattle.qvt_grammar.specs.Language.{Language, then, either, many, turns, made, maybe}
use Rattle.qvt_grammar.proofs.Wider.{Sub}
use Rattle.qvt_language.specs.Tokens.{Tok}
use Rattle.qvt_language.specs.Readers.{the, placed, nowhere}
use Rattle.qvt_language.specs.declared.class.Class.{Class}
use Rattle.qvt_language.specs.declared.class.Class.TheVariants as class
use Rattle.qvt_printer_layout.specs.declared.piece.PrintPiece.{PrintPiece}
use Rattle.qvt_printer_layout.specs.declared.piece.PrintPiece.TheVariants.{Name, Integer, Quoted}
use Rattle.qvt_printer.specs.Expressions.{one}
use Rattle.qvt_readback_tokens.specs.Spelled.{all_spelled}
use Rattle.qvt_readback_tokens.proofs.Classes.{same_class, is_itself}
use Rattle.qvt_readback_trees.proofs.Spelling.{plain, spelled_append, spelled_head}

-- where l reads a value that is ok, m reads its pieces, as the value without places
pub record Again {A : Type 0} (ok : A → Type 0) (pieces : A → List PrintPiece) (bare : A → A) (l m : Language Tok A) : Type 0 where
  pub again : (ts : List Tok) (a : A) → l.reads ts a → ok a → m.reads (all_spelled (pieces a)) (bare a)

abbrev pub any : {A : Type 0} → A → Type 0
any a = ⊤

pub again_the : (c : Class) → Again any (λ _. one c) (λ _. plain c) (the c) (the c)
again_the c = record { again = λ ts t rd k. (refl, is_itself c) }

-- a word that is printed as another
pub again_word : (c d : Class) (g : Class → Class) → g c ≡ d → (m : Language Tok Tok) → m.reads (plain d ∷ []) (plain d) → Again any (λ t. one (g t.class)) (λ t. plain (g t.class)) (the c) m
again_word c d g e m w = record { again = λ ts t rd k. subst (λ x. m.reads (plain x ∷ []) (plain x)) (sym (ap g (same_class c t rd.1) ∙ e)) w }

pub again_name_token : Again any (λ t. Name t.text ∷ []) (λ t. record { class = class.Name; text = t.text; number = pos 0; place = nowhere }) (the class.Name) (the class.Name)
again_name_token = record { again = λ ts t rd k. (refl, refl) }

pub again_integer_token : Again any (λ t. Integer t.number ∷ []) (λ t. record { class = class.Integer; text = []; number = t.number; place = nowhere }) (the class.Integer) (the class.Integer)
again_integer_token = record { again = λ ts t rd k. (refl, refl) }

pub again_string_token : Again any (λ t. Quoted t.text ∷ []) (λ t. record { class = class.Str; text = t.text; number = pos 0; place = nowhere }) (the class.Str) (the class.Str)
again_string_token = record { again = λ ts t rd k. (refl, refl) }

abbrev pub both_ok : {A B : Type 0} → (A → Type 0) → (B → Type 0) → A × B → Type 0
both_ok ok1 ok2 ab = ok1 ab.0 × ok2 ab.1

abbrev pub joined : {A B : Type 0} → (A → List PrintPiece) → (B → List PrintPiece) → A × B → List PrintPiece
joined p1 p2 ab = p1 ab.0 ++ p2 ab.1

abbrev pub both : {A B : Type 0} → (A → A) → (B → B) → A × B → A × B
both f g ab = (f ab.0, g ab.1)

module _ {A B : Type 0} {ok1 : A → Type 0} {p1 : A → List PrintPiece} {b1 : A → A} {ok2 : B → Type 0} {p2 : B → List PrintPiece} {b2 : B → B} {l1 m1 : Language Tok A} {l2 m2 : Language Tok B} where
  pub again_then : Again ok1 p1 b1 l1 m1 → Again ok2 p2 b2 l2 m2 → Again (both_ok ok1 ok2) (joined p1 p2) (both b1 b2) (then l1 l2) (then m1 m2)
  again_then h k = record { again = λ ts ab rd ok. (all_spelled (p1 ab.0), all_spelled (p2 ab.1), spelled_append (p1 ab.0) (p2 ab.1), h.again rd.0 ab.0 rd.3 ok.0, k.again rd.1 ab.1 rd.4 ok.1) }

module _ {A B : Type 0} {ok : A → Type 0} {p : A → List PrintPiece} {b : A → A} {ok2 : B → Type 0} {p2 : B → List PrintPiece} {b2 : B → B} {l m : Language Tok A} where
  pub again_made : (f : A → B) → Again ok p b l m → ((a : A) → ok2 (f a) → ok a) → ((a : A) → all_spelled (p2 (f a)) ≡ all_spelled (p a)) → ((a : A) → b2 (f a) ≡ f (b a)) → Again ok2 p2 b2 (made f l) (made f m)
  again_made f h okay same bared = record {
    again = λ ts x rd k. (
        let a = rd.0 in
        let r = h.again ts a rd.1 (okay a (subst ok2 rd.2 k)) in
        (b a, subst (λ us. m.reads us (b a)) (sym (same a) ∙ ap (λ y. all_spelled (p2 y)) (sym rd.2)) r, ap b2 rd.2 ∙ bared a));
  }

module _ {A : Type 0} {ok : A → Type 0} {p : A → List PrintPiece} {b : A → A} {l l2 m m2 : Language Tok A} where
  pub again_either : Again ok p b l m → Again ok p b l2 m2 → Again ok p b (either l l2) (either m m2)
  again_either h k = record { again = λ ts a rd o. elim rd [ inl q ↦ inl (h.again ts a q o) | inr q ↦ inr (k.again ts a q o) ] }

module _ {A : Type 0} {ok : A → Type 0} {p : A → List PrintPiece} {b : A → A} {l l2 m : Language Tok A} where
  -- read again by the one language, whichever read it first
  pub again_one : Again ok p b l m → Again ok p b l2 m → Again ok p b (either l l2) m
  again_one h k = record { again = λ ts a rd o. elim rd [ inl q ↦ h.again ts a q o | inr q ↦ k.again ts a q o ] }

module _ {A : Type 0} {ok : A → Type 0} {p : A → List PrintPiece} {b : A → A} {l m m2 : Language Tok A} where
  pub again_sub : Sub m m2 → Again ok p b l m → Again ok p b l m2
  again_sub s h = record { again = λ ts a rd o. s.reads (all_spelled (p a)) (b a) (h.again ts a rd o) }

module _ {A : Type 0} {ok : A → Type 0} {p : A → List PrintPiece} {b : A → A} {ok2 : A → Type 0} {p2 : A → List PrintPiece} {b2 : A → A} {l m : Language Tok A} where
  -- the same by other words
  pub again_as : Again ok p b l m → ((a : A) → ok2 a → ok a) → ((a : A) → all_spelled (p2 a) ≡ all_spelled (p a)) → ((a : A) → b2 a ≡ b a) → Again ok2 p2 b2 l m
  again_as h okay same bared = record {
    again = λ ts a rd o. (
        let r = h.again ts a rd (okay a o) in
        let r2 = subst (λ us. m.reads us (b a)) (sym (same a)) r in
        subst (λ x. m.reads (all_spelled (p2 a)) x) (sym (bared a)) r2);
  }

abbrev pub optional_ok : {A : Type 0} → (A → Type 0) → Option A → Type 0
optional_ok ok None = ⊤
optional_ok ok (Some a) = ok a

abbrev pub if_there : {A : Type 0} → (A → List PrintPiece) → Option A → List PrintPiece
if_there p None = []
if_there p (Some a) = p a

module _ {A : Type 0} {ok : A → Type 0} {p : A → List PrintPiece} {b : A → A} {l m : Language Tok A} where
  again_maybe_at : Again ok p b l m → (ts : List Tok) (x : Option A) → (maybe l).reads ts x → optional_ok ok x → (maybe m).reads (all_spelled (if_there p x)) (option_map b x)
  again_maybe_at h ts None rd o = inr (tt, refl, refl)
  again_maybe_at h ts (Some a) rd o = elim rd [ inl q ↦ (let e : a ≡ q.0 = cc in inl (b a, h.again ts a (subst (l.reads ts) (sym e) q.1) o, refl)) | inr q ↦ absurd (let e : Some a ≡ None = q.2 in cc) ]

  pub again_maybe : Again ok p b l m → Again (optional_ok ok) (if_there p) (option_map b) (maybe l) (maybe m)
  again_maybe h = record { again = again_maybe_at h }

  pub again_placed : Again ok p b l m → Again (λ (x : Place × A). ok x.1) (λ x. p x.1) (λ x. (nowhere, b x.1)) (placed l) (placed m)
  again_placed h = record { again = λ ts x rd o. (h.again ts x.1 rd.0 o, sym (spelled_head (p x.1))) }

  -- the pieces of a list: none of no values, and else those of the first and then those of the others
  pub again_turns : Again ok p b l m → (oks : List A → Type 0) → ((a : A) (more : List A) → oks (a ∷ more) → ok a × oks more) → (ps : List A → List PrintPiece) → all_spelled (ps []) ≡ [] → ((a : A) (more : List A) → all_spelled (ps (a ∷ more)) ≡ all_spelled (p a ++ ps more)) →
      (got : List A) (ts : List Tok) → turns l ts got → oks got → turns m (all_spelled (ps got)) (map b got)
  again_turns h oks okay ps none some [] ts rd o = none
  again_turns h oks okay ps none some (a ∷ got) ts rd o = (all_spelled (p a), all_spelled (ps got), some a got ∙ spelled_append (p a) (ps got), h.again rd.0 a rd.3 (okay a got o).0, again_turns h oks okay ps none some got rd.1 rd.4 (okay a got o).1)

  pub again_many : Again ok p b l m → (oks : List A → Type 0) → ((a : A) (more : List A) → oks (a ∷ more) → ok a × oks more) → (ps : List A → List PrintPiece) → all_spelled (ps []) ≡ [] → ((a : A) (more : List A) → all_spelled (ps (a ∷ more)) ≡ all_spelled (p a ++ ps more)) → Again oks ps (map b) (many l) (many m)
  again_many h oks okay ps none some = record { again = λ ts got rd o. again_turns h oks okay ps none some got ts rd o }

-- what is not printed
pub again_left_out : {A : Type 0} {l m : Language Tok A} → Again any (λ _. []) (λ _. None) (maybe l) (maybe m)
again_left_out = record { again = λ ts x rd o. inr (tt, refl, refl) }
