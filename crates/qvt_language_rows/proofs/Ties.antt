-- What the parser's productions read and what the rows are, form by form: a production at one nesting (l) is within the row (p),
-- and the row within the production at another nesting (m).
use Rattle.std.proofs.Common.{◌≡◌, List, [], ◌∷◌, ◌++◌, inl, inr, refl, sym, ap, ◌∙◌, subst, Option, Some, None}
use Rattle.qvt_grammar.specs.Language.{Language}
use Rattle.qvt_grammar.specs.Language as language
use Rattle.qvt_grammar.proofs.Lists.{regroup, grouped}
use Rattle.qvt_language.specs.Tokens.{Tok}
use Rattle.qvt_language.specs.declared.class.Class.{Class}
use Rattle.qvt_language.specs.declared.class.Class.TheVariants.{Comma}
use Rattle.qvt_language.specs.Readers as readers
use Rattle.qvt_language.specs.Trees.{first, second, inner, cons_of}
use Rattle.qvt_language_rows.specs.Phrase.{Phrase, ◌or◌, ◌gives◌, ◌then◌, nothing, the, many, maybe, placed, after, before, between, commas}

pub record Ties {A : Type 0} (l : Language Tok A) (p : Phrase A) (m : Language Tok A) : Type 0 where
  pub to : (ts : List Tok) (a : A) → l.reads ts a → p ts a
  pub of : (ts : List Tok) (a : A) → p ts a → m.reads ts a

pub ties_none : {A : Type 0} {m : Language Tok A} → Ties language.never nothing m
ties_none = record { to = λ ts a h. h; of = λ ts a h. absurd h }

pub ties_the : (c : Class) → Ties (readers.the c) (the c) (readers.the c)
ties_the c = record { to = λ ts t h. h; of = λ ts t h. h }

pub ties_then : {A B : Type 0} {l l2 : Language Tok A} {p : Phrase A} {m m2 : Language Tok B} {q : Phrase B} → Ties l p l2 → Ties m q m2 → Ties (language.then l m) (p then q) (language.then l2 m2)
ties_then k j = record {
  to = λ ts ab h. (h.0, h.1, h.2, k.to h.0 ab.0 h.3, j.to h.1 ab.1 h.4);
  of = λ ts ab h. (h.0, h.1, h.2, k.of h.0 ab.0 h.3, j.of h.1 ab.1 h.4);
}

pub ties_or : {A : Type 0} {l l2 m m2 : Language Tok A} {p q : Phrase A} → Ties l p l2 → Ties m q m2 → Ties (language.either l m) (p or q) (language.either l2 m2)
ties_or k j = record {
  to = λ ts a h. elim h [ inl x ↦ inl (k.to ts a x) | inr x ↦ inr (j.to ts a x) ];
  of = λ ts a h. elim h [ inl x ↦ inl (k.of ts a x) | inr x ↦ inr (j.of ts a x) ];
}

-- the other one first
pub ties_swap : {A : Type 0} {l l2 m m2 : Language Tok A} {p q : Phrase A} → Ties l p l2 → Ties m q m2 → Ties (language.either m l) (p or q) (language.either m2 l2)
ties_swap k j = record {
  to = λ ts a h. elim h [ inl x ↦ inr (j.to ts a x) | inr x ↦ inl (k.to ts a x) ];
  of = λ ts a h. elim h [ inl x ↦ inr (k.of ts a x) | inr x ↦ inl (j.of ts a x) ];
}

pub ties_gives : {A B : Type 0} {l l2 : Language Tok A} {p : Phrase A} (f : A → B) → Ties l p l2 → Ties (language.made f l) (p gives f) (language.made f l2)
ties_gives f k = record {
  to = λ ts b h. (h.0, k.to ts h.0 h.1, h.2);
  of = λ ts b h. (h.0, k.of ts h.0 h.1, h.2);
}

module _ {A : Type 0} {l l2 : Language Tok A} {p : Phrase A} (k : Ties l p l2) where
  pub turns_to : (got : List A) (ts : List Tok) → language.turns l ts got → many p ts got
  turns_to [] ts h = h
  turns_to (a ∷ got) ts h = (h.0, h.1, h.2, k.to h.0 a h.3, turns_to got h.1 h.4)

  pub turns_of : (got : List A) (ts : List Tok) → many p ts got → language.turns l2 ts got
  turns_of [] ts h = h
  turns_of (a ∷ got) ts h = (h.0, h.1, h.2, k.of h.0 a h.3, turns_of got h.1 h.4)

pub ties_many : {A : Type 0} {l l2 : Language Tok A} {p : Phrase A} → Ties l p l2 → Ties (language.many l) (many p) (language.many l2)
ties_many k = record { to = λ ts got h. turns_to k got ts h; of = λ ts got h. turns_of k got ts h }

pub ties_maybe : {A : Type 0} {l l2 : Language Tok A} {p : Phrase A} → Ties l p l2 → Ties (language.maybe l) (maybe p) (language.maybe l2)
ties_maybe k = record {
  to = λ ts a h. elim h [ inl x ↦ inl (x.0, k.to ts x.0 x.1, x.2) | inr x ↦ inr x ];
  of = λ ts a h. elim h [ inl x ↦ inl (x.0, k.of ts x.0 x.1, x.2) | inr x ↦ inr x ];
}

pub ties_placed : {A : Type 0} {l l2 : Language Tok A} {p : Phrase A} → Ties l p l2 → Ties (readers.placed l) (placed p) (readers.placed l2)
ties_placed k = record { to = λ ts pa h. (k.to ts pa.1 h.0, h.1); of = λ ts pa h. (k.of ts pa.1 h.0, h.1) }

pub ties_after : {A : Type 0} {l l2 : Language Tok A} {p : Phrase A} (c : Class) → Ties l p l2 → Ties (language.made second (language.then (readers.the c) l)) (after c p) (language.made second (language.then (readers.the c) l2))
ties_after c k = ties_gives second (ties_then (ties_the c) k)

pub ties_before : {A : Type 0} {l l2 : Language Tok A} {p : Phrase A} → Ties l p l2 → (c : Class) → Ties (language.made first (language.then l (readers.the c))) (before p c) (language.made first (language.then l2 (readers.the c)))
ties_before k c = ties_gives first (ties_then k (ties_the c))

pub ties_between : {A : Type 0} {l l2 : Language Tok A} {p : Phrase A} (c d : Class) → Ties l p l2 → Ties (language.made inner (language.then (readers.the c) (language.then l (readers.the d)))) (between c p d) (language.made inner (language.then (readers.the c) (language.then l2 (readers.the d))))
ties_between c d k = ties_gives inner (ties_then (ties_the c) (ties_then k (ties_the d)))

pub ties_commas : {A : Type 0} {l l2 : Language Tok A} {p : Phrase A} → Ties l p l2 → Ties (language.made cons_of (language.then l (language.many (language.made second (language.then (readers.the Comma) l))))) (commas p) (language.made cons_of (language.then l2 (language.many (language.made second (language.then (readers.the Comma) l2)))))
ties_commas k = ties_gives cons_of (ties_then k (ties_many (ties_after Comma k)))

-- between two tokens, where nothing may stand, which is then z
module _ {A : Type 0} (z : A) (none : Tok → A) (or_z : Option A → A) (is_z : (t : Tok) → none t ≡ z) (no : or_z None ≡ z) (yes : (a : A) → or_z (Some a) ≡ a) {l l2 : Language Tok A} {p : Phrase A} (k : Ties l p l2) (c d : Class) where
  abbrev optional : Language Tok A → Language Tok A
  optional m = language.made second (language.then (readers.the c) (language.either (language.made none (readers.the d)) (language.made first (language.then m (readers.the d)))))

  optional_to : (ts : List Tok) (a : A) → (optional l).reads ts a → (between c (maybe p gives or_z) d) ts a
  optional_to ts a (x, (u, v, e, open_c, (inl (t, close_d, q))), w) =
      ((x.0, (z, t)), (u, v, e, open_c, ([], v, refl, (None, inr (tt, refl, refl), sym no), close_d)), w ∙ q ∙ is_z t)
  optional_to ts a (x, (u, v, e, open_c, (inr (y, (u2, v2, e2, rd, close_d), q))), w) =
      ((x.0, (y.0, y.1)), (u, v, e, open_c, (u2, v2, e2, (Some y.0, inl (y.0, k.to u2 y.0 rd, refl), sym (yes y.0)), close_d)), w ∙ q)

  optional_of : (ts : List Tok) (a : A) → (between c (maybe p gives or_z) d) ts a → (optional l2).reads ts a
  optional_of ts a (x, (u, v, e, open_c, (u2, v2, e2, (o, (inl (b, rd, q)), m), close_d)), w) =
      ((x.0, a), (u, v, e, open_c, inr ((b, x.1.1), (u2, v2, e2, k.of u2 b rd, close_d), w ∙ m ∙ ap or_z q ∙ yes b)), refl)
  optional_of ts a (x, (u, v, e, open_c, (u2, v2, e2, (o, (inr (y, n, q)), m), close_d)), w) =
      ((x.0, a), (u, v, e, open_c, inl (x.1.1, subst (λ s. (readers.the d).reads s x.1.1) (sym (e2 ∙ ap (λ s. s ++ v2) n)) close_d, w ∙ m ∙ ap or_z q ∙ no ∙ sym (is_z x.1.1))), refl)

  pub ties_optional : Ties (optional l) (between c (maybe p gives or_z) d) (optional l2)
  ties_optional = record { to = optional_to; of = optional_of }

-- three parts, the first two or the last two of them together
pub right_of : {A B C : Type 0} (p : Phrase A) (q : Phrase B) (r : Phrase C) (ts u v : List Tok) (a : A) (b : B) (c : C) → ts ≡ u ++ v → (p then q) u (a, b) → r v c → (p then (q then r)) ts (a, (b, c))
right_of p q r ts u v a b c e h rd = (h.0, h.1 ++ v, regroup ts u v h.0 h.1 e h.2, h.3, (h.1, v, refl, h.4, rd))

pub left_of : {A B C : Type 0} (p : Phrase A) (q : Phrase B) (r : Phrase C) (ts : List Tok) (a : A) (b : B) (c : C) → (p then (q then r)) ts (a, (b, c)) → (u : List Tok) × (v : List Tok) × (ts ≡ u ++ v) × (p then q) u (a, b) × r v c
left_of p q r ts a b c h = let k = h.4 in (h.0 ++ k.0, k.1, grouped ts h.1 k.1 h.0 k.0 h.2 k.2, (h.0, k.0, refl, h.3, k.3), k.4)
