-- The tokens with which a language begins, single tokens, and what only makes other values.
use Rattle.std.proofs.Common.{◌≡◌, ◌≤◌, List, [], ◌∷◌, ◌++◌, length, Bool, true, false, IsTrue, inl, inr, refl, sym, ap, ◌∙◌, subst, arith, Ok, Err, cond}
use Rattle.qvt_grammar.specs.Language.{Language, token, made, never, empty, marked, head_of}
use Rattle.qvt_results.specs.Bind.{◌>>=◌}
use Rattle.qvt_grammar.specs.Reader.{At, Answer, Begins, Exact, token_at, made_at, empty_at, marked_at}
use Rattle.qvt_grammar.proofs.Lists.{all_left}

abbrev pub Within : {T : Type 0} → (T → Bool) → (T → Bool) → Type 0
Within {T} c d = (t : T) → IsTrue (c t) → IsTrue (d t)

abbrev pub Apart : {T : Type 0} → (T → Bool) → (T → Bool) → Type 0
Apart {T} c d = (t : T) → IsTrue (c t) → IsTrue (d t) → ⊥

-- what holds of every language that the forms build: the empty list is a front, a read list is one, and first has each
-- token with which a front begins
pub record Firsts {T A : Type 0} (first : T → Bool) (l : Language T A) : Type 0 where
  pub empty : l.front []
  pub whole : (ts : List T) (a : A) → l.reads ts a → l.front ts
  pub begins : (t : T) (ts : List T) → l.front (t ∷ ts) → IsTrue (first t)

-- the language reads no empty list
abbrev pub Solid : {T A : Type 0} → Language T A → Type 0
Solid {A = A} l = (a : A) → l.reads [] a → ⊥

pub begins_within : {T : Type 0} (c d : T → Bool) → Within c d → (r : List T) → Begins c r → Begins d r
begins_within c d w [] b = b
begins_within c d w (t ∷ r) b = w t b

pub firsts_within : {T A : Type 0} (c d : T → Bool) (l : Language T A) → Within c d → Firsts c l → Firsts d l
firsts_within c d l w h = record { empty = h.empty; whole = h.whole; begins = λ t ts fr. w t (h.begins t ts fr) }

pub exact_within : {T A : Type 0} (c d : T → Bool) (l : Language T A) (ts : List T) (x : Answer T A) → Within c d → Exact c l ts x → Exact d l ts x
exact_within c d l ts (Ok (a, r)) w h = record {
  found = h.found;
  only = λ u s b e rd. elim (h.only u s b e rd) [ inl p ↦ inl p | inr q ↦ inr (begins_within c d w s q) ];
  farthest = h.farthest;
}
exact_within c d l ts (Err (At r)) w h = record {
  found = h.found;
  only = λ u s b e rd. begins_within c d w s (h.only u s b e rd);
  farthest = h.farthest;
}

-- the first token of a list that a solid language reads the beginning of
pub read_begins : {T A : Type 0} (first : T → Bool) (l : Language T A) → Firsts first l → Solid l → (t : T) (ts u v : List T) (a : A) → t ∷ ts ≡ u ++ v → l.reads u a → IsTrue (first t)
read_begins first l w solid t ts [] v a e rd = absurd (solid a rd)
read_begins first l w solid t ts (x ∷ u) v a e rd = let k : x ≡ t = cc in subst (λ z. IsTrue (first z)) k (w.begins x u (w.whole _ _ rd))

-- one token
module _ {T : Type 0} (p : T → Bool) where
  pub firsts_token : Firsts p (token p)
  firsts_token = record {
    empty = inl refl;
    whole = λ ts a h. inr (a, h.0, h.1);
    begins = λ t ts h. elim h [ inl e ↦ absurd cc | inr w ↦ (let e : t ≡ w.0 = cc in subst (λ x. IsTrue (p x)) (sym e) w.2) ];
  }

  pub solid_token : Solid (token p)
  solid_token t rd = absurd (let k = rd.0 in cc)

  -- of a list whose first token passes the test a front takes at most that token
  one_at_most : (t : T) (ts u s : List T) → t ∷ ts ≡ u ++ s → (token p).front u → length ts ≤ length s
  one_at_most t ts u s e (inl n) = omega (arith, ap length (all_left (t ∷ ts) u s e n))
  one_at_most t ts u s e (inr w) = let k : t ∷ ts ≡ w.0 ∷ s = e ∙ ap (λ z. z ++ s) w.1 in omega (arith, ap length k)

  other_token : (t a : T) (ts u s : List T) → p t ≡ false → t ∷ ts ≡ u ++ s → u ≡ a ∷ [] → IsTrue (p a) → ⊥
  other_token t a ts u s f e d h =
      let k : t ∷ ts ≡ a ∷ s = e ∙ ap (λ z. z ++ s) d in
      let same : t ≡ a = cc in
      let no_test : true ≡ false = sym h ∙ ap p (sym same) ∙ f in cc

  token_cases : (t : T) (ts : List T) (b : Bool) → p t ≡ b → Exact (λ _. false) (token p) (t ∷ ts) (cond b (Ok (t, ts)) (Err (At (t ∷ ts))))
  token_cases t ts true e = record {
    found = (t ∷ [], refl, (refl, e));
    only = λ u s a q rd. (let k : t ∷ ts ≡ a ∷ s = q ∙ ap (λ z. z ++ s) rd.0 in inl (cc, cc));
    farthest = λ u s q fr. one_at_most t ts u s q fr;
  }
  token_cases t ts false e = record {
    found = ([], refl, inl refl);
    only = λ u s a q rd. absurd (other_token t a ts u s e q rd.0 rd.1);
    farthest = λ u s q fr. elim fr [
      | inl n ↦ omega (arith, ap length (all_left (t ∷ ts) u s q n))
      | inr w ↦ absurd (other_token t w.0 ts u s e q w.1 w.2)
    ];
  }

  pub token_exact : (ts : List T) → Exact (λ _. false) (token p) ts (token_at p ts)
  token_exact [] = record {
    found = ([], refl, inl refl);
    only = λ u s a q rd. absurd (let k : [] ≡ a ∷ s = q ∙ ap (λ z. z ++ s) rd.0 in cc);
    farthest = λ u s q fr. omega arith;
  }
  token_exact (t ∷ ts) = token_cases t ts (p t) refl

-- a value made of the value
module _ {T A B : Type 0} (h : A → B) (l : Language T A) where
  pub firsts_made : (first : T → Bool) → Firsts first l → Firsts first (made h l)
  firsts_made first w = record { empty = w.empty; whole = λ ts b rd. w.whole ts rd.0 rd.1; begins = w.begins }

  pub solid_made : Solid l → Solid (made h l)
  solid_made s b rd = s rd.0 rd.1

  made_cases : (c : T → Bool) (ts : List T) (x : Answer T A) → Exact c l ts x → Exact c (made h l) ts (x >>= λ (a, r). Ok (h a, r))
  made_cases c ts (Ok (a, r)) k = record {
    found = (k.found.0, k.found.1, (a, k.found.2, refl));
    only = λ u s b e rd. elim (k.only u s rd.0 e rd.1) [ inl q ↦ inl (rd.2 ∙ ap h q.0, q.1) | inr q ↦ inr q ];
    farthest = k.farthest;
  }
  made_cases c ts (Err (At r)) k = record { found = k.found; only = λ u s b e rd. k.only u s rd.0 e rd.1; farthest = k.farthest }

  pub made_exact : (c : T → Bool) (f : List T → Answer T A) (ts : List T) → Exact c l ts (f ts) → Exact c (made h l) ts (made_at h f ts)
  made_exact c f ts k = made_cases c ts (f ts) k

-- with what the first token shows
module _ {T P A : Type 0} (h : T → P) (d : P) (l : Language T A) where
  pub firsts_marked : (first : T → Bool) → Firsts first l → Firsts first (marked h d l)
  firsts_marked first w = record { empty = w.empty; whole = λ ts pa rd. w.whole ts pa.1 rd.0; begins = w.begins }

  module _ (solid : Solid l) where
    pub solid_marked : Solid (marked h d l)
    solid_marked pa rd = solid pa.1 rd.0

    same_head : (ts u r : List T) (a : A) → ts ≡ u ++ r → l.reads u a → head_of h d u ≡ head_of h d ts
    same_head ts [] r a e rd = absurd (solid a rd)
    same_head ts (x ∷ u) r a e rd = ap (head_of h d) (sym e)

    marked_cases : (c : T → Bool) (ts : List T) (x : Answer T A) → Exact c l ts x → Exact c (marked h d l) ts (x >>= λ (a, r). Ok ((head_of h d ts, a), r))
    marked_cases c ts (Ok (a, r)) k = record {
      found = (k.found.0, k.found.1, (k.found.2, sym (same_head ts k.found.0 r a k.found.1 k.found.2)));
      only = λ u s pa e rd. elim (k.only u s pa.1 e rd.0) [ inl q ↦ inl ((λ i. ((rd.1 ∙ same_head ts u s pa.1 e rd.0) i, q.0 i)), q.1) | inr b ↦ inr b ];
      farthest = k.farthest;
    }
    marked_cases c ts (Err (At r)) k = record { found = k.found; only = λ u s pa e rd. k.only u s pa.1 e rd.0; farthest = k.farthest }

    pub marked_exact : (c : T → Bool) (f : List T → Answer T A) (ts : List T) → Exact c l ts (f ts) → Exact c (marked h d l) ts (marked_at h d f ts)
    marked_exact c f ts k = marked_cases c ts (f ts) k

-- the empty list
pub firsts_empty : {T : Type 0} (first : T → Bool) → Firsts first (empty {T = T})
firsts_empty first = record { empty = refl; whole = λ ts a rd. rd; begins = λ t ts fr. absurd cc }

pub empty_exact : {T : Type 0} (c : T → Bool) (ts : List T) → Exact c empty ts (empty_at ts)
empty_exact c ts = record {
  found = ([], refl, refl);
  only = λ u s a e rd. inl (refl, sym (all_left ts u s e rd));
  farthest = λ u s e fr. omega (arith, ap length (all_left ts u s e fr));
}

-- nothing
pub firsts_never : {T A : Type 0} (first : T → Bool) → Firsts first (never {T = T} {A = A})
firsts_never first = record { empty = refl; whole = λ ts a rd. absurd rd; begins = λ t ts fr. absurd cc }
