-- The one or the other, and what may be missing.
use Rattle.std.proofs.Common.{◌≡◌, List, [], ◌∷◌, ◌++◌, length, Bool, true, false, IsTrue, inl, inr, refl, sym, ap, ◌∙◌, subst, arith, Ok, Err, cond, Some, None}
use Rattle.qvt_grammar.specs.Language.{Language, either, made, empty, maybe}
use Rattle.qvt_grammar.specs.Reader.{At, Answer, Begins, Exact, made_at, starts, choose_at, empty_at, maybe_at}
use Rattle.qvt_grammar.proofs.Lists.{rest_shorter}
use Rattle.qvt_grammar.proofs.Firsts.{Within, Apart, Firsts, Solid, firsts_made, made_exact, firsts_empty, empty_exact}

pub firsts_either : {T A : Type 0} (first1 first2 first : T → Bool) (l m : Language T A) → Firsts first1 l → Firsts first2 m → Within first1 first → Within first2 first → Firsts first (either l m)
firsts_either first1 first2 first l m w1 w2 in1 in2 = record {
  empty = inl w1.empty;
  whole = λ ts a rd. elim rd [ inl q ↦ inl (w1.whole ts a q) | inr q ↦ inr (w2.whole ts a q) ];
  begins = λ t ts fr. elim fr [ inl q ↦ in1 t (w1.begins t ts q) | inr q ↦ in2 t (w2.begins t ts q) ];
}

pub solid_either : {T A : Type 0} (l m : Language T A) → Solid l → Solid m → Solid (either l m)
solid_either l m s1 s2 a (inl rd) = s1 a rd
solid_either l m s1 s2 a (inr rd) = s2 a rd

-- a side that gives no front but the empty one at ts, and each reading of which goes on with a token of c
pub record IsIdle {T A : Type 0} (c : T → Bool) (l : Language T A) (ts : List T) : Type 0 where
  pub only : (u s : List T) (a : A) → ts ≡ u ++ s → l.reads u a → Begins c s
  pub none : (u s : List T) → ts ≡ u ++ s → l.front u → ts ≡ s

-- the first side is taken, and the second is idle there
pub first_taken : {T A : Type 0} (c : T → Bool) (l m : Language T A) (ts : List T) (x : Answer T A) → IsIdle c m ts → Exact c l ts x → Exact c (either l m) ts x
first_taken c l m ts (Ok (a, r)) idle k = record {
  found = (k.found.0, k.found.1, inl k.found.2);
  only = λ u s b e rd. elim rd [ inl q ↦ k.only u s b e q | inr q ↦ inr (idle.only u s b e q) ];
  farthest = λ u s e fr. elim fr [
    | inl q ↦ k.farthest u s e q
    | inr q ↦ (let le = rest_shorter ts k.found.0 r k.found.1 in let z = ap length (idle.none u s e q) in omega arith)
  ];
}
first_taken c l m ts (Err (At r)) idle k = record {
  found = (k.found.0, k.found.1, inl k.found.2);
  only = λ u s b e rd. elim rd [ inl q ↦ k.only u s b e q | inr q ↦ idle.only u s b e q ];
  farthest = λ u s e fr. elim fr [
    | inl q ↦ k.farthest u s e q
    | inr q ↦ (let le = rest_shorter ts k.found.0 r k.found.1 in let z = ap length (idle.none u s e q) in omega arith)
  ];
}

-- the sides may be exchanged
pub exact_swap : {T A : Type 0} (c : T → Bool) (l m : Language T A) (ts : List T) (x : Answer T A) → Exact c (either l m) ts x → Exact c (either m l) ts x
exact_swap c l m ts (Ok (a, r)) k = record {
  found = (k.found.0, k.found.1, elim k.found.2 [ inl q ↦ inr q | inr q ↦ inl q ]);
  only = λ u s b e rd. k.only u s b e (elim rd [ inl q ↦ inr q | inr q ↦ inl q ]);
  farthest = λ u s e fr. k.farthest u s e (elim fr [ inl q ↦ inr q | inr q ↦ inl q ]);
}
exact_swap c l m ts (Err (At r)) k = record {
  found = (k.found.0, k.found.1, elim k.found.2 [ inl q ↦ inr q | inr q ↦ inl q ]);
  only = λ u s b e rd. k.only u s b e (elim rd [ inl q ↦ inr q | inr q ↦ inl q ]);
  farthest = λ u s e fr. k.farthest u s e (elim fr [ inl q ↦ inr q | inr q ↦ inl q ]);
}

-- the next token passes the test p, and so begins the first side alone, or fails it, and so begins the second alone
module _ {T A : Type 0} (p c first1 first2 : T → Bool) (l m : Language T A) (w1 : Firsts first1 l) (w2 : Firsts first2 m)
    (solid : Solid l) (in1 : Within first1 p) (apart : Apart p first2) (over : (a : A) → m.reads [] a → Within p c) where
  second_idle : (t : T) (ts : List T) → IsTrue (p t) → IsIdle c m (t ∷ ts)
  second_idle t ts h = record { only = reads; none = fronts } where
    reads : (u s : List T) (a : A) → t ∷ ts ≡ u ++ s → m.reads u a → Begins c s
    reads [] s a e rd = subst (Begins c) e (over a rd t h)
    reads (x ∷ u) s a e rd = absurd (apart x (let k : t ≡ x = cc in subst (λ z. IsTrue (p z)) k h) (w2.begins x u (w2.whole _ _ rd)))

    fronts : (u s : List T) → t ∷ ts ≡ u ++ s → m.front u → t ∷ ts ≡ s
    fronts [] s e fr = e
    fronts (x ∷ u) s e fr = absurd (apart x (let k : t ≡ x = cc in subst (λ z. IsTrue (p z)) k h) (w2.begins x u fr))

  first_idle : (ts : List T) → starts p ts ≡ false → IsIdle c l ts
  first_idle ts h = record { only = reads; none = fronts } where
    reads : (u s : List T) (a : A) → ts ≡ u ++ s → l.reads u a → Begins c s
    reads [] s a e rd = absurd (solid a rd)
    reads (x ∷ u) s a e rd =
        absurd (let k : true ≡ false = sym (in1 x (w1.begins x u (w1.whole _ _ rd))) ∙ sym (ap (starts p) e) ∙ h in cc)

    fronts : (u s : List T) → ts ≡ u ++ s → l.front u → ts ≡ s
    fronts [] s e fr = e
    fronts (x ∷ u) s e fr = absurd (let k : true ≡ false = sym (in1 x (w1.begins x u fr)) ∙ sym (ap (starts p) e) ∙ h in cc)

  choose_cases : (f g : List T → Answer T A) (ts : List T) (b : Bool) → starts p ts ≡ b → Exact c l ts (f ts) → Exact c m ts (g ts) → Exact c (either l m) ts (cond b (f ts) (g ts))
  choose_cases f g [] true e h k = absurd cc
  choose_cases f g (t ∷ ts) true e h k = first_taken c l m (t ∷ ts) (f (t ∷ ts)) (second_idle t ts e) h
  choose_cases f g ts false e h k = exact_swap c m l ts (g ts) (first_taken c m l ts (g ts) (first_idle ts e) k)

  pub either_exact : (f g : List T → Answer T A) (ts : List T) → Exact c l ts (f ts) → Exact c m ts (g ts) → Exact c (either l m) ts (choose_at p f g ts)
  either_exact f g ts h k = choose_cases f g ts (starts p ts) refl h k

-- one, or nothing
module _ {T A : Type 0} (p c first : T → Bool) (l : Language T A) (w : Firsts first l) where
  pub firsts_maybe : Firsts first (maybe l)
  firsts_maybe = firsts_either first first first (made Some l) (made (λ _. None) empty) (firsts_made Some l first w) (firsts_made (λ _. None) empty first (firsts_empty first)) (λ t h. h) (λ t h. h)

  module _ (solid : Solid l) (in1 : Within first p) (over : Within p c) where
    pub maybe_exact : (f : List T → Answer T A) (ts : List T) → Exact c l ts (f ts) → Exact c (maybe l) ts (maybe_at p f ts)
    maybe_exact f ts h =
        either_exact p c first (λ _. false) (made Some l) (made (λ _. None) empty) (firsts_made Some l first w) (firsts_made (λ _. None) empty (λ _. false) (firsts_empty (λ _. false)))
        (λ a rd. solid rd.0 rd.1) in1 (λ t q z. absurd cc) (λ a rd. over)
        (made_at Some f) (made_at (λ _. None) empty_at) ts (made_exact Some l c f ts h) (made_exact (λ _. None) empty c empty_at ts (empty_exact c ts))
