-- Any number of turns.
use Rattle.std.proofs.Common.{◌≡◌, ℕ, zero, suc, ◌≤◌, ◌<◌, List, [], ◌∷◌, ◌++◌, length, Bool, true, false, IsTrue, ◌⊎◌, inl, inr, refl, sym, ap, ◌∙◌, subst, arith, append_assoc, append-nil, length-append, Ok, Err, cond}
use Rattle.qvt_grammar.specs.Language.{Language, then, many, turns}
use Rattle.qvt_results.specs.Bind.{◌>>=◌}
use Rattle.qvt_grammar.specs.Reader.{At, Answer, Begins, IsFarthest, IsReading, IsStuck, Exact, then_at, made_at, starts, turns_at, many_at}
use Rattle.qvt_grammar.proofs.Lists.{regroup, rest_shorter, all_left}
use Rattle.qvt_grammar.proofs.Firsts.{Within, Apart, Firsts, Solid, begins_within, read_begins}
use Rattle.qvt_grammar.proofs.Sequences.{then_exact_after}

pub begins_of : {T : Type 0} (p : T → Bool) (ts : List T) → starts p ts ≡ true → Begins p ts
begins_of p [] h = absurd cc
begins_of p (t ∷ ts) h = h

-- what a solid language reads leaves less
pub read_less : {T A : Type 0} (l : Language T A) → Solid l → (ts u r : List T) (a : A) → ts ≡ u ++ r → l.reads u a → length r < length ts
read_less l solid ts [] r a e rd = absurd (solid a rd)
read_less l solid ts (x ∷ u) r a e rd = omega (arith, ap length e, length-append u r)

module _ {T A : Type 0} (first : T → Bool) (l : Language T A) (w : Firsts first l) (solid : Solid l) where
  turns_begin : (got : List A) (t : T) (ts u v : List T) → t ∷ ts ≡ u ++ v → turns l u got → ((v ≡ []) ⊎ l.front v) → IsTrue (first t)
  turns_begin [] t ts u v e rd (inl n) = absurd (let k : t ∷ ts ≡ [] = all_left (t ∷ ts) u v e rd ∙ n in cc)
  turns_begin [] t ts u v e rd (inr fr) = w.begins t ts (subst l.front (sym (all_left (t ∷ ts) u v e rd)) fr)
  turns_begin (a ∷ got) t ts u v e rd q = read_begins first l w solid t ts rd.0 (rd.1 ++ v) a (regroup (t ∷ ts) u v rd.0 rd.1 e rd.2) rd.3

  pub firsts_many : Firsts first (many l)
  firsts_many = record {
    empty = ([], [], [], refl, refl, inl refl);
    whole = λ ts got rd. (got, ts, [], sym (append-nil ts), rd, inl refl);
    begins = λ t ts fr. turns_begin fr.0 t ts fr.1 fr.2 fr.3 fr.4 fr.5;
  }

-- p tests the next token; c1 has what may go on after one turn, c what may go on after all
module _ {T A : Type 0} (p c1 c first : T → Bool) (l : Language T A) (w : Firsts first l) (solid : Solid l)
    (in1 : Within first p) (apart : Apart c1 first) (sub : Within c1 c) (more : Within p c) where
  no_front : (ts u s : List T) → starts p ts ≡ false → ts ≡ u ++ s → (many l).front u → u ≡ []
  no_front ts [] s h e fr = refl
  no_front ts (x ∷ u) s h e fr =
      absurd (let k : true ≡ false = sym (in1 x ((firsts_many first l w solid).begins x u fr)) ∙ sym (ap (starts p) e) ∙ h in cc)

  none_got : (u : List T) (got : List A) → u ≡ [] → turns l u got → got ≡ []
  none_got u [] e rd = refl
  none_got u (a ∷ got) e rd = absurd (let z = read_less l solid u rd.0 rd.1 a rd.2 rd.3 in omega (arith, ap length e))

  no_turn : (ts : List T) → starts p ts ≡ false → IsReading c (many l) ts [] ts
  no_turn ts h = record {
    found = ([], refl, refl);
    only = λ u s got e rd. (let n = no_front ts u s h e ((firsts_many first l w solid).whole u got rd) in inl (none_got u got n rd, sym (all_left ts u s e n)));
    farthest = λ u s e fr. (let n = no_front ts u s h e fr in omega (arith, ap length (all_left ts u s e n)));
  }

  -- many turns are none, or one and then many
  unrolled : (got : List A) (u v w : List T) → u ≡ v ++ w → turns l v got → ((w ≡ []) ⊎ l.front w) → (u ≡ []) ⊎ (then l (many l)).front u
  unrolled [] u v w e rd (inl n) = inl (all_left u v w e rd ∙ n)
  unrolled [] u v w e rd (inr fr) = inr (inl (subst l.front (sym (all_left u v w e rd)) fr))
  unrolled (a ∷ got) u v w e rd q = inr (inr (rd.0, rd.1 ++ w, a, regroup u v w rd.0 rd.1 e rd.2, rd.3, (got, rd.1, w, refl, rd.4, q)))

  rolled : (u : List T) → (then l (many l)).front u → (many l).front u
  rolled u (inl fr) = ([], [], u, refl, refl, inr fr)
  rolled u (inr q) = (q.2 ∷ q.5.0, q.0 ++ q.5.1, q.5.2, q.3 ∙ ap (λ z. q.0 ++ z) q.5.3 ∙ sym (append_assoc q.0 q.5.1 q.5.2), (q.0, q.5.1, refl, q.4, q.5.4), q.5.5)

  at_start : (ts : List T) → starts p ts ≡ true → (u s : List T) → ts ≡ u ++ s → u ≡ [] → Begins c s
  at_start ts h u s e n = subst (Begins c) (all_left ts u s e n) (begins_within p c more ts (begins_of p ts h))

  many_farthest : (ts r : List T) → length r ≤ length ts → IsFarthest (then l (many l)) ts r → IsFarthest (many l) ts r
  many_farthest ts r le k u s e fr = elim (unrolled fr.0 u fr.1 fr.2 fr.3 fr.4 fr.5) [
    | inl n ↦ omega (arith, ap length (all_left ts u s e n))
    | inr q ↦ k u s e q
  ]

  only_more : (ts : List T) (a : A) (got : List A) (r : List T) → starts p ts ≡ true → IsReading c (then l (many l)) ts (a, got) r → (u s : List T) (bs : List A) → ts ≡ u ++ s → turns l u bs → ((bs ≡ a ∷ got) × (s ≡ r)) ⊎ Begins c s
  only_more ts a got r h k u s [] e rd = inr (at_start ts h u s e rd)
  only_more ts a got r h k u s (b ∷ bs) e rd = elim (k.only u s (b, bs) e rd) [ inl q ↦ inl ((λ i. (q.0 i).0 ∷ (q.0 i).1), q.1) | inr q ↦ inr q ]

  only_stuck : (ts r : List T) → starts p ts ≡ true → IsStuck c (then l (many l)) ts r → (u s : List T) (bs : List A) → ts ≡ u ++ s → turns l u bs → Begins c s
  only_stuck ts r h k u s [] e rd = at_start ts h u s e rd
  only_stuck ts r h k u s (b ∷ bs) e rd = k.only u s (b, bs) e rd

  one_more : (ts : List T) → starts p ts ≡ true → (x : Answer T (A × List A)) → Exact c (then l (many l)) ts x → Exact c (many l) ts (x >>= λ (ab, r). Ok (ab.0 ∷ ab.1, r))
  one_more ts h (Ok ((a, got), r)) k = record {
    found = (k.found.0, k.found.1, k.found.2);
    only = only_more ts a got r h k;
    farthest = many_farthest ts r (rest_shorter ts k.found.0 r k.found.1) k.farthest;
  }
  one_more ts h (Err (At r)) k = record {
    found = (k.found.0, k.found.1, rolled k.found.0 k.found.2);
    only = only_stuck ts r h k;
    farthest = many_farthest ts r (rest_shorter ts k.found.0 r k.found.1) k.farthest;
  }

  module _ (f : List T → Answer T A) (hf : (r : List T) → Exact c1 l r (f r)) where
    turn_cases : (n : ℕ) (ts : List T) (b : Bool) → starts p ts ≡ b → ((u r : List T) (a : A) → ts ≡ u ++ r → l.reads u a → Exact c (many l) r (turns_at n p f r))
        → Exact c (many l) ts (cond b (made_at (λ ab. ab.0 ∷ ab.1) (then_at f (turns_at n p f)) ts) (Ok ([], ts)))
    turn_cases n ts false e ih = no_turn ts e
    turn_cases n ts true e ih =
        one_more ts e _ (then_exact_after c1 c c first l (many l) w.whole (firsts_many first l w solid) apart (λ b rd. sub) (λ t q. q) f (turns_at n p f) ts (hf ts) ih)

    turns_exact : (n : ℕ) (ts : List T) → length ts ≤ n → Exact c (many l) ts (turns_at n p f ts)
    turns_exact zero [] le = no_turn [] refl
    turns_exact zero (t ∷ ts) le = absurd (omega arith)
    turns_exact (suc n) ts le = turn_cases n ts (starts p ts) refl (λ u r a e rd. turns_exact n r (let q = read_less l solid ts u r a e rd in omega arith))

    pub many_exact : (ts : List T) → Exact c (many l) ts (many_at p f ts)
    many_exact ts = turns_exact (length ts) ts (omega arith)
