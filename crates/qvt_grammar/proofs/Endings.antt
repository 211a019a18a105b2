-- Any number of turns of one kind, and then perhaps one of another, where both kinds may begin with the same tokens. What may
-- go on depends on whether the last one is there.
use Rattle.std.proofs.Common.{◌≡◌, ℕ, zero, suc, ◌≤◌, ◌<◌, List, [], ◌∷◌, ◌++◌, length, Bool, true, false, IsTrue, ◌⊎◌, inl, inr, refl, sym, ap, ◌∙◌, subst, arith, append_assoc, Ok, Err, cond, Option, Some, None}
use Rattle.qvt_grammar.specs.Language.{Language, turns, lastly, ended}
use Rattle.qvt_results.specs.Bind.{◌>>=◌}
use Rattle.qvt_grammar.specs.Reader.{At, Answer, Begins, IsFarthest, starts, after_turn, ended_turns, ended_at}
use Rattle.qvt_grammar.proofs.Lists.{regroup, grouped, rest_shorter, all_left, nil_right}
use Rattle.qvt_grammar.proofs.Firsts.{Within, Apart, Firsts, Solid, begins_within, read_begins}
use Rattle.qvt_grammar.proofs.Repeats.{begins_of, read_less}
use Rattle.qvt_grammar.proofs.Valued.{IsReadingV, IsStuckV, ExactV}

abbrev pub reads_either : {T A B : Type 0} → Language T A → Language T B → List T → A ⊎ B → Type 0
reads_either l m u (inl a) = l.reads u a
reads_either l m u (inr b) = m.reads u b

-- no front of either kind leaves less than r
abbrev pub IsFarthestTurn : {T A B : Type 0} → Language T A → Language T B → List T → List T → Type 0
IsFarthestTurn {T} l m ts r = (u s : List T) → ts ≡ u ++ s → l.front u ⊎ m.front u → length r ≤ length s

-- the answer for one turn: another reading of l goes on with a token of c1, another of m with one of c2
pub record IsTurn {T A B : Type 0} (c1 c2 : T → Bool) (l : Language T A) (m : Language T B) (ts : List T) (x : A ⊎ B) (r : List T) : Type 0 where
  pub found : (u : List T) × (ts ≡ u ++ r) × (reads_either l m u x)
  pub only1 : (u s : List T) (a : A) → ts ≡ u ++ s → l.reads u a → ((x ≡ inl a) × (s ≡ r)) ⊎ Begins c1 s
  pub only2 : (u s : List T) (b : B) → ts ≡ u ++ s → m.reads u b → ((x ≡ inr b) × (s ≡ r)) ⊎ Begins c2 s
  pub farthest : IsFarthestTurn l m ts r

pub record IsStuckTurn {T A B : Type 0} (c1 c2 : T → Bool) (l : Language T A) (m : Language T B) (ts r : List T) : Type 0 where
  pub found : (u : List T) × (ts ≡ u ++ r) × (l.front u ⊎ m.front u)
  pub only1 : (u s : List T) (a : A) → ts ≡ u ++ s → l.reads u a → Begins c1 s
  pub only2 : (u s : List T) (b : B) → ts ≡ u ++ s → m.reads u b → Begins c2 s
  pub farthest : IsFarthestTurn l m ts r

abbrev pub ExactTurn : {T A B : Type 0} → (T → Bool) → (T → Bool) → Language T A → Language T B → List T → Answer T (A ⊎ B) → Type 0
ExactTurn c1 c2 l m ts (Ok (x, r)) = IsTurn c1 c2 l m ts x r
ExactTurn c1 c2 l m ts (Err (At r)) = IsStuckTurn c1 c2 l m ts r

abbrev pub chosen : {T B : Type 0} → (T → Bool) → (T → Bool) → Option B → T → Bool
chosen c d None = c
chosen c d (Some b) = d

-- p has every token with which either kind begins, c what may go on where the last turn is of the first kind; where it is of
-- the other, that is what may go on after it
module _ {T A B : Type 0} (p c1 c2 c : T → Bool) (l : Language T A) (m : Language T B) (w1 : Firsts p l) (w2 : Firsts p m) (solid1 : Solid l) (solid2 : Solid m)
    (apart : Apart c1 p) (sub1 : Within c1 c) (more : Within p c) where
  front_begins : (got : List A) (t : T) (ts u v : List T) → t ∷ ts ≡ u ++ v → turns l u got → ((v ≡ []) ⊎ (l.front v ⊎ m.front v)) → IsTrue (p t)
  front_begins [] t ts u v e rd (inl n) = absurd (let k : t ∷ ts ≡ [] = all_left (t ∷ ts) u v e rd ∙ n in cc)
  front_begins [] t ts u v e rd (inr (inl fr)) = w1.begins t ts (subst l.front (sym (all_left (t ∷ ts) u v e rd)) fr)
  front_begins [] t ts u v e rd (inr (inr fr)) = w2.begins t ts (subst m.front (sym (all_left (t ∷ ts) u v e rd)) fr)
  front_begins (a ∷ got) t ts u v e rd q = read_begins p l w1 solid1 t ts rd.0 (rd.1 ++ v) a (regroup (t ∷ ts) u v rd.0 rd.1 e rd.2) rd.3

  last_front : (v : List T) (o : Option B) → lastly m v o → (v ≡ []) ⊎ (l.front v ⊎ m.front v)
  last_front v None rd = inl rd
  last_front v (Some b) rd = inr (inr (w2.whole v b rd))

  pub firsts_ended : Firsts p (ended l m)
  firsts_ended = record {
    empty = ([], [], [], refl, refl, inl refl);
    whole = λ ts got rd. (got.0, rd.0, rd.1, rd.2, rd.3, last_front rd.1 got.1 rd.4);
    begins = λ t ts fr. front_begins fr.0 t ts fr.1 fr.2 fr.3 fr.4 fr.5;
  }

  -- after a turn that may go on nothing more is read
  nothing_after : (v s : List T) → (ended l m).front v → Begins c1 (v ++ s) → v ≡ []
  nothing_after [] s fr h = refl
  nothing_after (t ∷ v) s fr h = absurd (apart t h (firsts_ended.begins t v fr))

  ends_by : (v s : List T) → (ended l m).front v → Begins c1 (v ++ s) → Begins c s
  ends_by v s fr h = let n = nothing_after v s fr h in begins_within c1 c sub1 s (subst (λ z. Begins c1 (z ++ s)) n h)

  tail_front : (got : List A) (o : Option B) (u v : List T) → turns l u got → lastly m v o → (ended l m).front (u ++ v)
  tail_front got o u v rd q = (got, u, v, refl, rd, last_front v o q)

  ends_as : (got : List A) (o : Option B) (u v s : List T) → turns l u got → lastly m v o → Begins c1 ((u ++ v) ++ s) → Begins (chosen c c2 o) s
  ends_as got None u v s rd q h = ends_by (u ++ v) s (tail_front got None u v rd q) h
  ends_as got (Some b) u v s rd q h =
      absurd (solid2 b (subst (λ z. m.reads z b) (nil_right u v (sym (nothing_after (u ++ v) s (tail_front got (Some b) u v rd q) h))) q))

  no_front : (ts u s : List T) → starts p ts ≡ false → ts ≡ u ++ s → (ended l m).front u → u ≡ []
  no_front ts [] s h e fr = refl
  no_front ts (x ∷ u) s h e fr = absurd (let k : true ≡ false = sym (firsts_ended.begins x u fr) ∙ sym (ap (starts p) e) ∙ h in cc)

  none_got : (ts : List T) (got : List A) (o : Option B) (u v : List T) → ts ≡ u ++ v → ts ≡ [] → turns l u got → lastly m v o → ◌≡◌ {A = List A × Option B} (got, o) ([], None)
  none_got ts [] None u v e n rd q = refl
  none_got ts [] (Some b) u v e n rd q = absurd (solid2 b (subst (λ z. m.reads z b) (sym (all_left ts u v e rd) ∙ n) q))
  none_got ts (a ∷ got) o u v e n rd q =
      absurd (let k = read_less l solid1 ts rd.0 (rd.1 ++ v) a (regroup ts u v rd.0 rd.1 e rd.2) rd.3 in omega (arith, ap length n))

  no_turn : (ts : List T) → starts p ts ≡ false → IsReadingV (λ all. chosen c c2 all.1) (ended l m) ts ([], None) ts
  no_turn ts h = record {
    found = ([], refl, ([], [], refl, refl, refl));
    only = λ u s got e rd. (let n = no_front ts u s h e (firsts_ended.whole u got rd) in
        inl (none_got u got.0 got.1 rd.0 rd.1 rd.2 n rd.3 rd.4, sym (all_left ts u s e n)));
    farthest = λ u s e fr. (let n = no_front ts u s h e fr in omega (arith, ap length (all_left ts u s e n)));
  }

  at_start : (ts u s : List T) → starts p ts ≡ true → ts ≡ u ++ s → u ≡ [] → Begins c s
  at_start ts u s h e n = subst (Begins c) (all_left ts u s e n) (begins_within p c more ts (begins_of p ts h))

  only_last : (ts u s v w : List T) → ts ≡ u ++ s → u ≡ v ++ w → v ≡ [] → ts ≡ w ++ s
  only_last ts u s v w e d n = e ∙ ap (λ z. z ++ s) (all_left u v w d n)

  after_first : (ts u s v w v0 v1 : List T) → ts ≡ u ++ s → u ≡ v ++ w → v ≡ v0 ++ v1 → ts ≡ v0 ++ ((v1 ++ w) ++ s)
  after_first ts u s v w v0 v1 e d f = regroup ts u s v0 (v1 ++ w) e (regroup u v w v0 v1 d f)

  -- no front goes farther than r, given what becomes of one that begins with a turn of l
  farthest_by : (ts r : List T) → length r ≤ length ts → IsFarthestTurn l m ts r
      → ((u w s : List T) (a : A) → ts ≡ u ++ (w ++ s) → l.reads u a → (ended l m).front w → length r ≤ length s)
      → (got : List A) (u s v w : List T) → ts ≡ u ++ s → u ≡ v ++ w → turns l v got → ((w ≡ []) ⊎ (l.front w ⊎ m.front w)) → length r ≤ length s
  farthest_by ts r le one tail [] u s v w e d rd (inl n) = omega (arith, ap length (all_left ts u s e (all_left u v w d rd ∙ n)))
  farthest_by ts r le one tail [] u s v w e d rd (inr fr) = one w s (only_last ts u s v w e d rd) fr
  farthest_by ts r le one tail (a ∷ got) u s v w e d rd q =
      tail rd.0 (rd.1 ++ w) s a (after_first ts u s v w rd.0 rd.1 e d rd.2) rd.3 (got, rd.1, w, refl, rd.4, q)

  -- a turn after which a token of c1 stands is all of a front
  by_next : (ts r : List T) → IsFarthestTurn l m ts r → (u w s : List T) (a : A) → ts ≡ u ++ (w ++ s) → l.reads u a → (ended l m).front w → Begins c1 (w ++ s) → length r ≤ length s
  by_next ts r one u w s a e rd fr b =
      let n = nothing_after w s fr b in one u s (e ∙ ap (λ z. u ++ (z ++ s)) n) (inl (w1.whole u a rd))

  stuck_only : (ts r : List T) → starts p ts ≡ true → IsStuckTurn c1 c2 l m ts r → (got : List A) (o : Option B) (u s v w : List T) → ts ≡ u ++ s → u ≡ v ++ w → turns l v got → lastly m w o → Begins (chosen c c2 o) s
  stuck_only ts r h k [] None u s v w e d rd q = at_start ts u s h e (all_left u v w d rd ∙ q)
  stuck_only ts r h k [] (Some b) u s v w e d rd q = k.only2 w s b (only_last ts u s v w e d rd) q
  stuck_only ts r h k (a ∷ got) o u s v w e d rd q =
      ends_as got o rd.1 w s rd.4 q (k.only1 rd.0 ((rd.1 ++ w) ++ s) a (after_first ts u s v w rd.0 rd.1 e d rd.2) rd.3)

  stuck_turn : (ts r : List T) → starts p ts ≡ true → IsStuckTurn c1 c2 l m ts r → IsStuckV (λ all. chosen c c2 all.1) (ended l m) ts r
  stuck_turn ts r h k = record {
    found = (k.found.0, k.found.1, ([], [], k.found.0, refl, refl, inr k.found.2));
    only = λ u s got e rd. stuck_only ts r h k got.0 got.1 u s rd.0 rd.1 e rd.2 rd.3 rd.4;
    farthest = λ u s e fr. farthest_by ts r (rest_shorter ts k.found.0 r k.found.1) k.farthest
        (λ u w s a e rd fr. by_next ts r k.farthest u w s a e rd fr (k.only1 u (w ++ s) a e rd)) fr.0 u s fr.1 fr.2 e fr.3 fr.4 fr.5;
  }

  last_only : (ts r : List T) (b : B) → starts p ts ≡ true → IsTurn c1 c2 l m ts (inr b) r → (got : List A) (o : Option B) (u s v w : List T) → ts ≡ u ++ s → u ≡ v ++ w → turns l v got → lastly m w o
      → ((◌≡◌ {A = List A × Option B} (got, o) ([], Some b)) × (s ≡ r)) ⊎ Begins (chosen c c2 o) s
  last_only ts r b h k [] None u s v w e d rd q = inr (at_start ts u s h e (all_left u v w d rd ∙ q))
  last_only ts r b h k [] (Some x) u s v w e d rd q = elim (k.only2 w s x (only_last ts u s v w e d rd) q) [
    | inl z ↦ inl ((let same : x ≡ b = (let y = z.0 in cc) in λ i. ([], Some (same i))), z.1)
    | inr z ↦ inr (z)
  ]
  last_only ts r b h k (a ∷ got) o u s v w e d rd q = elim (k.only1 rd.0 ((rd.1 ++ w) ++ s) a (after_first ts u s v w rd.0 rd.1 e d rd.2) rd.3) [
    | inl z ↦ absurd (let y = z.0 in cc)
    | inr z ↦ inr (ends_as got o rd.1 w s rd.4 q z)
  ]

  last_turn : (ts r : List T) (b : B) → starts p ts ≡ true → IsTurn c1 c2 l m ts (inr b) r → IsReadingV (λ all. chosen c c2 all.1) (ended l m) ts ([], Some b) r
  last_turn ts r b h k = record {
    found = (k.found.0, k.found.1, ([], k.found.0, refl, refl, k.found.2));
    only = λ u s got e rd. last_only ts r b h k got.0 got.1 u s rd.0 rd.1 e rd.2 rd.3 rd.4;
    farthest = λ u s e fr. farthest_by ts r (rest_shorter ts k.found.0 r k.found.1) k.farthest
        (λ u w s a e rd fr. elim (k.only1 u (w ++ s) a e rd) [ inl z ↦ absurd (let y = z.0 in cc) | inr z ↦ by_next ts r k.farthest u w s a e rd fr z ])
        fr.0 u s fr.1 fr.2 e fr.3 fr.4 fr.5;
  }

  more_only : (ts r r2 : List T) (a : A) (all : List A × Option B) → starts p ts ≡ true → IsTurn c1 c2 l m ts (inl a) r → IsReadingV (λ all. chosen c c2 all.1) (ended l m) r all r2 → (got : List A) (o : Option B) (u s v w : List T) → ts ≡ u ++ s → u ≡ v ++ w → turns l v got → lastly m w o
      → ((◌≡◌ {A = List A × Option B} (got, o) (a ∷ all.0, all.1)) × (s ≡ r2)) ⊎ Begins (chosen c c2 o) s
  more_only ts r r2 a all h k g [] None u s v w e d rd q = inr (at_start ts u s h e (all_left u v w d rd ∙ q))
  more_only ts r r2 a all h k g [] (Some x) u s v w e d rd q = elim (k.only2 w s x (only_last ts u s v w e d rd) q) [
    | inl z ↦ absurd (let y = z.0 in cc)
    | inr z ↦ inr (z)
  ]
  more_only ts r r2 a all h k g (x ∷ got) o u s v w e d rd q = elim (k.only1 rd.0 ((rd.1 ++ w) ++ s) x (after_first ts u s v w rd.0 rd.1 e d rd.2) rd.3) [
    | inl z ↦ elim (g.only (rd.1 ++ w) s (got, o) (sym z.1) (rd.1, w, refl, rd.4, q)) [
      | inl y ↦ inl ((let same : x ≡ a = (let j = z.0 in cc) in λ i. (same i ∷ (y.0 i).0, (y.0 i).1)), y.1)
      | inr y ↦ inr y
    ]
    | inr z ↦ inr (ends_as got o rd.1 w s rd.4 q z)
  ]

  more_stuck : (ts r r2 : List T) (a : A) → starts p ts ≡ true → IsTurn c1 c2 l m ts (inl a) r → IsStuckV (λ all. chosen c c2 all.1) (ended l m) r r2 → (got : List A) (o : Option B) (u s v w : List T) → ts ≡ u ++ s → u ≡ v ++ w → turns l v got → lastly m w o → Begins (chosen c c2 o) s
  more_stuck ts r r2 a h k g [] None u s v w e d rd q = at_start ts u s h e (all_left u v w d rd ∙ q)
  more_stuck ts r r2 a h k g [] (Some x) u s v w e d rd q = elim (k.only2 w s x (only_last ts u s v w e d rd) q) [
    | inl z ↦ absurd (let y = z.0 in cc)
    | inr z ↦ z
  ]
  more_stuck ts r r2 a h k g (x ∷ got) o u s v w e d rd q = elim (k.only1 rd.0 ((rd.1 ++ w) ++ s) x (after_first ts u s v w rd.0 rd.1 e d rd.2) rd.3) [
    | inl z ↦ g.only (rd.1 ++ w) s (got, o) (sym z.1) (rd.1, w, refl, rd.4, q)
    | inr z ↦ ends_as got o rd.1 w s rd.4 q z
  ]

  more_farthest : (ts r r2 : List T) (a : A) → IsTurn c1 c2 l m ts (inl a) r → length r2 ≤ length r → IsFarthest (ended l m) r r2 → IsFarthest (ended l m) ts r2
  more_farthest ts r r2 a k le g u s e fr =
      farthest_by ts r2 (let z = rest_shorter ts k.found.0 r k.found.1 in omega arith) (λ u s e q. let z = k.farthest u s e q in omega arith)
      (λ u w s x e rd fr. elim (k.only1 u (w ++ s) x e rd) [
        | inl z ↦ g w s (sym z.1) fr
        | inr z ↦ by_next ts r2 (λ u s e q. let y = k.farthest u s e q in omega arith) u w s x e rd fr z
      ]) fr.0 u s fr.1 fr.2 e fr.3 fr.4 fr.5

  more_front : (u v : List T) (a : A) → l.reads u a → (ended l m).front v → (ended l m).front (u ++ v)
  more_front u v a rd fr = (a ∷ fr.0, u ++ fr.1, fr.2, ap (λ z. u ++ z) fr.3 ∙ sym (append_assoc u fr.1 fr.2), (u, fr.1, refl, rd, fr.4), fr.5)

  one_more : (ts r : List T) (a : A) → starts p ts ≡ true → IsTurn c1 c2 l m ts (inl a) r → (y : Answer T (List A × Option B)) → ExactV (λ all. chosen c c2 all.1) (ended l m) r y → ExactV (λ all. chosen c c2 all.1) (ended l m) ts (y >>= λ (got, s). Ok ((a ∷ got.0, got.1), s))
  one_more ts r a h k (Ok (all, r2)) g = record {
    found = (
      k.found.0 ++ g.found.0,
      grouped ts r r2 k.found.0 g.found.0 k.found.1 g.found.1,
      (k.found.0 ++ g.found.2.0, g.found.2.1, ap (λ z. k.found.0 ++ z) g.found.2.2 ∙ sym (append_assoc k.found.0 g.found.2.0 g.found.2.1), (k.found.0, g.found.2.0, refl, k.found.2, g.found.2.3), g.found.2.4),
    );
    only = λ u s z e rd. more_only ts r r2 a all h k g z.0 z.1 u s rd.0 rd.1 e rd.2 rd.3 rd.4;
    farthest = more_farthest ts r r2 a k (rest_shorter r g.found.0 r2 g.found.1) g.farthest;
  }
  one_more ts r a h k (Err (At r2)) g = record {
    found = (k.found.0 ++ g.found.0, grouped ts r r2 k.found.0 g.found.0 k.found.1 g.found.1, more_front k.found.0 g.found.0 a k.found.2 g.found.2);
    only = λ u s z e rd. more_stuck ts r r2 a h k g z.0 z.1 u s rd.0 rd.1 e rd.2 rd.3 rd.4;
    farthest = more_farthest ts r r2 a k (rest_shorter r g.found.0 r2 g.found.1) g.farthest;
  }

  module _ (f : List T → Answer T (A ⊎ B)) (hf : (r : List T) → ExactTurn c1 c2 l m r (f r)) where
    turn_cases : (n : ℕ) (ts : List T) → starts p ts ≡ true → (x : Answer T (A ⊎ B)) → ExactTurn c1 c2 l m ts x → ((r : List T) → length r < length ts → ExactV (λ all. chosen c c2 all.1) (ended l m) r (ended_turns n p f r))
        → ExactV (λ all. chosen c c2 all.1) (ended l m) ts (x >>= λ (x, r). after_turn (ended_turns n p f) x r)
    turn_cases n ts h (Ok (inl a, r)) k ih = one_more ts r a h k (ended_turns n p f r) (ih r (read_less l solid1 ts k.found.0 r a k.found.1 k.found.2))
    turn_cases n ts h (Ok (inr b, r)) k ih = last_turn ts r b h k
    turn_cases n ts h (Err (At r)) k ih = stuck_turn ts r h k

    start_cases : (n : ℕ) (ts : List T) (b : Bool) → starts p ts ≡ b → ((r : List T) → length r < length ts → ExactV (λ all. chosen c c2 all.1) (ended l m) r (ended_turns n p f r))
        → ExactV (λ all. chosen c c2 all.1) (ended l m) ts (cond b (f ts >>= λ (x, r). after_turn (ended_turns n p f) x r) (Ok (([], None), ts)))
    start_cases n ts false e ih = no_turn ts e
    start_cases n ts true e ih = turn_cases n ts e (f ts) (hf ts) ih

    turns_exact : (n : ℕ) (ts : List T) → length ts ≤ n → ExactV (λ all. chosen c c2 all.1) (ended l m) ts (ended_turns n p f ts)
    turns_exact zero [] le = no_turn [] refl
    turns_exact zero (t ∷ ts) le = absurd (omega arith)
    turns_exact (suc n) ts le = start_cases n ts (starts p ts) refl (λ r lt. turns_exact n r (omega arith))

    pub valued_ended : (ts : List T) → ExactV (λ all. chosen c c2 all.1) (ended l m) ts (ended_at p f ts)
    valued_ended ts = turns_exact (length ts) ts (omega arith)
