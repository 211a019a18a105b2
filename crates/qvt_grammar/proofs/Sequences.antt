-- One part after the other.
use Rattle.std.proofs.Common.{◌≡◌, ◌≤◌, List, [], ◌∷◌, ◌++◌, length, Bool, IsTrue, inl, inr, refl, sym, ap, ◌∙◌, subst, arith, Ok, Err}
use Rattle.qvt_grammar.specs.Language.{Language, follow, then}
use Rattle.qvt_results.specs.Bind.{◌>>=◌}
use Rattle.qvt_grammar.specs.Reader.{At, Answer, Begins, IsFarthest, IsReading, IsStuck, Exact, follow_at, then_at}
use Rattle.qvt_grammar.proofs.Lists.{regroup, grouped, rest_shorter, nil_left, nil_right}
use Rattle.qvt_grammar.proofs.Firsts.{Within, Apart, Firsts, Solid, begins_within, read_begins}

-- c1 has what may go on after a reading of the first part, c2 what may go on after one of the second, and c what may go
-- on after both; no token both goes on with the first and begins the second
module _ {T A B : Type 0} (c1 c2 c : T → Bool) (first2 : A → T → Bool) (l : Language T A) (m : A → Language T B)
    (whole1 : (ts : List T) (a : A) → l.reads ts a → l.front ts) (w2 : (a : A) → Firsts (first2 a) (m a))
    (apart : (a : A) → Apart c1 (first2 a)) (over : (a : A) (b : B) → (m a).reads [] b → Within c1 c) (sub : Within c2 c) where
  -- after a first part that may go on the second part is empty
  none_left : (a : A) (v s : List T) → (m a).front v → Begins c1 (v ++ s) → v ≡ []
  none_left a [] s fr h = refl
  none_left a (t ∷ v) s fr h = absurd (apart a t h ((w2 a).begins t v fr))

  over_begins : (a : A) (v s : List T) (b : B) → (m a).reads v b → Begins c1 (v ++ s) → Begins c s
  over_begins a [] s b rd h = begins_within c1 c (over a b rd) s h
  over_begins a (t ∷ v) s b rd h = absurd (apart a t h ((w2 a).begins t v ((w2 a).whole _ _ rd)))

  first_farthest : (ts r u s v w : List T) (a : A) → IsFarthest l ts r → ts ≡ u ++ s → u ≡ v ++ w → l.reads v a → (m a).front w → Begins c1 (w ++ s) → length r ≤ length s
  first_farthest ts r u s v w a far e d rd fr b =
      let none = none_left a w s fr b in
      far v s (regroup ts u s v w e d ∙ ap (λ z. v ++ (z ++ s)) none) (whole1 v a rd)

  follow_stuck : (ts r : List T) → IsStuck c1 l ts r → IsStuck c (follow l m) ts r
  follow_stuck ts r h = record {
    found = (h.found.0, h.found.1, inl h.found.2);
    only = λ u s ab e rd. over_begins ab.0 rd.1 s ab.1 rd.4 (h.only rd.0 (rd.1 ++ s) ab.0 (regroup ts u s rd.0 rd.1 e rd.2) rd.3);
    farthest = λ u s e fr. elim fr [
      | inl q ↦ h.farthest u s e q
      | inr w ↦ first_farthest ts r u s w.0 w.1 w.2 h.farthest e w.3 w.4 w.5 (h.only w.0 (w.1 ++ s) w.2 (regroup ts u s w.0 w.1 e w.3) w.4)
    ];
  }

  follow_farthest : (ts : List T) (a : A) (r r2 : List T) → IsReading c1 l ts a r → length r2 ≤ length r → IsFarthest (m a) r r2 → IsFarthest (follow l m) ts r2
  follow_farthest ts a r r2 h le far u s e fr = elim fr [
    | inl q ↦ (let k = h.farthest u s e q in omega arith)
    | inr w ↦ elim (h.only w.0 (w.1 ++ s) w.2 (regroup ts u s w.0 w.1 e w.3) w.4) [
      | inl p ↦ far w.1 s (sym p.1) (subst (λ z. (m z).front w.1) p.0 w.5)
      | inr b ↦ (let k = first_farthest ts r u s w.0 w.1 w.2 h.farthest e w.3 w.4 w.5 b in omega arith)
    ]
  ]

  follow_second : (ts : List T) (a : A) (r : List T) → IsReading c1 l ts a r → (y : Answer T B) → Exact c2 (m a) r y → Exact c (follow l m) ts (y >>= λ (b, s). Ok ((a, b), s))
  follow_second ts a r h (Ok (b, r2)) k = record {
    found = (h.found.0 ++ k.found.0, grouped ts r r2 h.found.0 k.found.0 h.found.1 k.found.1, (h.found.0, k.found.0, refl, h.found.2, k.found.2));
    only = λ u s ab e rd. elim (h.only rd.0 (rd.1 ++ s) ab.0 (regroup ts u s rd.0 rd.1 e rd.2) rd.3) [
      | inl p ↦ elim (k.only rd.1 s ab.1 (sym p.1) (subst (λ z. (m z).reads rd.1 ab.1) p.0 rd.4)) [ inl q ↦ inl ((λ i. (p.0 i, q.0 i)), q.1) | inr b2 ↦ inr (begins_within c2 c sub s b2) ]
      | inr b1 ↦ inr (over_begins ab.0 rd.1 s ab.1 rd.4 b1)
    ];
    farthest = follow_farthest ts a r r2 h (rest_shorter r k.found.0 r2 k.found.1) k.farthest;
  }
  follow_second ts a r h (Err (At r2)) k = record {
    found = (h.found.0 ++ k.found.0, grouped ts r r2 h.found.0 k.found.0 h.found.1 k.found.1, inr (h.found.0, k.found.0, a, refl, h.found.2, k.found.2));
    only = λ u s ab e rd. elim (h.only rd.0 (rd.1 ++ s) ab.0 (regroup ts u s rd.0 rd.1 e rd.2) rd.3) [
      | inl p ↦ begins_within c2 c sub s (k.only rd.1 s ab.1 (sym p.1) (subst (λ z. (m z).reads rd.1 ab.1) p.0 rd.4))
      | inr b1 ↦ over_begins ab.0 rd.1 s ab.1 rd.4 b1
    ];
    farthest = follow_farthest ts a r r2 h (rest_shorter r k.found.0 r2 k.found.1) k.farthest;
  }

  follow_first : (g : A → List T → Answer T B) (ts : List T) → ((u r : List T) (a : A) → ts ≡ u ++ r → l.reads u a → Exact c2 (m a) r (g a r)) → (x : Answer T A) → Exact c1 l ts x → Exact c (follow l m) ts (x >>= λ (a, r). g a r >>= λ (b, s). Ok ((a, b), s))
  follow_first g ts hg (Ok (a, r)) h = follow_second ts a r h (g a r) (hg h.found.0 r a h.found.1 h.found.2)
  follow_first g ts hg (Err (At r)) h = follow_stuck ts r h

  -- the second reader is exact after what the first language reads
  pub follow_exact : (f : List T → Answer T A) (g : A → List T → Answer T B) (ts : List T) → Exact c1 l ts (f ts) → ((u r : List T) (a : A) → ts ≡ u ++ r → l.reads u a → Exact c2 (m a) r (g a r)) → Exact c (follow l m) ts (follow_at f g ts)
  follow_exact f g ts h hg = follow_first g ts hg (f ts) h

-- the same where the second part does not depend on the first
module _ {T A B : Type 0} (c1 c2 c first2 : T → Bool) (l : Language T A) (m : Language T B) (whole1 : (ts : List T) (a : A) → l.reads ts a → l.front ts) (w2 : Firsts first2 m)
    (apart : Apart c1 first2) (over : (b : B) → m.reads [] b → Within c1 c) (sub : Within c2 c) where
  pub then_exact_after : (f : List T → Answer T A) (g : List T → Answer T B) (ts : List T) → Exact c1 l ts (f ts) → ((u r : List T) (a : A) → ts ≡ u ++ r → l.reads u a → Exact c2 m r (g r)) → Exact c (then l m) ts (then_at f g ts)
  then_exact_after f g ts h hg = follow_exact c1 c2 c (λ _. first2) l (λ _. m) whole1 (λ _. w2) (λ _. apart) (λ a b rd. over b rd) sub f (λ _. g) ts h hg

  pub then_exact : (f : List T → Answer T A) (g : List T → Answer T B) (ts : List T) → Exact c1 l ts (f ts) → ((r : List T) → Exact c2 m r (g r)) → Exact c (then l m) ts (then_at f g ts)
  then_exact f g ts h hg = then_exact_after f g ts h (λ u r a e rd. hg r)

-- what a sequence begins with, where the first part is not empty
module _ {T A B : Type 0} (first1 : T → Bool) (first2 : A → T → Bool) (l : Language T A) (m : A → Language T B) (w1 : Firsts first1 l) (w2 : (a : A) → Firsts (first2 a) (m a)) (solid : Solid l) where
  pub firsts_follow : Firsts first1 (follow l m)
  firsts_follow = record {
    empty = inl w1.empty;
    whole = λ ts ab rd. inr (rd.0, rd.1, ab.0, rd.2, rd.3, (w2 ab.0).whole rd.1 ab.1 rd.4);
    begins = λ t ts fr. elim fr [ inl q ↦ w1.begins t ts q | inr w ↦ read_begins first1 l w1 solid t ts w.0 w.1 w.2 w.3 w.4 ];
  }

pub firsts_then : {T A B : Type 0} (first1 first2 : T → Bool) (l : Language T A) (m : Language T B) → Firsts first1 l → Firsts first2 m → Solid l → Firsts first1 (then l m)
firsts_then first1 first2 l m w1 w2 solid = firsts_follow first1 (λ _. first2) l (λ _. m) w1 (λ _. w2) solid

pub solid_first : {T A B : Type 0} (l : Language T A) (m : A → Language T B) → Solid l → Solid (follow l m)
solid_first l m s ab rd = s ab.0 (subst (λ z. l.reads z ab.0) (nil_left rd.0 rd.1 rd.2) rd.3)

pub solid_second : {T A B : Type 0} (l : Language T A) (m : A → Language T B) → ((a : A) → Solid (m a)) → Solid (follow l m)
solid_second l m s ab rd = s ab.0 ab.1 (subst (λ z. (m ab.0).reads z ab.1) (nil_right rd.0 rd.1 rd.2) rd.4)

-- what a sequence begins with, where the first part may be empty
module _ {T A B : Type 0} (first1 first2 first : T → Bool) (l : Language T A) (m : Language T B) (w1 : Firsts first1 l) (w2 : Firsts first2 m) (in1 : Within first1 first) (in2 : Within first2 first) where
  either_begins : (t : T) (ts u v : List T) (a : A) → t ∷ ts ≡ u ++ v → l.reads u a → m.front v → IsTrue (first t)
  either_begins t ts [] v a e rd fr = in2 t (w2.begins t ts (subst m.front (sym e) fr))
  either_begins t ts (x ∷ u) v a e rd fr = let k : x ≡ t = cc in subst (λ z. IsTrue (first z)) k (in1 x (w1.begins x u (w1.whole _ _ rd)))

  pub firsts_then_over : Firsts first (then l m)
  firsts_then_over = record {
    empty = inl w1.empty;
    whole = λ ts ab rd. inr (rd.0, rd.1, ab.0, rd.2, rd.3, w2.whole rd.1 ab.1 rd.4);
    begins = λ t ts fr. elim fr [ inl q ↦ in1 t (w1.begins t ts q) | inr w ↦ either_begins t ts w.0 w.1 w.2 w.3 w.4 w.5 ];
  }
