-- Exact readers where what may go on after a reading depends on the value that is read.
use Rattle.std.proofs.Common.{◌≡◌, ◌≤◌, List, [], ◌∷◌, ◌++◌, length, Bool, true, false, IsTrue, ◌⊎◌, inl, inr, refl, sym, ap, ◌∙◌, subst, arith, Ok, Err, cond}
use Rattle.qvt_grammar.specs.Language.{Language, follow, either, made, marked, head_of}
use Rattle.qvt_results.specs.Bind.{◌>>=◌}
use Rattle.qvt_grammar.specs.Reader.{At, Answer, Begins, IsFarthest, Exact, follow_at, made_at, choose_at, starts, marked_at}
use Rattle.qvt_grammar.proofs.Lists.{regroup, grouped, rest_shorter}
use Rattle.qvt_grammar.proofs.Firsts.{Within, Apart, Firsts, Solid, begins_within}

pub record IsReadingV {T A : Type 0} (c : A → T → Bool) (l : Language T A) (ts : List T) (a : A) (r : List T) : Type 0 where
  pub found : (u : List T) × (ts ≡ u ++ r) × l.reads u a
  pub only : (u s : List T) (b : A) → ts ≡ u ++ s → l.reads u b → ((b ≡ a) × (s ≡ r)) ⊎ Begins (c b) s
  pub farthest : IsFarthest l ts r

pub record IsStuckV {T A : Type 0} (c : A → T → Bool) (l : Language T A) (ts r : List T) : Type 0 where
  pub found : (u : List T) × (ts ≡ u ++ r) × l.front u
  pub only : (u s : List T) (b : A) → ts ≡ u ++ s → l.reads u b → Begins (c b) s
  pub farthest : IsFarthest l ts r

abbrev pub ExactV : {T A : Type 0} → (A → T → Bool) → Language T A → List T → Answer T A → Type 0
ExactV c l ts (Ok (a, r)) = IsReadingV c l ts a r
ExactV c l ts (Err (At r)) = IsStuckV c l ts r

pub valued : {T A : Type 0} (c : T → Bool) (l : Language T A) (ts : List T) (x : Answer T A) → Exact c l ts x → ExactV (λ _. c) l ts x
valued c l ts (Ok (a, r)) k = record { found = k.found; only = k.only; farthest = k.farthest }
valued c l ts (Err (At r)) k = record { found = k.found; only = k.only; farthest = k.farthest }

-- all values alike
pub unvalued : {T A : Type 0} (c : A → T → Bool) (d : T → Bool) (l : Language T A) (ts : List T) (x : Answer T A) → ((a : A) → Within (c a) d) → ExactV c l ts x → Exact d l ts x
unvalued c d l ts (Ok (a, r)) w k = record {
  found = k.found;
  only = λ u s b e rd. elim (k.only u s b e rd) [ inl q ↦ inl q | inr q ↦ inr (begins_within (c b) d (w b) s q) ];
  farthest = k.farthest;
}
unvalued c d l ts (Err (At r)) w k = record { found = k.found; only = λ u s b e rd. begins_within (c b) d (w b) s (k.only u s b e rd); farthest = k.farthest }

module _ {T A B : Type 0} (h : A → B) (l : Language T A) (c : A → T → Bool) (d : B → T → Bool) (w : (a : A) → Within (c a) (d (h a))) where
  into : (b : B) (a : A) (s : List T) → b ≡ h a → Begins (c a) s → Begins (d b) s
  into b a s e q = subst (λ z. Begins (d z) s) (sym e) (begins_within (c a) (d (h a)) (w a) s q)

  made_cases : (ts : List T) (x : Answer T A) → ExactV c l ts x → ExactV d (made h l) ts (x >>= λ (a, r). Ok (h a, r))
  made_cases ts (Ok (a, r)) k = record {
    found = (k.found.0, k.found.1, (a, k.found.2, refl));
    only = λ u s b e rd. elim (k.only u s rd.0 e rd.1) [ inl q ↦ inl (rd.2 ∙ ap h q.0, q.1) | inr q ↦ inr (into b rd.0 s rd.2 q) ];
    farthest = k.farthest;
  }
  made_cases ts (Err (At r)) k = record { found = k.found; only = λ u s b e rd. into b rd.0 s rd.2 (k.only u s rd.0 e rd.1); farthest = k.farthest }

  pub valued_made : (f : List T → Answer T A) (ts : List T) → ExactV c l ts (f ts) → ExactV d (made h l) ts (made_at h f ts)
  valued_made f ts k = made_cases ts (f ts) k

module _ {T P A : Type 0} (h : T → P) (d : P) (l : Language T A) (solid : Solid l) (c : A → T → Bool) where
  same_head : (ts u r : List T) (a : A) → ts ≡ u ++ r → l.reads u a → head_of h d u ≡ head_of h d ts
  same_head ts [] r a e rd = absurd (solid a rd)
  same_head ts (x ∷ u) r a e rd = ap (head_of h d) (sym e)

  marked_cases : (ts : List T) (x : Answer T A) → ExactV c l ts x → ExactV (λ pa. c pa.1) (marked h d l) ts (x >>= λ (a, r). Ok ((head_of h d ts, a), r))
  marked_cases ts (Ok (a, r)) k = record {
    found = (k.found.0, k.found.1, (k.found.2, sym (same_head ts k.found.0 r a k.found.1 k.found.2)));
    only = λ u s pa e rd. elim (k.only u s pa.1 e rd.0) [ inl q ↦ inl ((λ i. ((rd.1 ∙ same_head ts u s pa.1 e rd.0) i, q.0 i)), q.1) | inr b ↦ inr b ];
    farthest = k.farthest;
  }
  marked_cases ts (Err (At r)) k = record { found = k.found; only = λ u s pa e rd. k.only u s pa.1 e rd.0; farthest = k.farthest }

  pub valued_marked : (f : List T → Answer T A) (ts : List T) → ExactV c l ts (f ts) → ExactV (λ pa. c pa.1) (marked h d l) ts (marked_at h d f ts)
  valued_marked f ts k = marked_cases ts (f ts) k

module _ {T A B : Type 0} (c1 : A → T → Bool) (c2 : A → B → T → Bool) (c : A × B → T → Bool) (first2 : A → T → Bool) (l : Language T A) (m : A → Language T B)
    (whole1 : (ts : List T) (a : A) → l.reads ts a → l.front ts) (w2 : (a : A) → Firsts (first2 a) (m a))
    (apart : (a : A) → Apart (c1 a) (first2 a)) (over : (a : A) (b : B) → (m a).reads [] b → Within (c1 a) (c (a, b))) (sub : (a : A) (b : B) → Within (c2 a b) (c (a, b))) where
  none_left : (a : A) (v s : List T) → (m a).front v → Begins (c1 a) (v ++ s) → v ≡ []
  none_left a [] s fr h = refl
  none_left a (t ∷ v) s fr h = absurd (apart a t h ((w2 a).begins t v fr))

  over_begins : (a : A) (v s : List T) (b : B) → (m a).reads v b → Begins (c1 a) (v ++ s) → Begins (c (a, b)) s
  over_begins a [] s b rd h = begins_within (c1 a) (c (a, b)) (over a b rd) s h
  over_begins a (t ∷ v) s b rd h = absurd (apart a t h ((w2 a).begins t v ((w2 a).whole _ _ rd)))

  first_farthest : (ts r u s v w : List T) (a : A) → IsFarthest l ts r → ts ≡ u ++ s → u ≡ v ++ w → l.reads v a → (m a).front w → Begins (c1 a) (w ++ s) → length r ≤ length s
  first_farthest ts r u s v w a far e d rd fr b =
      let none = none_left a w s fr b in
      far v s (regroup ts u s v w e d ∙ ap (λ z. v ++ (z ++ s)) none) (whole1 v a rd)

  follow_stuck : (ts r : List T) → IsStuckV c1 l ts r → IsStuckV c (follow l m) ts r
  follow_stuck ts r h = record {
    found = (h.found.0, h.found.1, inl h.found.2);
    only = λ u s ab e rd. over_begins ab.0 rd.1 s ab.1 rd.4 (h.only rd.0 (rd.1 ++ s) ab.0 (regroup ts u s rd.0 rd.1 e rd.2) rd.3);
    farthest = λ u s e fr. elim fr [
      | inl q ↦ h.farthest u s e q
      | inr w ↦ first_farthest ts r u s w.0 w.1 w.2 h.farthest e w.3 w.4 w.5 (h.only w.0 (w.1 ++ s) w.2 (regroup ts u s w.0 w.1 e w.3) w.4)
    ];
  }

  follow_farthest : (ts : List T) (a : A) (r r2 : List T) → IsReadingV c1 l ts a r → length r2 ≤ length r → IsFarthest (m a) r r2 → IsFarthest (follow l m) ts r2
  follow_farthest ts a r r2 h le far u s e fr = elim fr [
    | inl q ↦ (let k = h.farthest u s e q in omega arith)
    | inr w ↦ elim (h.only w.0 (w.1 ++ s) w.2 (regroup ts u s w.0 w.1 e w.3) w.4) [
      | inl p ↦ far w.1 s (sym p.1) (subst (λ z. (m z).front w.1) p.0 w.5)
      | inr b ↦ (let k = first_farthest ts r u s w.0 w.1 w.2 h.farthest e w.3 w.4 w.5 b in omega arith)
    ]
  ]

  same_pair : (a a2 : A) (b b2 : B) (v s r : List T) → a ≡ a2 → (m a).reads v b → ((z : (m a2).reads v b) → ((b ≡ b2) × (s ≡ r)) ⊎ Begins (c2 a2 b) s) → ((◌≡◌ {A = A × B} (a, b) (a2, b2)) × (s ≡ r)) ⊎ Begins (c (a, b)) s
  same_pair a a2 b b2 v s r e rd k = elim (k (subst (λ z. (m z).reads v b) e rd)) [
    | inl q ↦ inl ((λ i. (e i, q.0 i)), q.1)
    | inr q ↦ inr (subst (λ z. Begins (c (z, b)) s) (sym e) (begins_within (c2 a2 b) (c (a2, b)) (sub a2 b) s q))
  ]

  follow_second : (ts : List T) (a : A) (r : List T) → IsReadingV c1 l ts a r → (y : Answer T B) → ExactV (c2 a) (m a) r y → ExactV c (follow l m) ts (y >>= λ (b, s). Ok ((a, b), s))
  follow_second ts a r h (Ok (b, r2)) k = record {
    found = (h.found.0 ++ k.found.0, grouped ts r r2 h.found.0 k.found.0 h.found.1 k.found.1, (h.found.0, k.found.0, refl, h.found.2, k.found.2));
    only = λ u s ab e rd. elim (h.only rd.0 (rd.1 ++ s) ab.0 (regroup ts u s rd.0 rd.1 e rd.2) rd.3) [
      | inl p ↦ same_pair ab.0 a ab.1 b rd.1 s r2 p.0 rd.4 (λ z. k.only rd.1 s ab.1 (sym p.1) z)
      | inr b1 ↦ inr (over_begins ab.0 rd.1 s ab.1 rd.4 b1)
    ];
    farthest = follow_farthest ts a r r2 h (rest_shorter r k.found.0 r2 k.found.1) k.farthest;
  }
  follow_second ts a r h (Err (At r2)) k = record {
    found = (h.found.0 ++ k.found.0, grouped ts r r2 h.found.0 k.found.0 h.found.1 k.found.1, inr (h.found.0, k.found.0, a, refl, h.found.2, k.found.2));
    only = λ u s ab e rd. elim (h.only rd.0 (rd.1 ++ s) ab.0 (regroup ts u s rd.0 rd.1 e rd.2) rd.3) [
      | inl p ↦ (let q = k.only rd.1 s ab.1 (sym p.1) (subst (λ z. (m z).reads rd.1 ab.1) p.0 rd.4) in subst (λ z. Begins (c (z, ab.1)) s) (sym p.0) (begins_within (c2 a ab.1) (c (a, ab.1)) (sub a ab.1) s q))
      | inr b1 ↦ over_begins ab.0 rd.1 s ab.1 rd.4 b1
    ];
    farthest = follow_farthest ts a r r2 h (rest_shorter r k.found.0 r2 k.found.1) k.farthest;
  }

  follow_first : (g : A → List T → Answer T B) (ts : List T) → ((a : A) (r : List T) → ExactV (c2 a) (m a) r (g a r)) → (x : Answer T A) → ExactV c1 l ts x → ExactV c (follow l m) ts (x >>= λ (a, r). g a r >>= λ (b, s). Ok ((a, b), s))
  follow_first g ts hg (Ok (a, r)) h = follow_second ts a r h (g a r) (hg a r)
  follow_first g ts hg (Err (At r)) h = follow_stuck ts r h

  pub valued_follow : (f : List T → Answer T A) (g : A → List T → Answer T B) (ts : List T) → ExactV c1 l ts (f ts) → ((a : A) (r : List T) → ExactV (c2 a) (m a) r (g a r)) → ExactV c (follow l m) ts (follow_at f g ts)
  valued_follow f g ts h hg = follow_first g ts hg (f ts) h

-- the one side or the other, by the next token
module _ {T A : Type 0} (p first1 first2 : T → Bool) (c : A → T → Bool) (l m : Language T A) (w1 : Firsts first1 l) (w2 : Firsts first2 m)
    (solid1 : Solid l) (solid2 : Solid m) (in1 : Within first1 p) (apart : Apart p first2) where
  none_second : (t : T) (ts u s : List T) → IsTrue (p t) → t ∷ ts ≡ u ++ s → m.front u → t ∷ ts ≡ s
  none_second t ts [] s h e fr = e
  none_second t ts (x ∷ u) s h e fr = absurd (apart x (let k : t ≡ x = cc in subst (λ z. IsTrue (p z)) k h) (w2.begins x u fr))

  none_first : (ts u s : List T) → starts p ts ≡ false → ts ≡ u ++ s → l.front u → ts ≡ s
  none_first ts [] s h e fr = e
  none_first ts (x ∷ u) s h e fr = absurd (let k : true ≡ false = sym (in1 x (w1.begins x u fr)) ∙ sym (ap (starts p) e) ∙ h in cc)

  no_second : (t : T) (ts u s : List T) (a : A) → IsTrue (p t) → t ∷ ts ≡ u ++ s → m.reads u a → ⊥
  no_second t ts [] s a h e rd = solid2 a rd
  no_second t ts (x ∷ u) s a h e rd = apart x (let k : t ≡ x = cc in subst (λ z. IsTrue (p z)) k h) (w2.begins x u (w2.whole _ _ rd))

  no_first : (ts u s : List T) (a : A) → starts p ts ≡ false → ts ≡ u ++ s → l.reads u a → ⊥
  no_first ts [] s a h e rd = solid1 a rd
  no_first ts (x ∷ u) s a h e rd = let k : true ≡ false = sym (in1 x (w1.begins x u (w1.whole _ _ rd))) ∙ sym (ap (starts p) e) ∙ h in cc

  take_first : (t : T) (ts : List T) (x : Answer T A) → IsTrue (p t) → ExactV c l (t ∷ ts) x → ExactV c (either l m) (t ∷ ts) x
  take_first t ts (Ok (a, r)) h k = record {
    found = (k.found.0, k.found.1, inl k.found.2);
    only = λ u s b e rd. elim rd [ inl q ↦ k.only u s b e q | inr q ↦ absurd (no_second t ts u s b h e q) ];
    farthest = λ u s e fr. elim fr [ inl q ↦ k.farthest u s e q | inr q ↦ (let le = rest_shorter (t ∷ ts) k.found.0 r k.found.1 in let z = ap length (none_second t ts u s h e q) in omega arith) ];
  }
  take_first t ts (Err (At r)) h k = record {
    found = (k.found.0, k.found.1, inl k.found.2);
    only = λ u s b e rd. elim rd [ inl q ↦ k.only u s b e q | inr q ↦ absurd (no_second t ts u s b h e q) ];
    farthest = λ u s e fr. elim fr [ inl q ↦ k.farthest u s e q | inr q ↦ (let le = rest_shorter (t ∷ ts) k.found.0 r k.found.1 in let z = ap length (none_second t ts u s h e q) in omega arith) ];
  }

  take_second : (ts : List T) (x : Answer T A) → starts p ts ≡ false → ExactV c m ts x → ExactV c (either l m) ts x
  take_second ts (Ok (a, r)) h k = record {
    found = (k.found.0, k.found.1, inr k.found.2);
    only = λ u s b e rd. elim rd [ inl q ↦ absurd (no_first ts u s b h e q) | inr q ↦ k.only u s b e q ];
    farthest = λ u s e fr. elim fr [ inl q ↦ (let le = rest_shorter ts k.found.0 r k.found.1 in let z = ap length (none_first ts u s h e q) in omega arith) | inr q ↦ k.farthest u s e q ];
  }
  take_second ts (Err (At r)) h k = record {
    found = (k.found.0, k.found.1, inr k.found.2);
    only = λ u s b e rd. elim rd [ inl q ↦ absurd (no_first ts u s b h e q) | inr q ↦ k.only u s b e q ];
    farthest = λ u s e fr. elim fr [ inl q ↦ (let le = rest_shorter ts k.found.0 r k.found.1 in let z = ap length (none_first ts u s h e q) in omega arith) | inr q ↦ k.farthest u s e q ];
  }

  choose_cases : (f g : List T → Answer T A) (ts : List T) (b : Bool) → starts p ts ≡ b → ExactV c l ts (f ts) → ExactV c m ts (g ts) → ExactV c (either l m) ts (cond b (f ts) (g ts))
  choose_cases f g [] true e h k = absurd cc
  choose_cases f g (t ∷ ts) true e h k = take_first t ts (f (t ∷ ts)) e h
  choose_cases f g ts false e h k = take_second ts (g ts) e k

  pub valued_either : (f g : List T → Answer T A) (ts : List T) → ExactV c l ts (f ts) → ExactV c m ts (g ts) → ExactV c (either l m) ts (choose_at p f g ts)
  valued_either f g ts h k = choose_cases f g ts (starts p ts) refl h k

pub valued_within : {T A : Type 0} (c d : A → T → Bool) (l : Language T A) (ts : List T) (x : Answer T A) → ((a : A) → Within (c a) (d a)) → ExactV c l ts x → ExactV d l ts x
valued_within c d l ts (Ok (a, r)) w k = record {
  found = k.found;
  only = λ u s b e rd. elim (k.only u s b e rd) [ inl q ↦ inl q | inr q ↦ inr (begins_within (c b) (d b) (w b) s q) ];
  farthest = k.farthest;
}
valued_within c d l ts (Err (At r)) w k = record { found = k.found; only = λ u s b e rd. begins_within (c b) (d b) (w b) s (k.only u s b e rd); farthest = k.farthest }
