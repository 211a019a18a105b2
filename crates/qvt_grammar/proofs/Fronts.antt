-- The fronts that the forms tell are the lists with which some read list begins.
use Rattle.std.proofs.Common.{◌≡◌, List, [], ◌∷◌, ◌++◌, Bool, IsTrue, ◌⊎◌, inl, inr, refl, sym, ap, ◌∙◌, subst, append_assoc, append-nil, Option, Some, None}
use Rattle.qvt_grammar.specs.Language.{Language, token, follow, then, either, many, turns, made, empty, maybe, marked, head_of, lastly, ended}
use Rattle.qvt_grammar.proofs.Lists.{two_cuts}
use Rattle.qvt_grammar.proofs.Wider.{Sub, sub_follow, sub_either, sub_made, sub_marked, sub_many, sub_maybe, sub_turns}

-- what begins a read list is a front
pub record Closed {T A : Type 0} (l : Language T A) : Type 0 where
  pub front : (ts v : List T) (a : A) → l.reads (ts ++ v) a → l.front ts

abbrev pub Each : {T : Type 0} → (T → Type 0) → List T → Type 0
Each P [] = Unit {0}
Each P (t ∷ ts) = P t × Each P ts

pub each_both : {T : Type 0} (P : T → Type 0) (u v : List T) → Each P u → Each P v → Each P (u ++ v)
each_both P [] v h k = k
each_both P (t ∷ u) v h k = (h.0, each_both P u v h.1 k)

-- m reads some list, and completes each front of l, by tokens of which P holds
pub record Completes {T A : Type 0} (P : T → Type 0) (l m : Language T A) : Type 0 where
  pub within : Sub l m
  pub some : (ts : List T) × (a : A) × m.reads ts a × Each P ts
  pub whole : (ts : List T) → l.front ts → (v : List T) × (a : A) × m.reads (ts ++ v) a × Each P v

module _ {T : Type 0} (p : T → Bool) where
  front_token : (ts v : List T) (a : T) → (token p).reads (ts ++ v) a → (token p).front ts
  front_token [] v a rd = inl refl
  front_token (t ∷ []) v a rd = (let k : t ≡ a = (let e = rd.0 in cc) in inr (t, refl, subst (λ z. IsTrue (p z)) (sym k) rd.1))
  front_token (t ∷ s ∷ ts) v a rd = absurd (let e = rd.0 in cc)

  pub closed_token : Closed (token p)
  closed_token = record { front = front_token }

  pub completes_token : (P : T → Type 0) (t : T) → P t → IsTrue (p t) → Completes P (token p) (token p)
  completes_token P t k h = record {
    within = record { reads = λ ts a q. q; front = λ ts q. q };
    some = (t ∷ [], t, (refl, h), (k, tt));
    whole = λ ts fr. elim fr [
      | inl e ↦ (t ∷ [], t, (ap (λ z. z ++ (t ∷ [])) e, h), (k, tt))
      | inr w ↦ ([], w.0, (append-nil ts ∙ w.1, w.2), tt)
    ];
  }

pub closed_follow : {T A B : Type 0} (l : Language T A) (m : A → Language T B) → Closed l → ((a : A) → Closed (m a)) → Closed (follow l m)
closed_follow l m cl cm = record {
  front = λ ts v ab rd. elim (two_cuts ts v rd.0 rd.1 rd.2) [
    | inl w ↦ inl (cl.front ts w.0 ab.0 (subst (λ z. l.reads z ab.0) w.1 rd.3))
    | inr w ↦ inr (rd.0, w.0, ab.0, w.1, rd.3, (cm ab.0).front w.0 v ab.1 (subst (λ z. (m ab.0).reads z ab.1) w.2 rd.4))
  ];
}

pub completes_follow : {T A B : Type 0} {P : T → Type 0} (l l2 : Language T A) (m m2 : A → Language T B) → Completes P l l2 → ((a : A) → Completes P (m a) (m2 a)) → Completes P (follow l m) (follow l2 m2)
completes_follow {P = P} l l2 m m2 k j = record {
  within = sub_follow l l2 m m2 k.within (λ a. (j a).within);
  some = (let n = (j k.some.1).some in (k.some.0 ++ n.0, (k.some.1, n.1), (k.some.0, n.0, refl, k.some.2, n.2), each_both P k.some.0 n.0 k.some.3 n.3));
  whole = λ ts fr. elim fr [
    | inl q ↦ (let w = k.whole ts q in let n = (j w.1).some in (w.0 ++ n.0, (w.1, n.1), (ts ++ w.0, n.0, sym (append_assoc ts w.0 n.0), w.2, n.2), each_both P w.0 n.0 w.3 n.3))
    | inr q ↦ (let w = (j q.2).whole q.1 q.5 in (w.0, (q.2, w.1), (q.0, q.1 ++ w.0, ap (λ z. z ++ w.0) q.3 ∙ append_assoc q.0 q.1 w.0, k.within.reads q.0 q.2 q.4, w.2), w.3))
  ];
}

pub closed_then : {T A B : Type 0} (l : Language T A) (m : Language T B) → Closed l → Closed m → Closed (then l m)
closed_then l m cl cm = closed_follow l (λ _. m) cl (λ _. cm)

pub completes_then : {T A B : Type 0} {P : T → Type 0} (l l2 : Language T A) (m m2 : Language T B) → Completes P l l2 → Completes P m m2 → Completes P (then l m) (then l2 m2)
completes_then l l2 m m2 k j = completes_follow l l2 (λ _. m) (λ _. m2) k (λ _. j)

pub closed_either : {T A : Type 0} (l m : Language T A) → Closed l → Closed m → Closed (either l m)
closed_either l m cl cm = record { front = λ ts v a rd. elim rd [ inl q ↦ inl (cl.front ts v a q) | inr q ↦ inr (cm.front ts v a q) ] }

pub completes_either : {T A : Type 0} {P : T → Type 0} (l l2 m m2 : Language T A) → Completes P l l2 → Completes P m m2 → Completes P (either l m) (either l2 m2)
completes_either l l2 m m2 k j = record {
  within = sub_either l l2 m m2 k.within j.within;
  some = (k.some.0, k.some.1, inl k.some.2, k.some.3);
  whole = λ ts fr. elim fr [ inl q ↦ (let w = k.whole ts q in (w.0, w.1, inl w.2, w.3)) | inr q ↦ (let w = j.whole ts q in (w.0, w.1, inr w.2, w.3)) ];
}

pub closed_made : {T A B : Type 0} (f : A → B) (l : Language T A) → Closed l → Closed (made f l)
closed_made f l cl = record { front = λ ts v b rd. cl.front ts v rd.0 rd.1 }

pub completes_made : {T A B : Type 0} {P : T → Type 0} (f : A → B) (l l2 : Language T A) → Completes P l l2 → Completes P (made f l) (made f l2)
completes_made f l l2 k = record {
  within = sub_made f l l2 k.within;
  some = (k.some.0, f k.some.1, (k.some.1, k.some.2, refl), k.some.3);
  whole = λ ts fr. (let w = k.whole ts fr in (w.0, f w.1, (w.1, w.2, refl), w.3));
}

pub closed_marked : {T P A : Type 0} (h : T → P) (d : P) (l : Language T A) → Closed l → Closed (marked h d l)
closed_marked h d l cl = record { front = λ ts v pa rd. cl.front ts v pa.1 rd.0 }

pub completes_marked : {T P A : Type 0} {Q : T → Type 0} (h : T → P) (d : P) (l l2 : Language T A) → Completes Q l l2 → Completes Q (marked h d l) (marked h d l2)
completes_marked h d l l2 k = record {
  within = sub_marked h d l l2 k.within;
  some = (k.some.0, (head_of h d k.some.0, k.some.1), (k.some.2, refl), k.some.3);
  whole = λ ts fr. (let w = k.whole ts fr in (w.0, (head_of h d (ts ++ w.0), w.1), (w.2, refl), w.3));
}

front_empty : {T : Type 0} (ts v : List T) → ts ++ v ≡ [] → ts ≡ []
front_empty [] v rd = refl
front_empty (t ∷ ts) v rd = absurd cc

pub closed_empty : {T : Type 0} → Closed (empty {T = T})
closed_empty = record { front = λ ts v a rd. front_empty ts v rd }

pub completes_empty : {T : Type 0} {P : T → Type 0} → Completes P (empty {T = T}) empty
completes_empty = record {
  within = record { reads = λ ts a q. q; front = λ ts q. q };
  some = ([], tt, refl, tt);
  whole = λ ts fr. ([], tt, append-nil ts ∙ fr, tt);
}

module _ {T A : Type 0} (l : Language T A) (cl : Closed l) where
  closed_turns : (got : List A) (ts v : List T) → turns l (ts ++ v) got → (many l).front ts
  closed_turns [] [] v rd = ([], [], [], refl, refl, inl refl)
  closed_turns [] (t ∷ ts) v rd = absurd cc
  closed_turns (a ∷ got) ts v rd = elim (two_cuts ts v rd.0 rd.1 rd.2) [
    | inl w ↦ ([], [], ts, refl, refl, inr (cl.front ts w.0 a (subst (λ z. l.reads z a) w.1 rd.3)))
    | inr w ↦ (let q = closed_turns got w.0 v (subst (λ z. turns l z got) w.2 rd.4) in
        (a ∷ q.0, rd.0 ++ q.1, q.2, w.1 ∙ ap (λ z. rd.0 ++ z) q.3 ∙ sym (append_assoc rd.0 q.1 q.2), (rd.0, q.1, refl, rd.3, q.4), q.5))
  ]

  pub closed_many : Closed (many l)
  closed_many = record { front = λ ts v got rd. closed_turns got ts v rd }

pub turns_push : {T A : Type 0} (l l2 : Language T A) → Sub l l2 → (got : List A) (u v : List T) (a : A) → turns l u got → l2.reads v a → turns l2 (u ++ v) (got ++ a ∷ [])
turns_push l l2 s [] u v a rd q = (v, [], ap (λ z. z ++ v) rd ∙ sym (append-nil v), q, refl)
turns_push l l2 s (b ∷ got) u v a rd q =
    (rd.0, rd.1 ++ v, ap (λ z. z ++ v) rd.2 ∙ append_assoc rd.0 rd.1 v, s.reads rd.0 b rd.3, turns_push l l2 s got rd.1 v a rd.4 q)

pub completes_many : {T A : Type 0} {P : T → Type 0} (l l2 : Language T A) → Completes P l l2 → Completes P (many l) (many l2)
completes_many l l2 k = record {
  within = sub_many l l2 k.within;
  some = ([], [], refl, tt);
  whole = λ ts fr. elim fr.5 [
    | inl e ↦ ([], fr.0, subst (λ z. turns l2 z fr.0) (let q = fr.3 ∙ ap (λ z. fr.1 ++ z) e ∙ append-nil fr.1 in sym (append-nil ts ∙ q)) (sub_turns l l2 k.within fr.0 fr.1 fr.4), tt)
    | inr q ↦ (let w = k.whole fr.2 q in (w.0, fr.0 ++ w.1 ∷ [], subst (λ z. turns l2 z (fr.0 ++ w.1 ∷ [])) (sym (ap (λ z. z ++ w.0) fr.3 ∙ append_assoc fr.1 fr.2 w.0)) (turns_push l l2 k.within fr.0 fr.1 (fr.2 ++ w.0) w.1 fr.4 w.2), w.3))
  ];
}

pub closed_maybe : {T A : Type 0} (l : Language T A) → Closed l → Closed (maybe l)
closed_maybe l cl = closed_either (made Some l) (made (λ _. None) empty) (closed_made Some l cl) (closed_made (λ _. None) empty closed_empty)

pub completes_maybe : {T A : Type 0} {P : T → Type 0} (l l2 : Language T A) → Completes P l l2 → Completes P (maybe l) (maybe l2)
completes_maybe l l2 k = record {
  within = sub_maybe l l2 k.within;
  some = ([], None, inr (tt, refl, refl), tt);
  whole = λ ts fr. elim fr [
    | inl q ↦ (let w = k.whole ts q in (w.0, Some w.1, inl (w.1, w.2, refl), w.3))
    | inr q ↦ ([], None, inr (tt, append-nil ts ∙ q, refl), tt)
  ];
}

module _ {T A B : Type 0} (l : Language T A) (m : Language T B) (cl : Closed l) (cm : Closed m) where
  closed_last : (o : Option B) (ts v : List T) → lastly m (ts ++ v) o → (ts ≡ []) ⊎ (l.front ts ⊎ m.front ts)
  closed_last None ts v rd = inl (front_empty ts v rd)
  closed_last (Some b) ts v rd = inr (inr (cm.front ts v b rd))

  closed_ends : (got : List A) (o : Option B) (ts v u w : List T) → ts ++ v ≡ u ++ w → turns l u got → lastly m w o → (ended l m).front ts
  closed_ends [] o ts v u w e rd q =
      ([], [], ts, refl, refl, closed_last o ts v (subst (λ z. lastly m z o) (sym (e ∙ ap (λ z. z ++ w) rd)) q))
  closed_ends (a ∷ got) o ts v u w e rd q = elim (two_cuts ts v rd.0 (rd.1 ++ w) (e ∙ ap (λ z. z ++ w) rd.2 ∙ append_assoc rd.0 rd.1 w)) [
    | inl z ↦ ([], [], ts, refl, refl, inr (inl (cl.front ts z.0 a (subst (λ z. l.reads z a) z.1 rd.3))))
    | inr z ↦ (let y = closed_ends got o z.0 v rd.1 w (sym z.2) rd.4 q in
        (a ∷ y.0, rd.0 ++ y.1, y.2, z.1 ∙ ap (λ z. rd.0 ++ z) y.3 ∙ sym (append_assoc rd.0 y.1 y.2), (rd.0, y.1, refl, rd.3, y.4), y.5))
  ]

  pub closed_ended : Closed (ended l m)
  closed_ended = record { front = λ ts v got rd. closed_ends got.0 got.1 ts v rd.0 rd.1 rd.2 rd.3 rd.4 }
