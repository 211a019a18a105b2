-- A language within another.
use Rattle.std.proofs.Common.{List, [], ◌∷◌, inl, inr, Option, Some, None}
use Rattle.qvt_grammar.specs.Language.{Language, follow, then, either, many, turns, made, empty, maybe, marked, lastly, ended}

pub record Sub {T A : Type 0} (l m : Language T A) : Type 0 where
  pub reads : (ts : List T) (a : A) → l.reads ts a → m.reads ts a
  pub front : (ts : List T) → l.front ts → m.front ts

pub sub_same : {T A : Type 0} (l : Language T A) → Sub l l
sub_same l = record { reads = λ ts a h. h; front = λ ts h. h }

pub sub_trans : {T A : Type 0} (l m n : Language T A) → Sub l m → Sub m n → Sub l n
sub_trans l m n s t = record { reads = λ ts a h. t.reads ts a (s.reads ts a h); front = λ ts h. t.front ts (s.front ts h) }

pub sub_follow : {T A B : Type 0} (l l2 : Language T A) (m m2 : A → Language T B) → Sub l l2 → ((a : A) → Sub (m a) (m2 a)) → Sub (follow l m) (follow l2 m2)
sub_follow l l2 m m2 s t = record {
  reads = λ ts ab h. (h.0, h.1, h.2, s.reads h.0 ab.0 h.3, (t ab.0).reads h.1 ab.1 h.4);
  front = λ ts h. elim h [ inl q ↦ inl (s.front ts q) | inr w ↦ inr (w.0, w.1, w.2, w.3, s.reads w.0 w.2 w.4, (t w.2).front w.1 w.5) ];
}

pub sub_then : {T A B : Type 0} (l l2 : Language T A) (m m2 : Language T B) → Sub l l2 → Sub m m2 → Sub (then l m) (then l2 m2)
sub_then l l2 m m2 s t = sub_follow l l2 (λ _. m) (λ _. m2) s (λ _. t)

pub sub_either : {T A : Type 0} (l l2 m m2 : Language T A) → Sub l l2 → Sub m m2 → Sub (either l m) (either l2 m2)
sub_either l l2 m m2 s t = record {
  reads = λ ts a h. elim h [ inl q ↦ inl (s.reads ts a q) | inr q ↦ inr (t.reads ts a q) ];
  front = λ ts h. elim h [ inl q ↦ inl (s.front ts q) | inr q ↦ inr (t.front ts q) ];
}

pub sub_turns : {T A : Type 0} (l l2 : Language T A) → Sub l l2 → (got : List A) (ts : List T) → turns l ts got → turns l2 ts got
sub_turns l l2 s [] ts h = h
sub_turns l l2 s (a ∷ got) ts h = (h.0, h.1, h.2, s.reads h.0 a h.3, sub_turns l l2 s got h.1 h.4)

pub sub_many : {T A : Type 0} (l l2 : Language T A) → Sub l l2 → Sub (many l) (many l2)
sub_many l l2 s = record {
  reads = λ ts got h. sub_turns l l2 s got ts h;
  front = λ ts h. (h.0, h.1, h.2, h.3, sub_turns l l2 s h.0 h.1 h.4, elim h.5 [ inl q ↦ inl q | inr q ↦ inr (s.front h.2 q) ]);
}

pub sub_made : {T A B : Type 0} (f : A → B) (l l2 : Language T A) → Sub l l2 → Sub (made f l) (made f l2)
sub_made f l l2 s = record { reads = λ ts b h. (h.0, s.reads ts h.0 h.1, h.2); front = s.front }

pub sub_marked : {T P A : Type 0} (h : T → P) (d : P) (l l2 : Language T A) → Sub l l2 → Sub (marked h d l) (marked h d l2)
sub_marked h d l l2 s = record { reads = λ ts pa w. (s.reads ts pa.1 w.0, w.1); front = s.front }

pub sub_maybe : {T A : Type 0} (l l2 : Language T A) → Sub l l2 → Sub (maybe l) (maybe l2)
sub_maybe l l2 s = sub_either (made Some l) (made Some l2) (made (λ _. None) empty) (made (λ _. None) empty) (sub_made Some l l2 s) (sub_same (made (λ _. None) empty))

sub_lastly : {T B : Type 0} (m m2 : Language T B) → Sub m m2 → (o : Option B) (ts : List T) → lastly m ts o → lastly m2 ts o
sub_lastly m m2 s None ts h = h
sub_lastly m m2 s (Some b) ts h = s.reads ts b h

pub sub_ended : {T A B : Type 0} (l l2 : Language T A) (m m2 : Language T B) → Sub l l2 → Sub m m2 → Sub (ended l m) (ended l2 m2)
sub_ended l l2 m m2 s t = record {
  reads = λ ts got h. (h.0, h.1, h.2, sub_turns l l2 s got.0 h.0 h.3, sub_lastly m m2 t got.1 h.1 h.4);
  front = λ ts h. (h.0, h.1, h.2, h.3, sub_turns l l2 s h.0 h.1 h.4, elim h.5 [ inl q ↦ inl q | inr q ↦ inr (elim q [ inl y ↦ inl (s.front h.2 y) | inr y ↦ inr (t.front h.2 y) ]) ]);
}
