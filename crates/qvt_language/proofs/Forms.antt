-- What each production keeps, form by form. A production is given at a nesting (l) and at one more (m), with its reader (f).
use Rattle.std.proofs.Common.{◌≡◌, ℕ, suc, ◌≤◌, ◌<◌, List, [], ◌∷◌, ◌++◌, length, Bool, true, false, ◌&&◌, ◌||◌, IsTrue, ◌⊎◌, inl, inr, refl, sym, ap, ◌∙◌, subst, arith, length-append, Ok, Err, cond, Option, Some, None}
use Rattle.qvt_grammar.specs.Language.{Language, token, follow, then, either, many, turns, made, never, empty, maybe, marked, lastly}
use Rattle.qvt_grammar.specs.Reader.{At, Answer, Exact, token_at, starts, follow_at, then_at, made_at, choose_at, many_at, empty_at, maybe_at}
use Rattle.qvt_grammar.proofs.Firsts.{Within, Firsts, Solid, firsts_within, exact_within, firsts_token, solid_token, token_exact, firsts_made, solid_made, made_exact, firsts_marked, solid_marked, marked_exact, firsts_empty, empty_exact, firsts_never}
use Rattle.qvt_grammar.proofs.Sequences.{follow_exact, firsts_follow, solid_first, solid_second}
use Rattle.qvt_grammar.proofs.Choices.{firsts_either, solid_either, either_exact, firsts_maybe, maybe_exact}
use Rattle.qvt_grammar.proofs.Repeats.{firsts_many, many_exact, read_less}
use Rattle.qvt_grammar.proofs.Wider.{Sub, sub_same, sub_follow, sub_either, sub_many, sub_made, sub_marked, sub_maybe}
use Rattle.qvt_language.specs.Tokens.{Tok, of, is, code_of}
use Rattle.qvt_language.specs.Readers.{Reader, nowhere, the, the_at, placed, placed_at}
use Rattle.qvt_language.specs.Series.{left, right, series, barring, barring_at}
use Rattle.qvt_words.specs.declared.class.Class.{Class}
use Rattle.qvt_words.specs.declared.class.Class.TheVariants.{Str}
use Rattle.qvt_language.specs.Units.{is_strictness, strictness}
use Rattle.qvt_language.specs.ReadingUnits.{strictness_at}
use Rattle.qvt_language.proofs.Sets.{all_in, none_in, and_parts, within, apart, within_left, within_right}
use Rattle.qvt_language.proofs.Every.{Said, by, loose, in_turn, chosen, IsWithin}

-- on lists of fewer than k tokens m has no more than l
pub record IsLow {A : Type 0} (k : ℕ) (l m : Language Tok A) : Type 0 where
  pub reads : (ts : List Tok) (a : A) → length ts < k → m.reads ts a → l.reads ts a
  pub front : (ts : List Tok) → length ts < k → m.front ts → l.front ts

-- of a production that begins with a token of its own, one token more
abbrev pub bound : Bool → ℕ → ℕ
bound true n = suc n
bound false n = n

pub record Loose {A : Type 0} (n : ℕ) (early : Bool) (first next : List ℕ) (l m : Language Tok A) (f : Reader A) : Type 0 where
  pub firsts : Firsts (of first) l
  pub exact : (ts : List Tok) → Exact (of next) l ts (f ts)
  pub sub : Sub l m
  pub low : IsLow (bound early n) l m

abbrev pub Only : Bool → Type 0 → Type 0
Only true P = P
Only false P = Unit {0}

-- exactness with what is said; where that says that no empty list is read, none is
pub record Kept (n : ℕ) (A : Type 0) (s : Said (List ℕ)) (l m : Language Tok A) (f : Reader A) : Type 0 where
  pub loose : Loose n s.early s.first s.next l m f
  pub solid : Only s.full (Solid l)
  pub solid_more : Only s.full (Solid m)

abbrev pub Good : {A : Type 0} → ℕ → Bool → List ℕ → List ℕ → Language Tok A → Language Tok A → Reader A → Type 0
Good {A} n early first next l m f = Kept n A (by early true first next) l m f

pub only : {P Q : Type 0} (b : Bool) → (P → Q) → Only b P → Only b Q
only true g p = g p
only false g p = tt

only_less : (P : Type 0) (b c : Bool) → (c ≡ true → b ≡ true) → Only b P → Only c P
only_less P true true g p = p
only_less P false true g p = absurd (let z = g refl in cc)
only_less P b false g p = tt

-- bounds

inner_bound : (b1 b2 : Bool) (n x y : ℕ) → x < y → y < bound b1 n → x < bound b2 n
inner_bound true true n x y h k = omega arith
inner_bound true false n x y h k = omega arith
inner_bound false true n x y h k = omega arith
inner_bound false false n x y h k = omega arith

left_bound : (b1 b2 : Bool) (n x y : ℕ) → x ≤ y → y < bound (b1 && b2) n → x < bound b1 n
left_bound true true n x y h k = omega arith
left_bound true false n x y h k = omega arith
left_bound false b2 n x y h k = omega arith

right_bound : (b1 b2 : Bool) (n x y : ℕ) → x ≤ y → y < bound (b1 && b2) n → x < bound b2 n
right_bound true b2 n x y h k = omega arith
right_bound false true n x y h k = omega arith
right_bound false false n x y h k = omega arith

first_part : (ts u v : List Tok) → ts ≡ u ++ v → length u ≤ length ts
first_part ts u v e = omega (arith, ap length e, length-append u v)

second_part : (ts u v : List Tok) → ts ≡ u ++ v → length v ≤ length ts
second_part ts u v e = omega (arith, ap length e, length-append u v)

under : (x y k : ℕ) → x ≤ y → y < k → x < k
under x y k h j = omega arith

-- lists of fewer tokens, form by form

pub low_same : {A : Type 0} {k : ℕ} {l : Language Tok A} → IsLow k l l
low_same = record { reads = λ ts a lt h. h; front = λ ts lt h. h }

pub low_follow : {A B : Type 0} (n : ℕ) (b1 b2 : Bool) {l l2 : Language Tok A} {m m2 : A → Language Tok B} → IsLow (bound b1 n) l l2 → Solid l2 → ((a : A) → IsLow (bound b2 n) (m a) (m2 a)) → IsLow (bound b1 n) (follow l m) (follow l2 m2)
low_follow n b1 b2 {l2 = l2} k s j = record {
  reads = λ ts ab lt h. (h.0, h.1, h.2, k.reads h.0 ab.0 (under _ _ _ (first_part ts h.0 h.1 h.2) lt) h.3, (j ab.0).reads h.1 ab.1 (inner_bound b1 b2 n _ _ (read_less l2 s ts h.0 h.1 ab.0 h.2 h.3) lt) h.4);
  front = λ ts lt h. elim h [
    | inl q ↦ inl (k.front ts lt q)
    | inr w ↦ inr (w.0, w.1, w.2, w.3, k.reads w.0 w.2 (under _ _ _ (first_part ts w.0 w.1 w.3) lt) w.4, (j w.2).front w.1 (inner_bound b1 b2 n _ _ (read_less l2 s ts w.0 w.1 w.2 w.3 w.4) lt) w.5)
  ];
}

pub low_follow_over : {A B : Type 0} (n : ℕ) (b1 b2 : Bool) {l l2 : Language Tok A} {m m2 : A → Language Tok B} → IsLow (bound b1 n) l l2 → ((a : A) → IsLow (bound b2 n) (m a) (m2 a)) → IsLow (bound (b1 && b2) n) (follow l m) (follow l2 m2)
low_follow_over n b1 b2 k j = record {
  reads = λ ts ab lt h. (h.0, h.1, h.2, k.reads h.0 ab.0 (left_bound b1 b2 n _ _ (first_part ts h.0 h.1 h.2) lt) h.3, (j ab.0).reads h.1 ab.1 (right_bound b1 b2 n _ _ (second_part ts h.0 h.1 h.2) lt) h.4);
  front = λ ts lt h. elim h [
    | inl q ↦ inl (k.front ts (left_bound b1 b2 n _ _ (omega arith) lt) q)
    | inr w ↦ inr (w.0, w.1, w.2, w.3, k.reads w.0 w.2 (left_bound b1 b2 n _ _ (first_part ts w.0 w.1 w.3) lt) w.4, (j w.2).front w.1 (right_bound b1 b2 n _ _ (second_part ts w.0 w.1 w.3) lt) w.5)
  ];
}

pub low_either : {A : Type 0} (n : ℕ) (b1 b2 : Bool) {l l2 m m2 : Language Tok A} → IsLow (bound b1 n) l l2 → IsLow (bound b2 n) m m2 → IsLow (bound (b1 && b2) n) (either l m) (either l2 m2)
low_either n b1 b2 k j = record {
  reads = λ ts a lt h. elim h [ inl q ↦ inl (k.reads ts a (left_bound b1 b2 n _ _ (omega arith) lt) q) | inr q ↦ inr (j.reads ts a (right_bound b1 b2 n _ _ (omega arith) lt) q) ];
  front = λ ts lt h. elim h [ inl q ↦ inl (k.front ts (left_bound b1 b2 n _ _ (omega arith) lt) q) | inr q ↦ inr (j.front ts (right_bound b1 b2 n _ _ (omega arith) lt) q) ];
}

pub low_turns : {A : Type 0} (k : ℕ) (l l2 : Language Tok A) → IsLow k l l2 → (got : List A) (ts : List Tok) → length ts < k → turns l2 ts got → turns l ts got
low_turns k l l2 s [] ts lt h = h
low_turns k l l2 s (a ∷ got) ts lt h =
    (h.0, h.1, h.2, s.reads h.0 a (under _ _ _ (first_part ts h.0 h.1 h.2) lt) h.3, low_turns k l l2 s got h.1 (under _ _ _ (second_part ts h.0 h.1 h.2) lt) h.4)

pub low_many : {A : Type 0} {k : ℕ} {l l2 : Language Tok A} → IsLow k l l2 → IsLow k (many l) (many l2)
low_many {k = k} {l = l} {l2 = l2} s = record {
  reads = λ ts got lt h. low_turns k l l2 s got ts lt h;
  front = λ ts lt h. (h.0, h.1, h.2, h.3, low_turns k l l2 s h.0 h.1 (under _ _ _ (first_part ts h.1 h.2 h.3) lt) h.4, elim h.5 [ inl q ↦ inl q | inr q ↦ inr (s.front h.2 (under _ _ _ (second_part ts h.1 h.2 h.3) lt) q) ]);
}

pub low_made : {A B : Type 0} {k : ℕ} {l l2 : Language Tok A} (h : A → B) → IsLow k l l2 → IsLow k (made h l) (made h l2)
low_made h s = record { reads = λ ts b lt w. (w.0, s.reads ts w.0 lt w.1, w.2); front = s.front }

pub low_marked : {P A : Type 0} {k : ℕ} {l l2 : Language Tok A} (h : Tok → P) (d : P) → IsLow k l l2 → IsLow k (marked h d l) (marked h d l2)
low_marked h d s = record { reads = λ ts pa lt w. (s.reads ts pa.1 lt w.0, w.1); front = s.front }

pub low_maybe : {A : Type 0} {k : ℕ} {l l2 : Language Tok A} → IsLow k l l2 → IsLow k (maybe l) (maybe l2)
low_maybe s = record {
  reads = λ ts o lt h. elim h [ inl w ↦ inl (w.0, s.reads ts w.0 lt w.1, w.2) | inr q ↦ inr q ];
  front = λ ts lt h. elim h [ inl q ↦ inl (s.front ts lt q) | inr q ↦ inr q ];
}

low_left : {A B : Type 0} {k : ℕ} {l l2 : Language Tok (A ⊎ B)} → IsLow k l l2 → IsLow k (left l) (left l2)
low_left s = record { reads = λ ts a lt h. s.reads ts (inl a) lt h; front = s.front }

low_last : {B : Type 0} (k : ℕ) (m m2 : Language Tok B) → ((ts : List Tok) (b : B) → length ts < k → m2.reads ts b → m.reads ts b) → (o : Option B) (ts : List Tok) → length ts < k → lastly m2 ts o → lastly m ts o
low_last k m m2 s None ts lt h = h
low_last k m m2 s (Some b) ts lt h = s ts b lt h

pub low_series : {A B : Type 0} {k : ℕ} {l l2 : Language Tok (A ⊎ B)} → IsLow k l l2 → IsLow k (series l) (series l2)
low_series {k = k} {l = l} {l2 = l2} s = record {
  reads = λ ts got lt h. (h.0, h.1, h.2, low_turns k (left l) (left l2) (low_left s) got.0 h.0 (under _ _ _ (first_part ts h.0 h.1 h.2) lt) h.3, low_last k (right l) (right l2) (λ us b j w. s.reads us (inr b) j w) got.1 h.1 (under _ _ _ (second_part ts h.0 h.1 h.2) lt) h.4);
  front = λ ts lt h. (
    h.0,
    h.1,
    h.2,
    h.3,
    low_turns k (left l) (left l2) (low_left s) h.0 h.1 (under _ _ _ (first_part ts h.1 h.2 h.3) lt) h.4,
    elim h.5 [
      | inl q ↦ inl q
      | inr q ↦ inr (elim q [ inl y ↦ inl (s.front h.2 (under _ _ _ (second_part ts h.1 h.2 h.3) lt) y) | inr y ↦ inr (s.front h.2 (under _ _ _ (second_part ts h.1 h.2 h.3) lt) y) ])
    ],
  );
}

-- the last of the turns may be of the other kind
module _ {A B : Type 0} {l : Language Tok (A ⊎ B)} where
  pub firsts_left : (p f1 : List ℕ) → all_in f1 p ≡ true → Firsts (of f1) l → Firsts (of p) (left l)
  firsts_left p f1 w k = record { empty = k.empty; whole = λ ts a rd. k.whole ts (inl a) rd; begins = λ t ts fr. within f1 p w t (k.begins t ts fr) }

  pub firsts_right : (p f1 : List ℕ) → all_in f1 p ≡ true → Firsts (of f1) l → Firsts (of p) (right l)
  firsts_right p f1 w k = record { empty = k.empty; whole = λ ts a rd. k.whole ts (inr a) rd; begins = λ t ts fr. within f1 p w t (k.begins t ts fr) }

module _ {A B : Type 0} {l l2 : Language Tok (A ⊎ B)} where
  pub sub_left : Sub l l2 → Sub (left l) (left l2)
  sub_left s = record { reads = λ ts a h. s.reads ts (inl a) h; front = s.front }

  pub sub_right : Sub l l2 → Sub (right l) (right l2)
  sub_right s = record { reads = λ ts a h. s.reads ts (inr a) h; front = s.front }

-- the forms

-- a token of its own may go uncounted
low_early : (n : ℕ) {A : Type 0} {l m : Language Tok A} (b c : Bool) → (c ≡ true → b ≡ true) → IsLow (bound b n) l m → IsLow (bound c n) l m
low_early n true true w k = k
low_early n true false w k = record { reads = λ ts a lt rd. k.reads ts a (omega (arith, lt)) rd; front = λ ts lt fr. k.front ts (omega (arith, lt)) fr }
low_early n false true w k = absurd (let z = w refl in cc)
low_early n false false w k = k

good_token : {n : ℕ} (q : Tok → Bool) (first : List ℕ) → Within q (of first) → Good n true first [] (token q) (token q) (token_at q)
good_token q first w = record {
  loose = record {
    firsts = firsts_within q (of first) (token q) w (firsts_token q);
    exact = λ ts. exact_within (λ _. false) (of []) (token q) ts (token_at q ts) (λ t h. absurd cc) (token_exact q ts);
    sub = sub_same (token q);
    low = low_same;
  };
  solid = solid_token q;
  solid_more = solid_token q;
}

pub good_the : {n : ℕ} (c : Class) → Good n true (code_of c ∷ []) [] (the c) (the c) (the_at c)
good_the c = good_token (is c) (code_of c ∷ []) (λ t h. h)

pub good_strictness : {n : ℕ} → Good n true (code_of Str ∷ []) [] strictness strictness strictness_at
good_strictness = good_token is_strictness (code_of Str ∷ []) (λ t h. (and_parts (is Str t) _ h).0)

pub good_empty : {n : ℕ} → Kept n (Unit {0}) (loose [] []) empty empty empty_at
good_empty = record { loose = record { firsts = firsts_empty (of []); exact = empty_exact (of []); sub = sub_same empty; low = low_same }; solid = tt; solid_more = tt }

module _ {n : ℕ} {A : Type 0} {l l2 : Language Tok A} {f : Reader A} where
  pub good_made : {B : Type 0} {s : Said (List ℕ)} (h : A → B) → Kept n A s l l2 f → Kept n B s (made h l) (made h l2) (made_at h f)
  good_made {s = s} h k = record {
    loose = record {
      firsts = firsts_made h l (of s.first) k.loose.firsts;
      exact = λ ts. made_exact h l (of s.next) f ts (k.loose.exact ts);
      sub = sub_made h l l2 k.loose.sub;
      low = low_made h k.loose.low;
    };
    solid = only s.full (solid_made h l) k.solid;
    solid_more = only s.full (solid_made h l2) k.solid_more;
  }

  pub good_wider : {s t : Said (List ℕ)} → IsWithin s t → Kept n A s l l2 f → Kept n A t l l2 f
  good_wider {s = s} {t = t} w k = record {
    loose = record {
      firsts = firsts_within (of s.first) (of t.first) l w.first k.loose.firsts;
      exact = λ ts. exact_within (of s.next) (of t.next) l ts (f ts) w.next (k.loose.exact ts);
      sub = k.loose.sub;
      low = low_early n s.early t.early w.early k.loose.low;
    };
    solid = only_less _ s.full t.full w.full k.solid;
    solid_more = only_less _ s.full t.full w.full k.solid_more;
  }

module _ {n : ℕ} {A : Type 0} {b1 : Bool} {f1 x1 : List ℕ} {l l2 : Language Tok A} {f : Reader A} where
  pub good_placed : Good n b1 f1 x1 l l2 f → Good n b1 f1 x1 (placed l) (placed l2) (placed_at f)
  good_placed k = record {
    loose = record {
      firsts = firsts_marked (λ t. t.place) nowhere l (of f1) k.loose.firsts;
      exact = λ ts. marked_exact (λ t. t.place) nowhere l k.solid (of x1) f ts (k.loose.exact ts);
      sub = sub_marked (λ t. t.place) nowhere l l2 k.loose.sub;
      low = low_marked (λ t. t.place) nowhere k.loose.low;
    };
    solid = solid_marked (λ t. t.place) nowhere l k.solid;
    solid_more = solid_marked (λ t. t.place) nowhere l2 k.solid_more;
  }

  pub good_sets : (first next : List ℕ) → all_in f1 first ≡ true → all_in x1 next ≡ true → Good n b1 f1 x1 l l2 f → Good n b1 first next l l2 f
  good_sets first next w1 w2 k = good_wider (record { early = λ e. e; full = λ e. e; first = within f1 first w1; next = within x1 next w2 }) k

  -- p has the classes that the reader asks for
  pub good_maybe : (p : List ℕ) → all_in f1 p ≡ true → Good n b1 f1 x1 l l2 f → Kept n (Option A) (by b1 false f1 (p ++ x1)) (maybe l) (maybe l2) (maybe_at (of p) f)
  good_maybe p w k = record {
    loose = record {
      firsts = firsts_maybe (of p) (of (p ++ x1)) (of f1) l k.loose.firsts;
      exact = λ ts. maybe_exact (of p) (of (p ++ x1)) (of f1) l k.loose.firsts k.solid (within f1 p w) (within_left p x1) f ts (exact_within (of x1) (of (p ++ x1)) l ts (f ts) (within_right p x1) (k.loose.exact ts));
      sub = sub_maybe l l2 k.loose.sub;
      low = low_maybe k.loose.low;
    };
    solid = tt;
    solid_more = tt;
  }

  pub good_many : (p : List ℕ) → all_in f1 p ≡ true → none_in x1 f1 ≡ true → Good n b1 f1 x1 l l2 f → Kept n (List A) (by b1 false f1 (p ++ x1)) (many l) (many l2) (many_at (of p) f)
  good_many p w a k = record {
    loose = record {
      firsts = firsts_many (of f1) l k.loose.firsts k.solid;
      exact = λ ts. many_exact (of p) (of x1) (of (p ++ x1)) (of f1) l k.loose.firsts k.solid (within f1 p w) (apart x1 f1 a) (within_right p x1) (within_left p x1) f k.loose.exact ts;
      sub = sub_many l l2 k.loose.sub;
      low = low_many k.loose.low;
    };
    solid = tt;
    solid_more = tt;
  }

-- the first part may be empty
module _ {A B : Type 0} (f1 f2 : List ℕ) (l : Language Tok A) (m : A → Language Tok B) (w1 : Firsts (of f1) l) (w2 : (a : A) → Firsts (of f2) (m a)) where
  either_begins : (t : Tok) (ts u v : List Tok) (a : A) → t ∷ ts ≡ u ++ v → l.reads u a → (m a).front v → IsTrue (of (f1 ++ f2) t)
  either_begins t ts [] v a e rd fr = within_right f1 f2 t ((w2 a).begins t ts (subst (λ z. (m a).front z) (sym e) fr))
  either_begins t ts (x ∷ u) v a e rd fr = let k : x ≡ t = cc in subst (λ z. IsTrue (of (f1 ++ f2) z)) k (within_left f1 f2 x (w1.begins x u (w1.whole _ _ rd)))

  firsts_over : Firsts (of (f1 ++ f2)) (follow l m)
  firsts_over = record {
    empty = inl w1.empty;
    whole = λ ts ab rd. inr (rd.0, rd.1, ab.0, rd.2, rd.3, (w2 ab.0).whole rd.1 ab.1 rd.4);
    begins = λ t ts fr. elim fr [ inl q ↦ within_left f1 f2 t (w1.begins t ts q) | inr w ↦ either_begins t ts w.0 w.1 w.2 w.3 w.4 w.5 ];
  }

-- what is so by whether the parts may be empty
second_over : {B : Type 0} (c : Bool) (x1 x2 : List ℕ) (m : Language Tok B) (b : B) → Only c (Solid m) → m.reads [] b → Within (of x1) (of (cond c x2 (x1 ++ x2)))
second_over true x1 x2 m b s rd = absurd (s b rd)
second_over false x1 x2 m b s rd = within_left x1 x2

second_next : (c : Bool) (x1 x2 : List ℕ) → Within (of x2) (of (cond c x2 (x1 ++ x2)))
second_next true x1 x2 t h = h
second_next false x1 x2 t h = within_right x1 x2 t h

module _ {A B : Type 0} (l : Language Tok A) (m : A → Language Tok B) where
  follow_solid : (b c : Bool) → Only b (Solid l) → ((a : A) → Only c (Solid (m a))) → Only (b || c) (Solid (follow l m))
  follow_solid true c s j = solid_first l m s
  follow_solid false true s j = solid_second l m j
  follow_solid false false s j = tt

  follow_firsts : (b : Bool) (f1 f2 : List ℕ) → Only b (Solid l) → Firsts (of f1) l → ((a : A) → Firsts (of f2) (m a)) → Firsts (of (cond b f1 (f1 ++ f2))) (follow l m)
  follow_firsts true f1 f2 s w j = firsts_follow (of f1) (λ _. of f2) l m w j s
  follow_firsts false f1 f2 s w j = firsts_over f1 f2 l m w j

follow_low : {A B : Type 0} (n : ℕ) (b b1 b2 : Bool) {l l2 : Language Tok A} {m m2 : A → Language Tok B} → IsLow (bound b1 n) l l2 → Only b (Solid l2) → ((a : A) → IsLow (bound b2 n) (m a) (m2 a)) → IsLow (bound (cond b b1 (b1 && b2)) n) (follow l m) (follow l2 m2)
follow_low n true b1 b2 k s j = low_follow n b1 b2 k s j
follow_low n false b1 b2 k s j = low_follow_over n b1 b2 k j

-- the second part may depend on the first
pub good_follow : {n : ℕ} {A B : Type 0} {s t : Said (List ℕ)} {l l2 : Language Tok A} {m m2 : A → Language Tok B} {f : Reader A} {g : A → Reader B} → Kept n A s l l2 f → ((a : A) → Kept n B t (m a) (m2 a) (g a)) → none_in s.next t.first ≡ true
    → Kept n (A × B) (in_turn s t) (follow l m) (follow l2 m2) (follow_at f g)
good_follow {n = n} {s = s} {t = t} {l = l} {l2 = l2} {m = m} {m2 = m2} {f = f} {g = g} k j a = record {
  loose = record {
    firsts = follow_firsts l m s.full s.first t.first k.solid k.loose.firsts (λ z. (j z).loose.firsts);
    exact = λ ts. follow_exact (of s.next) (of t.next) (of (cond t.full t.next (s.next ++ t.next))) (λ _. of t.first) l m k.loose.firsts.whole (λ z. (j z).loose.firsts) (λ _. apart s.next t.first a)
        (λ z b rd. second_over t.full s.next t.next (m z) b (j z).solid rd) (second_next t.full s.next t.next) f g ts (k.loose.exact ts) (λ u r z e rd. (j z).loose.exact r);
    sub = sub_follow l l2 m m2 k.loose.sub (λ z. (j z).loose.sub);
    low = follow_low n s.full s.early t.early k.loose.low k.solid_more (λ z. (j z).loose.low);
  };
  solid = follow_solid l m s.full t.full k.solid (λ z. (j z).solid);
  solid_more = follow_solid l2 m2 s.full t.full k.solid_more (λ z. (j z).solid_more);
}

pub good_then : {n : ℕ} {A B : Type 0} {s t : Said (List ℕ)} {l l2 : Language Tok A} {m m2 : Language Tok B} {f : Reader A} {g : Reader B} → Kept n A s l l2 f → Kept n B t m m2 g → none_in s.next t.first ≡ true
    → Kept n (A × B) (in_turn s t) (then l m) (then l2 m2) (then_at f g)
good_then k j a = good_follow k (λ _. j) a

-- the second side may be empty
pub good_either : {n : ℕ} {A : Type 0} {b : Bool} {f1 x1 : List ℕ} {t : Said (List ℕ)} {l l2 m m2 : Language Tok A} {f g : Reader A} (p : List ℕ) → Good n b f1 x1 l l2 f → Kept n A t m m2 g → all_in f1 p ≡ true → none_in p t.first ≡ true
    → Kept n A (chosen p (by b true f1 x1) t) (either l m) (either l2 m2) (choose_at (of p) f g)
good_either {n = n} {b = b} {f1 = f1} {x1 = x1} {t = t} {l = l} {l2 = l2} {m = m} {m2 = m2} {f = f} {g = g} p k j w a =
    let next = cond t.full (x1 ++ t.next) (p ++ (x1 ++ t.next)) in
    let more = second_next t.full p (x1 ++ t.next) in record {
      loose = record {
        firsts = firsts_either (of f1) (of t.first) (of (f1 ++ t.first)) l m k.loose.firsts j.loose.firsts (within_left f1 t.first) (within_right f1 t.first);
        exact = λ ts. either_exact (of p) (of next) (of f1) (of t.first) l m k.loose.firsts j.loose.firsts k.solid (within f1 p w) (apart p t.first a) (λ z rd. second_over t.full p (x1 ++ t.next) m z j.solid rd) f g ts
            (exact_within (of x1) (of next) l ts (f ts) (λ z h. more z (within_left x1 t.next z h)) (k.loose.exact ts)) (exact_within (of t.next) (of next) m ts (g ts) (λ z h. more z (within_right x1 t.next z h)) (j.loose.exact ts));
        sub = sub_either l l2 m m2 k.loose.sub j.loose.sub;
        low = low_either n b t.early k.loose.low j.loose.low;
      };
      solid = only t.full (solid_either l m k.solid) j.solid;
      solid_more = only t.full (solid_either l2 m2 k.solid_more) j.solid_more;
    }

-- lists that do not begin with a token of p
starts_front : (p : Tok → Bool) (ts u s : List Tok) → ts ≡ u ++ s → starts p ts ≡ false → starts p u ≡ false
starts_front p ts [] s e h = refl
starts_front p ts (x ∷ u) s e h = sym (ap (starts p) e) ∙ h

module _ {A : Type 0} (p : Tok → Bool) (c : Tok → Bool) (l : Language Tok A) (w : (ts : List Tok) (a : A) → l.reads ts a → l.front ts) (empty_front : l.front []) (solid : Solid l) where
  no_reading : (ts u s : List Tok) (a : A) → starts p ts ≡ true → ts ≡ u ++ s → l.reads u a → starts p u ≡ false → ⊥
  no_reading ts [] s a h e rd q = solid a rd
  no_reading ts (x ∷ u) s a h e rd q = let k : true ≡ false = sym h ∙ ap (starts p) e ∙ q in cc

  no_further : (ts u s : List Tok) → starts p ts ≡ true → ts ≡ u ++ s → starts p u ≡ false → length ts ≤ length s
  no_further ts [] s h e q = omega (arith, ap length e)
  no_further ts (x ∷ u) s h e q = absurd (let k : true ≡ false = sym h ∙ ap (starts p) e ∙ q in cc)

  barring_answer : (ts : List Tok) (x : Answer Tok A) → starts p ts ≡ false → Exact c l ts x → Exact c (barring p l) ts x
  barring_answer ts (Ok (a, r)) h k = record {
    found = (k.found.0, k.found.1, (k.found.2, starts_front p ts k.found.0 r k.found.1 h));
    only = λ u s b e rd. k.only u s b e rd.0;
    farthest = λ u s e fr. k.farthest u s e fr.0;
  }
  barring_answer ts (Err (At r)) h k = record {
    found = (k.found.0, k.found.1, (k.found.2, starts_front p ts k.found.0 r k.found.1 h));
    only = λ u s b e rd. k.only u s b e rd.0;
    farthest = λ u s e fr. k.farthest u s e fr.0;
  }

  barring_cases : (f : Reader A) (ts : List Tok) (b : Bool) → starts p ts ≡ b → Exact c l ts (f ts) → Exact c (barring p l) ts (cond b (Err (At ts)) (f ts))
  barring_cases f ts true h k = record {
    found = ([], refl, (empty_front, refl));
    only = λ u s a e rd. absurd (no_reading ts u s a h e rd.0 rd.1);
    farthest = λ u s e fr. no_further ts u s h e fr.1;
  }
  barring_cases f ts false h k = barring_answer ts (f ts) h k

pub good_barring : {n : ℕ} {A : Type 0} {b1 : Bool} {f1 x1 : List ℕ} {l l2 : Language Tok A} {f : Reader A} (p : Tok → Bool) → Good n b1 f1 x1 l l2 f → Good n b1 f1 x1 (barring p l) (barring p l2) (barring_at p f)
good_barring {x1 = x1} {l = l} {f = f} p k = record {
  loose = record {
    firsts = record { empty = (k.loose.firsts.empty, refl); whole = λ ts a rd. (k.loose.firsts.whole ts a rd.0, rd.1); begins = λ t ts fr. k.loose.firsts.begins t ts fr.0 };
    exact = λ ts. barring_cases p (of x1) l k.loose.firsts.whole k.loose.firsts.empty k.solid f ts (starts p ts) refl (k.loose.exact ts);
    sub = record { reads = λ ts a rd. (k.loose.sub.reads ts a rd.0, rd.1); front = λ ts fr. (k.loose.sub.front ts fr.0, fr.1) };
    low = record { reads = λ ts a lt rd. (k.loose.low.reads ts a lt rd.0, rd.1); front = λ ts lt fr. (k.loose.low.front ts lt fr.0, fr.1) };
  };
  solid = λ a rd. k.solid a rd.0;
  solid_more = λ a rd. k.solid_more a rd.0;
}

-- with no nesting nothing is read
pub good_never : {n : ℕ} {early : Bool} {A : Type 0} (first next : List ℕ) → Good {A = A} n early first next never never (λ ts. Err (At ts))
good_never {A = A} first next = record {
  loose = record {
    firsts = firsts_never (of first);
    exact = λ ts. record { found = ([], refl, refl); only = λ u s a e rd. absurd rd; farthest = λ u s e fr. omega (arith, ap length e, ap length fr, length-append u s) };
    sub = sub_same never;
    low = low_same;
  };
  solid = λ a rd. rd;
  solid_more = λ a rd. rd;
}
