-- What productions keep whose next tokens depend on their value, form by form.
use Rattle.std.proofs.Common.{◌≡◌, ℕ, List, [], ◌∷◌, ◌++◌, length, Bool, true, false, ◌&&◌, IsTrue, ◌⊎◌, inl, inr, refl, sym, ap, ◌∙◌, subst, arith, Ok, Err, cond, Option, Some, None}
use Rattle.qvt_grammar.specs.Language.{Language, follow, then, either, made, maybe}
use Rattle.qvt_results.specs.Bind.{◌>>=◌}
use Rattle.qvt_grammar.specs.Reader.{At, Answer, Begins, Exact, follow_at, then_at, made_at, choose_at, starts, maybe_at, ended_at}
use Rattle.qvt_grammar.proofs.Lists.{rest_shorter, all_left, nil_right}
use Rattle.qvt_grammar.proofs.Firsts.{Within, Firsts, Solid, firsts_within, firsts_made, solid_made, firsts_marked, solid_marked}
use Rattle.qvt_grammar.proofs.Sequences.{firsts_follow, firsts_then_over, solid_first}
use Rattle.qvt_grammar.proofs.Choices.{firsts_either, solid_either}
use Rattle.qvt_grammar.proofs.Valued.{IsReadingV, ExactV, valued, unvalued, valued_made, valued_marked, valued_follow, valued_either, valued_within}
use Rattle.qvt_grammar.proofs.Endings.{ExactTurn, chosen, firsts_ended, valued_ended}
use Rattle.qvt_grammar.proofs.Wider.{Sub, sub_follow, sub_then, sub_either, sub_made, sub_marked, sub_ended}
use Rattle.qvt_language.specs.Tokens.{Tok, of}
use Rattle.qvt_language.specs.Readers.{Reader, nowhere, placed, placed_at}
use Rattle.qvt_language.specs.Series.{left, right, series, finished, finish, finished_at}
use Rattle.qvt_language.proofs.Sets.{all_in, none_in, within, apart, within_left, within_right}
use Rattle.qvt_language.proofs.Every.{Said, by, optional_next, turn_next, ended_next}
use Rattle.qvt_language.proofs.Forms.{IsLow, bound, Only, only, Kept, Good, good_maybe, low_follow, low_follow_over, low_either, low_made, low_marked, low_series, sub_left, sub_right, firsts_left, firsts_right}

pub record LooseV {A : Type 0} (n : ℕ) (early : Bool) (first : List ℕ) (next : A → List ℕ) (l m : Language Tok A) (f : Reader A) : Type 0 where
  pub firsts : Firsts (of first) l
  pub exact : (ts : List Tok) → ExactV (λ a. of (next a)) l ts (f ts)
  pub sub : Sub l m
  pub low : IsLow (bound early n) l m

-- the same of what is kept, where the next tokens depend on the value
pub record KeptV (n : ℕ) (A : Type 0) (s : Said (A → List ℕ)) (l m : Language Tok A) (f : Reader A) : Type 0 where
  pub loose : LooseV n s.early s.first s.next l m f
  pub solid : Only s.full (Solid l)
  pub solid_more : Only s.full (Solid m)

abbrev pub GoodV : {A : Type 0} → ℕ → Bool → List ℕ → (A → List ℕ) → Language Tok A → Language Tok A → Reader A → Type 0
GoodV {A} n early first next l m f = KeptV n A (by early true first next) l m f

module _ {n : ℕ} {A : Type 0} {l l2 : Language Tok A} {f : Reader A} where
  pub goodv_of : {s : Said (List ℕ)} → Kept n A s l l2 f → KeptV n A (by s.early s.full s.first (λ _. s.next)) l l2 f
  goodv_of {s = s} k = record { loose = record { firsts = k.loose.firsts; exact = λ ts. valued (of s.next) l ts (f ts) (k.loose.exact ts); sub = k.loose.sub; low = k.loose.low }; solid = k.solid; solid_more = k.solid_more }

  pub good_all : {s : Said (A → List ℕ)} (next : List ℕ) → ((a : A) → Within (of (s.next a)) (of next)) → KeptV n A s l l2 f → Kept n A (by s.early s.full s.first next) l l2 f
  good_all {s = s} next w k = record { loose = record { firsts = k.loose.firsts; exact = λ ts. unvalued (λ a. of (s.next a)) (of next) l ts (f ts) w (k.loose.exact ts); sub = k.loose.sub; low = k.loose.low }; solid = k.solid; solid_more = k.solid_more }

  pub goodv_sets : {s : Said (A → List ℕ)} (first : List ℕ) → all_in s.first first ≡ true → KeptV n A s l l2 f → KeptV n A (by s.early s.full first s.next) l l2 f
  goodv_sets {s = s} first w k = record { loose = record { firsts = firsts_within (of s.first) (of first) l (within s.first first w) k.loose.firsts; exact = k.loose.exact; sub = k.loose.sub; low = k.loose.low }; solid = k.solid; solid_more = k.solid_more }

  pub goodv_made : {B : Type 0} {s : Said (A → List ℕ)} (h : A → B) (next : B → List ℕ) → ((a : A) → Within (of (s.next a)) (of (next (h a)))) → KeptV n A s l l2 f → KeptV n B (by s.early s.full s.first next) (made h l) (made h l2) (made_at h f)
  goodv_made {s = s} h next w k = record {
    loose = record {
      firsts = firsts_made h l (of s.first) k.loose.firsts;
      exact = λ ts. valued_made h l (λ a. of (s.next a)) (λ b. of (next b)) w f ts (k.loose.exact ts);
      sub = sub_made h l l2 k.loose.sub;
      low = low_made h k.loose.low;
    };
    solid = only s.full (solid_made h l) k.solid;
    solid_more = only s.full (solid_made h l2) k.solid_more;
  }

module _ {n : ℕ} {A : Type 0} {b1 : Bool} {f1 : List ℕ} {next1 : A → List ℕ} {l l2 : Language Tok A} {f : Reader A} where
  pub goodv_placed : GoodV n b1 f1 next1 l l2 f → GoodV n b1 f1 (λ pa. next1 pa.1) (placed l) (placed l2) (placed_at f)
  goodv_placed k = record {
    loose = record {
      firsts = firsts_marked (λ t. t.place) nowhere l (of f1) k.loose.firsts;
      exact = λ ts. valued_marked (λ t. t.place) nowhere l k.solid (λ a. of (next1 a)) f ts (k.loose.exact ts);
      sub = sub_marked (λ t. t.place) nowhere l l2 k.loose.sub;
      low = low_marked (λ t. t.place) nowhere k.loose.low;
    };
    solid = solid_marked (λ t. t.place) nowhere l k.solid;
    solid_more = solid_marked (λ t. t.place) nowhere l2 k.solid_more;
  }

module _ {n : ℕ} {A B : Type 0} {b1 b2 w2 : Bool} {f1 f2 : List ℕ} {next1 : A → List ℕ} {next2 : A → B → List ℕ} {l l2 : Language Tok A} {m m2 : A → Language Tok B} {f : Reader A} {g : A → Reader B} where
  pub goodv_follow : (next : A × B → List ℕ) → GoodV n b1 f1 next1 l l2 f → ((a : A) → KeptV n B (by b2 w2 f2 (next2 a)) (m a) (m2 a) (g a)) → ((a : A) → none_in (next1 a) f2 ≡ true)
      → ((a : A) (b : B) → (m a).reads [] b → Within (of (next1 a)) (of (next (a, b)))) → ((a : A) (b : B) → Within (of (next2 a b)) (of (next (a, b))))
      → GoodV n b1 f1 next (follow l m) (follow l2 m2) (follow_at f g)
  goodv_follow next k j a over sub_next = record {
    loose = record {
      firsts = firsts_follow (of f1) (λ _. of f2) l m k.loose.firsts (λ z. (j z).loose.firsts) k.solid;
      exact = λ ts. valued_follow (λ z. of (next1 z)) (λ z b. of (next2 z b)) (λ p. of (next p)) (λ _. of f2) l m k.loose.firsts.whole (λ z. (j z).loose.firsts) (λ z. apart (next1 z) f2 (a z)) over sub_next f g ts (k.loose.exact ts) (λ z r. (j z).loose.exact r);
      sub = sub_follow l l2 m m2 k.loose.sub (λ z. (j z).loose.sub);
      low = low_follow n b1 b2 k.loose.low k.solid_more (λ z. (j z).loose.low);
    };
    solid = solid_first l m k.solid;
    solid_more = solid_first l2 m2 k.solid_more;
  }

module _ {n : ℕ} {A B : Type 0} {b1 b2 : Bool} {f1 f2 : List ℕ} {next1 : A → List ℕ} {next2 : B → List ℕ} {l l2 : Language Tok A} {m m2 : Language Tok B} {f : Reader A} {g : Reader B} where
  pub goodv_then : (next : A × B → List ℕ) → KeptV n A (by b1 false f1 next1) l l2 f → KeptV n B (by b2 false f2 next2) m m2 g → ((a : A) → none_in (next1 a) f2 ≡ true)
      → ((a : A) (b : B) → m.reads [] b → Within (of (next1 a)) (of (next (a, b)))) → ((a : A) (b : B) → Within (of (next2 b)) (of (next (a, b))))
      → KeptV n (A × B) (by (b1 && b2) false (f1 ++ f2) next) (then l m) (then l2 m2) (then_at f g)
  goodv_then next k j a over sub_next = record {
    loose = record {
      firsts = firsts_then_over (of f1) (of f2) (of (f1 ++ f2)) l m k.loose.firsts j.loose.firsts (within_left f1 f2) (within_right f1 f2);
      exact = λ ts. valued_follow (λ z. of (next1 z)) (λ _ b. of (next2 b)) (λ p. of (next p)) (λ _. of f2) l (λ _. m) k.loose.firsts.whole (λ _. j.loose.firsts) (λ z. apart (next1 z) f2 (a z)) over sub_next f (λ _. g) ts (k.loose.exact ts) (λ _ r. j.loose.exact r);
      sub = sub_then l l2 m m2 k.loose.sub j.loose.sub;
      low = low_follow_over n b1 b2 k.loose.low (λ _. j.loose.low);
    };
    solid = tt;
    solid_more = tt;
  }

module _ {n : ℕ} {A : Type 0} {b1 b2 : Bool} {f1 f2 : List ℕ} {next : A → List ℕ} {l l2 m m2 : Language Tok A} {f g : Reader A} where
  pub goodv_either : (p : List ℕ) → GoodV n b1 f1 next l l2 f → GoodV n b2 f2 next m m2 g → all_in f1 p ≡ true → none_in p f2 ≡ true → GoodV n (b1 && b2) (f1 ++ f2) next (either l m) (either l2 m2) (choose_at (of p) f g)
  goodv_either p k j w a = record {
    loose = record {
      firsts = firsts_either (of f1) (of f2) (of (f1 ++ f2)) l m k.loose.firsts j.loose.firsts (within_left f1 f2) (within_right f1 f2);
      exact = λ ts. valued_either (of p) (of f1) (of f2) (λ z. of (next z)) l m k.loose.firsts j.loose.firsts k.solid j.solid (within f1 p w) (apart p f2 a) f g ts (k.loose.exact ts) (j.loose.exact ts);
      sub = sub_either l l2 m m2 k.loose.sub j.loose.sub;
      low = low_either n b1 b2 k.loose.low j.loose.low;
    };
    solid = solid_either l m k.solid j.solid;
    solid_more = solid_either l2 m2 k.solid_more j.solid_more;
  }

module _ {A : Type 0} (p x : List ℕ) (l : Language Tok A) (w : Firsts (of p) l) (solid : Solid l) where
  none_read : (t : Tok) (ts u s : List Tok) (o : Option A) → IsTrue (of p t) → t ∷ ts ≡ u ++ s → u ≡ [] → o ≡ None → Begins (of (optional_next p x o)) s
  none_read t ts u s o h e n q = subst (λ z. Begins (of (optional_next p x z)) s) (sym q) (subst (Begins (of p)) (all_left (t ∷ ts) u s e n) h)

  some_cases : (t : Tok) (ts : List Tok) (y : Answer Tok A) → IsTrue (of p t) → Exact (of x) l (t ∷ ts) y → ExactV (λ o. of (optional_next p x o)) (maybe l) (t ∷ ts) (y >>= λ (a, r). Ok (Some a, r))
  some_cases t ts (Ok (a, r)) h k = record {
    found = (k.found.0, k.found.1, inl (a, k.found.2, refl));
    only = λ u s o e rd. elim rd [
      | inl q ↦ elim (k.only u s q.0 e q.1) [ inl z ↦ inl (q.2 ∙ ap Some z.0, z.1) | inr z ↦ inr (subst (λ y. Begins (of (optional_next p x y)) s) (sym q.2) z) ]
      | inr q ↦ inr (none_read t ts u s o h e q.1 q.2)
    ];
    farthest = λ u s e fr. elim fr [ inl q ↦ k.farthest u s e q | inr q ↦ (let le = rest_shorter (t ∷ ts) k.found.0 r k.found.1 in let z = ap length (all_left (t ∷ ts) u s e q) in omega arith) ];
  }
  some_cases t ts (Err (At r)) h k = record {
    found = (k.found.0, k.found.1, inl k.found.2);
    only = λ u s o e rd. elim rd [
      | inl q ↦ subst (λ y. Begins (of (optional_next p x y)) s) (sym q.2) (k.only u s q.0 e q.1)
      | inr q ↦ none_read t ts u s o h e q.1 q.2
    ];
    farthest = λ u s e fr. elim fr [ inl q ↦ k.farthest u s e q | inr q ↦ (let le = rest_shorter (t ∷ ts) k.found.0 r k.found.1 in let z = ap length (all_left (t ∷ ts) u s e q) in omega arith) ];
  }

  no_front : (ts u s : List Tok) → starts (of p) ts ≡ false → ts ≡ u ++ s → l.front u → u ≡ []
  no_front ts [] s h e fr = refl
  no_front ts (y ∷ u) s h e fr = absurd (let k : true ≡ false = sym (w.begins y u fr) ∙ sym (ap (starts (of p)) e) ∙ h in cc)

  no_read : (ts u s : List Tok) (a : A) → starts (of p) ts ≡ false → ts ≡ u ++ s → l.reads u a → ⊥
  no_read ts u s a h e rd = let n = no_front ts u s h e (w.whole u a rd) in solid a (subst (λ z. l.reads z a) n rd)

  none_cases : (ts : List Tok) → starts (of p) ts ≡ false → IsReadingV (λ o. of (optional_next p x o)) (maybe l) ts None ts
  none_cases ts h = record {
    found = ([], refl, inr (tt, refl, refl));
    only = λ u s o e rd. elim rd [ inl q ↦ absurd (no_read ts u s q.0 h e q.1) | inr q ↦ inl (q.2, sym (all_left ts u s e q.1)) ];
    farthest = λ u s e fr. elim fr [ inl q ↦ omega (arith, ap length (all_left ts u s e (no_front ts u s h e q))) | inr q ↦ omega (arith, ap length (all_left ts u s e q)) ];
  }

  maybe_cases : (f : Reader A) (ts : List Tok) (b : Bool) → starts (of p) ts ≡ b → Exact (of x) l ts (f ts) → ExactV (λ o. of (optional_next p x o)) (maybe l) ts (cond b (made_at Some f ts) (Ok (None, ts)))
  maybe_cases f [] true h k = absurd cc
  maybe_cases f (t ∷ ts) true h k = some_cases t ts (f (t ∷ ts)) h k
  maybe_cases f ts false h k = none_cases ts h

pub goodv_maybe : {n : ℕ} {A : Type 0} {b1 : Bool} {f1 x1 : List ℕ} {l l2 : Language Tok A} {f : Reader A} (p : List ℕ) → all_in f1 p ≡ true → Good n b1 f1 x1 l l2 f → KeptV n (Option A) (by b1 false f1 (optional_next p x1)) (maybe l) (maybe l2) (maybe_at (of p) f)
goodv_maybe {f1 = f1} {x1 = x1} {l = l} {f = f} p w k = let all = good_maybe p w k in record {
  loose = record {
    firsts = all.loose.firsts;
    exact = λ ts. maybe_cases p x1 l (firsts_within (of f1) (of p) l (within f1 p w) k.loose.firsts) k.solid f ts (starts (of p) ts) refl (k.loose.exact ts);
    sub = all.loose.sub;
    low = all.loose.low;
  };
  solid = tt;
  solid_more = tt;
}

-- turns

turned : {X : Type 0} {a b : X} {s r : List Tok} {E : Type 0} → ((b ≡ a) × (s ≡ r)) ⊎ E → ((a ≡ b) × (s ≡ r)) ⊎ E
turned (inl q) = inl (sym q.0, q.1)
turned (inr q) = inr q

module _ {A B : Type 0} (c1 c2 : List ℕ) (l : Language Tok (A ⊎ B)) where
  turn_of : (ts : List Tok) (x : Answer Tok (A ⊎ B)) → ExactV (λ a. of (turn_next c1 c2 a)) l ts x → ExactTurn (of c1) (of c2) (left l) (right l) ts x
  turn_of ts (Ok (inl a, r)) k = record { found = k.found; only1 = λ u s b e rd. turned (k.only u s (inl b) e rd); only2 = λ u s b e rd. turned (k.only u s (inr b) e rd); farthest = λ u s e fr. k.farthest u s e (elim fr [ inl q ↦ q | inr q ↦ q ]) }
  turn_of ts (Ok (inr a, r)) k = record { found = k.found; only1 = λ u s b e rd. turned (k.only u s (inl b) e rd); only2 = λ u s b e rd. turned (k.only u s (inr b) e rd); farthest = λ u s e fr. k.farthest u s e (elim fr [ inl q ↦ q | inr q ↦ q ]) }
  turn_of ts (Err (At r)) k = record { found = (k.found.0, k.found.1, inl k.found.2); only1 = λ u s b. k.only u s (inl b); only2 = λ u s b. k.only u s (inr b); farthest = λ u s e fr. k.farthest u s e (elim fr [ inl q ↦ q | inr q ↦ q ]) }

chosen_next : {A B : Type 0} (x y : List ℕ) (all : List A × Option B) → Within (chosen (of x) (of y) all.1) (of (ended_next x y all))
chosen_next x y (got, None) t h = h
chosen_next x y (got, (Some b)) t h = h

pub goodv_series : {n : ℕ} {A B : Type 0} {b1 : Bool} {f1 : List ℕ} {l l2 : Language Tok (A ⊎ B)} {f : Reader (A ⊎ B)} (p c1 c2 : List ℕ) → all_in f1 p ≡ true → none_in c1 p ≡ true
    → GoodV n b1 f1 (turn_next c1 c2) l l2 f → KeptV n (List A × Option B) (by b1 false p (ended_next (p ++ c1) c2)) (series l) (series l2) (ended_at (of p) f)
goodv_series {A = A} {B = B} {f1 = f1} {l = l} {l2 = l2} {f = f} p c1 c2 w a k = record {
  loose = record {
    firsts = firsts_ended (of p) (of c1) (of c2) (of (p ++ c1)) (left l) (right l) (firsts_left p f1 w k.loose.firsts) (firsts_right p f1 w k.loose.firsts) (λ b. k.solid (inl b)) (λ b. k.solid (inr b)) (apart c1 p a) (within_right p c1) (within_left p c1);
    exact = λ ts. valued_within (λ all. chosen (of (p ++ c1)) (of c2) all.1) (λ all. of (ended_next (p ++ c1) c2 all)) (series l) ts (ended_at (of p) f ts) (chosen_next (p ++ c1) c2)
        (valued_ended (of p) (of c1) (of c2) (of (p ++ c1)) (left l) (right l) (firsts_left p f1 w k.loose.firsts) (firsts_right p f1 w k.loose.firsts) (λ b. k.solid (inl b)) (λ b. k.solid (inr b)) (apart c1 p a) (within_right p c1) (within_left p c1) f (λ r. turn_of c1 c2 l r (f r) (k.loose.exact r)) ts);
    sub = sub_ended (left l) (left l2) (right l) (right l2) (sub_left k.loose.sub) (sub_right k.loose.sub);
    low = low_series k.loose.low;
  };
  solid = tt;
  solid_more = tt;
}

-- the last turn is of the other kind
module _ {A B : Type 0} (c1 c2 : List ℕ) (l : Language Tok (A ⊎ B)) (whole : (ts : List Tok) (all : List A × Option B) → (series l).reads ts all → (series l).front ts) where
  abbrev with_last : B → List A × Option B → List A × B
  with_last b (got, None) = (got, b)
  with_last b (got, (Some c)) = (got, c)

  finished_cases : (ts : List Tok) (x : Answer Tok (List A × Option B)) → ExactV (λ all. of (ended_next c1 c2 all)) (series l) ts x → Exact (of c2) (finished l) ts (x >>= λ (got, r). finish got r)
  finished_cases ts (Ok ((got, None), r)) k = record {
    found = (k.found.0, k.found.1, whole k.found.0 (got, None) k.found.2);
    only = λ u s all e rd. elim (k.only u s (all.0, Some all.1) e rd) [ inl q ↦ absurd (let z : Some all.1 ≡ None = λ i. (q.0 i).1 in cc) | inr q ↦ q ];
    farthest = k.farthest;
  }
  finished_cases ts (Ok ((got, (Some b)), r)) k = record {
    found = k.found;
    only = λ u s all e rd. elim (k.only u s (all.0, Some all.1) e rd) [ inl q ↦ inl (ap (with_last b) q.0, q.1) | inr q ↦ inr q ];
    farthest = k.farthest;
  }
  finished_cases ts (Err (At r)) k = record { found = k.found; only = λ u s all e rd. k.only u s (all.0, Some all.1) e rd; farthest = k.farthest }

pub good_finished : {n : ℕ} {A B : Type 0} {b1 : Bool} {f1 : List ℕ} {l l2 : Language Tok (A ⊎ B)} {f : Reader (A ⊎ B)} (p c1 c2 : List ℕ) → all_in f1 p ≡ true → none_in c1 p ≡ true
    → GoodV n b1 f1 (turn_next c1 c2) l l2 f → Good n b1 p c2 (finished l) (finished l2) (finished_at (of p) f)
good_finished {l = l} {l2 = l2} {f = f} p c1 c2 w a k = let s = (goodv_series p c1 c2 w a k).loose in record {
  loose = record {
    firsts = record { empty = s.firsts.empty; whole = λ ts all rd. s.firsts.whole ts (all.0, Some all.1) rd; begins = s.firsts.begins };
    exact = λ ts. finished_cases (p ++ c1) c2 l s.firsts.whole ts (ended_at (of p) f ts) (s.exact ts);
    sub = record { reads = λ ts all rd. s.sub.reads ts (all.0, Some all.1) rd; front = s.sub.front };
    low = record { reads = λ ts all lt rd. s.low.reads ts (all.0, Some all.1) lt rd; front = s.low.front };
  };
  solid = λ all rd. k.solid (inr all.1) (subst (λ z. l.reads z (inr all.1)) (nil_right rd.0 rd.1 rd.2) rd.4);
  solid_more = λ all rd. k.solid_more (inr all.1) (subst (λ z. l2.reads z (inr all.1)) (nil_right rd.0 rd.1 rd.2) rd.4);
}
