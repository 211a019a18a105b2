-- The laws of a start symbol, by its reader and its fronts.
use Rattle.std.proofs.Common.{◌≡◌, ℕ, zero, suc, ◌+◌, ◌≤◌, ◌<◌, List, [], ◌∷◌, ◌++◌, length, true, false, ◌⊎◌, inl, inr, refl, sym, ap, ◌∙◌, subst, Ok, Err, arith, append-nil, append_assoc, length-append}
use Rattle.qvt_grammar.specs.Reader.{At, Answer, Exact}
use Rattle.qvt_grammar.proofs.Wider.{Sub, sub_same, sub_trans}
use Rattle.qvt_grammar.proofs.Fronts.{Each}
use Rattle.qvt_language.specs.Tokens.{Tok, of, is_nil}
use Rattle.qvt_language.specs.Same.{IsSimple, AllSimple}
use Rattle.qvt_language.specs.Readers.{Reader}
use Rattle.qvt_language.specs.Grammar.{NestedLanguages}
use Rattle.qvt_language.specs.Reading.{NestedAt}
use Rattle.qvt_language.specs.Nesting.{nested, nested_at}
use Rattle.qvt_language.specs.Module.{Start, ReadsFrom, FrontFrom, FaultFrom}
use Rattle.qvt_language.specs.Laws.{Beginnings, AtMostOne, IsFirstFault, Faults}
use Rattle.qvt_language.proofs.Forms.{Good}
use Rattle.qvt_language.proofs.Live.{Live, LiveNested}
use Rattle.qvt_language.proofs.Good.{GoodNested}
use Rattle.qvt_language.proofs.GoodNesting.{good_same, good_nested}
use Rattle.qvt_language.proofs.LiveNesting.{live_nested}

-- what a start symbol needs: an exact reader, which begins with a token of its own, and fronts that are completed
pub record IsStart {A : Type 0} (first after : List ℕ) (start : Start A) (start_at : NestedAt → Reader A) : Type 1 where
  pub good : (n : ℕ) (i j : NestedLanguages) (r : NestedAt) → GoodNested n i j r → Good n true first after (start i) (start j) (start_at r)
  pub live : (i j : NestedLanguages) (r : NestedAt) → LiveNested i j r → Live (start i) (start j)

all_simple : (ts : List Tok) → Each IsSimple ts → AllSimple ts
all_simple [] h = tt
all_simple (t ∷ ts) h = (h.0, all_simple ts h.1)

-- of two ends of one list that are as long the one is the other
same_ends : (a b r s : List Tok) → a ++ r ≡ b ++ s → length r ≡ length s → r ≡ s
same_ends [] [] r s e n = e
same_ends [] (y ∷ b) r s e n = absurd (omega (arith, n, ap length e, length-append b s))
same_ends (x ∷ a) [] r s e n = absurd (omega (arith, n, ap length e, length-append a r))
same_ends (x ∷ a) (y ∷ b) r s e n = same_ends a b r s (let q : a ++ r ≡ b ++ s = cc in q) n

shorter : (x n m : ℕ) → x ≤ n → n ≤ m → x < suc m
shorter x n m h j = omega arith

-- of two beginnings of one list the longer one begins with the other, and has a token more
longer_front : (a r b s : List Tok) → a ++ r ≡ b ++ s → length s < length r → (t : Tok) × (more : List Tok) × (w : List Tok) × (r ≡ t ∷ more) × (b ≡ (a ++ t ∷ []) ++ w)
longer_front [] [] b s e lt = absurd (omega arith)
longer_front [] (t ∷ r) [] s e lt = absurd (omega (arith, ap length e))
longer_front [] (t ∷ r) (x ∷ b) s e lt = (t, r, b, refl, let k : x ∷ b ≡ t ∷ b = cc in k)
longer_front (x ∷ a) r [] s e lt = absurd (omega (arith, ap length e, length-append a r))
longer_front (x ∷ a) r (y ∷ b) s e lt =
    let tail : a ++ r ≡ b ++ s = cc in
    let head : y ≡ x = cc in
    let w = longer_front a r b s tail lt in
    (w.0, w.1, w.2, w.3, λ i. head i ∷ w.4 i)

module _ {A : Type 0} {first after : List ℕ} {start : Start A} {start_at : NestedAt → Reader A} (is : IsStart first after start start_at) where
  abbrev more_good : (n : ℕ) → Good n true first after (start (nested n)) (start (nested (suc n))) (start_at (nested_at n))
  more_good n = is.good n (nested n) (nested (suc n)) (nested_at n) (good_nested n)

  sub_more : (k n m : ℕ) → m ≡ k + n → Sub (start (nested n)) (start (nested m))
  sub_more zero n m e = subst (λ x. Sub (start (nested n)) (start (nested x))) (let q : n ≡ m = omega arith in q) (sub_same (start (nested n)))
  sub_more (suc k) n zero e = absurd (omega arith)
  sub_more (suc k) n (suc m) e = sub_trans (start (nested n)) (start (nested m)) (start (nested (suc m))) (sub_more k n m (omega arith)) (more_good m).loose.sub

  -- a list of at most n tokens is read with n nestings, if with any
  low_reads : (n k m : ℕ) (ts : List Tok) (a : A) → m ≡ k + n → length ts ≤ n → (start (nested m)).reads ts a → (start (nested n)).reads ts a
  low_reads n zero m ts a e le rd = subst (λ x. (start (nested x)).reads ts a) (let q : m ≡ n = omega arith in q) rd
  low_reads n (suc k) zero ts a e le rd = absurd (omega arith)
  low_reads n (suc k) (suc m) ts a e le rd = low_reads n k m ts a (omega arith) le ((more_good m).loose.low.reads ts a (shorter (length ts) n m le (omega arith)) rd)

  low_front : (n k m : ℕ) (ts : List Tok) → m ≡ k + n → length ts ≤ n → (start (nested m)).front ts → (start (nested n)).front ts
  low_front n zero m ts e le fr = subst (λ x. (start (nested x)).front ts) (let q : m ≡ n = omega arith in q) fr
  low_front n (suc k) zero ts e le fr = absurd (omega arith)
  low_front n (suc k) (suc m) ts e le fr = low_front n k m ts (omega arith) le ((more_good m).loose.low.front ts (shorter (length ts) n m le (omega arith)) fr)

  reads_at : (n : ℕ) (ts : List Tok) (a : A) → length ts ≤ n → ReadsFrom start ts a → (start (nested n)).reads ts a
  reads_at n ts a le rd = low_reads n rd.nesting (rd.nesting + n) ts a refl le ((sub_more n rd.nesting (rd.nesting + n) (omega arith)).reads ts a rd.reads)

  front_at : (n : ℕ) (ts : List Tok) → length ts ≤ n → FrontFrom start ts → (start (nested n)).front ts
  front_at n ts le fr = low_front n fr.nesting (fr.nesting + n) ts refl le ((sub_more n fr.nesting (fr.nesting + n) (omega arith)).front ts fr.front)

  module _ (n : ℕ) (ts : List Tok) (le : length ts ≤ n) where
    abbrev same_good : Good n true first after (start (nested n)) (start (nested n)) (start_at (nested_at n))
    same_good = is.good n (nested n) (nested n) (nested_at n) (good_same n)

    front_le : (u s : List Tok) → ts ≡ u ++ s → length u ≤ n
    front_le u s e = omega (arith, ap length e, length-append u s)

    abbrev Says : Answer Tok A → Type 0
    Says x = Exact (of after) (start (nested n)) ts x

    says : (x : Answer Tok A) → start_at (nested_at n) ts ≡ x → Says x
    says x e = subst (λ y. Says y) e (same_good.loose.exact ts)

    pub answer_reads : (a : A) (r : List Tok) → start_at (nested_at n) ts ≡ Ok (a, r) → is_nil r ≡ true → ReadsFrom start ts a
    answer_reads a [] h e = let k = says (Ok (a, [])) h in record { nesting = n; reads = subst (λ z. (start (nested n)).reads z a) (sym (k.found.1 ∙ append-nil k.found.0)) k.found.2 }
    answer_reads a (x ∷ r) h e = absurd cc

    pub answer_only : (a : A) (r : List Tok) → start_at (nested_at n) ts ≡ Ok (a, r) → is_nil r ≡ true → (other : A) → ReadsFrom start ts other → other ≡ a
    answer_only a [] h e other rd = elim ((says (Ok (a, [])) h).only ts [] other (sym (append-nil ts)) (reads_at n ts other le rd)) [ inl q ↦ q.0 | inr b ↦ absurd b ]
    answer_only a (x ∷ r) h e other rd = absurd cc

    pub answer_rest : (a : A) (r : List Tok) → start_at (nested_at n) ts ≡ Ok (a, r) → is_nil r ≡ false → FaultFrom start ts r
    answer_rest a [] h e = absurd cc
    answer_rest a (x ∷ r) h e = let k = says (Ok (a, x ∷ r)) h in record {
      before = (k.found.0, k.found.1, record { nesting = n; front = same_good.loose.firsts.whole k.found.0 a k.found.2 });
      longest = λ u s q fr. k.farthest u s q (front_at n u (front_le u s q) fr);
      unread = λ other rd. elim (k.only ts [] other (sym (append-nil ts)) (reads_at n ts other le rd)) [ inl q ↦ (let z = q.1 in absurd cc) | inr b ↦ absurd b ];
    }

    pub answer_fault : (r : List Tok) → start_at (nested_at n) ts ≡ Err (At r) → FaultFrom start ts r
    answer_fault r h = let k = says (Err (At r)) h in record {
      before = (k.found.0, k.found.1, record { nesting = n; front = k.found.2 });
      longest = λ u s q fr. k.farthest u s q (front_at n u (front_le u s q) fr);
      unread = λ other rd. k.only ts [] other (sym (append-nil ts)) (reads_at n ts other le rd);
    }

  one_fault : (ts r s : List Tok) → FaultFrom start ts r → FaultFrom start ts s → r ≡ s
  one_fault ts r s f g =
      let there = f.longest g.before.0 s g.before.1 g.before.2 in
      let back = g.longest f.before.0 r f.before.1 f.before.2 in
      same_ends f.before.0 g.before.0 r s (sym f.before.1 ∙ g.before.1) (omega (arith, there, back))

  one_read : (ts : List Tok) (a b : A) → ReadsFrom start ts a → ReadsFrom start ts b → (x : Answer Tok A) → start_at (nested_at (length ts)) ts ≡ x → a ≡ b
  one_read ts a b h k (Ok (c, [])) e = let only = answer_only (length ts) ts (omega arith) c [] e refl in only a h ∙ sym (only b k)
  one_read ts a b h k (Ok (c, u ∷ rest)) e = absurd ((answer_rest (length ts) ts (omega arith) c (u ∷ rest) e refl).unread a h)
  one_read ts a b h k (Err (At rest)) e = absurd ((answer_fault (length ts) ts (omega arith) rest e).unread a h)

  pub at_most_one : AtMostOne start
  at_most_one = record { one_tree = λ ts a b h k. one_read ts a b h k (start_at (nested_at (length ts)) ts) refl; one_fault = one_fault }

  -- what begins a list that is read is a front
  front_of_read : (ts v : List Tok) (a : A) → ReadsFrom start (ts ++ v) a → FrontFrom start ts
  front_of_read ts v a rd = record { nesting = rd.nesting; front = (is.live (nested rd.nesting) (nested (suc rd.nesting)) (nested_at rd.nesting) (live_nested rd.nesting)).closed.front ts v a rd.reads }

  -- a front begins a list that is read
  read_of_front : (ts : List Tok) → FrontFrom start ts → (v : List Tok) × (a : A) × ReadsFrom start (ts ++ v) a × AllSimple v
  read_of_front ts fr =
      let w = (is.live (nested fr.nesting) (nested (suc fr.nesting)) (nested_at fr.nesting) (live_nested fr.nesting)).completes.whole ts fr.front in
      (w.0, w.1, record { nesting = suc fr.nesting; reads = w.2 }, all_simple w.0 w.3)

  pub beginnings : Beginnings start
  beginnings = record { begins = front_of_read; completed = read_of_front }

  -- a front of a front is one
  front_of_front : (u w : List Tok) → FrontFrom start (u ++ w) → FrontFrom start u
  front_of_front u w fr = let k = read_of_front (u ++ w) fr in front_of_read u (w ++ k.0) k.1 (subst (λ z. ReadsFrom start z k.1) (append_assoc u w k.0) k.2)

  outcome : (ts : List Tok) (x : Answer Tok A) → start_at (nested_at (length ts)) ts ≡ x → ((a : A) × ReadsFrom start ts a) ⊎ ((rest : List Tok) × FaultFrom start ts rest)
  outcome ts (Ok (c, [])) e = inl (c, answer_reads (length ts) ts (omega arith) c [] e refl)
  outcome ts (Ok (c, u ∷ rest)) e = inr (u ∷ rest, answer_rest (length ts) ts (omega arith) c (u ∷ rest) e refl)
  outcome ts (Err (At rest)) e = inr (rest, answer_fault (length ts) ts (omega arith) rest e)

  first_of : (ts rest : List Tok) → FaultFrom start ts rest → IsFirstFault start ts rest
  first_of ts rest f = record {
    before = f.before.0;
    cut = f.before.1;
    front = f.before.2;
    none = λ t more e fr. (
        let cut : ts ≡ (f.before.0 ++ t ∷ []) ++ more = f.before.1 ∙ ap (λ z. f.before.0 ++ z) e ∙ sym (append_assoc f.before.0 (t ∷ []) more) in
        let far = f.longest (f.before.0 ++ t ∷ []) more cut fr in
        absurd (omega (arith, far, ap length e)));
    unread = f.unread;
  }

  no_farther : (ts rest : List Tok) (f : IsFirstFault start ts rest) (u s : List Tok) → ts ≡ u ++ s → FrontFrom start u → length s < length rest → ⊥
  no_farther ts rest f u s e fr lt =
      let w = longer_front f.before rest u s (sym f.cut ∙ e) lt in
      f.none w.0 w.1 w.3 (front_of_front (f.before ++ w.0 ∷ []) w.2 (subst (FrontFrom start) w.4 fr))

  not_less : (a b : ℕ) → (b < a → ⊥) → a ≤ b
  not_less zero b n = omega arith
  not_less (suc a) zero n = absurd (n (omega arith))
  not_less (suc a) (suc b) n = let k = not_less a b (λ lt. n (omega (arith, lt))) in omega (arith, k)

  fault_of : (ts rest : List Tok) → IsFirstFault start ts rest → FaultFrom start ts rest
  fault_of ts rest f = record {
    before = (f.before, f.cut, f.front);
    longest = λ u s e fr. not_less (length rest) (length s) (no_farther ts rest f u s e fr);
    unread = f.unread;
  }

  pub faults : Faults start
  faults = record { some = λ ts. outcome ts (start_at (nested_at (length ts)) ts) refl; first = λ ts rest. (first_of ts rest, fault_of ts rest) }
