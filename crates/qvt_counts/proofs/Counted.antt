-- Counts of sets word by word.
use Rattle.std.proofs.Common.{◌≤◌, ◌≡◌, ◌∙◌, ℕ, ◌+◌, ◌-◌, ◌/◌, ◌%◌, ◌<◌, List, length, get_or, Bool, true, false, ◌==◌, ◌||◌, ◌&&◌, not, inl, inr, refl, ap, sym, arith, suc, zero, replicate}
use Rattle.std.specs.Prelude.{if◌then◌else◌, nat_lt}
use Rattle.std.proofs.lemmas.Bool.{le-leb, cases_lt}
use Rattle.std.proofs.lemmas.List.{get_or_past}
use Rattle.qvt_metamodel.specs.declared.row.Row.{Row}
use Rattle.qvt_metamodel.specs.Kept.{word_of, is_bit, is_marked}
use Rattle.qvt_metamodel.proofs.Bools.{ap2}
use Rattle.qvt_metamodel.proofs.Rows.{no_bit}
use Rattle.qvt_rows.proofs.SetWords.{marked, no_mark_behind}
use Rattle.qvt_counts.specs.declared.counter.Counter.{Counter}
use Rattle.qvt_counts.specs.Counts.{bits, count_at, counted, no_counter, one}

no_one : (k : ℕ) → one (is_bit 0 k) ≡ 0
unfolding one
no_one k = ap one (no_bit k)

-- a counter after a set was counted
abbrev pub OneMore : Row → ℕ → Counter → Counter → Type 0
OneMore set n old new = (k : ℕ) → counted old k < 127 → counted new k ≡ counted old k + one (is_bit (word_of set n) k)

pub none_more : (set : Row) (n : ℕ) → word_of set n ≡ 0 → (c : Counter) → OneMore set n c c
none_more set n none c k l = let no = ap (λ w. one (is_bit w k)) none ∙ no_one k in omega (arith, no)

pub more_at : (set : Row) (old new : List Counter) → set.start ≡ 0 → ((n : ℕ) → n < length old → OneMore set n (get_or old n no_counter) (get_or new n no_counter))
    → (d : ℕ) → d / 64 < length old → count_at old d < 127 → count_at new d ≡ count_at old d + one (is_marked set d)
more_at set old new start each d low few = each (d / 64) low (d % 64) few ∙ ap (λ b. count_at old d + one b) (sym (marked set start d))

-- a word after the numbers of a set with a count were put into it
abbrev pub PutMore : Row → List Counter → ℕ → ℕ → ℕ → ℕ → Type 0
PutMore set counts count n old new = (k : ℕ) → k < 64 → is_bit new k ≡ (is_bit old k || (is_bit (word_of set n) k && (counted (get_or counts n no_counter) k == count)))

or_none : (a b : Bool) → a ≡ (a || (false && b))
or_none true b = refl
or_none false b = refl

pub none_put : (set : Row) (counts : List Counter) (count n : ℕ) → word_of set n ≡ 0 → (w : ℕ) → PutMore set counts count n w w
none_put set counts count n none w k l =
    or_none (is_bit w k) (counted (get_or counts n no_counter) k == count)
    ∙ sym (ap (λ b. is_bit w k || (b && (counted (get_or counts n no_counter) k == count))) (ap (λ v. is_bit v k) none ∙ no_bit k))

word_at : (ws : List ℕ) (n : ℕ) → word_of (bits ws) n ≡ get_or ws n 0
word_at ws n = ap (λ b. if b then get_or ws (n - 0) 0 else 0) (le-leb 0 n (omega arith)) ∙ ap (λ k. get_or ws k 0) (let same : n - 0 ≡ n = omega arith in same)

pub mark_at : (ws : List ℕ) (d : ℕ) → is_marked (bits ws) d ≡ is_bit (get_or ws (d / 64) 0) (d % 64)
mark_at ws d = marked (bits ws) refl d ∙ ap (λ w. is_bit w (d % 64)) (word_at ws (d / 64))

pub put_at : (set : Row) (counts : List Counter) (count : ℕ) (old new : List ℕ) → set.start ≡ 0 → ((n : ℕ) → n < length old → PutMore set counts count n (get_or old n 0) (get_or new n 0))
    → (d : ℕ) → d / 64 < length old → is_marked (bits new) d ≡ (is_marked (bits old) d || (is_marked set d && (count_at counts d == count)))
put_at set counts count old new start each d low =
    mark_at new d ∙ each (d / 64) low (d % 64) (omega arith)
    ∙ sym (ap2 (λ a b. a || (b && (count_at counts d == count))) (mark_at old d) (marked set start d))

none_counted : (k : ℕ) → counted no_counter k ≡ 0
unfolding counted
none_counted k = let no = no_one k in omega (arith, no)

-- a number behind the counters
pub past_at : (counts : List Counter) (d : ℕ) → length counts ≤ d / 64 → count_at counts d ≡ 0
past_at counts d past = ap (λ c. counted c (d % 64)) (get_or_past counts (d / 64) no_counter past) ∙ none_counted (d % 64)

-- the words of what is counted and not in a set
pub left_at : (counts : List Counter) (words rest : List ℕ) → length rest ≡ length counts
    → ((i : ℕ) → i < length rest → (k : ℕ) → k < 64 → is_bit (get_or rest i 0) k ≡ (nat_lt 0 (counted (get_or counts i no_counter) k) && not (is_bit (get_or words i 0) k)))
    → (d : ℕ) → is_marked (bits rest) d ≡ (nat_lt 0 (count_at counts d) && not (is_marked (bits words) d))
left_at counts words rest long each d = elim (cases_lt (d / 64) (length rest)) [
  | inl low ↦ mark_at rest d ∙ each (d / 64) low (d % 64) (omega arith) ∙ sym (ap (λ b. nat_lt 0 (count_at counts d) && not b) (mark_at words d))
  | inr past ↦ no_mark_behind (bits rest) refl d (omega (arith, past))
      ∙ sym (ap (λ n. nat_lt 0 n && not (is_marked (bits words) d))
      (past_at counts d (omega (arith, past, long))))
]

none_there : (k n : ℕ) → get_or (replicate k no_counter) n no_counter ≡ no_counter
none_there zero n = refl
none_there (suc k) zero = refl
none_there (suc k) (suc n) = none_there k n

pub none_at : (k : ℕ) (counts : List Counter) → counts ≡ replicate k no_counter → (d : ℕ) → count_at counts d ≡ 0
none_at k counts are d = ap (λ cs. count_at cs d) are ∙ ap (λ c. counted c (d % 64)) (none_there k (d / 64)) ∙ none_counted (d % 64)
