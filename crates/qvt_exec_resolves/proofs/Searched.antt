-- A search in depth lists what a mapping disjuncts to, and ends.
use Rattle.std.proofs.Common.{◌≡◌, ℕ, zero, suc, ◌<◌, ◌+◌, ◌-◌, Bool, true, false, ◌==◌, ◌&&◌, inl, inr, sym, refl, ap, subst, ◌∙◌, List, [], ◌∷◌, ◌++◌, length, length-append, fold, eqb-true, arith}
use Rattle.std.specs.Prelude.{if◌then◌else◌}
use Rattle.std.specs.List.{list_all, flat_map}
use Rattle.qvt_relation.proofs.Bools.{and_left, and_right, or_cases}
use Rattle.qvt_meaning.specs.Program.{with_number}
use Rattle.qvt_exec_resolves.specs.Numbers.{has}
use Rattle.qvt_exec_resolves.specs.Disjuncts.{waiting, from, opened, closed, taken}
use Rattle.qvt_exec_resolves.specs.declared.disjuncts.Search.{Search}
use Rattle.qvt_exec_resolves.specs.declared.disjuncts.Turn.{Turn}
use Rattle.qvt_exec_resolves.specs.declared.disjuncts.Turn.TheVariants.{Open, Close}
use Rattle.qvt_exec_resolves.proofs.Holding.{stays, was_there, all_there, in_some, each_of}
use Rattle.qvt_exec_resolves.proofs.Turns.{fold-joined, gathered, gathered-last, gathered-waiting}

module _ (next : ℕ → List ℕ) where
  -- what a turn lists
  abbrev pub lists : Turn → List ℕ
  lists (Open k n) = from next n k
  lists (Close k) = []

  -- itself, and the turns that come of it
  abbrev pub events : ℕ → ℕ → List ℕ
  events zero k = k ∷ []
  events (suc n) k = k ∷ k ∷ flat_map (events n) (next k)

  abbrev pub turns_of : Turn → List ℕ
  turns_of (Open k n) = events n k
  turns_of (Close k) = k ∷ []

  -- what these mappings disjunct to is listed
  abbrev pub AreDone : List ℕ → List ℕ → Type 0
  AreDone done listed = (v : ℕ) → has done v ≡ true → (n x : ℕ) → has (from next n v) x ≡ true → has listed x ≡ true

  -- what is listed with what the turns list is the whole list
  pub record IsSearch (whole : List ℕ) (s : Search) : Type 0 where
    pub rest : fold with_number s.listed (gathered lists s.turns) ≡ whole
    pub done : AreDone s.done s.listed

  abbrev pub size : Search → ℕ
  size s = length (gathered turns_of s.turns)

  module _ (whole listed done : List ℕ) (ts : List Turn) where
    abbrev with_turn : Turn → Search
    with_turn t = record { listed = listed; done = done; turns = ts ++ t ∷ [] }

    abbrev without : Search
    without = record { listed = listed; done = done; turns = ts }

    rest_with : (t : Turn) → IsSearch whole (with_turn t) → fold with_number (fold with_number listed (lists t)) (gathered lists ts) ≡ whole
    rest_with t h = sym (fold-joined with_number listed (lists t) (gathered lists ts)) ∙ ap (fold with_number listed) (sym (gathered-last lists ts t)) ∙ h.rest

    -- a mapping that is done lists nothing more
    skipped : (k n : ℕ) → has done k ≡ true → IsSearch whole (with_turn (Open k n)) → IsSearch whole without
    skipped k n is_done h = record {
      rest = ap (λ (l : List ℕ). fold with_number l (gathered lists ts)) (sym (all_there listed (from next n k) (h.done k is_done n))) ∙ rest_with (Open k n) h;
      done = h.done;
    }

    begun : (k n : ℕ) → IsSearch whole (with_turn (Open k (suc n))) → IsSearch whole (record { listed = with_number listed k; done = done; turns = (ts ++ Close k ∷ []) ++ waiting n (next k) })
    begun k n h = record {
      rest = ap (fold with_number (with_number listed k)) (gathered-waiting lists (ts ++ Close k ∷ []) n (next k) ∙ ap (λ (l : List ℕ). flat_map (from next n) (next k) ++ l) (gathered-last lists ts (Close k)))
          ∙ fold-joined with_number (with_number listed k) (flat_map (from next n) (next k)) (gathered lists ts)
          ∙ rest_with (Open k (suc n)) h;
      done = λ v d m x there. stays listed k x (h.done v d m x there);
    }

    is_opened : (k n : ℕ) → IsSearch whole (with_turn (Open k n)) → IsSearch whole (opened next without k n)
    is_opened k zero h = record { rest = rest_with (Open k zero) h; done = h.done }
    is_opened k (suc n) h = by (has done k) refl
      where
        by : (b : Bool) → has done k ≡ b → IsSearch whole (if b then without else record { listed = with_number listed k; done = done; turns = (ts ++ Close k ∷ []) ++ waiting n (next k) })
        by true e = skipped k (suc n) e h
        by false e = begun k n h

    left : (k : ℕ) → IsSearch whole (with_turn (Close k)) → IsSearch whole without
    left k h = record { rest = rest_with (Close k) h; done = h.done }

    -- with a mapping that is listed, where those that it disjuncts to are done
    noted : (k : ℕ) → AreDone done listed → has listed k ≡ true → list_all (has done) (next k) ≡ true → AreDone (with_number done k) listed
    noted k old is_listed all v d n x there = elim (was_there done k v d) [
      | inl same ↦ own n (subst (λ j. has (from next n j) x ≡ true) (sym same) there)
      | inr before ↦ old v before n x there
    ]
      where
        own : (n : ℕ) → has (from next n k) x ≡ true → has listed x ≡ true
        own zero h = cc
        own (suc n) h = elim (or_cases (k == x) (has (flat_map (from next n) (next k)) x) h) [
          | inl same ↦ subst (λ j. has listed j ≡ true) (eqb-true k x same) is_listed
          | inr deeper ↦ let r = in_some (from next n) (next k) x deeper in old r.0 (each_of (has done) (next k) r.0 all r.1) n x r.2
        ]

    is_closed : (k : ℕ) → IsSearch whole (with_turn (Close k)) → IsSearch whole (closed next without k)
    is_closed k h = by (has listed k && list_all (has done) (next k)) refl
      where
        by : (b : Bool) → (has listed k && list_all (has done) (next k)) ≡ b → IsSearch whole (if b then record { listed = listed; done = with_number done k; turns = ts } else without)
        by true e = record { rest = rest_with (Close k) h; done = noted k h.done (and_left (has listed k) _ e) (and_right (has listed k) _ e) }
        by false e = left k h

    is_taken : (t : Turn) → IsSearch whole (with_turn t) → IsSearch whole (taken next without t)
    is_taken (Open k n) h = is_opened k n h
    is_taken (Close k) h = is_closed k h

    -- ---- and it ends

    one_less : (t : Turn) (l : List ℕ) → turns_of t ≡ l → length (gathered turns_of ts) + length l ≡ size (with_turn t)
    one_less t l e =
        let all : size (with_turn t) ≡ length (turns_of t) + length (gathered turns_of ts) = ap length (gathered-last turns_of ts t) ∙ length-append (turns_of t) (gathered turns_of ts) in
        omega (arith, all, ap length e)

    smaller_opened : (k n : ℕ) → size (opened next without k n) < size (with_turn (Open k n))
    smaller_opened k zero = omega (arith, one_less (Open k zero) (k ∷ []) refl)
    smaller_opened k (suc n) = by (has done k)
      where
        more : size (record { listed = with_number listed k; done = done; turns = (ts ++ Close k ∷ []) ++ waiting n (next k) }) ≡ length (flat_map (events n) (next k)) + suc (length (gathered turns_of ts))
        more = ap length (gathered-waiting turns_of (ts ++ Close k ∷ []) n (next k) ∙ ap (λ (l : List ℕ). flat_map (events n) (next k) ++ l) (gathered-last turns_of ts (Close k)))
            ∙ length-append (flat_map (events n) (next k)) (k ∷ gathered turns_of ts)

        by : (b : Bool) → size (if b then without else record { listed = with_number listed k; done = done; turns = (ts ++ Close k ∷ []) ++ waiting n (next k) }) < size (with_turn (Open k (suc n)))
        by true = omega (arith, one_less (Open k (suc n)) (k ∷ k ∷ flat_map (events n) (next k)) refl)
        by false = omega (arith, one_less (Open k (suc n)) (k ∷ k ∷ flat_map (events n) (next k)) refl, more)

    smaller_closed : (k : ℕ) → size (closed next without k) < size (with_turn (Close k))
    smaller_closed k = by (has listed k && list_all (has done) (next k))
      where
        by : (b : Bool) → size (if b then record { listed = listed; done = with_number done k; turns = ts } else without) < size (with_turn (Close k))
        by true = omega (arith, one_less (Close k) (k ∷ []) refl)
        by false = omega (arith, one_less (Close k) (k ∷ []) refl)

    smaller : (t : Turn) → size (taken next without t) < size (with_turn t)
    smaller (Open k n) = smaller_opened k n
    smaller (Close k) = smaller_closed k

  -- ---- as the loop has it

  same_search : (s t : Search) → s.listed ≡ t.listed → s.done ≡ t.done → s.turns ≡ t.turns → s ≡ t
  same_search s t l d w = λ i. record { listed = l i; done = d i; turns = w i }

  pub goes_on : (whole : List ℕ) (old rest new : Search) (t : Turn) → IsSearch whole old → rest.listed ≡ old.listed → rest.done ≡ old.done → old.turns ≡ rest.turns ++ t ∷ [] → new ≡ taken next rest t → IsSearch whole new
  goes_on whole old rest new t h l d w is =
      subst (IsSearch whole) (sym is) (is_taken whole rest.listed rest.done rest.turns t (subst (IsSearch whole) (same_search old (record { listed = rest.listed; done = rest.done; turns = rest.turns ++ t ∷ [] }) (sym l) (sym d) w) h))

  pub gets_less : (old rest new : Search) (t : Turn) → old.turns ≡ rest.turns ++ t ∷ [] → new ≡ taken next rest t → size new < size old
  gets_less old rest new t w is =
      subst (λ n. size new < n) (ap (λ (l : List Turn). length (gathered turns_of l)) (sym w))
      (subst (λ (s : Search). size s < length (gathered turns_of (rest.turns ++ t ∷ []))) (sym is) (smaller [] rest.listed rest.done rest.turns t))

  pub starts : (k n : ℕ) → IsSearch (fold with_number [] (from next n k)) (record { listed = []; done = []; turns = Open k n ∷ [] })
  starts k n = record { rest = ap (fold with_number []) (Rattle.std.proofs.Common.append-nil (from next n k)); done = λ v d m x there. cc }

  pub ends : (whole : List ℕ) (s : Search) → IsSearch whole s → s.turns ≡ [] → s.listed ≡ whole
  ends whole s h none = sym (ap (λ (l : List Turn). fold with_number s.listed (gathered lists l)) none) ∙ h.rest

  -- ---- as `open` has it

  pub opened_none : (s : Search) (k n : ℕ) → n ≡ 0 → s ≡ opened next s k n
  opened_none s k zero h = refl
  opened_none s k (suc n) h = absurd (omega (arith, h))
