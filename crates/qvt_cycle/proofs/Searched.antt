-- A search from a number finds exactly what steps lead to.
use Rattle.std.proofs.Common.{◌≡◌, ◌∙◌, ℕ, zero, suc, ◌+◌, ◌<◌, ◌==◌, List, [], ◌∷◌, ◌++◌, length, Bool, true, false, ◌⊎◌, inl, inr, refl, sym, ap, subst, arith}
use Rattle.std.specs.Prelude.{slice_index_or}
use Rattle.std.proofs.lemmas.Bool.{eqb-true, eq-eqb}
use Rattle.qvt_relation.specs.Closure.{Closure, directly, through, Decides, IsBelow}
use Rattle.qvt_relation.proofs.Bools.{or_cases, or_left, same_test}
use Rattle.qvt_relation.proofs.Closures.{join, reaches-closure, closure-reaches}
use Rattle.qvt_cycle.specs.Successors.{among, leads, is_on_cycle}
use Rattle.qvt_cycle.specs.Search.{SearchState, is_visited, visit_all, unmarked, missing}
use Rattle.qvt_cycle.proofs.Visits.{Visited, all_visited, among-here, among-joined, among-first, length-pushed}

abbrev pub Step : List (List ℕ) → ℕ → ℕ → Type 0
Step lists x y = leads lists x y ≡ true

abbrev pub Way : List (List ℕ) → ℕ → ℕ → Type 0
Way lists x y = Closure (Step lists) x y

pub starts_below : (lists : List (List ℕ)) (x y : ℕ) → leads lists x y ≡ true → x < length lists
starts_below [] x y h = cc
starts_below (c ∷ lists) zero y h = omega arith
starts_below (c ∷ lists) (suc x) y h = let ih = starts_below lists x y h in omega (arith, ih)

-- the start, or what was found
abbrev pub IsSeen : List (List ℕ) → ℕ → SearchState → ℕ → Type 0
IsSeen lists start s x = (x ≡ start) ⊎ ((x < length lists) × (is_visited s.marks x ≡ true))

pub record IsSearch (lists : List (List ℕ)) (start : ℕ) (s : SearchState) : Type 0 where
  pub sizes : length s.marks ≡ length lists
  pub found : (y : ℕ) → y < length lists → is_visited s.marks y ≡ true → Way lists start y
  pub waits : (x : ℕ) → among s.pending x ≡ true → (x ≡ start) ⊎ Way lists start x
  pub closed : (x y : ℕ) → IsSeen lists start s x → leads lists x y ≡ true → (is_visited s.marks y ≡ true) ⊎ (among s.pending x ≡ true)

onward : (lists : List (List ℕ)) (start x y : ℕ) → (x ≡ start) ⊎ Way lists start x → leads lists x y ≡ true → Way lists start y
onward lists start x y h step = elim h [
  | inl same ↦ directly (subst (λ k. leads lists k y ≡ true) same step)
  | inr way ↦ join (Step lists) way (directly step)
]

-- the list of the last that waits was looked through
pub looked : (lists : List (List ℕ)) (start x : ℕ) (marks : List Bool) (rest : List ℕ)
    → IsSearch lists start (record { marks = marks; pending = rest ++ x ∷ [] })
    → IsSearch lists start (visit_all (record { marks = marks; pending = rest }) (slice_index_or lists x []))
looked lists start x marks rest h = record {
  sizes = v.sizes ∙ h.sizes;
  found = λ y lt m. elim (v.only y m) [ inl old ↦ h.found y lt old | inr new ↦ onward lists start x y last new.0 ];
  waits = λ z m. elim (v.from z m) [ inl old ↦ h.waits z (among-first rest (x ∷ []) z old) | inr new ↦ inr (onward lists start x z last new) ];
  closed = λ z y seen step. closed z y seen step;
}
  where
    old_state : SearchState
    old_state = record { marks = marks; pending = rest }

    v : Visited (slice_index_or lists x []) old_state (visit_all old_state (slice_index_or lists x []))
    v = all_visited (slice_index_or lists x []) old_state

    in_pending : among (rest ++ x ∷ []) x ≡ true
    in_pending = Rattle.qvt_cycle.proofs.Visits.among-second rest (x ∷ []) x (among-here x [])

    last : (x ≡ start) ⊎ Way lists start x
    last = h.waits x in_pending

    was : (z y : ℕ) → IsSeen lists start old_state z → leads lists z y ≡ true
        → (is_visited (visit_all old_state (slice_index_or lists x [])).marks y ≡ true) ⊎ (among (visit_all old_state (slice_index_or lists x [])).pending z ≡ true)
    was z y seen step = elim (h.closed z y seen step) [
      | inl marked ↦ inl (v.kept y marked)
      | inr waiting ↦ elim (among-joined rest (x ∷ []) z waiting) [
        | inl still ↦ inr (v.stays z still)
        | inr single ↦ elim (or_cases (x == z) false single) [
          | inl same ↦ inl (v.all y (subst (λ k. leads lists k y ≡ true) (sym (eqb-true x z same)) step))
          | inr none ↦ cc
        ]
      ]
    ]

    closed : (z y : ℕ) → IsSeen lists start (visit_all old_state (slice_index_or lists x [])) z → leads lists z y ≡ true
        → (is_visited (visit_all old_state (slice_index_or lists x [])).marks y ≡ true) ⊎ (among (visit_all old_state (slice_index_or lists x [])).pending z ≡ true)
    closed z y seen step = elim seen [
      | inl same ↦ was z y (inl same) step
      | inr m ↦ elim (v.only z m.1) [ inl old ↦ was z y (inr (m.0, old)) step | inr new ↦ inr new.1 ]
    ]

unmarked-long : (lists : List (List ℕ)) → length (unmarked lists) ≡ length lists
unmarked-long [] = refl
unmarked-long (c ∷ lists) = ap suc (unmarked-long lists)

unmarked-none : (lists : List (List ℕ)) (y : ℕ) → y < length lists → is_visited (unmarked lists) y ≡ false
unmarked-none [] y lt = absurd (omega (arith, lt))
unmarked-none (c ∷ lists) zero lt = refl
unmarked-none (c ∷ lists) (suc y) lt = unmarked-none lists y (omega (arith, lt))

pub begun : (lists : List (List ℕ)) (start : ℕ) → IsSearch lists start (record { marks = unmarked lists; pending = start ∷ [] })
begun lists start = record {
  sizes = unmarked-long lists;
  found = λ y lt m. (let no = unmarked-none lists y lt in absurd (clash no m));
  waits = λ x m. elim (or_cases (start == x) false m) [ inl same ↦ inl (sym (eqb-true start x same)) | inr none ↦ cc ];
  closed = λ x y seen step. elim seen [
    | inl same ↦ inr (or_left (start == x) _ (eq-eqb start x (sym same)))
    | inr m ↦ (let no = unmarked-none lists x m.0 in absurd (clash no m.1))
  ];
}
  where
    clash : {b : Bool} → b ≡ false → b ≡ true → ⊥
    clash p q = let d : true ≡ false = sym q ∙ p in absurd cc

pub begins : (lists : List (List ℕ)) {x y : ℕ} → Way lists x y → x < length lists
begins lists {x} {y} (directly step) = starts_below lists x y step
begins lists {x} {y} (through {y = z} step rest) = starts_below lists x z step

-- nothing waits: all that steps lead to was found
ended : (lists : List (List ℕ)) (start : ℕ) (marks : List Bool) → IsSearch lists start (record { marks = marks; pending = [] })
    → (x y : ℕ) → IsSeen lists start (record { marks = marks; pending = [] }) x → Way lists x y → is_visited marks y ≡ true
ended lists start marks h x y seen (directly step) = elim (h.closed x y seen step) [ inl marked ↦ marked | inr none ↦ cc ]
ended lists start marks h x y seen (through {y = z} step rest) = elim (h.closed x z seen step) [
  | inl marked ↦ ended lists start marks h z y (inr (begins lists rest, marked)) rest
  | inr none ↦ cc
]

decides : (lists : List (List ℕ)) → Decides (leads lists) (Step lists)
decides lists = record { sound = λ x y h. h; complete = λ x y h. h }

below : (lists : List (List ℕ)) → IsBelow (length lists) (Step lists)
below lists = record { starts = λ x y h. starts_below lists x y h }

pub way-on_cycle : (lists : List (List ℕ)) (x : ℕ) → Way lists x x → is_on_cycle lists x ≡ true
way-on_cycle lists x w = closure-reaches (leads lists) (Step lists) (decides lists) (length lists) (below lists) w

pub on_cycle-way : (lists : List (List ℕ)) (x : ℕ) → is_on_cycle lists x ≡ true → Way lists x x
on_cycle-way lists x h = reaches-closure (leads lists) (Step lists) (decides lists) (length lists) x x h

pub tells : (lists : List (List ℕ)) (start : ℕ) (marks : List Bool) → start < length lists → IsSearch lists start (record { marks = marks; pending = [] })
    → is_visited marks start ≡ is_on_cycle lists start
tells lists start marks lt h = same_test _ _
    (λ m. way-on_cycle lists start (h.found start lt m))
    (λ c. ended lists start marks h start start (inl refl) (on_cycle-way lists start c))

pub goes_on : (lists : List (List ℕ)) (start x : ℕ) (before rest : SearchState) → IsSearch lists start before → before.pending ≡ rest.pending ++ x ∷ [] → rest.marks ≡ before.marks
    → IsSearch lists start (visit_all rest (slice_index_or lists x []))
goes_on lists start x before rest h pending marks = looked lists start x rest.marks rest.pending (subst (IsSearch lists start) same h)
  where
    same : before ≡ record { marks = rest.marks; pending = rest.pending ++ x ∷ [] }
    same = λ i. record { marks = sym marks i; pending = pending i }

pub fewer_left : (lists : List (List ℕ)) (x : ℕ) (before rest : SearchState) → before.pending ≡ rest.pending ++ x ∷ [] → rest.marks ≡ before.marks
    → missing (visit_all rest (slice_index_or lists x [])).marks + length (visit_all rest (slice_index_or lists x [])).pending < missing before.marks + length before.pending
fewer_left lists x before rest pending marks =
    let v = (all_visited (slice_index_or lists x []) rest).fewer in
    let long = ap length pending ∙ length-pushed rest.pending x in
    let same = ap missing marks in
    omega (arith, v, long, same)

pub tells_at : (lists : List (List ℕ)) (start : ℕ) (s : SearchState) → start < length lists → IsSearch lists start s → s.pending ≡ [] → is_visited s.marks start ≡ is_on_cycle lists start
tells_at lists start s lt h none = tells lists start s.marks lt (subst (IsSearch lists start) same h)
  where
    same : s ≡ record { marks = s.marks; pending = [] }
    same = λ i. record { marks = s.marks; pending = none i }
