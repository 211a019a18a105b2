-- What a visit, and visits one after the other, leave.
use Rattle.std.proofs.Common.{◌≡◌, ◌∙◌, ℕ, zero, suc, ◌+◌, ◌<◌, ◌==◌, List, [], ◌∷◌, ◌++◌, length, Bool, true, false, ◌⊎◌, inl, inr, refl, sym, subst, arith}
use Rattle.std.specs.Prelude.{slice_set, if◌then◌else◌}
use Rattle.std.proofs.lemmas.Bool.{eqb-true, eq-eqb, cases_eq}
use Rattle.std.proofs.lemmas.List.{get_or-set_same, get_or-set_other, length-set}
use Rattle.qvt_relation.proofs.Bools.{or_cases, or_left, or_right}
use Rattle.qvt_cycle.specs.Successors.{among}
use Rattle.qvt_cycle.specs.Search.{SearchState, is_visited, visit, visit_all, missing}

pub among-here : (y : ℕ) (xs : List ℕ) → among (y ∷ xs) y ≡ true
among-here y xs = or_left (y == y) _ (eq-eqb y y refl)

pub among-there : (y x : ℕ) (xs : List ℕ) → among xs y ≡ true → among (x ∷ xs) y ≡ true
among-there y x xs h = or_right (x == y) _ h

pub among-joined : (xs ys : List ℕ) (y : ℕ) → among (xs ++ ys) y ≡ true → (among xs y ≡ true) ⊎ (among ys y ≡ true)
among-joined [] ys y h = inr h
among-joined (x ∷ xs) ys y h = elim (or_cases (x == y) _ h) [
  | inl here ↦ inl (or_left (x == y) _ here)
  | inr later ↦ elim (among-joined xs ys y later) [ inl first ↦ inl (or_right (x == y) _ first) | inr second ↦ inr second ]
]

pub among-first : (xs ys : List ℕ) (y : ℕ) → among xs y ≡ true → among (xs ++ ys) y ≡ true
among-first [] ys y h = cc
among-first (x ∷ xs) ys y h = elim (or_cases (x == y) _ h) [
  | inl here ↦ or_left (x == y) _ here
  | inr later ↦ or_right (x == y) _ (among-first xs ys y later)
]

pub among-second : (xs ys : List ℕ) (y : ℕ) → among ys y ≡ true → among (xs ++ ys) y ≡ true
among-second [] ys y h = h
among-second (x ∷ xs) ys y h = or_right (x == y) _ (among-second xs ys y h)

-- visits of ys led from old to new
pub record Visited (ys : List ℕ) (old new : SearchState) : Type 0 where
  pub sizes : length new.marks ≡ length old.marks
  pub kept : (y : ℕ) → is_visited old.marks y ≡ true → is_visited new.marks y ≡ true
  pub stays : (x : ℕ) → among old.pending x ≡ true → among new.pending x ≡ true
  pub all : (y : ℕ) → among ys y ≡ true → is_visited new.marks y ≡ true
  pub only : (y : ℕ) → is_visited new.marks y ≡ true → (is_visited old.marks y ≡ true) ⊎ ((among ys y ≡ true) × (among new.pending y ≡ true))
  pub from : (x : ℕ) → among new.pending x ≡ true → (among old.pending x ≡ true) ⊎ (among ys x ≡ true)
  pub fewer : missing new.marks + length new.pending ≡ missing old.marks + length old.pending

pub none_visited : (s : SearchState) → Visited [] s s
none_visited s = record {
  sizes = refl;
  kept = λ y h. h;
  stays = λ x h. h;
  all = λ y h. cc;
  only = λ y h. inl h;
  from = λ x h. inl h;
  fewer = refl;
}

-- a mark that is set is no longer missing
pub one_less : (marks : List Bool) (y : ℕ) → is_visited marks y ≡ false → missing (slice_set marks y true) + 1 ≡ missing marks
one_less [] y h = cc
one_less (true ∷ marks) zero h = cc
one_less (false ∷ marks) zero h = omega arith
one_less (true ∷ marks) (suc y) h = let ih = one_less marks y h in omega (arith, ih)
one_less (false ∷ marks) (suc y) h = let ih = one_less marks y h in omega (arith, ih)

pub inside_marks : (marks : List Bool) (y : ℕ) → is_visited marks y ≡ false → y < length marks
inside_marks [] y h = cc
inside_marks (b ∷ marks) zero h = omega arith
inside_marks (b ∷ marks) (suc y) h = let ih = inside_marks marks y h in omega (arith, ih)

pub length-pushed : (xs : List ℕ) (y : ℕ) → length (xs ++ y ∷ []) ≡ length xs + 1
length-pushed [] y = refl
length-pushed (x ∷ xs) y = let ih = length-pushed xs y in omega (arith, ih)

newly : (y : ℕ) (s : SearchState) → is_visited s.marks y ≡ false → Visited (y ∷ []) s (record { marks = slice_set s.marks y true; pending = s.pending ++ y ∷ [] })
newly y s h = record {
  sizes = length-set s.marks y true;
  kept = λ z m. kept z m;
  stays = λ x m. among-first s.pending (y ∷ []) x m;
  all = λ z m. elim (or_cases (y == z) _ m) [ inl same ↦ subst (λ k. is_visited (slice_set s.marks y true) k ≡ true) (eqb-true y z same) here | inr none ↦ cc ];
  only = λ z m. only z m;
  from = λ x m. among-joined s.pending (y ∷ []) x m;
  fewer = let less = one_less s.marks y h in let long = length-pushed s.pending y in omega (arith, less, long);
}
  where
    here : is_visited (slice_set s.marks y true) y ≡ true
    here = get_or-set_same s.marks y true true (inside_marks s.marks y h)

    kept : (z : ℕ) → is_visited s.marks z ≡ true → is_visited (slice_set s.marks y true) z ≡ true
    kept z m = elim (cases_eq z y) [
      | inl same ↦ subst (λ k. is_visited (slice_set s.marks y true) k ≡ true) (sym same) here
      | inr other ↦ get_or-set_other s.marks y z true true other ∙ m
    ]

    only : (z : ℕ) → is_visited (slice_set s.marks y true) z ≡ true → (is_visited s.marks z ≡ true) ⊎ ((among (y ∷ []) z ≡ true) × (among (s.pending ++ y ∷ []) z ≡ true))
    only z m = elim (cases_eq z y) [
      | inl same ↦ inr (or_left (y == z) _ (eq-eqb y z (sym same)), among-second s.pending (y ∷ []) z (or_left (y == z) _ (eq-eqb y z (sym same))))
      | inr other ↦ inl (sym (get_or-set_other s.marks y z true true other) ∙ m)
    ]

pub one_visited : (y : ℕ) (s : SearchState) → Visited (y ∷ []) s (visit s y)
one_visited y s = by (is_visited s.marks y) refl
  where
    by : (b : Bool) → is_visited s.marks y ≡ b → Visited (y ∷ []) s (if b then s else record { marks = slice_set s.marks y true; pending = s.pending ++ y ∷ [] })
    by true h = record {
      sizes = refl;
      kept = λ z m. m;
      stays = λ x m. m;
      all = λ z m. elim (or_cases (y == z) _ m) [ inl same ↦ subst (λ k. is_visited s.marks k ≡ true) (eqb-true y z same) h | inr none ↦ cc ];
      only = λ z m. inl m;
      from = λ x m. inl m;
      fewer = refl;
    }
    by false h = newly y s h

pub both_visited : (y : ℕ) (ys : List ℕ) (a b c : SearchState) → Visited (y ∷ []) a b → Visited ys b c → Visited (y ∷ ys) a c
both_visited y ys a b c p q = record {
  sizes = q.sizes ∙ p.sizes;
  kept = λ z m. q.kept z (p.kept z m);
  stays = λ x m. q.stays x (p.stays x m);
  all = λ z m. elim (or_cases (y == z) _ m) [ inl same ↦ q.kept z (p.all z (or_left (y == z) _ same)) | inr later ↦ q.all z later ];
  only = λ z m. elim (q.only z m) [
    | inl before ↦ elim (p.only z before) [ inl old ↦ inl old | inr new ↦ inr (single z new.0, q.stays z new.1) ]
    | inr new ↦ inr (or_right (y == z) _ new.0, new.1)
  ];
  from = λ x m. elim (q.from x m) [
    | inl before ↦ elim (p.from x before) [ inl old ↦ inl old | inr here ↦ inr (single x here) ]
    | inr later ↦ inr (or_right (y == x) _ later)
  ];
  fewer = omega (arith, p.fewer, q.fewer);
}
  where
    single : (z : ℕ) → among (y ∷ []) z ≡ true → among (y ∷ ys) z ≡ true
    single z m = elim (or_cases (y == z) _ m) [ inl same ↦ or_left (y == z) _ same | inr none ↦ cc ]

pub all_visited : (ys : List ℕ) (s : SearchState) → Visited ys s (visit_all s ys)
all_visited [] s = none_visited s
all_visited (y ∷ ys) s = both_visited y ys s (visit s y) _ (one_visited y s) (all_visited ys (visit s y))
