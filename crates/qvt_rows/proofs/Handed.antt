-- Sets of classes that are put into those of their superclasses.
use Rattle.std.proofs.Common.{◌≡◌, ◌≢◌, ◌∙◌, ℕ, ◌+◌, ◌<◌, ◌≤◌, List, length, get_or, set, take, Bool, true, false, refl, ap, sym, subst, arith, ◌==◌, ◌||◌, ◌&&◌, ◌⊎◌, inl, inr}
use Rattle.std.specs.Prelude.{slice_index, nat_lt}
use Rattle.std.specs.List.{list_any, list_all}
use Rattle.std.proofs.lemmas.List.{get_or_past, get_or-set_same, get_or-set_other}
use Rattle.std.proofs.lemmas.List.Folds.{list_any_more}
use Rattle.std.proofs.lemmas.Bool.{cases_eq, cases_lt, eqb-true, eq-eqb, ne_eqb}
use Rattle.qvt_base.specs.declared.numbers.ClassNo.{ClassNo}
use Rattle.qvt_relation.specs.Closure.{directly, through}
use Rattle.qvt_relation.proofs.Bools.{or_false, same_test}
use Rattle.qvt_metamodel.specs.declared.row.Row.{Row}
use Rattle.qvt_metamodel.specs.declared.info.ClassInfo.{ClassInfo}
use Rattle.qvt_metamodel.specs.Metamodels.{Metamodels, class_at, nowhere_class, is_element}
use Rattle.qvt_metamodel.specs.Descends.{is_superclass, Inherits, reaches, descends}
use Rattle.qvt_metamodel.specs.Kept.{is_marked, no_row}
use Rattle.qvt_meta_tables.specs.Tables.{of_classes, IsOrder}
use Rattle.qvt_rows.specs.Sets.{handed_on}
use Rattle.qvt_meta_tables.proofs.Marks.{live_at}
use Rattle.qvt_metamodel.proofs.Ancestors.{live, path, begins, complete}
use Rattle.qvt_metamodel.proofs.Bools.{and_both, and_left, and_right, or_cases, or_left, or_right}
use Rattle.qvt_metamodel.proofs.Order.{transitive}
use Rattle.qvt_metamodel.proofs.Owners.{all-there}

-- a class that has superclasses is there, and so are these
pub are_there : (ks : List ClassInfo) (n class : ℕ) (ss : List ClassNo) (i : ℕ) → length ks ≡ n → ss ≡ (class_at (of_classes ks) class).supers
    → list_all (λ s. nat_lt s.0 n) (class_at (of_classes ks) class).supers ≡ true → i < length ss → ((get_or ss i (record { 0 = 0 })).0 < n) × (class < n)
are_there ks n class ss i each same live l = (
  live_at n ss i (record { 0 = 0 }) (subst (λ s. list_all (λ c. nat_lt c.0 n) s ≡ true) (sym same) live) l,
  elim (cases_lt class n) [
    | inl there ↦ there
    | inr past ↦ absurd (let none : length (class_at (of_classes ks) class).supers ≡ 0 = ap (λ (k : ClassInfo). length k.supers) (get_or_past ks class nowhere_class (omega (arith, past, each))) in omega (arith, none, ap length same, l))
  ],
)

met : (a t b : Bool) → ((a || (t && b)) || b) ≡ (a || ((t || true) && b))
met true t b = refl
met false true true = refl
met false true false = refl
met false false b = refl

-- the next of the superclasses
pub handed_next : (old rows : List Row) (row : Row) (class : ℕ) (ss : List ClassNo) (i : ℕ) (e : ClassNo) → i < length ss → (get_or ss i e).0 < length rows
    → ((c d : ℕ) → c ≢ class → is_marked (get_or rows c no_row) d ≡ handed_on old class (take i ss) c d)
    → ((d : ℕ) → is_marked row d ≡ (is_marked (get_or rows (get_or ss i e).0 no_row) d || is_marked (get_or old class no_row) d))
    → (c d : ℕ) → c ≢ class → is_marked (get_or (set rows (get_or ss i e).0 row) c no_row) d ≡ handed_on old class (take (i + 1) ss) c d
handed_next old rows row class ss i e l there before is c d apart = elim (cases_eq c (get_or ss i e).0) [
  | inl same ↦ subst (λ x. is_marked (get_or (set rows (get_or ss i e).0 row) x no_row) d ≡ handed_on old class (take (i + 1) ss) x d) (sym same)
      (ap (λ r. is_marked r d) (get_or-set_same rows (get_or ss i e).0 row no_row there)
      ∙ is d
      ∙ ap (λ a. a || is_marked (get_or old class no_row) d) (before (get_or ss i e).0 d (λ h. apart (same ∙ h)))
      ∙ met (is_marked (get_or old (get_or ss i e).0 no_row) d) (list_any (λ s. s.0 == (get_or ss i e).0) (take i ss)) (is_marked (get_or old class no_row) d)
      ∙ ap (λ b. is_marked (get_or old (get_or ss i e).0 no_row) d || ((list_any (λ s. s.0 == (get_or ss i e).0) (take i ss) || b) && is_marked (get_or old class no_row) d)) (sym (eq-eqb (get_or ss i e).0 (get_or ss i e).0 refl))
      ∙ ap (λ b. is_marked (get_or old (get_or ss i e).0 no_row) d || (b && is_marked (get_or old class no_row) d)) (sym (list_any_more (λ s. s.0 == (get_or ss i e).0) ss i e l)))
  | inr other ↦ ap (λ r. is_marked r d) (get_or-set_other rows (get_or ss i e).0 c row no_row other) ∙ before c d apart
      ∙ ap (λ b. is_marked (get_or old c no_row) d || (b && is_marked (get_or old class no_row) d))
      (sym (list_any_more (λ s. s.0 == c) ss i e l ∙ ap (λ b. list_any (λ s. s.0 == c) (take i ss) || b) (ne_eqb (get_or ss i e).0 c (λ h. other (sym h))) ∙ or_false (list_any (λ s. s.0 == c) (take i ss))))
]

-- the set of the class has what it had
absorbed : (a t : Bool) → a ≡ (a || (t && a))
absorbed true t = refl
absorbed false true = refl
absorbed false false = refl

pub handed_back : (old rows : List Row) (class : ℕ) (ss : List ClassNo) → class < length rows
    → ((c d : ℕ) → c ≢ class → is_marked (get_or rows c no_row) d ≡ handed_on old class ss c d)
    → (c d : ℕ) → is_marked (get_or (set rows class (get_or old class no_row)) c no_row) d ≡ handed_on old class ss c d
handed_back old rows class ss there before c d = elim (cases_eq c class) [
  | inl same ↦ subst (λ x. is_marked (get_or (set rows class (get_or old class no_row)) x no_row) d ≡ handed_on old class ss x d) (sym same)
      (ap (λ r. is_marked r d) (get_or-set_same rows class (get_or old class no_row) no_row there)
      ∙ absorbed (is_marked (get_or old class no_row) d) (list_any (λ s. s.0 == class) ss))
  | inr other ↦ ap (λ r. is_marked r d) (get_or-set_other rows class c (get_or old class no_row) no_row other) ∙ before c d other
]

abbrev pub has : List Row → ℕ → ℕ → Type 0
has rows c d = is_marked (get_or rows c no_row) d ≡ true

-- each class of a rank from k on has put what it has into its superclasses
abbrev pub AreDone : List ClassInfo → List ℕ → ℕ → List Row → Type 0
AreDone ks ranks k rows = (s c d : ℕ) → s < length ks → k ≤ slice_index ranks s → is_superclass (of_classes ks) s c ≡ true → has rows s d → has rows c d

pub descends_itself : (m : Metamodels) (c d : ℕ) → (c == d) ≡ true → descends m d c ≡ true
descends_itself m c d h = or_left ((d == c) || is_element m c) (reaches m d c) (or_left (d == c) (is_element m c) (eq-eqb d c (sym (eqb-true c d h))))

module _ (ks : List ClassInfo) (order ranks : List ℕ) (ok : IsOrder (of_classes ks) order ranks) where
  abbrev m : Metamodels
  m = of_classes ks

  module _ (old new : List Row) (class : ℕ) (handed : (c d : ℕ) → is_marked (get_or new c no_row) d ≡ handed_on old class (class_at m class).supers c d) where
    stays : (c d : ℕ) → has old c d → has new c d
    stays c d h = handed c d ∙ or_left (is_marked (get_or old c no_row) d) (is_superclass m class c && is_marked (get_or old class no_row) d) h

    comes : (c d : ℕ) → is_superclass m class c ≡ true → has old class d → has new c d
    comes c d there h =
        handed c d ∙ or_right (is_marked (get_or old c no_row) d) (is_superclass m class c && is_marked (get_or old class no_row) d)
        (and_both (is_superclass m class c) (is_marked (get_or old class no_row) d) there h)

    from : (c d : ℕ) → has new c d → (has old c d) ⊎ ((is_superclass m class c ≡ true) × (has old class d))
    from c d h = elim (or_cases (is_marked (get_or old c no_row) d) (is_superclass m class c && is_marked (get_or old class no_row) d) (sym (handed c d) ∙ h)) [
      | inl old_one ↦ inl old_one
      | inr both ↦ inr (and_left (is_superclass m class c) (is_marked (get_or old class no_row) d) both, and_right (is_superclass m class c) (is_marked (get_or old class no_row) d) both)
    ]

    pub owns_next : ((c : ℕ) → c < length ks → has old c c) → (c : ℕ) → c < length ks → has new c c
    owns_next before c l = stays c c (before c l)

    pub sound_next : ((c d : ℕ) → c < length ks → has old c d → descends m d c ≡ true) → (c d : ℕ) → c < length ks → has new c d → descends m d c ≡ true
    sound_next before c d l h = elim (from c d h) [
      | inl old_one ↦ before c d l old_one
      | inr more ↦ transitive m ranks ok.ranked (λ x y over. absurd (cc)) d class c (before class d (live m class c more.0) more.1) (complete m class c (inr (inl (directly more.0))))
    ]

    pub done_before : (k : ℕ) → slice_index order k ≡ class → AreDone ks ranks (k + 1) old → AreDone ks ranks k new
    done_before k at before s c d l rank there h = elim (cases_eq (slice_index ranks s) k) [
      | inl same ↦ (let is : s ≡ class = sym (ok.placed s l) ∙ ap (slice_index order) same ∙ at in
          comes c d (subst (λ x. is_superclass m x c ≡ true) is there) (own (from class d (subst (λ x. has new x d) is h))))
      | inr other ↦ stays c d (before s c d l (omega (arith, rank, other)) there (low (from s d h) other))
    ]
      where
        own : (has old class d) ⊎ ((is_superclass m class class ≡ true) × (has old class d)) → has old class d
        own (inl old_one) = old_one
        own (inr more) = more.1

        low : (has old s d) ⊎ ((is_superclass m class s ≡ true) × (has old class d)) → (slice_index ranks s ≡ k → ⊥) → has old s d
        low (inl old_one) other = old_one
        low (inr more) other =
            (let less : slice_index ranks s < slice_index ranks class = all-there (λ x. slice_index ranks x < slice_index ranks class) (class_at m class).supers s (ok.ranked.rise class) more.0 in
            before class s d (live m class s more.0) (omega (arith, less, rank)) more.0 more.1)

  pub none_done : (rows : List Row) → AreDone ks ranks (length ks) rows
  none_done rows s c d l rank there h = absurd (let low : slice_index ranks s < length ks = ok.ranked.bounded s l in omega (arith, low, rank))

  -- once all are done
  reached : (rows : List Row) → AreDone ks ranks 0 rows → {s c : ℕ} → Inherits m s c → (d : ℕ) → has rows s d → has rows c d
  reached rows done (directly {x} {y} h) d t = done x y d (live m x y h) (omega arith) h t
  reached rows done (through {x} {y} {z} h p) d t = reached rows done p d (done x y d (live m x y h) (omega arith) h t)

  pub below_all : (rows : List Row) → ((c : ℕ) → c < length ks → has rows c c) → ((c d : ℕ) → c < length ks → has rows c d → descends m d c ≡ true) → AreDone ks ranks 0 rows
      → (c d : ℕ) → c < length ks → is_marked (get_or rows c no_row) d ≡ ((c == d) || reaches m d c)
  below_all rows own sound done c d l = same_test (is_marked (get_or rows c no_row) d) ((c == d) || reaches m d c)
      (λ h. elim (or_cases ((d == c) || is_element m c) (reaches m d c) (sound c d l h)) [
        | inl here ↦ elim (or_cases (d == c) (is_element m c) here) [
          | inl same ↦ or_left (c == d) (reaches m d c) (eq-eqb c d (sym (eqb-true d c same)))
          | inr over ↦ absurd (cc)
        ]
        | inr up ↦ or_right (c == d) (reaches m d c) up
      ])
      (λ h. elim (or_cases (c == d) (reaches m d c) h) [
        | inl same ↦ subst (has rows c) (eqb-true c d same) (own c l)
        | inr up ↦ reached rows done (path m d c up) d (own d (there up))
      ])
    where
      there : reaches m d c ≡ true → d < length ks
      there up = (let s = begins m d c (path m d c up) in live m d s.0 s.1)
